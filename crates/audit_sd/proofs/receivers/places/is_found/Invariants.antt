use Rattle.std.proofs.Common.{length}
use Rattle.someip_tables.specs.Tables.{map_of}
use Rattle.audit_index.specs.Places.{AreAt}
use Rattle.audit_index.specs.Slots.{stands}
use Rattle.audit_sd.specs.subscriptions.SubscriptionKeys.{subscription_cmp}
use Rattle.audit_sd.specs.receivers.ReceiverPlaces.{end_by, end_cmp, is_any}
use Rattle.audit_sd.proofs.receivers.places.is_found.Given as goal

-- each subscription is found by its end
abbrev pub invariant-loop-key : goal.invariant-loop-key
invariant-loop-key l = AreAt end_by is_any (stands end_cmp subscription_cmp l.ends) (map_of subscription_cmp l.held)

-- each turn takes one out
abbrev pub decreases-loop-key : goal.decreases-loop-key
decreases-loop-key l = length l.ends
