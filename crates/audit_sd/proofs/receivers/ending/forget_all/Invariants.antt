use Rattle.std.proofs.Common.{length}
use Rattle.someip_tables.specs.Endpoints.{address_cmp}
use Rattle.someip_tables.specs.Tables.{map_of}
use Rattle.audit_index.specs.Places.{AreOnTheWay}
use Rattle.audit_index.specs.Slots.{stands}
use Rattle.audit_sd.specs.subscriptions.SubscriptionKeys.{subscription_cmp}
use Rattle.audit_sd.specs.subscriptions.SubscribeRules.{is_of}
use Rattle.audit_sd.specs.receivers.ReceiverPlaces.{AreFound, becomes_ended, end_cmp, withdrawn_cmp}
use Rattle.audit_sd.proofs.receivers.ending.forget_all.Given as goal

-- each subscription is as it was, or ended, and those that are left are found
abbrev pub invariant-loop-key : goal.invariant-loop-key
invariant-loop-key l = record {
  way : AreOnTheWay (becomes_ended (is_of l.fn.address)) (map_of subscription_cmp l.fn.held) (map_of subscription_cmp l.held);
  found : AreFound (stands end_cmp subscription_cmp l.ends) (stands withdrawn_cmp subscription_cmp l.offers) (stands address_cmp subscription_cmp l.owners) (map_of subscription_cmp l.held);
}

-- each turn uses up a subscription
abbrev pub decreases-loop-key : goal.decreases-loop-key
decreases-loop-key l = length l.owners
