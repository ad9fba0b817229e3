use Rattle.someip_tables.specs.Endpoints.{address_cmp}
use Rattle.someip_tables.specs.Tables.{map_of}
use Rattle.audit_index.specs.Slots.{stands}
use Rattle.audit_sd.specs.subscriptions.SubscriptionKeys.{subscription_cmp}
use Rattle.audit_sd.specs.receivers.ReceiverPlaces.{end_cmp, withdrawn_cmp}
use Rattle.audit_sd.proofs.about_receivers.PlacedLemmas.{none_stands}
use Rattle.audit_sd.proofs.receivers.standing.Standing.new.Goals as goal

pub invariant_of-result : goal.invariant_of-result
invariant_of-result c = λ _. none_stands (stands end_cmp subscription_cmp c.new-2.result) (stands withdrawn_cmp subscription_cmp c.new-3.result) (stands address_cmp subscription_cmp c.new-4.result) (map_of subscription_cmp c.new.result) c.new.ensures
