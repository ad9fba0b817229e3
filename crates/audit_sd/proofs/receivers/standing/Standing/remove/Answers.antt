use Rattle.someip_tables.specs.Endpoints.{address_cmp}
use Rattle.someip_tables.specs.Tables.{map_of}
use Rattle.audit_index.specs.Slots.{stands}
use Rattle.audit_sd.specs.subscriptions.SubscriptionKeys.{subscription_cmp}
use Rattle.audit_sd.specs.receivers.ReceiverPlaces.{end_cmp, withdrawn_cmp}
use Rattle.audit_sd.proofs.about_receivers.PlacedLemmas.{dropped}
use Rattle.audit_sd.proofs.receivers.standing.Standing.remove.Goals as goal

pub invariant_of-self : goal.invariant_of-self
invariant_of-self c = λ whole.
    dropped (stands end_cmp subscription_cmp c.self.inside.ends) (stands end_cmp subscription_cmp c.drop_one.new.ends) (stands withdrawn_cmp subscription_cmp c.self.inside.offers) (stands withdrawn_cmp subscription_cmp c.drop_one.new.offers) (stands address_cmp subscription_cmp c.self.inside.owners) (stands address_cmp subscription_cmp c.drop_one.new.owners)
    (map_of subscription_cmp c.self.inside.held) (map_of subscription_cmp c.drop_one.new.held) c.args.key.now c.drop_one.ensures.gone c.drop_one.ensures.ends c.drop_one.ensures.offers c.drop_one.ensures.owners (c.self.invariant whole)
