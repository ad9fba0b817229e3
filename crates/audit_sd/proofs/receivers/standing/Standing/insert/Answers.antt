use Rattle.std.proofs.Common.{sym, ◌∙◌}
use Rattle.someip_tables.specs.Endpoints.{address_cmp}
use Rattle.someip_tables.specs.Tables.{map_of}
use Rattle.audit_index.specs.Slots.{stands}
use Rattle.audit_sd.specs.subscriptions.SubscriptionKeys.{subscription_cmp}
use Rattle.audit_sd.specs.receivers.ReceiverPlaces.{end_cmp, withdrawn_cmp}
use Rattle.audit_sd.proofs.about_receivers.PlacedLemmas.{entered, goes_on}
use Rattle.audit_sd.proofs.receivers.standing.Standing.insert.Goals as goal

pub invariant_of-self-else-not-is_entered : goal.invariant_of-self-else-not-is_entered
invariant_of-self-else-not-is_entered c = λ whole.
    entered (stands end_cmp subscription_cmp c.self.inside.ends) (stands end_cmp subscription_cmp c.enter-is_entered.new.ends) (stands end_cmp subscription_cmp c.leave.new.ends) (stands withdrawn_cmp subscription_cmp c.self.inside.offers) (stands withdrawn_cmp subscription_cmp c.enter-is_entered.new.offers)
    (stands address_cmp subscription_cmp c.self.inside.owners) (stands address_cmp subscription_cmp c.enter-is_entered.new.owners) (map_of subscription_cmp c.self.inside.held) (map_of subscription_cmp c.insert.new.self) c.args.key (record { value = c.args.endpoint; until = c.args.until }) c.in_ok-insert.ensures.ok
    (c.enter-is_entered.ensures.end c.if-not-is_entered.false) (c.enter-is_entered.ensures.offer c.if-not-is_entered.false) (c.enter-is_entered.ensures.client c.if-not-is_entered.false) (c.enter-is_entered.ensures.server c.if-not-is_entered.false)
    c.enter-is_entered.ensures.ends c.enter-is_entered.ensures.offers c.enter-is_entered.ensures.owners c.leave.ensures (c.self.invariant whole)

pub invariant_of-self-then-goes_on : goal.invariant_of-self-then-goes_on
invariant_of-self-then-goes_on c = λ whole.
    goes_on (stands end_cmp subscription_cmp c.self.inside.ends) (stands withdrawn_cmp subscription_cmp c.self.inside.offers) (stands address_cmp subscription_cmp c.self.inside.owners) (map_of subscription_cmp c.self.inside.held)
    (map_of subscription_cmp c.insert.new.self) c.args.key (record { value = c.args.endpoint; until = c.args.until }) c.in_ok-insert.ensures.ok (sym c.endpoint_in-earlier.ensures ∙ c.goes_on.ensures c.if-goes_on.true) (c.self.invariant whole)
