use Rattle.std.proofs.Common.{sym, ◌∙◌}
use Rattle.someip_tables.specs.Tables.{map_of}
use Rattle.audit_index.specs.Slots.{stands}
use Rattle.audit_index.proofs.PlaceLemmas.{at_left}
use Rattle.audit_sd.specs.subscriptions.SubscriptionKeys.{subscription_cmp}
use Rattle.audit_sd.specs.subscriptions.SubscriptionOrder.{subscriptions_total, exact_subscriptions}
use Rattle.audit_sd.specs.receivers.PlaceOrder.{ends}
use Rattle.audit_sd.specs.receivers.ReceiverPlaces.{end_by, end_cmp, is_any}
use Rattle.audit_sd.proofs.about_receivers.PlacedLemmas.{elsewhere, found_by, none_there}
use Rattle.audit_sd.proofs.receivers.places.is_found.Goals as goal

pub returns-then-is_by-clause-found : goal.returns-then-is_by-clause-found
returns-then-is_by-clause-found c = found_by c.args.delivery.now (map_of subscription_cmp c.args.held.now) c.in-Some.key (sym c.is_by.ensures ∙ c.if-is_by.true)

pub loop-key-preserved : goal.loop-key-preserved
loop-key-preserved c =
    at_left ends.total ends.exact subscriptions_total exact_subscriptions end_by is_any c.of-end.result c.in-Some.key (stands end_cmp subscription_cmp c.loop-key.ends) (stands end_cmp subscription_cmp c.remove.new.self) (map_of subscription_cmp c.args.held.now)
    c.remove.ensures.taken (λ lasting found any at. elsewhere c.args.delivery.now (map_of subscription_cmp c.args.held.now) c.in-Some.key (sym c.is_by.ensures ∙ c.if-is_by.false) lasting found any (at ∙ c.of-end.ensures)) c.loop-key.invariant

pub returns-clause-found : goal.returns-clause-found
returns-clause-found c = none_there c.args.delivery.now (map_of subscription_cmp c.args.held.now) (stands end_cmp subscription_cmp c.loop-key.ends) c.loop-key.invariant (rw c.of-end.ensures at c.in_default.ensures.none)
