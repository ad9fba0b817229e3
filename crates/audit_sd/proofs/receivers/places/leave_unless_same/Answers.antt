use Rattle.std.proofs.Common.{◌≡◌, true, ap, sym, ◌∙◌}
use Rattle.std.specs.Ordering.{eq_by_cmp}
use Rattle.someip_tables.specs.Endpoints.{endpoint_cmp}
use Rattle.someip_tables.specs.EndpointOrder.{endpoints_total}
use Rattle.someip_tables.proofs.Entries.{own_test}
use Rattle.audit_index.proofs.PlaceLemmas.{left_there}
use Rattle.audit_sd.specs.declared.receivers.event_end.EventEnd.{EventEnd}
use Rattle.audit_sd.specs.subscriptions.SubscriptionOrder.{subscriptions_total, exact_subscriptions}
use Rattle.audit_sd.specs.receivers.PlaceOrder.{ends}
use Rattle.audit_sd.specs.receivers.ReceiverPlaces.{end_at}
use Rattle.audit_sd.proofs.receivers.places.leave_unless_same.Goals as goal

pub returns-then-not-is_same_endpoint : goal.returns-then-not-is_same_endpoint
returns-then-not-is_same_endpoint c = λ end other its there.
    left_there ends.total ends.exact subscriptions_total exact_subscriptions c.at.result c.args.key.now _ _ c.remove.ensures.taken end other
    (λ same.
    let one : end_at c.args.key.now c.args.earlier ≡ end_at c.args.key.now c.args.endpoint = sym c.at.ensures ∙ same.0 ∙ its (sym same.1) in
    let endpoint : c.args.earlier ≡ c.args.endpoint = ap (λ (e : EventEnd). e.endpoint) one in
    let tied : eq_by_cmp endpoint_cmp c.args.earlier c.args.endpoint ≡ true = ap (λ a. eq_by_cmp endpoint_cmp a c.args.endpoint) endpoint ∙ own_test endpoints_total c.args.endpoint in
    let is = c.is_same_endpoint.ensures in
    let differs = c.if-not-is_same_endpoint.true in
    cc) there
