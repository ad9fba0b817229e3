-- The order of the flows of events is total, and only equal ones tie.
use Rattle.std.proofs.Common.{refl}
use Rattle.std.specs.Cmp.{IsTotalOrder}
use Rattle.std.proofs.lemmas.Map.Lookups.{CmpEqualImpliesEq}
use Rattle.someip_tables.specs.Orders.{KeyOrder, numbers, by_pair, by_parts}
use Rattle.someip_tables.specs.EndpointOrder.{endpoints}
use Rattle.audit_traffic.specs.events.FlowKeys.{flow_cmp}

pub flows : KeyOrder flow_cmp
flows =
    by_parts (by_pair endpoints (by_pair numbers (by_pair numbers endpoints))) (λ f. (f.sender, (f.service, (f.event, f.receiver))))
    (λ p. record { sender = p.0; service = p.1.0; event = p.1.1.0; receiver = p.1.1.1 }) (λ _. refl)

pub flows_total : IsTotalOrder flow_cmp
flows_total = flows.total

pub exact_flows : CmpEqualImpliesEq flow_cmp
exact_flows = flows.exact
