-- The orders of flows, ways and calls are total, and only equal ones tie.
use Rattle.std.proofs.Common.{refl}
use Rattle.std.specs.Cmp.{IsTotalOrder}
use Rattle.std.proofs.lemmas.Map.Lookups.{CmpEqualImpliesEq}
use Rattle.someip_tables.specs.Orders.{KeyOrder, numbers, by_pair, by_parts}
use Rattle.someip_tables.specs.EndpointOrder.{endpoints}
use Rattle.audit_stats.specs.Keys.{call_cmp, flow_cmp, way_cmp}

pub flows : KeyOrder flow_cmp
flows =
    by_parts (by_pair numbers (by_pair numbers (by_pair endpoints endpoints))) (λ r. (r.service, (r.method, (r.from, r.to))))
    (λ p. record { service = p.0; method = p.1.0; from = p.1.1.0; to = p.1.1.1 }) (λ _. refl)

pub flows_total : IsTotalOrder flow_cmp
flows_total = flows.total

pub exact_flows : CmpEqualImpliesEq flow_cmp
exact_flows = flows.exact

pub ways : KeyOrder way_cmp
ways = by_parts (by_pair endpoints endpoints) (λ w. (w.from, w.to)) (λ p. record { from = p.0; to = p.1 }) (λ _. refl)

pub ways_total : IsTotalOrder way_cmp
ways_total = ways.total

pub exact_ways : CmpEqualImpliesEq way_cmp
exact_ways = ways.exact

pub calls : KeyOrder call_cmp
calls = by_parts (by_pair flows (by_pair numbers numbers)) (λ c. (c.flow, (c.client, c.session))) (λ p. record { flow = p.0; client = p.1.0; session = p.1.1 }) (λ _. refl)

pub calls_total : IsTotalOrder call_cmp
calls_total = calls.total

pub exact_calls : CmpEqualImpliesEq call_cmp
exact_calls = calls.exact
