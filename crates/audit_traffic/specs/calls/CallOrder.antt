-- The order of calls is total, and only equal ones tie.
use Rattle.std.proofs.Common.{refl}
use Rattle.std.specs.Cmp.{IsTotalOrder}
use Rattle.std.proofs.lemmas.Map.Lookups.{CmpEqualImpliesEq}
use Rattle.someip_tables.specs.Orders.{KeyOrder, numbers, by_pair, by_parts}
use Rattle.someip_tables.specs.EndpointOrder.{endpoints}
use Rattle.audit_traffic.specs.calls.AuditedCalls.{call_cmp}

pub calls : KeyOrder call_cmp
calls =
    by_parts (by_pair (by_pair numbers (by_pair numbers (by_pair numbers numbers))) (by_pair endpoints (by_pair endpoints numbers)))
    (λ c. ((c.service, (c.method, (c.client, c.session))), (c.from, (c.to, c.interface))))
    (λ p. record { from = p.1.0; to = p.1.1.0; service = p.0.0; method = p.0.1.0; client = p.0.1.1.0; session = p.0.1.1.1; interface = p.1.1.1 }) (λ _. refl)

pub calls_total : IsTotalOrder call_cmp
calls_total = calls.total

pub exact_calls : CmpEqualImpliesEq call_cmp
exact_calls = calls.exact
