-- The order of the sessions of events is total, and only equal ones tie.
use Rattle.std.proofs.Common.{refl}
use Rattle.std.specs.Cmp.{IsTotalOrder}
use Rattle.std.proofs.lemmas.Map.Lookups.{CmpEqualImpliesEq}
use Rattle.someip_tables.specs.Orders.{KeyOrder, numbers, by_pair, by_parts}
use Rattle.someip_tables.specs.EndpointOrder.{endpoints}
use Rattle.audit_traffic.specs.gaps.MissingKeys.{missing_cmp}

pub sessions : KeyOrder missing_cmp
sessions =
    by_parts (by_pair endpoints (by_pair numbers (by_pair numbers (by_pair numbers numbers)))) (λ m. (m.sender, (m.service, (m.event, (m.session, m.last)))))
    (λ p. record { sender = p.0; service = p.1.0; event = p.1.1.0; session = p.1.1.1.0; last = p.1.1.1.1 }) (λ _. refl)

pub missing_total : IsTotalOrder missing_cmp
missing_total = sessions.total

pub exact_missing : CmpEqualImpliesEq missing_cmp
exact_missing = sessions.exact
