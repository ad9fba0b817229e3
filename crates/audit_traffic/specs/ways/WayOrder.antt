-- The order of ways is total, and only equal ones tie.
use Rattle.std.proofs.Common.{refl}
use Rattle.std.specs.Cmp.{IsTotalOrder}
use Rattle.std.proofs.lemmas.Map.Lookups.{CmpEqualImpliesEq}
use Rattle.someip_tables.specs.Orders.{KeyOrder, by_pair, by_parts}
use Rattle.someip_tables.specs.EndpointOrder.{endpoints}
use Rattle.audit_traffic.specs.ways.WayKeys.{way_cmp}

pub ways : KeyOrder way_cmp
ways = by_parts (by_pair endpoints endpoints) (λ w. (w.from, w.to)) (λ p. record { from = p.0; to = p.1 }) (λ _. refl)

pub ways_total : IsTotalOrder way_cmp
ways_total = ways.total

pub exact_ways : CmpEqualImpliesEq way_cmp
exact_ways = ways.exact
