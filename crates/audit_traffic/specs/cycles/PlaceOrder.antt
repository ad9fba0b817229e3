-- The order of the places of watches is total, and only equal ones tie.
use Rattle.std.proofs.Common.{None, Some, refl, ap}
use Rattle.std.specs.Option.{option_cmp}
use Rattle.std.specs.declared.cmp.Ordering.{Ordering}
use Rattle.std.specs.Cmp.Lexicographic.{options_total}
use Rattle.std.specs.Cmp.{IsTotalOrder}
use Rattle.std.proofs.lemmas.Map.Lookups.{CmpEqualImpliesEq}
use Rattle.someip_tables.specs.Orders.{KeyOrder, numbers, by_pair, by_parts}
use Rattle.someip_tables.specs.EndpointOrder.{addresses}
use Rattle.audit_traffic.specs.cycles.WatchPlaces.{place_cmp}

exact_options : {K : Type 0} (R : K → K → Ordering) → CmpEqualImpliesEq R → CmpEqualImpliesEq (option_cmp R)
exact_options R exact None None tie = refl
exact_options R exact None (Some y) tie = absurd (cc)
exact_options R exact (Some x) None tie = absurd (cc)
exact_options R exact (Some x) (Some y) tie = ap (λ k. Some k) (exact x y tie)

by_option : {K : Type 0} {R : K → K → Ordering} → KeyOrder R → KeyOrder (option_cmp R)
by_option {R = R} order = record { total = options_total order.total; exact = exact_options R order.exact }

pub places : KeyOrder place_cmp
places =
    by_parts (by_pair addresses (by_pair (by_option numbers) (by_option addresses))) (λ p. (p.address, (p.service, p.receiver)))
    (λ p. record { address = p.0; service = p.1.0; receiver = p.1.1 }) (λ _. refl)

pub places_total : IsTotalOrder place_cmp
places_total = places.total

pub exact_places : CmpEqualImpliesEq place_cmp
exact_places = places.exact
