-- The orders of routes and offerings are total, and only equal ones tie.
use Rattle.std.proofs.Common.{refl}
use Rattle.std.specs.Cmp.{IsTotalOrder}
use Rattle.std.proofs.lemmas.Map.Lookups.{CmpEqualImpliesEq}
use Rattle.someip_tables.specs.Orders.{KeyOrder, numbers, by_pair, by_parts}
use Rattle.someip_tables.specs.EndpointOrder.{addresses}
use Rattle.audit_traffic.specs.events.FlowPlaces.{offering_cmp, route_cmp}

pub routes : KeyOrder route_cmp
routes =
    by_parts (by_pair addresses (by_pair numbers addresses)) (λ r. (r.server, (r.service, r.receiver)))
    (λ p. record { server = p.0; service = p.1.0; receiver = p.1.1 }) (λ _. refl)

pub offerings : KeyOrder offering_cmp
offerings = by_parts (by_pair addresses numbers) (λ o. (o.server, o.service)) (λ p. record { server = p.0; service = p.1 }) (λ _. refl)

pub routes_total : IsTotalOrder route_cmp
routes_total = routes.total

pub exact_routes : CmpEqualImpliesEq route_cmp
exact_routes = routes.exact

pub offerings_total : IsTotalOrder offering_cmp
offerings_total = offerings.total

pub exact_offerings : CmpEqualImpliesEq offering_cmp
exact_offerings = offerings.exact
