-- The order of events that went to one endpoint is total, and only equal ones tie.
use Rattle.std.proofs.Common.{refl}
use Rattle.std.specs.Cmp.{IsTotalOrder}
use Rattle.std.proofs.lemmas.Map.Lookups.{CmpEqualImpliesEq}
use Rattle.someip_tables.specs.Orders.{KeyOrder, numbers, by_pair, by_parts}
use Rattle.someip_tables.specs.EndpointOrder.{addresses, endpoints}
use Rattle.audit_sd.specs.receivers.DeliveryKeys.{delivery_cmp}

pub deliveries : KeyOrder delivery_cmp
deliveries =
    by_parts (by_pair addresses (by_pair numbers (by_pair numbers endpoints))) (λ d. (d.server, (d.service, (d.event, d.endpoint))))
    (λ p. record { server = p.0; service = p.1.0; event = p.1.1.0; endpoint = p.1.1.1 }) (λ _. refl)

pub deliveries_total : IsTotalOrder delivery_cmp
deliveries_total = deliveries.total

pub exact_deliveries : CmpEqualImpliesEq delivery_cmp
exact_deliveries = deliveries.exact
