-- The orders of the places of subscriptions are total, and only equal ones tie.
use Rattle.std.proofs.Common.{refl}
use Rattle.std.specs.Cmp.{IsTotalOrder}
use Rattle.std.proofs.lemmas.Map.Lookups.{CmpEqualImpliesEq}
use Rattle.someip_tables.specs.Orders.{KeyOrder, numbers, by_pair, by_parts}
use Rattle.someip_tables.specs.EndpointOrder.{addresses, endpoints}
use Rattle.audit_sd.specs.receivers.ReceiverPlaces.{end_cmp, withdrawn_cmp}

pub ends : KeyOrder end_cmp
ends =
    by_parts (by_pair addresses (by_pair numbers endpoints)) (λ e. (e.server, (e.service, e.endpoint))) (λ p. record { server = p.0; service = p.1.0; endpoint = p.1.1 }) (λ _. refl)

pub offers : KeyOrder withdrawn_cmp
offers =
    by_parts (by_pair addresses (by_pair numbers (by_pair numbers numbers))) (λ o. (o.server, (o.service, (o.instance, o.major))))
    (λ p. record { server = p.0; service = p.1.0; instance = p.1.1.0; major = p.1.1.1 }) (λ _. refl)

pub ends_total : IsTotalOrder end_cmp
ends_total = ends.total

pub exact_ends : CmpEqualImpliesEq end_cmp
exact_ends = ends.exact

pub offers_total : IsTotalOrder withdrawn_cmp
offers_total = offers.total

pub exact_offers : CmpEqualImpliesEq withdrawn_cmp
exact_offers = offers.exact
