-- The orders of addresses and endpoints are total, and only equal ones tie.
use Rattle.std.proofs.Common.{refl}
use Rattle.std.specs.Cmp.{IsTotalOrder}
use Rattle.std.proofs.lemmas.Map.Lookups.{CmpEqualImpliesEq}
use Rattle.std.specs.Net.Socket.{v4_ip, v4_port}
use Rattle.std.specs.Net.Addr.{ipv4_octets}
use Rattle.someip_tables.specs.Endpoints.{address_cmp, endpoint_cmp}
use Rattle.someip_tables.specs.Orders.{KeyOrder, numbers, slices, by_pair, by_parts}

pub addresses : KeyOrder address_cmp
addresses = by_parts slices ipv4_octets (λ octets. record { octets = octets }) (λ _. refl)

pub endpoints : KeyOrder endpoint_cmp
endpoints = by_parts (by_pair addresses numbers) (λ e. (v4_ip e, v4_port e)) (λ p. record { ip = p.0; port = p.1 }) (λ _. refl)

pub addresses_total : IsTotalOrder address_cmp
addresses_total = addresses.total

pub exact_addresses : CmpEqualImpliesEq address_cmp
exact_addresses = addresses.exact

pub endpoints_total : IsTotalOrder endpoint_cmp
endpoints_total = endpoints.total

pub exact_endpoints : CmpEqualImpliesEq endpoint_cmp
exact_endpoints = endpoints.exact
