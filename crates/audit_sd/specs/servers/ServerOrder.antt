-- The order of servers is total, and only equal ones tie.
use Rattle.std.proofs.Common.{refl}
use Rattle.std.specs.Cmp.{IsTotalOrder}
use Rattle.std.proofs.lemmas.Map.Lookups.{CmpEqualImpliesEq}
use Rattle.someip_tables.specs.Orders.{KeyOrder, numbers, by_pair, by_parts}
use Rattle.someip_tables.specs.EndpointOrder.{endpoints}
use Rattle.audit_sd.specs.servers.ServerKeys.{server_cmp}

pub servers : KeyOrder server_cmp
servers = by_parts (by_pair numbers endpoints) (λ k. (k.service, k.endpoint)) (λ p. record { service = p.0; endpoint = p.1 }) (λ _. refl)

pub servers_total : IsTotalOrder server_cmp
servers_total = servers.total

pub exact_servers : CmpEqualImpliesEq server_cmp
exact_servers = servers.exact
