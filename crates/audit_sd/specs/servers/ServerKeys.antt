-- The order of servers, and their code.
use Rattle.std.specs.Prelude.{ℕ, refl}
use Rattle.std.specs.declared.cmp.Ordering.{Ordering}
use Rattle.std.specs.declared.net.socket_addr.SocketAddrV4.{SocketAddrV4}
use Rattle.std.specs.Ordering.{nat_cmp, ordering_then}
use Rattle.std.specs.Coded.{Coded, code_by, coded×, coded_ℕ}
use Rattle.someip_tables.specs.Endpoints.{endpoint_cmp, coded_endpoint}
use Rattle.audit_sd.specs.declared.servers.key.ServerKey.{ServerKey}

-- by service and endpoint
abbrev pub server_cmp : ServerKey → ServerKey → Ordering
server_cmp a b = ordering_then (nat_cmp a.service b.service) (endpoint_cmp a.endpoint b.endpoint)

-- a key is stored as its parts
abbrev pub coded_key : Coded ServerKey
coded_key =
    code_by (ℕ × SocketAddrV4) (coded× coded_ℕ coded_endpoint) (λ k. (k.service, k.endpoint)) (λ c. record { service = c.0; endpoint = c.1 }) (λ _. refl)
