-- The order of endpoints, and their code.
use Rattle.std.specs.Prelude.{ℕ, List, refl}
use Rattle.std.specs.declared.cmp.Ordering.{Ordering}
use Rattle.std.specs.Ordering.{nat_cmp, ordering_then}
use Rattle.std.specs.Cmp.Lexicographic.{slice_cmp}
use Rattle.std.specs.Coded.{Coded, code_by, coded×, coded_ℕ, coded_list}
use Rattle.std.specs.declared.net.ipv4_addr.Ipv4Addr.{Ipv4Addr}
use Rattle.std.specs.declared.net.socket_addr.SocketAddrV4.{SocketAddrV4}
use Rattle.std.specs.Net.Socket.{v4_ip, v4_port}
use Rattle.std.specs.Net.Addr.{ipv4_octets}

-- by rising octets
abbrev pub address_cmp : Ipv4Addr → Ipv4Addr → Ordering
address_cmp a b = slice_cmp nat_cmp (ipv4_octets a) (ipv4_octets b)

-- by address, and then by port
abbrev pub endpoint_cmp : SocketAddrV4 → SocketAddrV4 → Ordering
endpoint_cmp a b = ordering_then (address_cmp (v4_ip a) (v4_ip b)) (nat_cmp (v4_port a) (v4_port b))

-- an address is stored as its octets, an endpoint as its address and port
abbrev pub coded_address : Coded Ipv4Addr
coded_address = code_by (List ℕ) (coded_list coded_ℕ) ipv4_octets (λ octets. record { octets = octets }) (λ _. refl)

abbrev pub coded_endpoint : Coded SocketAddrV4
coded_endpoint = code_by (Ipv4Addr × ℕ) (coded× coded_address coded_ℕ) (λ a. (v4_ip a, v4_port a)) (λ p. record { ip = p.0; port = p.1 }) (λ _. refl)
