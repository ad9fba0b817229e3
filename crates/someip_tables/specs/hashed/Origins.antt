-- The codes of a datagram's numbers, and of the datagram that something came in.
use Rattle.std.specs.Prelude.{ℕ, refl}
use Rattle.std.specs.Coded.{Coded, code_by, coded×, coded_ℕ}
use Rattle.std.specs.declared.net.socket_addr.SocketAddrV4.{SocketAddrV4}
use Rattle.someip_tables.specs.Endpoints.{coded_endpoint}
use Rattle.someip_tables.specs.declared.hashed.origin.Numbers.{Numbers}
use Rattle.someip_tables.specs.declared.hashed.origin.Origin.{Origin}

-- numbers are stored as a pair
abbrev pub coded_numbers : Coded Numbers
coded_numbers = code_by (ℕ × ℕ) (coded× coded_ℕ coded_ℕ) (λ n. (n.datagram, n.frame)) (λ c. record { datagram = c.0; frame = c.1 }) (λ _. refl)

-- it is stored as its numbers and endpoints
abbrev pub coded_origin : Coded Origin
coded_origin =
    code_by (Numbers × (SocketAddrV4 × SocketAddrV4)) (coded× coded_numbers (coded× coded_endpoint coded_endpoint)) (λ o. (o.numbers, (o.from, o.to)))
    (λ c. record { numbers = c.0; from = c.1.0; to = c.1.1 }) (λ _. refl)
