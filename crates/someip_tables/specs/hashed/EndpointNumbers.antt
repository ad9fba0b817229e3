-- Addresses and endpoints as numbers, by which they are compared and hashed at once.
use Rattle.std.specs.Prelude.{◌≡◌, ◌<◌, ℕ, ◌+◌, ◌*◌, List, [], ◌∷◌, length, slice_index}
use Rattle.std.specs.declared.net.ipv4_addr.Ipv4Addr.{Ipv4Addr}
use Rattle.std.specs.declared.net.socket_addr.SocketAddrV4.{SocketAddrV4}
use Rattle.std.specs.Net.Socket.{v4_ip, v4_port}
use Rattle.std.specs.Net.Addr.{ipv4_octets}

-- the number that these digits to the base 256 spell, after what was spelled before
abbrev pub spelled : ℕ → List ℕ → ℕ
spelled before [] = before
spelled before (octet ∷ octets) = spelled (before * 256 + octet) octets

-- an address is its octets, and an endpoint these, and then its port
abbrev pub address_number : Ipv4Addr → ℕ
address_number address = spelled 0 (ipv4_octets address)

abbrev pub endpoint_number : SocketAddrV4 → ℕ
endpoint_number endpoint = address_number (v4_ip endpoint) * 65536 + v4_port endpoint

-- an address has four octets, and an endpoint a port of 16 bits beside it
abbrev pub IsAddress : Ipv4Addr → Type 0
IsAddress address = (length (ipv4_octets address) ≡ 4) × ((i : ℕ) → slice_index (ipv4_octets address) i < 256)

abbrev pub IsEndpoint : SocketAddrV4 → Type 0
IsEndpoint endpoint = IsAddress (v4_ip endpoint) × (v4_port endpoint < 65536)
