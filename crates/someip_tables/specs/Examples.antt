-- Two endpoints of one address.
use Rattle.std.specs.Prelude.{ℕ, [], ◌∷◌}
use Rattle.std.specs.declared.net.socket_addr.SocketAddrV4.{SocketAddrV4}

-- 192.168.0.2 and a port
abbrev pub endpoint_at : ℕ → SocketAddrV4
endpoint_at port = record { ip = record { octets = 192 ∷ 168 ∷ 0 ∷ 2 ∷ [] }; port = port }
