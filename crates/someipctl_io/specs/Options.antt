-- The options of an entry's line, byte for byte.
use Rattle.std.specs.Prelude.{ℕ, ◌==◌, if◌then◌else◌, List, [], ◌∷◌, ◌++◌, slice_index, codes, decimal}
use Rattle.std.specs.List.{flat_map}
use Rattle.std.specs.Net.Socket.{v4_ip, v4_port}
use Rattle.std.specs.Net.Addr.{ipv4_octets, ipv6_octets}
use Rattle.hex.specs.Hex.{encode_lower}
use Rattle.sd_wire.specs.declared.SdOption.{SdOption}
use Rattle.sd_wire.specs.declared.SdOption.TheVariants.{LoadBalancing, Endpoint4, Multicast4, SdEndpoint4, Endpoint6, Multicast6, SdEndpoint6, Raw}
use Rattle.sd_wire.specs.declared.Ipv4Endpoint.{Ipv4Endpoint}
use Rattle.sd_wire.specs.declared.Ipv6Endpoint.{Ipv6Endpoint}
use Rattle.someip_texts.specs.Words.{hex2}
use Rattle.someipctl_io.specs.Lines.{joined}

-- a transport protocol
abbrev pub protocol_text : ℕ → List ℕ
protocol_text p = if p == 0x06 then codes "tcp" else (if p == 0x11 then codes "udp" else codes "proto" ++ hex2 p)

-- an IPv4 address and a port, and the protocol
abbrev pub ipv4_text : Ipv4Endpoint → List ℕ
ipv4_text e =
    let octets = ipv4_octets (v4_ip e.socket) in
    joined (
    decimal (slice_index octets 0) ∷ codes "." ∷ decimal (slice_index octets 1) ∷ codes "." ∷ decimal (slice_index octets 2) ∷ codes "." ∷ decimal (slice_index octets 3)
    ∷ codes ":" ∷ decimal (v4_port e.socket) ∷ codes " " ∷ protocol_text e.protocol.0 ∷ [])

-- the bytes of an IPv6 address in hex and a port, and the protocol
abbrev pub ipv6_octets_text : List ℕ → ℕ → ℕ → List ℕ
ipv6_octets_text octets port protocol = joined (encode_lower octets ∷ codes ":" ∷ decimal port ∷ codes " " ∷ protocol_text protocol ∷ [])

-- an IPv6 address, in 32 hex digits, and a port, and the protocol
abbrev pub ipv6_text : Ipv6Endpoint → List ℕ
ipv6_text e = ipv6_octets_text (ipv6_octets e.address) e.port e.protocol.0

-- a load balancing option: its priority and its weight
abbrev pub load_text : ℕ → ℕ → List ℕ
load_text priority weight = joined (codes "load " ∷ decimal priority ∷ codes " " ∷ decimal weight ∷ [])

-- an option that is kept as it was read: its type, and all bytes that its length counts
abbrev pub raw_text : ℕ → List ℕ → List ℕ
raw_text kind bytes = joined (codes "unknown " ∷ hex2 kind ∷ codes " " ∷ encode_lower bytes ∷ [])

-- an option
abbrev pub option_text : SdOption → List ℕ
option_text (LoadBalancing priority weight) = load_text priority weight
option_text (Endpoint4 e) = codes "endpoint4 " ++ ipv4_text e
option_text (Multicast4 e) = codes "multicast4 " ++ ipv4_text e
option_text (SdEndpoint4 e) = codes "sdendpoint4 " ++ ipv4_text e
option_text (Endpoint6 e) = codes "endpoint6 " ++ ipv6_text e
option_text (Multicast6 e) = codes "multicast6 " ++ ipv6_text e
option_text (SdEndpoint6 e) = codes "sdendpoint6 " ++ ipv6_text e
option_text (Raw o) = raw_text o.kind o.bytes

-- a run's options, parted by a comma and a space
abbrev pub run_text : List SdOption → List ℕ
run_text [] = []
run_text (o ∷ os) = option_text o ++ flat_map (λ other. codes ", " ++ option_text other) os

-- the two runs of an entry
abbrev pub runs_text : List SdOption → List SdOption → List ℕ
runs_text first second = (codes " run1 [" ++ run_text first) ++ ((codes "] run2 [" ++ run_text second) ++ codes "]\n")
