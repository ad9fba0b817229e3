-- The JSON of the options of an entry.
use Rattle.std.specs.Prelude.{ℕ, List, [], ◌∷◌, ◌++◌, codes, decimal}
use Rattle.std.specs.Net.Socket.{v4_ip, v4_port}
use Rattle.std.specs.Net.Addr.{ipv4_octets, ipv6_octets}
use Rattle.std.specs.Net.Text as net
use Rattle.hex.specs.Hex.{encode_lower}
use Rattle.json.specs.Json.{Json, number, string, object, Items, no_items, item, Members, no_members, member}
use Rattle.json.specs.Print.{escape}
use Rattle.sd_wire.specs.declared.SdOption.{SdOption}
use Rattle.sd_wire.specs.declared.SdOption.TheVariants.{LoadBalancing, Endpoint4, Multicast4, SdEndpoint4, Endpoint6, Multicast6, SdEndpoint6, Raw}
use Rattle.sd_wire.specs.declared.Ipv4Endpoint.{Ipv4Endpoint}
use Rattle.sd_wire.specs.declared.Ipv6Endpoint.{Ipv6Endpoint}
use Rattle.someip_texts.specs.Words.{hex2}
use Rattle.someipctl_io.specs.Options.{protocol_text}

-- an object with the name of an option, and more
abbrev pub named_option : List ℕ → Members → Json
named_option name members = object (member (codes "option") (string name) members)

-- an address, a port and a protocol
abbrev pub endpoint_members : List ℕ → ℕ → ℕ → Members
endpoint_members address port protocol =
    member (codes "address") (string address) (member (codes "port") (number (decimal port)) (member (codes "protocol") (string (protocol_text protocol)) no_members))

abbrev pub ipv4_members : Ipv4Endpoint → Members
ipv4_members e = endpoint_members (net.ipv4_text (ipv4_octets (v4_ip e.socket))) (v4_port e.socket) e.protocol.0

-- an IPv6 address has 32 hex digits
abbrev pub ipv6_members : Ipv6Endpoint → Members
ipv6_members e = endpoint_members (encode_lower (ipv6_octets e.address)) e.port e.protocol.0

abbrev pub load_members : ℕ → ℕ → Members
load_members priority weight = member (codes "priority") (number (decimal priority)) (member (codes "weight") (number (decimal weight)) no_members)

-- an option that is kept as it was read: its type, and all bytes that its length counts
abbrev pub raw_members : ℕ → List ℕ → Members
raw_members kind bytes = member (codes "type") (string (hex2 kind)) (member (codes "bytes") (string (encode_lower bytes)) no_members)

-- an option
abbrev pub option_json : SdOption → Json
option_json (LoadBalancing priority weight) = named_option (codes "load") (load_members priority weight)
option_json (Endpoint4 e) = named_option (codes "endpoint4") (ipv4_members e)
option_json (Multicast4 e) = named_option (codes "multicast4") (ipv4_members e)
option_json (SdEndpoint4 e) = named_option (codes "sdendpoint4") (ipv4_members e)
option_json (Endpoint6 e) = named_option (codes "endpoint6") (ipv6_members e)
option_json (Multicast6 e) = named_option (codes "multicast6") (ipv6_members e)
option_json (SdEndpoint6 e) = named_option (codes "sdendpoint6") (ipv6_members e)
option_json (Raw o) = named_option (codes "unknown") (raw_members o.kind o.bytes)

-- options in order
abbrev pub option_items : List SdOption → Items
option_items [] = no_items
option_items (o ∷ os) = item (option_json o) (option_items os)

-- ---- parts that are printed

-- what stands behind the quote before an address
abbrev pub endpoint_end : List ℕ → ℕ → ℕ → List ℕ
endpoint_end address port protocol =
    escape address ++ (codes "\",\"port\":" ++ (decimal port ++ (codes ",\"protocol\":\"" ++ (escape (protocol_text protocol) ++ codes "\"}"))))
