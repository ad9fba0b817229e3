-- What a datagram says of exchanges, by its own bytes and endpoints.
use Rattle.std.specs.Prelude.{false, if◌then◌else◌, List, [], ◌∷◌, map, Option, None, Some, Result, Ok, Err}
use Rattle.std.specs.List.{flat_map}
use Rattle.std.specs.Option.{option_map_or}
use Rattle.std.specs.Net.Socket.{v4_ip}
use Rattle.std.specs.declared.net.ipv4_addr.Ipv4Addr.{Ipv4Addr}
use Rattle.std.specs.declared.net.socket_addr.SocketAddrV4.{SocketAddrV4}
use Rattle.someip_wire.specs.declared.error.WireError.{WireError}
use Rattle.someip_wire.specs.declared.header.Header.{Header}
use Rattle.someip_wire.specs.Discovery.{is_discovery}
use Rattle.someip_wire.specs.Kinds.{has_tp_flag, without_tp_flag}
use Rattle.someip_wire.specs.Reading.{items_of}
use Rattle.someip_wire.specs.Spelling.{MessageValue}
use Rattle.someip_reassembly.specs.Keys.{segment_key}
use Rattle.someip_reassembly.specs.declared.key.ReassemblyKey.{ReassemblyKey}
use Rattle.sd_wire.specs.declared.entry.EntryHead.{EntryHead}
use Rattle.sd_wire.specs.declared.entry.EntryHead.TheVariants as heads
use Rattle.sd_wire.specs.declared.error.SdError.{SdError}
use Rattle.sd_wire.specs.contents.Kinds.{is_subscribe}
use Rattle.sd_wire.specs.decoding.Program.{reading}
use Rattle.sd_wire.specs.contents.Values.{ReadValue, SdValue}
use Rattle.someip_node_rules.specs.declared.output.Output.{Output}
use Rattle.someip_node_laws.specs.Fitting.{head_of}
use Rattle.someip_world_rules.specs.Datagrams.{SentDatagram, sent_with}
use Rattle.someip_world_rules.specs.declared.exchanges.exchange_key.ExchangeKey.{ExchangeKey}
use Rattle.someip_world_rules.specs.declared.exchanges.exchange_key.ExchangeKey.TheVariants as keys
use Rattle.someip_world_rules.specs.declared.exchanges.naming.Naming.{Naming}
use Rattle.someip_world_rules.specs.exchanges.Beginnings.{SentSubscribe}
use Rattle.someip_world_rules.specs.exchanges.Namings.{named_by_kind, named_by_type}
use Rattle.someip_world_verdict.specs.declared.said.Said.{Said}

-- the header of the whole message, of which this is one or a segment
abbrev pub whole_header : Header → Header
whole_header h = record h { kind = without_tp_flag h.kind }

-- a key is named, not by a Subscribe
abbrev pub named_alone : Naming → Said
named_alone naming = record { naming = naming; subscribes = false }

-- an entry names its subscription, and may be a Subscribe
abbrev pub said_by_head : Ipv4Addr → Ipv4Addr → EntryHead → List Said
said_by_head from to (heads.Service head) = []
said_by_head from to (heads.Eventgroup head) = record { naming = named_by_kind head.kind from to head; subscribes = is_subscribe head } ∷ []

abbrev pub said_by_entries : Ipv4Addr → Ipv4Addr → List ReadValue → List Said
said_by_entries from to entries = flat_map (λ e. said_by_head from to (head_of e)) entries

-- what is read of a message of Service Discovery
abbrev pub said_by_reading : Ipv4Addr → Ipv4Addr → Result SdValue SdError → List Said
said_by_reading from to (Ok v) = said_by_entries from to v.entries
said_by_reading from to (Err fault) = []

-- a message or a segment of one names what the whole message names
abbrev pub said_by_header : SocketAddrV4 → SocketAddrV4 → Header → List Said
said_by_header from to h = map named_alone (named_by_type h.kind from to h)

abbrev pub said_by_message : SocketAddrV4 → SocketAddrV4 → MessageValue → List Said
said_by_message from to m =
    if is_discovery m.header then said_by_reading (v4_ip from) (v4_ip to) (reading m.payload)
    else said_by_header from to (whole_header m.header)

-- a datagram of a node holds one message
abbrev pub said_by_items : SocketAddrV4 → SocketAddrV4 → List (Result MessageValue WireError) → List Said
said_by_items from to (Ok m ∷ others) = said_by_message from to m
said_by_items from to items = []

-- what a datagram says, in order
abbrev pub said_in : SentDatagram → List Said
said_in d = said_by_items d.from d.to (items_of d.bytes)

-- ---- segments

-- the reassembly key of the whole message, where the message is a segment
abbrev pub stream_by_message : SocketAddrV4 → SocketAddrV4 → MessageValue → Option ReassemblyKey
stream_by_message from to m = if has_tp_flag m.header.kind then Some (segment_key from to (whole_header m.header)) else None

abbrev pub stream_by_items : SocketAddrV4 → SocketAddrV4 → List (Result MessageValue WireError) → Option ReassemblyKey
stream_by_items from to (Ok m ∷ others) = stream_by_message from to m
stream_by_items from to items = None

-- that of a datagram which holds a segment
abbrev pub stream_in : SentDatagram → Option ReassemblyKey
stream_in d = stream_by_items d.from d.to (items_of d.bytes)

-- ---- Subscribes

abbrev pub subscribe_of_key : ExchangeKey → List SentSubscribe
subscribe_of_key (keys.Subscription k) = record { server = k.server; eventgroup = k.eventgroup; counter = k.counter } ∷ []
subscribe_of_key key = []

-- the Subscribe that is said, if it is one
abbrev pub subscribe_said : Said → List SentSubscribe
subscribe_said said = if said.subscribes then subscribe_of_key said.naming.key else []

-- ---- outputs

-- what the datagrams among some outputs say, in order
abbrev pub said_by_outputs : List Output → List Said
said_by_outputs outputs = flat_map (λ o. option_map_or said_in (sent_with o) []) outputs
