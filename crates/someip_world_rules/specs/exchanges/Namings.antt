-- The keys of exchanges, and the messages and entries that name them.
use Rattle.std.specs.Prelude.{ℕ, List, [], ◌∷◌}
use Rattle.std.specs.List.{flat_map}
use Rattle.std.specs.Net.Socket.{v4_ip}
use Rattle.std.specs.declared.net.ipv4_addr.Ipv4Addr.{Ipv4Addr}
use Rattle.std.specs.declared.net.socket_addr.SocketAddrV4.{SocketAddrV4}
use Rattle.someip_wire.specs.declared.header.Header.{Header}
use Rattle.someip_wire.specs.declared.header.MessageType.{MessageType}
use Rattle.someip_wire.specs.declared.header.MessageType.TheVariants as kinds
use Rattle.sd_wire.specs.declared.entry.EntryHead.{EntryHead}
use Rattle.sd_wire.specs.declared.entry.EntryHead.TheVariants as heads
use Rattle.sd_wire.specs.declared.entry.EventgroupEntry.{EventgroupEntry}
use Rattle.sd_wire.specs.declared.entry.EventgroupKind.{EventgroupKind}
use Rattle.sd_wire.specs.declared.entry.EventgroupKind.TheVariants.{Subscribe, Ack}
use Rattle.sd_wire.specs.contents.Values.{EntryValue}
use Rattle.sd_core.specs.declared.eventgroup.Eventgroup.{Eventgroup}
use Rattle.someip_node_rules.specs.rules.Learning.{eventgroup_in}
use Rattle.someip_node_rules.specs.forms.Outputs.{Given, Announces, Sends, Tells}
use Rattle.someip_world_rules.specs.declared.exchanges.exchange_key.ExchangeKey.{ExchangeKey}
use Rattle.someip_world_rules.specs.declared.exchanges.exchange_key.ExchangeKey.TheVariants as keys
use Rattle.someip_world_rules.specs.declared.exchanges.naming.Naming.{Naming}
use Rattle.someip_world_rules.specs.declared.exchanges.naming.Side.TheVariants.{Answerer, Opener}

-- the key of a call: its client and server, its Message ID (a service and a method), and its Request ID (a Client ID and a session)
abbrev pub of_call : (client server : SocketAddrV4) → (service method client_id session : ℕ) → ExchangeKey
of_call client server service method client_id session =
    keys.Call (record { client = client; server = server; message = record { service = service; method = method }; client_id = client_id; session = session })

-- that of a publication: the endpoint of the server, the Message ID and the Request ID of the event
abbrev pub of_event : (server : SocketAddrV4) → (service event client_id session : ℕ) → ExchangeKey
of_event server service event client_id session =
    keys.Event (record { server = server; message = record { service = service; method = event }; client_id = client_id; session = session })

-- that of a subscription: its client and server, its eventgroup and its counter
abbrev pub of_subscription : (client server : Ipv4Addr) → (eventgroup : Eventgroup) → (counter : ℕ) → ExchangeKey
of_subscription client server eventgroup counter =
    keys.Subscription (record { client = client; server = server; eventgroup = eventgroup; counter = counter })

-- a message between two endpoints: a request names its call, and so does an answer, which goes the other way. An event
-- names its publication
abbrev pub named_by_type : MessageType → SocketAddrV4 → SocketAddrV4 → Header → List Naming
named_by_type kinds.Request from to h = record { key = of_call from to h.service h.method h.client h.session; side = Opener } ∷ []
named_by_type kinds.RequestNoReturn from to h = record { key = of_call from to h.service h.method h.client h.session; side = Opener } ∷ []
named_by_type kinds.Notification from to h = record { key = of_event from h.service h.method h.client h.session; side = Opener } ∷ []
named_by_type kinds.Response from to h = record { key = of_call to from h.service h.method h.client h.session; side = Answerer } ∷ []
named_by_type kinds.Error from to h = record { key = of_call to from h.service h.method h.client h.session; side = Answerer } ∷ []
named_by_type _ from to h = []

-- an entry about an eventgroup: a Subscribe or StopSubscribe names its subscription, and so does an Ack or Nack, which goes
-- the other way
abbrev pub named_by_kind : EventgroupKind → Ipv4Addr → Ipv4Addr → EventgroupEntry → Naming
named_by_kind Subscribe from to e = record { key = of_subscription from to (eventgroup_in e) e.counter; side = Opener }
named_by_kind Ack from to e = record { key = of_subscription to from (eventgroup_in e) e.counter; side = Answerer }

-- Offers and Finds name none
abbrev pub named_by_head : Ipv4Addr → Ipv4Addr → EntryHead → List Naming
named_by_head from to (heads.Service head) = []
named_by_head from to (heads.Eventgroup head) = named_by_kind head.kind from to head ∷ []

-- what the entries of a message of Service Discovery name
abbrev pub named_by_entries : Ipv4Addr → Ipv4Addr → List EntryValue → List Naming
named_by_entries from to entries = flat_map (λ e. named_by_head from to e.head) entries

-- what is named in what a node gives
abbrev pub named_in : Given → List Naming
named_in (Sends from to m) = named_by_type m.header.kind from to m.header
named_in (Announces from to stamp entries) = named_by_entries (v4_ip from) (v4_ip to) entries
named_in (Tells output) = []
