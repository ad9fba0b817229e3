-- A worked run of two nodes: one offers an instance; the other finds it, calls it, subscribes to its eventgroup and takes an
-- event. What each node met after each of its steps, and the datagrams between them.
use Rattle.std.specs.Prelude.{◌≡◌, ℕ, true, List, [], ◌∷◌, Ok}
use Rattle.std.specs.declared.net.ipv4_addr.Ipv4Addr.{Ipv4Addr}
use Rattle.sd_session.specs.declared.stamp.Channel.TheVariants.{Multicast, Unicast}
use Rattle.sd_session.specs.Sessions.{first}
use Rattle.sd_core.specs.declared.eventgroup.Eventgroup.{Eventgroup}
use Rattle.sd_core.specs.declared.subscription.Subscription.{Subscription}
use Rattle.someip_rpc.specs.declared.call.CallKind.TheVariants.{Request}
use Rattle.someip_rpc.specs.declared.ids.MessageId.{MessageId}
use Rattle.someip_rpc.specs.declared.request.Asked.{Asked}
use Rattle.someip_node_rules.specs.declared.config.Config.{Config}
use Rattle.someip_node_rules.specs.declared.output.Output.{Output}
use Rattle.someip_node_rules.specs.declared.output.Output.TheVariants.{Sent}
use Rattle.someip_node_laws.specs.CallExamples.{IsClient, instance_offer}
use Rattle.someip_node_rules.specs.histories.History.{History}
use Rattle.someip_node_rules.specs.rules.Inputs.{Input, Datagram}
use Rattle.someip_node_rules.specs.histories.Items.{Item, AckCame, AnswerTaken, Answered, Called, GroupAddressed, OfferCounted, PeerAddressed, PeerHeard, Published, Requested, SubscriptionAccepted, Ticked, Wished}
use Rattle.someip_node_rules.specs.trails.Packets.{Packet}
use Rattle.someip_node_rules.specs.steps.Steps.{step}
use Rattle.someip_node_laws.specs.WorkedExamples.{IsServer, client, discovery_at, instance, server, server_address}

-- ---- the two nodes

-- the group of Service Discovery
abbrev pub group_address : Ipv4Addr
group_address = record { octets = 239 ∷ 0 ∷ 0 ∷ 1 ∷ [] }

-- the eventgroup 0001 of the instance
abbrev pub eventgroup : Eventgroup
eventgroup = record { instance = instance; id = 1 }

-- a node is set up to offer the instance with the event 8001 in the eventgroup, and to want none
pub record OffersEvent (config : Config) : Type 0 where
  pub server : IsServer config
  pub events : server.events.entries ≡ (0x8001, record { keys = 1 ∷ [] }) ∷ []
  pub wants : config.wants.entries ≡ []
  pub group : config.common.group ≡ group_address
  pub peers : config.common.peers ≡ 64
  pub message_limit : config.common.message_limit ≡ 65536

-- a node is set up to want the instance, for 3 seconds at a time, with the event 8001 in the eventgroup
pub record WantsEvent (config : Config) : Type 0 where
  pub client : IsClient config
  pub ttl : client.want.ttl ≡ 3
  pub groups : client.want.groups.entries ≡ (1, record { keys = 0x8001 ∷ [] }) ∷ []
  pub group : config.common.group ≡ group_address
  pub peers : config.common.peers ≡ 64
  pub message_limit : config.common.message_limit ≡ 65536

-- the method 0421 of its service
abbrev pub method : MessageId
method = record { service = 0x1111; method = 0x0421 }

-- ---- the datagrams between them

-- the Offer of the instance, for so many seconds, below 256
abbrev pub offer_bytes : ℕ → List ℕ
offer_bytes ttl =
    0xff ∷ 0xff ∷ 0x81 ∷ 0x00 ∷ 0x00 ∷ 0x00 ∷ 0x00 ∷ 0x30 ∷ 0x00 ∷ 0x00 ∷ 0x00 ∷ 0x01 ∷ 0x01 ∷ 0x01 ∷ 0x02 ∷ 0x00
    ∷ 0xc0 ∷ 0x00 ∷ 0x00 ∷ 0x00 ∷ 0x00 ∷ 0x00 ∷ 0x00 ∷ 0x10 ∷ 0x01 ∷ 0x00 ∷ 0x00 ∷ 0x10 ∷ 0x11 ∷ 0x11 ∷ 0x00 ∷ 0x01
    ∷ 0x01 ∷ 0x00 ∷ 0x00 ∷ ttl ∷ 0x00 ∷ 0x00 ∷ 0x00 ∷ 0x00 ∷ 0x00 ∷ 0x00 ∷ 0x00 ∷ 0x0c ∷ 0x00 ∷ 0x09 ∷ 0x04 ∷ 0x00
    ∷ 0xc0 ∷ 0xa8 ∷ 0x00 ∷ 0x01 ∷ 0x00 ∷ 0x11 ∷ 0x77 ∷ 0x2d ∷ []

-- the call of the method 0421, with two bytes
abbrev pub call_bytes : List ℕ
call_bytes =
    0x11 ∷ 0x11 ∷ 0x04 ∷ 0x21 ∷ 0x00 ∷ 0x00 ∷ 0x00 ∷ 0x0a ∷ 0x01 ∷ 0x02 ∷ 0x00 ∷ 0x01 ∷ 0x01 ∷ 0x01 ∷ 0x00 ∷ 0x00
    ∷ 0x01 ∷ 0x02 ∷ []

-- its answer, with one byte
abbrev pub answer_bytes : List ℕ
answer_bytes =
    0x11 ∷ 0x11 ∷ 0x04 ∷ 0x21 ∷ 0x00 ∷ 0x00 ∷ 0x00 ∷ 0x09 ∷ 0x01 ∷ 0x02 ∷ 0x00 ∷ 0x01 ∷ 0x01 ∷ 0x01 ∷ 0x80 ∷ 0x00
    ∷ 0x03 ∷ []

-- the Subscribe of the eventgroup, for 3 seconds
abbrev pub subscribe_bytes : List ℕ
subscribe_bytes =
    0xff ∷ 0xff ∷ 0x81 ∷ 0x00 ∷ 0x00 ∷ 0x00 ∷ 0x00 ∷ 0x30 ∷ 0x00 ∷ 0x00 ∷ 0x00 ∷ 0x01 ∷ 0x01 ∷ 0x01 ∷ 0x02 ∷ 0x00
    ∷ 0xc0 ∷ 0x00 ∷ 0x00 ∷ 0x00 ∷ 0x00 ∷ 0x00 ∷ 0x00 ∷ 0x10 ∷ 0x06 ∷ 0x00 ∷ 0x00 ∷ 0x10 ∷ 0x11 ∷ 0x11 ∷ 0x00 ∷ 0x01
    ∷ 0x01 ∷ 0x00 ∷ 0x00 ∷ 0x03 ∷ 0x00 ∷ 0x00 ∷ 0x00 ∷ 0x01 ∷ 0x00 ∷ 0x00 ∷ 0x00 ∷ 0x0c ∷ 0x00 ∷ 0x09 ∷ 0x04 ∷ 0x00
    ∷ 0xc0 ∷ 0xa8 ∷ 0x00 ∷ 0x02 ∷ 0x00 ∷ 0x11 ∷ 0x9c ∷ 0x41 ∷ []

-- its Ack, with a counter
abbrev pub ack_bytes : ℕ → List ℕ
ack_bytes counter =
    0xff ∷ 0xff ∷ 0x81 ∷ 0x00 ∷ 0x00 ∷ 0x00 ∷ 0x00 ∷ 0x24 ∷ 0x00 ∷ 0x00 ∷ 0x00 ∷ 0x01 ∷ 0x01 ∷ 0x01 ∷ 0x02 ∷ 0x00
    ∷ 0xc0 ∷ 0x00 ∷ 0x00 ∷ 0x00 ∷ 0x00 ∷ 0x00 ∷ 0x00 ∷ 0x10 ∷ 0x07 ∷ 0x00 ∷ 0x00 ∷ 0x00 ∷ 0x11 ∷ 0x11 ∷ 0x00 ∷ 0x01
    ∷ 0x01 ∷ 0x00 ∷ 0x00 ∷ 0x03 ∷ 0x00 ∷ counter ∷ 0x00 ∷ 0x01 ∷ 0x00 ∷ 0x00 ∷ 0x00 ∷ 0x00 ∷ []

-- the event 8001, with one byte
abbrev pub event_bytes : List ℕ
event_bytes =
    0x11 ∷ 0x11 ∷ 0x80 ∷ 0x01 ∷ 0x00 ∷ 0x00 ∷ 0x00 ∷ 0x09 ∷ 0x00 ∷ 0x00 ∷ 0x00 ∷ 0x01 ∷ 0x01 ∷ 0x01 ∷ 0x02 ∷ 0x00
    ∷ 0x2a ∷ []

-- where each comes from and where it goes to
abbrev pub offer_packet : ℕ → Packet
offer_packet ttl = record { from = discovery_at server_address; to = discovery_at group_address; bytes = offer_bytes ttl }

abbrev pub call_packet : Packet
call_packet = record { from = client; to = server; bytes = call_bytes }

abbrev pub answer_packet : Packet
answer_packet = record { from = server; to = client; bytes = answer_bytes }

abbrev pub subscribe_packet : Packet
subscribe_packet = record { from = discovery_at client.ip; to = discovery_at server_address; bytes = subscribe_bytes }

abbrev pub ack_packet : ℕ → Packet
ack_packet counter = record { from = discovery_at server_address; to = discovery_at client.ip; bytes = ack_bytes counter }

abbrev pub event_packet : Packet
event_packet = record { from = server; to = client; bytes = event_bytes }

-- a datagram goes out of a node, and comes to one
abbrev pub goes : Packet → Output
goes p = Sent p.from p.to p.bytes

abbrev pub comes : Packet → Input
comes p = Datagram p.from p.to p.bytes

-- ---- what the server met after each of its steps, the newest first

-- the Offer went out
abbrev pub offered_items : List Item
offered_items = GroupAddressed ∷ Ticked 10 ∷ []

-- the call was handed up
abbrev pub asked_call : Asked
asked_call = record { peer = client; endpoint = server; message = method; client = 0x0102; session = 1; interface = 1 }

abbrev pub requested_items : List Item
requested_items = Requested asked_call ∷ offered_items

-- it was answered
abbrev pub answered_items : List Item
answered_items = Answered 1 ∷ requested_items

-- the Subscribe was accepted, and the Ack went out
abbrev pub subscription : Subscription
subscription = record { instance = instance; eventgroup = 1; peer = client.ip; endpoint = client; counter = 0 }

abbrev pub accepted_items : List Item
accepted_items = PeerAddressed client.ip ∷ SubscriptionAccepted subscription 3 ∷ PeerHeard client.ip Unicast first ∷ answered_items

-- the event went out
abbrev pub published_items : List Item
published_items = Published (record { service = 0x1111; instance = 1; event = 0x8001 }) ∷ accepted_items

-- ---- what the client met after each of its steps, the newest first

-- the Offer came
abbrev pub known_items : List Item
known_items = OfferCounted instance_offer server ∷ PeerHeard server_address Multicast first ∷ []

-- the method was called
abbrev pub called_items : List Item
called_items = Called (record { kind = Request; message = method; interface = 1 }) server 1 ∷ known_items

-- the answer came
abbrev pub replied_items : List Item
replied_items = AnswerTaken (record { message = method; session = 1 }) ∷ called_items

-- the eventgroup was wished, and the Subscribe went out
abbrev pub wished_items : List Item
wished_items = PeerAddressed server_address ∷ Wished eventgroup ∷ replied_items

-- the Ack came
abbrev pub subscribed_items : List Item
subscribed_items =
    AckCame (record { eventgroup = eventgroup; has_wanted_major = true; peer = server_address; counter = 0 }) 3
    ∷ PeerHeard server_address Unicast first ∷ wished_items

-- ---- steps

-- a node met these items since its start, with a delay of 10 milliseconds before its first Offers and Finds
abbrev pub having_met : Config → List Item → History
having_met config items = record { config = config; delay = 10; items = items }

-- what an input gives, and what the node has met with it
abbrev pub LeadsTo : History → Input → List Output → List Item → Type 0
LeadsTo h input outputs items = step h input ≡ Ok (record { state = record h { items = items }; outputs = outputs; replies = [] })
