-- What a node does with a datagram: message by message, and entry by entry.
use Rattle.std.specs.Prelude.{ℕ, ◌==◌, Bool, ◌&&◌, not, if◌then◌else◌, List, Option, None, Some, Result, Ok, Err}
use Rattle.std.specs.Ordering.{eq_by_cmp}
use Rattle.std.specs.declared.net.ipv4_addr.Ipv4Addr.{Ipv4Addr}
use Rattle.std.specs.declared.net.socket_addr.SocketAddrV4.{SocketAddrV4}
use Rattle.std.specs.Net.Socket.{v4_ip, v4_port}
use Rattle.someip_wire.specs.declared.error.WireError.{WireError}
use Rattle.someip_wire.specs.declared.header.Header.{Header}
use Rattle.someip_wire.specs.declared.header.MessageType.{MessageType}
use Rattle.someip_wire.specs.declared.header.MessageType.TheVariants as kinds
use Rattle.someip_wire.specs.Discovery.{is_discovery}
use Rattle.someip_wire.specs.Kinds.{has_tp_flag, without_tp_flag}
use Rattle.someip_wire.specs.Reading.{items_of}
use Rattle.someip_wire.specs.Spelling.{MessageValue}
use Rattle.someip_tables.specs.Endpoints.{address_cmp}
use Rattle.someip_reassembly.specs.declared.error.TpError.{TpError}
use Rattle.someip_reassembly.specs.Keys.{segment_key}
use Rattle.someip_reassembly.specs.SegmentOffers.{SegmentOffer, offer}
use Rattle.someip_reassembly.specs.TpHeader.{segment_in}
use Rattle.sd_wire.specs.declared.entry.EntryHead.{EntryHead}
use Rattle.sd_wire.specs.declared.entry.EntryHead.TheVariants.{Service, Eventgroup}
use Rattle.sd_wire.specs.declared.entry.EventgroupEntry.{EventgroupEntry}
use Rattle.sd_wire.specs.declared.entry.ServiceEntry.{ServiceEntry}
use Rattle.sd_wire.specs.declared.error.SdError.{SdError}
use Rattle.sd_wire.specs.contents.Endpoints.{first_udp_endpoint, options_of}
use Rattle.sd_wire.specs.contents.Kinds.{is_ack, is_find, is_stop_offer, is_stop_subscribe, is_subscribe}
use Rattle.sd_wire.specs.decoding.Program.{reading}
use Rattle.sd_wire.specs.contents.Values.{ReadValue, SdValue, good, bad_run}
use Rattle.sd_session.specs.declared.stamp.Channel.{Channel}
use Rattle.sd_session.specs.declared.stamp.Channel.TheVariants.{Multicast, Unicast}
use Rattle.sd_session.specs.Peers.{may_hold}
use Rattle.sd_core.specs.declared.keys.InstanceId.{InstanceId}
use Rattle.someip_node_rules.specs.declared.config.Config.{Config}
use Rattle.someip_node_rules.specs.declared.drops.DropReason.TheVariants.{BadRun, NoPort, NotSd, Own, PeersFull, Sd, Tp, Wire}
use Rattle.someip_node_rules.specs.declared.target.Target.{Target}
use Rattle.someip_node_rules.specs.declared.target.Target.TheVariants as target
use Rattle.someip_node_rules.specs.rules.Learning.{received_offer}
use Rattle.someip_node_rules.specs.rules.Messages.{completed}
use Rattle.someip_node_rules.specs.rules.Plans.{Plan, rest, act, both, asks, replying, each, Drops, Hears, TakesAck, TakesAnswer, TakesEvent, TakesFind, TakesNack, TakesOffer, TakesRequest, TakesSegment, TakesStopOffer, TakesStopSubscribe, TakesSubscribe}
use Rattle.someip_node_rules.specs.forms.Receivers.{messages_plan_to}
use Rattle.someip_node_rules.specs.forms.Setups.{discovery_port, instance_at}
use Rattle.someip_node_rules.specs.declared.receiver.Receiver.TheVariants.{Peer}

-- ---- messages of the application

-- a message comes to the client: an event, or else an answer
abbrev pub client_plan : SocketAddrV4 → Header → List ℕ → MessageType → Plan
client_plan from header payload kinds.Notification = act (TakesEvent from header payload)
client_plan from header payload _ = act (TakesAnswer from header payload)

-- a whole message comes to where it is taken
abbrev pub whole_plan : Target → SocketAddrV4 → Header → List ℕ → Plan
whole_plan (target.Instance instance) from header payload = act (TakesRequest instance from header payload)
whole_plan target.Client from header payload = client_plan from header payload header.kind
whole_plan (target.Discovery channel) from header payload = rest
whole_plan target.Nowhere from header payload = rest

-- the message that a segment made whole, if it did: its type is without the TP flag
abbrev pub completed_plan : Target → SocketAddrV4 → Header → Option (List ℕ) → Plan
completed_plan goal from header None = rest
completed_plan goal from header (Some payload) = whole_plan goal from (record header { kind = without_tp_flag header.kind }) payload

-- a segment is offered, and the message that it makes whole, if it does, goes on at once
abbrev pub offered_plan : Target → SocketAddrV4 → Header → SegmentOffer → Plan
offered_plan goal from header o = asks (λ t. both (act (TakesSegment o)) (completed_plan goal from header (completed o t)))

-- a segment comes
abbrev pub segment_plan : Target → SocketAddrV4 → SocketAddrV4 → Header → Result (ℕ × Bool × List ℕ) TpError → Plan
segment_plan goal from to header (Err fault) = act (Drops (Tp fault))
segment_plan goal from to header (Ok r) = offered_plan goal from header (offer (segment_key from to header) r.0 r.1 r.2)

-- a message comes, whole or as a segment
abbrev pub message_plan : Target → SocketAddrV4 → SocketAddrV4 → MessageValue → Plan
message_plan goal from to m =
    if has_tp_flag m.header.kind then segment_plan goal from to m.header (segment_in m.payload)
    else whole_plan goal from m.header m.payload

-- ---- Service Discovery

-- an entry about an instance, with the first endpoint over UDP among its options
abbrev pub service_plan : Ipv4Addr → ServiceEntry → Option SocketAddrV4 → Plan
service_plan peer head endpoint =
    if is_find head then act (TakesFind head)
    else if is_stop_offer head then act (TakesStopOffer (record { service = head.service; instance = head.instance }) head.major peer)
    else act (TakesOffer (received_offer peer head endpoint))

-- an entry about an eventgroup
abbrev pub eventgroup_plan : Ipv4Addr → EventgroupEntry → Option SocketAddrV4 → Plan
eventgroup_plan peer head endpoint =
    if is_subscribe head then act (TakesSubscribe peer head endpoint)
    else if is_stop_subscribe head then act (TakesStopSubscribe peer head endpoint)
    else if is_ack head then act (TakesAck peer head)
    else act (TakesNack peer head)

-- an entry without a bad run, with the first endpoint over UDP among its options
abbrev pub good_plan : Ipv4Addr → EntryHead → Option SocketAddrV4 → Plan
good_plan peer (Service head) endpoint = service_plan peer head endpoint
good_plan peer (Eventgroup head) endpoint = eventgroup_plan peer head endpoint

-- an entry with a bad run: a Subscribe is taken as one without options, so its Nack is NoEndpoint unless an earlier cause
-- holds; any other is dropped
abbrev pub bad_plan : Ipv4Addr → EntryHead → Plan
bad_plan peer (Service head) = act (Drops BadRun)
bad_plan peer (Eventgroup head) = if is_subscribe head then act (TakesSubscribe peer head None) else act (Drops BadRun)

-- an entry, without a bad run or with one
abbrev pub entry_plan : Ipv4Addr → ReadValue → Plan
entry_plan peer (good e) = good_plan peer e.head (first_udp_endpoint (options_of e))
entry_plan peer (bad_run head) = bad_plan peer head

-- the entries are taken in order, and then the replies go to the peer in order, in as many messages as are needed
abbrev pub entries_plan : Ipv4Addr → List ReadValue → Plan
entries_plan peer entries = both (each (entry_plan peer) entries) (replying (messages_plan_to (Peer peer)))

-- a message of Service Discovery that was read: its peer, and then its entries in order
abbrev pub heard_plan : Ipv4Addr → Channel → ℕ → SdValue → Plan
heard_plan peer channel session v =
    asks (λ t.
    if not (may_hold t.config.common.peers t.peers peer) then act (Drops PeersFull)
    else both (act (Hears peer channel (record { session = session; reboot = v.flags.reboot }))) (entries_plan peer v.entries))

-- the payload of a message to Service Discovery was read, or has a fault, by whose name the message is dropped
abbrev pub reading_plan : Ipv4Addr → Channel → ℕ → Result SdValue SdError → Plan
reading_plan peer channel session (Err fault) = act (Drops (Sd fault))
reading_plan peer channel session (Ok v) = heard_plan peer channel session v

-- the header of a message of Service Discovery that its sender counted: no counter gives session 0
abbrev pub is_valid_discovery : Header → Bool
is_valid_discovery h = is_discovery h && not (h.session == 0)

-- a message comes to Service Discovery: it has the header of one and its payload is read, or it is dropped, `NotSd`
abbrev pub discovery_plan : Ipv4Addr → Channel → MessageValue → Plan
discovery_plan peer channel m =
    if is_valid_discovery m.header then reading_plan peer channel m.header.session (reading m.payload) else act (Drops NotSd)

-- ---- datagrams

abbrev pub same_address : Ipv4Addr → Ipv4Addr → Bool
same_address a b = eq_by_cmp address_cmp a b

-- what is reached where an instance has the port: the instance, also while it is down; and nothing where none has it
abbrev pub instance_target : Option InstanceId → Target
instance_target None = target.Nowhere
instance_target (Some instance) = target.Instance instance

-- what is reached at a port of the node
abbrev pub own_target : Config → ℕ → Target
own_target config port =
    if port == discovery_port then target.Discovery Unicast
    else if port == config.client_port then target.Client
    else instance_target (instance_at config port)

-- what is reached at an endpoint
abbrev pub target_of : Config → SocketAddrV4 → Target
target_of config to =
    if same_address (v4_ip to) config.address then own_target config (v4_port to)
    else if same_address (v4_ip to) config.common.group && (v4_port to == discovery_port) then target.Discovery Multicast
    else target.Nowhere

-- a message comes to where it is taken
abbrev pub message_at_plan : Target → SocketAddrV4 → SocketAddrV4 → MessageValue → Plan
message_at_plan (target.Discovery channel) from to m = discovery_plan (v4_ip from) channel m
message_at_plan goal from to m = message_plan goal from to m

-- a message of a datagram comes to where it is taken; the fault that ends the datagram is dropped by name
abbrev pub item_plan : Target → SocketAddrV4 → SocketAddrV4 → Result MessageValue WireError → Plan
item_plan goal from to (Err fault) = act (Drops (Wire fault))
item_plan goal from to (Ok m) = message_at_plan goal from to m

-- the messages of a datagram are taken one after the other, and then its fault, if it has one
abbrev pub items_plan : Target → SocketAddrV4 → SocketAddrV4 → List (Result MessageValue WireError) → Plan
items_plan goal from to items = each (item_plan goal from to) items

-- a datagram by what it reaches: where that is nothing it is dropped, `NoPort`, and else its messages are taken
abbrev pub target_plan : Target → SocketAddrV4 → SocketAddrV4 → List ℕ → Plan
target_plan target.Nowhere from to bytes = act (Drops NoPort)
target_plan goal from to bytes = items_plan goal from to (items_of bytes)

-- a datagram comes: one from the node's own address is dropped, and else its messages are taken one after the other
abbrev pub datagram_plan : SocketAddrV4 → SocketAddrV4 → List ℕ → Plan
datagram_plan from to bytes =
    asks (λ t. if same_address (v4_ip from) t.config.address then act (Drops Own) else target_plan (target_of t.config to) from to bytes)
