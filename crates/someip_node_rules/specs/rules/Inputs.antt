-- What a node does with each input, and why it refuses one.
use Rattle.std.specs.Prelude.{ℕ, ◌+◌, List, Option, None, Some}
use Rattle.std.specs.declared.net.socket_addr.SocketAddrV4.{SocketAddrV4}
use Rattle.sd_core.specs.declared.eventgroup.Eventgroup.{Eventgroup}
use Rattle.sd_core.specs.declared.keys.InstanceId.{InstanceId}
use Rattle.sd_core.specs.declared.wish.Beginning.{Beginning}
use Rattle.sd_wire.specs.contents.Values.{EntryValue}
use Rattle.std.specs.declared.net.ipv4_addr.Ipv4Addr.{Ipv4Addr}
use Rattle.someip_rpc.specs.declared.call.CallKind.{CallKind}
use Rattle.someip_rpc.specs.declared.request.Reply.{Reply}
use Rattle.someip_node_rules.specs.declared.error.NodeError.{NodeError}
use Rattle.someip_node_rules.specs.rules.Answering.{answering_refusal}
use Rattle.someip_node_rules.specs.rules.Calling.{calling_refusal}
use Rattle.someip_node_rules.specs.rules.ClientSubscribing.{standing_of, stop_subscribe_of, wish_entries, wishing_refusal}
use Rattle.someip_node_rules.specs.rules.Offering.{stop_offer_of, stopping_refusal}
use Rattle.someip_node_rules.specs.rules.Publishing.{publishing_refusal, publishing_to_refusal}
use Rattle.someip_node_rules.specs.rules.Ticking.{due_entries, tick_refusal}
use Rattle.someip_node_rules.specs.rules.Handling.{datagram_plan}
use Rattle.someip_node_rules.specs.rules.Plans.{Plan, rest, act, both, asks, Answers, Calls, Publishes, PublishesTo, Stops, TakesBack, Ticks, Wishes}
use Rattle.someip_node_rules.specs.forms.Receivers.{message_plan_to, messages_plan_to}
use Rattle.someip_node_rules.specs.histories.Tables.{Tables, known_peer}
use Rattle.someip_node_rules.specs.declared.receiver.Receiver.TheVariants.{Group, Peer}

pub data Input : Type 0 where
  -- a datagram came from an endpoint to another
  Datagram : SocketAddrV4 → SocketAddrV4 → List ℕ → Input
  -- the clock goes on by so many milliseconds
  Tick : ℕ → Input
  -- the application calls a method of an instance, with a payload
  Call : CallKind → InstanceId → ℕ → List ℕ → Input
  -- it answers the request of a token
  Answer : ℕ → Reply → List ℕ → Input
  -- it publishes an event of an instance, and one to an endpoint that is subscribed to an eventgroup
  Publish : InstanceId → ℕ → List ℕ → Input
  PublishTo : InstanceId → ℕ → SocketAddrV4 → ℕ → List ℕ → Input
  -- it wishes an eventgroup, and takes the wish back
  Subscribe : Eventgroup → Input
  Unsubscribe : Eventgroup → Input
  -- it stops the offer of an instance
  StopOffer : InstanceId → Input

-- why an input is refused, if it is
abbrev pub refusal_of : Input → Tables → Option NodeError
refusal_of (Datagram from to bytes) t = None
refusal_of (Tick ms) t = tick_refusal ms t
refusal_of (Call kind instance method payload) t = calling_refusal kind instance payload t
refusal_of (Answer token reply payload) t = answering_refusal token reply payload t
refusal_of (Publish instance event payload) t = publishing_refusal instance event payload t
refusal_of (PublishTo instance eventgroup endpoint event payload) t = publishing_to_refusal instance eventgroup endpoint event payload t
refusal_of (Subscribe eventgroup) t = wishing_refusal eventgroup t
refusal_of (Unsubscribe eventgroup) t = wishing_refusal eventgroup t
refusal_of (StopOffer instance) t = stopping_refusal instance t

-- what has passed ends, and then the Offers and the Finds go out that are due
abbrev pub tick_plan : ℕ → Plan
tick_plan ms = asks (λ t. both (act (Ticks ms)) (messages_plan_to Group (due_entries (t.clock + ms) t)))

-- entries go to the peer whose offer of an instance is known
abbrev pub peer_plan : Option Ipv4Addr → List EntryValue → Plan
peer_plan None entries = rest
peer_plan (Some peer) entries = message_plan_to (Peer peer) entries

-- a wish: a Subscribe goes out at once where an offer of the instance is known
abbrev pub subscribe_plan : Eventgroup → Plan
subscribe_plan eventgroup =
    asks (λ t. both (act (Wishes eventgroup)) (peer_plan (known_peer t eventgroup.instance) (wish_entries eventgroup t)))

-- the StopSubscribe of the subscription that stands goes to its server, if one stands
abbrev pub stop_subscribe_plan : Eventgroup → Option Beginning → Tables → Plan
stop_subscribe_plan eventgroup None t = rest
stop_subscribe_plan eventgroup (Some beginning) t = message_plan_to (Peer beginning.peer) (stop_subscribe_of t eventgroup beginning.counter)

-- a wish is taken back: the server of the subscription that stands is told before
abbrev pub unsubscribe_plan : Eventgroup → Plan
unsubscribe_plan eventgroup =
    asks (λ t. both (stop_subscribe_plan eventgroup (standing_of eventgroup t) t) (act (TakesBack eventgroup (standing_of eventgroup t))))

-- an offer is stopped: the group is told before
abbrev pub stop_offer_plan : InstanceId → Plan
stop_offer_plan instance = asks (λ t. both (message_plan_to Group (stop_offer_of t instance)) (act (Stops instance)))

-- what is done with an input that is not refused
abbrev pub plan_of : Input → Plan
plan_of (Datagram from to bytes) = datagram_plan from to bytes
plan_of (Tick ms) = tick_plan ms
plan_of (Call kind instance method payload) = act (Calls kind instance method payload)
plan_of (Answer token reply payload) = act (Answers token reply payload)
plan_of (Publish instance event payload) = act (Publishes instance event payload)
plan_of (PublishTo instance eventgroup endpoint event payload) = act (PublishesTo instance endpoint event payload)
plan_of (Subscribe eventgroup) = subscribe_plan eventgroup
plan_of (Unsubscribe eventgroup) = unsubscribe_plan eventgroup
plan_of (StopOffer instance) = stop_offer_plan instance
