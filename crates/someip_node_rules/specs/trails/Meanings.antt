-- What is given says of the rule that gave it, and of what the node met before.
use Rattle.std.specs.Prelude.{◌≡◌, ◌⊎◌, ◌+◌, ℕ, IsTrue, List, Option, None, Some}
use Rattle.std.specs.List.{Contains}
use Rattle.std.specs.FinMap as finite
use Rattle.std.specs.declared.net.ipv4_addr.Ipv4Addr.{Ipv4Addr}
use Rattle.std.specs.declared.net.socket_addr.SocketAddrV4.{SocketAddrV4}
use Rattle.someip_wire.specs.declared.header.Header.{Header}
use Rattle.someip_wire.specs.declared.header.MessageType.TheVariants as kinds
use Rattle.someip_wire.specs.declared.header.ReturnCode.{ReturnCode}
use Rattle.someip_tables.specs.Lastings.{expired}
use Rattle.sd_wire.specs.declared.entry.EventgroupEntry.{EventgroupEntry}
use Rattle.sd_session.specs.declared.peers.Seen.TheVariants as seen_as
use Rattle.sd_session.specs.declared.stamp.Channel.{Channel}
use Rattle.sd_session.specs.declared.stamp.Stamp.{Stamp}
use Rattle.sd_session.specs.Peers.{stamps_of, told_by}
use Rattle.sd_core.specs.declared.error.Cause.{Cause}
use Rattle.sd_core.specs.declared.eventgroup.Eventgroup.{Eventgroup}
use Rattle.sd_core.specs.declared.keys.InstanceId.{InstanceId}
use Rattle.sd_core.specs.declared.received.ReceivedOffer.{ReceivedOffer}
use Rattle.sd_core.specs.declared.wish.Acked.TheVariants as acked_as
use Rattle.sd_core.specs.SeekTables.{uncounted}
use Rattle.sd_core.specs.SubscriberTables.{nack_cause}
use Rattle.sd_core.specs.Wishes.{told_by_ack, wish_of}
use Rattle.someip_rpc.specs.declared.call.CallKind.{CallKind}
use Rattle.someip_rpc.specs.declared.ids.MessageId.{MessageId}
use Rattle.someip_rpc.specs.Answers.{answer_drop, answered_call}
use Rattle.someip_rpc.specs.Requests.{request_fault}
use Rattle.someip_node_rules.specs.declared.config.OfferedService.{OfferedService}
use Rattle.someip_node_rules.specs.declared.config.WantedService.{WantedService}
use Rattle.someip_node_rules.specs.declared.output.Output.{Output}
use Rattle.someip_node_rules.specs.declared.output.Output.TheVariants as output
use Rattle.someip_node_rules.specs.trails.Bringing.{WasDone}
use Rattle.someip_node_rules.specs.rules.Calling.{call_of, session_of}
use Rattle.someip_node_rules.specs.histories.History.{History}
use Rattle.someip_node_rules.specs.rules.Inputs.{Input}
use Rattle.someip_node_rules.specs.rules.Learning.{answer_in, eventgroup_in}
use Rattle.someip_node_rules.specs.rules.Messages.{publisher, is_event_of}
use Rattle.someip_node_rules.specs.forms.Outputs.{Given, Announces, Sends, Tells}
use Rattle.someip_node_rules.specs.rules.Plans.{Rule, Calls, Hears, TakesAck, TakesAnswer, TakesBack, TakesEvent, TakesNack, TakesOffer, TakesRequest, TakesStopOffer, TakesSubscribe, Ticks}
use Rattle.someip_node_rules.specs.trails.SendingRules.{IsAnnounced, IsSent}
use Rattle.someip_node_rules.specs.forms.Setups.{offered_as}
use Rattle.someip_node_rules.specs.rules.ServerSubscribing.{rules_for, subscribe_in}
use Rattle.someip_node_rules.specs.histories.Tables.{Tables, is_up, live_subscribers, waiting_calls}

-- ---- messages

-- a token is the next one for a REQUEST, and there is none for a REQUEST_NO_RETURN
abbrev pub IsTokenFor : Header → ℕ → Option ℕ → Type 0
IsTokenFor header next token =
    ((header.kind ≡ kinds.Request) × (token ≡ Some next)) ⊎ ((header.kind ≡ kinds.RequestNoReturn) × (token ≡ None))

-- a request is handed up of a message that came to its instance and fails no check
pub record IsRequest (header : Header) (t : Tables) (token : Option ℕ) (instance : InstanceId) (method : ℕ) : Type 0 where
  pub service : OfferedService
  pub offered : offered_as t.config instance ≡ Some service
  pub checked : request_fault service.rules (is_up t instance) header t.server.requests t.server.next ≡ None
  pub named : method ≡ header.method
  pub numbered : IsTokenFor header t.server.next token

-- an answer, of a message that came from an endpoint to the client and answers a call that waits
pub record IsAnswer (from : SocketAddrV4) (header : Header) (t : Tables) (message : MessageId) (session : ℕ) (code : ReturnCode) : Type 0 where
  pub awaited : answer_drop t.config.client_id from header (waiting_calls t) ≡ None
  pub named : message ≡ (answered_call header).message
  pub numbered : session ≡ header.session
  pub told : code ≡ header.code

-- an event, of a message that came from an endpoint to the client: of the first instance that the client wants and that
-- publishes it there
pub record IsEvent (from : SocketAddrV4) (header : Header) (t : Tables) (instance : InstanceId) (event : ℕ) : Type 0 where
  pub want : WantedService
  pub wanted : Contains t.config.wants.entries (instance, want)
  pub published : IsTrue (is_event_of t from header (instance, want))
  pub first : publisher t from header ≡ Some instance
  pub named : event ≡ header.method

-- a call, with the session that it was given
abbrev pub IsCallBy : Rule → Tables → MessageId → ℕ → Type 0
IsCallBy r t message session =
    (kind : CallKind) × (instance : InstanceId) × (method : ℕ) × (payload : List ℕ) × (r ≡ Calls kind instance method payload)
    × (message ≡ (call_of kind instance method t).message) × (session ≡ session_of (call_of kind instance method t) t)

-- ---- Service Discovery

-- an offer is known by an Offer that counted
abbrev pub IsKnownBy : Rule → Tables → InstanceId → SocketAddrV4 → Type 0
IsKnownBy r t instance endpoint =
    (offer : ReceivedOffer) × (r ≡ TakesOffer offer) × (uncounted offer t.clock t.seek ≡ None) × (instance ≡ offer.instance)
    × (offer.endpoint ≡ Some endpoint)

-- a subscription stands by the Ack of the server at which it was begun
abbrev pub IsAckedBy : Rule → Tables → Eventgroup → ℕ → Type 0
IsAckedBy r t eventgroup counter =
    (peer : Ipv4Addr) × (head : EventgroupEntry) × (r ≡ TakesAck peer head) × (eventgroup ≡ eventgroup_in head) × (counter ≡ head.counter)
    × (told_by_ack t.clock (answer_in peer head t) (wish_of (finite.get t.wishes eventgroup)).stage ≡ acked_as.Subscribed)

-- a Subscribe is accepted that nothing speaks against
abbrev pub IsAcceptedBy : Rule → Tables → Eventgroup → SocketAddrV4 → ℕ → Type 0
IsAcceptedBy r t eventgroup endpoint counter =
    (peer : Ipv4Addr) × (head : EventgroupEntry) × (r ≡ TakesSubscribe peer head (Some endpoint)) × (eventgroup ≡ eventgroup_in head)
    × (counter ≡ head.counter) × (nack_cause (rules_for head t) (subscribe_in peer head (Some endpoint)) (live_subscribers t) ≡ None)

-- and refused for the first cause that does
abbrev pub IsNackedBy : Rule → Tables → Eventgroup → Cause → Type 0
IsNackedBy r t eventgroup cause =
    (peer : Ipv4Addr) × (head : EventgroupEntry) × (endpoint : Option SocketAddrV4) × (r ≡ TakesSubscribe peer head endpoint)
    × (eventgroup ≡ eventgroup_in head) × (nack_cause (rules_for head t) (subscribe_in peer head endpoint) (live_subscribers t) ≡ Some cause)

-- a peer began again by the stamp of a message of it
abbrev pub IsRebootBy : Rule → Tables → Ipv4Addr → Type 0
IsRebootBy r t peer =
    (channel : Channel) × (stamp : Stamp) × (r ≡ Hears peer channel stamp) × (told_by channel stamp (stamps_of t.peers peer) ≡ seen_as.Rebooted)

-- ---- ends

-- a known offer ends with the clock, as its peer begins again, and by a StopOffer
abbrev pub EndsOffers : Rule → Type 0
EndsOffers (Ticks ms) = Unit {0}
EndsOffers (Hears peer channel stamp) = Unit {0}
EndsOffers (TakesStopOffer instance major peer) = Unit {0}
EndsOffers r = ⊥

-- a subscription ends with it, by a Nack, and as its wish is taken back
abbrev pub EndsSubscriptions : Rule → Type 0
EndsSubscriptions (TakesNack peer head) = Unit {0}
EndsSubscriptions (TakesBack eventgroup beginning) = Unit {0}
EndsSubscriptions r = EndsOffers r

-- ---- all that is given

-- which rules tell or hand up an output, and what it then says
abbrev pub IsTold : Output → Rule → Tables → Type 0
IsTold (output.Sent from to bytes) r t = ⊥
IsTold (output.Called message session) r t = IsCallBy r t message session
IsTold (output.Request token instance method payload) r t =
    (from : SocketAddrV4) × (header : Header) × (r ≡ TakesRequest instance from header payload) × IsRequest header t token instance method
IsTold (output.Answered message session code payload) r t =
    (from : SocketAddrV4) × (header : Header) × (r ≡ TakesAnswer from header payload) × IsAnswer from header t message session code
IsTold (output.TimedOut message session) r t =
    (ms : ℕ) × (r ≡ Ticks ms) × Contains (finite.keys (expired (t.clock + ms) t.client.pending)) (record { message = message; session = session })
IsTold (output.Event instance event payload) r t =
    (from : SocketAddrV4) × (header : Header) × (r ≡ TakesEvent from header payload) × IsEvent from header t instance event
IsTold (output.Known instance endpoint) r t = IsKnownBy r t instance endpoint
IsTold (output.Gone instance) r t = EndsOffers r
IsTold (output.Subscribed eventgroup counter) r t = IsAckedBy r t eventgroup counter
IsTold (output.Unsubscribed eventgroup) r t = EndsSubscriptions r
IsTold (output.Accepted eventgroup endpoint counter) r t = IsAcceptedBy r t eventgroup endpoint counter
IsTold (output.Nacked eventgroup cause) r t = IsNackedBy r t eventgroup cause
IsTold (output.Rebooted peer) r t = IsRebootBy r t peer
IsTold (output.Dropped reason) r t = Unit {0}

-- which rules give this, and what it then says of the tables before
abbrev pub Means : Given → Rule → Tables → Type 0
Means (Sends from to m) r t = IsSent r t from to m
Means (Announces from to stamp entries) r t = IsAnnounced r t from to stamp entries
Means (Tells told) r t = IsTold told r t

-- this was given in a step, by a rule that was done in it
abbrev pub GivenBy : History → Input → Given → Type 0
GivenBy h input given = WasDone h input (Means given)
