-- What an item says of the rule by which it was met, and of what the node met before.
use Rattle.std.specs.Prelude.{◌≡◌, ◌⊎◌, ℕ, IsTrue, List, Option, None, Some, Ok}
use Rattle.std.specs.FinMap as finite
use Rattle.std.specs.declared.net.ipv4_addr.Ipv4Addr.{Ipv4Addr}
use Rattle.std.specs.declared.net.socket_addr.SocketAddrV4.{SocketAddrV4}
use Rattle.someip_wire.specs.declared.header.Header.{Header}
use Rattle.someip_wire.specs.declared.header.MessageType.TheVariants as kinds
use Rattle.someip_reassembly.specs.declared.reassembly.Offered.TheVariants.{Whole}
use Rattle.someip_reassembly.specs.SegmentOffers.{SegmentOffer, judgement}
use Rattle.sd_wire.specs.declared.entry.EventgroupEntry.{EventgroupEntry}
use Rattle.sd_wire.specs.contents.Values.{EntryValue}
use Rattle.sd_core.specs.declared.keys.InstanceId.{InstanceId}
use Rattle.sd_core.specs.declared.subscription.Subscription.{Subscription}
use Rattle.sd_core.specs.declared.wish.Beginning.{Beginning}
use Rattle.sd_core.specs.SeekTables.{is_stopped, uncounted}
use Rattle.sd_core.specs.SubscriberTables.{nack_cause, subscription_at}
use Rattle.someip_rpc.specs.declared.call.Call.{Call}
use Rattle.someip_rpc.specs.declared.call.CallKind.{CallKind}
use Rattle.someip_rpc.specs.declared.ids.EventId.{EventId}
use Rattle.someip_rpc.specs.declared.request.Asked.{Asked}
use Rattle.someip_rpc.specs.declared.request.Reply.{Reply}
use Rattle.someip_rpc.specs.Answers.{answer_drop, answered_call}
use Rattle.someip_rpc.specs.Events.{event_of}
use Rattle.someip_rpc.specs.Requests.{asked, request_fault}
use Rattle.someip_node_rules.specs.declared.config.OfferedService.{OfferedService}
use Rattle.someip_node_rules.specs.trails.Bringing.{WasDone}
use Rattle.someip_node_rules.specs.rules.Calling.{call_of, session_of}
use Rattle.someip_node_rules.specs.histories.History.{History}
use Rattle.someip_node_rules.specs.rules.Inputs.{Input}
use Rattle.someip_node_rules.specs.histories.Items as items
use Rattle.someip_node_rules.specs.histories.Items.{Item}
use Rattle.someip_node_rules.specs.rules.Learning.{answer_in}
use Rattle.someip_node_rules.specs.trails.Meanings.{IsRebootBy}
use Rattle.someip_node_rules.specs.rules.Plans.{Rule, Announces, Answers, Calls, Hears, Publishes, PublishesTo, RepliesTo, Stops, TakesAck, TakesAnswer, TakesBack, TakesNack, TakesOffer, TakesRequest, TakesSegment, TakesStopOffer, TakesStopSubscribe, TakesSubscribe, Ticks, Wishes}
use Rattle.someip_node_rules.specs.forms.Setups.{limits_of, offered_as}
use Rattle.someip_node_rules.specs.rules.ServerSubscribing.{rules_for, subscribe_in}
use Rattle.someip_node_rules.specs.histories.Tables.{Tables, is_up, known_endpoint, live_subscribers, waiting_calls}

-- a REQUEST came to its instance that fails no check
pub record IsRequestedBy (r : Rule) (t : Tables) (request : Asked) : Type 0 where
  pub instance : InstanceId
  pub from : SocketAddrV4
  pub header : Header
  pub payload : List ℕ
  pub taken : r ≡ TakesRequest instance from header payload
  pub kind : header.kind ≡ kinds.Request
  pub service : OfferedService
  pub offered : offered_as t.config instance ≡ Some service
  pub checked : request_fault service.rules (is_up t instance) header t.server.requests t.server.next ≡ None
  pub is : request ≡ asked service.rules from header

-- a call was made, to the endpoint of the known offer and with the next session
pub record IsCalledBy (r : Rule) (t : Tables) (call : Call) (peer : SocketAddrV4) (session : ℕ) : Type 0 where
  pub kind : CallKind
  pub instance : InstanceId
  pub method : ℕ
  pub payload : List ℕ
  pub made : r ≡ Calls kind instance method payload
  pub known : known_endpoint t instance ≡ Some peer
  pub is : call ≡ call_of kind instance method t
  pub numbered : session ≡ session_of (call_of kind instance method t) t

-- a Subscribe came that nothing speaks against
pub record IsSubscribedBy (r : Rule) (t : Tables) (s : Subscription) (ttl : ℕ) : Type 0 where
  pub peer : Ipv4Addr
  pub head : EventgroupEntry
  pub endpoint : SocketAddrV4
  pub taken : r ≡ TakesSubscribe peer head (Some endpoint)
  pub accepted : nack_cause (rules_for head t) (subscribe_in peer head (Some endpoint)) (live_subscribers t) ≡ None
  pub is : s ≡ subscription_at (subscribe_in peer head (Some endpoint)) endpoint
  pub lasts : ttl ≡ head.ttl

-- an instance published its event, to all or to one endpoint
abbrev pub IsPublication : Rule → Tables → EventId → Type 0
IsPublication r t event =
    (instance : InstanceId) × (service : OfferedService) × (number : ℕ) × (payload : List ℕ) × (offered_as t.config instance ≡ Some service)
    × (event ≡ event_of service.rules number)
    × ((r ≡ Publishes instance number payload) ⊎ ((endpoint : SocketAddrV4) × (r ≡ PublishesTo instance endpoint number payload)))

-- by which rules an item is met, and what it then says of the tables before
abbrev pub IsMet : Item → Rule → Tables → Type 0
IsMet (items.Ticked ms) r t = r ≡ Ticks ms
IsMet (items.SegmentOffered o) r t = r ≡ TakesSegment o
IsMet (items.MessageTaken key) r t =
    (o : SegmentOffer) × (r ≡ TakesSegment o) × (judgement (limits_of t.config) t.clock o t.parts ≡ Ok Whole) × (key ≡ o.key)
IsMet (items.PeerRebooted peer) r t = IsRebootBy r t peer
IsMet (items.PeerHeard peer channel stamp) r t = r ≡ Hears peer channel stamp
IsMet (items.OfferCounted o endpoint) r t = (r ≡ TakesOffer o) × (uncounted o t.clock t.seek ≡ None) × (o.endpoint ≡ Some endpoint)
IsMet (items.OfferWithdrawn instance) r t =
    (major : ℕ) × (peer : Ipv4Addr) × (r ≡ TakesStopOffer instance major peer) × IsTrue (is_stopped instance major peer t.clock t.seek)
IsMet (items.SubscriptionAccepted s ttl) r t = IsSubscribedBy r t s ttl
IsMet (items.SubscriptionStopped s) r t =
    (peer : Ipv4Addr) × (head : EventgroupEntry) × (endpoint : SocketAddrV4) × (r ≡ TakesStopSubscribe peer head (Some endpoint))
    × (s ≡ subscription_at (subscribe_in peer head None) endpoint)
IsMet (items.AckCame answer ttl) r t =
    (peer : Ipv4Addr) × (head : EventgroupEntry) × (r ≡ TakesAck peer head) × (answer ≡ answer_in peer head t) × (ttl ≡ head.ttl)
IsMet (items.NackCame answer) r t = (peer : Ipv4Addr) × (head : EventgroupEntry) × (r ≡ TakesNack peer head) × (answer ≡ answer_in peer head t)
IsMet items.GroupAddressed r t = (entries : List EntryValue) × (r ≡ Announces entries)
IsMet (items.PeerAddressed peer) r t = (entries : List EntryValue) × (r ≡ RepliesTo peer entries)
IsMet (items.Called call peer session) r t = IsCalledBy r t call peer session
IsMet (items.AnswerTaken key) r t =
    (from : SocketAddrV4) × (header : Header) × (payload : List ℕ) × (r ≡ TakesAnswer from header payload)
    × (answer_drop t.config.client_id from header (waiting_calls t) ≡ None) × (key ≡ answered_call header)
IsMet (items.Requested request) r t = IsRequestedBy r t request
IsMet (items.Answered token) r t =
    (reply : Reply) × (payload : List ℕ) × (request : Asked) × (r ≡ Answers token reply payload)
    × (finite.get t.server.requests token ≡ Some request)
IsMet (items.Published event) r t = IsPublication r t event
IsMet (items.Wished eventgroup) r t = r ≡ Wishes eventgroup
IsMet (items.Unwished eventgroup) r t = (beginning : Option Beginning) × (r ≡ TakesBack eventgroup beginning)
IsMet (items.OfferStopped instance) r t = r ≡ Stops instance

-- this was met in a step, by a rule that was done in it
abbrev pub MetBy : History → Input → Item → Type 0
MetBy h input item = WasDone h input (IsMet item)
