-- What a message that is sent says of the rule that gave it, and of what the node met before.
use Rattle.std.specs.Prelude.{◌≡◌, ℕ, List, [], Some}
use Rattle.std.specs.List.{Contains}
use Rattle.std.specs.FinMap as finite
use Rattle.std.specs.declared.net.socket_addr.SocketAddrV4.{SocketAddrV4}
use Rattle.someip_wire.specs.declared.header.Header.{Header}
use Rattle.someip_wire.specs.declared.header.MessageType.TheVariants as kinds
use Rattle.someip_wire.specs.Spelling.{MessageValue}
use Rattle.sd_wire.specs.contents.Values.{EntryValue}
use Rattle.sd_session.specs.declared.stamp.Stamp.{Stamp}
use Rattle.sd_core.specs.declared.keys.InstanceId.{InstanceId}
use Rattle.sd_core.specs.SubscriberTables.{endpoints_of}
use Rattle.someip_rpc.specs.declared.call.CallKind.{CallKind}
use Rattle.someip_rpc.specs.declared.request.Asked.{Asked}
use Rattle.someip_rpc.specs.declared.request.Reply.{Reply}
use Rattle.someip_rpc.specs.declared.request.RequestFault.{RequestFault}
use Rattle.someip_rpc.specs.Calls.{call_header}
use Rattle.someip_rpc.specs.Requests.{answer_header, asked, fault_code, request_fault}
use Rattle.someip_rpc.specs.Servers.{code_of_reply, kind_of_reply}
use Rattle.someip_node_rules.specs.declared.config.OfferedService.{OfferedService}
use Rattle.someip_node_rules.specs.rules.Calling.{call_of, session_of}
use Rattle.someip_node_rules.specs.rules.Publishing.{event_message, eventgroups_of}
use Rattle.someip_node_rules.specs.rules.Plans.{Rule, Announces, Answers, Calls, Publishes, PublishesTo, RepliesTo, TakesRequest}
use Rattle.someip_node_rules.specs.forms.Setups.{client_endpoint, discovery_endpoint, discovery_port, group_endpoint, offered_as}
use Rattle.someip_node_rules.specs.histories.Tables.{Tables, is_up, known_endpoint, live_subscribers, stamp_for}

-- a call goes from the client to the endpoint of the known offer, with the next session
pub record IsCallTo (kind : CallKind) (instance : InstanceId) (method : ℕ) (payload : List ℕ) (t : Tables) (from to : SocketAddrV4) (m : MessageValue) : Type 0 where
  pub known : known_endpoint t instance ≡ Some to
  pub from_client : from ≡ client_endpoint t.config
  pub is :
      m ≡ record {
        header = call_header t.config.client_id (call_of kind instance method t) (session_of (call_of kind instance method t) t);
        payload = payload;
      }

-- an answer goes from the instance of the request to where that came from, with its IDs
pub record IsAnswerTo (token : ℕ) (reply : Reply) (payload : List ℕ) (t : Tables) (from to : SocketAddrV4) (m : MessageValue) : Type 0 where
  pub request : Asked
  pub waits : finite.get t.server.requests token ≡ Some request
  pub from_instance : from ≡ request.endpoint
  pub back : to ≡ request.peer
  pub is : m ≡ record { header = answer_header request (kind_of_reply reply) (code_of_reply reply); payload = payload }

-- an ERROR answers a REQUEST that fails a check, and tells the first one
pub record IsErrorTo (instance : InstanceId) (peer : SocketAddrV4) (header : Header) (t : Tables) (from to : SocketAddrV4) (m : MessageValue) : Type 0 where
  pub service : OfferedService
  pub offered : offered_as t.config instance ≡ Some service
  pub fault : RequestFault
  pub kind : header.kind ≡ kinds.Request
  pub fails : request_fault service.rules (is_up t instance) header t.server.requests t.server.next ≡ Some fault
  pub from_instance : from ≡ service.rules.endpoint
  pub back : to ≡ peer
  pub is : m ≡ record { header = answer_header (asked service.rules peer header) kinds.Error (fault_code fault); payload = [] }

-- an event goes from its instance to an endpoint, with the next session of the event
pub record IsEventTo (instance : InstanceId) (event : ℕ) (payload : List ℕ) (ToIs : OfferedService → Type 0) (t : Tables) (from : SocketAddrV4) (m : MessageValue) : Type 0 where
  pub service : OfferedService
  pub offered : offered_as t.config instance ≡ Some service
  pub from_instance : from ≡ service.rules.endpoint
  pub to_is : ToIs service
  pub is : m ≡ event_message service event payload t

-- which rules send a message, and what it is then
abbrev pub IsSent : Rule → Tables → SocketAddrV4 → SocketAddrV4 → MessageValue → Type 0
IsSent (Calls kind instance method payload) t from to m = IsCallTo kind instance method payload t from to m
IsSent (Answers token reply payload) t from to m = IsAnswerTo token reply payload t from to m
IsSent (TakesRequest instance peer header payload) t from to m = IsErrorTo instance peer header t from to m
IsSent (Publishes instance event payload) t from to m =
    IsEventTo instance event payload (λ service. Contains (endpoints_of instance (eventgroups_of service event) (live_subscribers t)) to) t from m
IsSent (PublishesTo instance endpoint event payload) t from to m = IsEventTo instance event payload (λ service. to ≡ endpoint) t from m
IsSent r t from to m = ⊥

-- which rules send a message of Service Discovery, and what it is then
abbrev pub IsAnnounced : Rule → Tables → SocketAddrV4 → SocketAddrV4 → Stamp → List EntryValue → Type 0
IsAnnounced (Announces own) t from to stamp entries =
    (from ≡ discovery_endpoint t.config) × (to ≡ group_endpoint t.config) × (stamp ≡ t.multicast) × (entries ≡ own)
IsAnnounced (RepliesTo peer own) t from to stamp entries =
    (from ≡ discovery_endpoint t.config) × (to ≡ record { ip = peer; port = discovery_port }) × (stamp ≡ stamp_for t.unicast peer) × (entries ≡ own)
IsAnnounced r t from to stamp entries = ⊥
