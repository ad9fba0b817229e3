-- The rules of messages that come to an instance, or to the client (SOME/IP Protocol, "Request/Response Communication",
-- "Fire&Forget Communication", "Notification Events", "Error Handling").
use Rattle.std.specs.Prelude.{ℕ, ◌==◌, Bool, false, ◌&&◌, List, [], ◌∷◌, find, Option, None, Some, Result, Ok, Err}
use Rattle.std.specs.List.{list_any}
use Rattle.std.specs.Option.{option_map, option_map_or}
use Rattle.std.specs.BTreeSet.{BTreeSet}
use Rattle.std.specs.Ordering.{eq_by_cmp, nat_cmp}
use Rattle.std.specs.FinMap as finite
use Rattle.std.specs.BTreeSet.{contains}
use Rattle.std.specs.declared.net.socket_addr.SocketAddrV4.{SocketAddrV4}
use Rattle.someip_wire.specs.declared.header.Header.{Header}
use Rattle.someip_wire.specs.declared.header.MessageType.{MessageType}
use Rattle.someip_wire.specs.declared.header.MessageType.TheVariants as kinds
use Rattle.someip_tables.specs.Endpoints.{endpoint_cmp}
use Rattle.someip_reassembly.specs.declared.error.TpError.{TpError}
use Rattle.someip_reassembly.specs.declared.reassembly.Offered.{Offered}
use Rattle.someip_reassembly.specs.declared.reassembly.Offered.TheVariants.{Part, Whole}
use Rattle.someip_reassembly.specs.SegmentOffers.{SegmentOffer, judgement, message_at, parts_after}
use Rattle.sd_core.specs.declared.keys.InstanceId.{InstanceId}
use Rattle.sd_core.specs.Wishes.{is_subscribed, wish_of}
use Rattle.someip_rpc.specs.declared.error.DropCause.{DropCause}
use Rattle.someip_rpc.specs.declared.request.RequestFault.{RequestFault}
use Rattle.someip_rpc.specs.declared.request.RequestFault.TheVariants.{WrongType}
use Rattle.someip_rpc.specs.declared.service.ServiceRules.{ServiceRules}
use Rattle.someip_rpc.specs.Answers.{answer_drop, answered_call}
use Rattle.someip_rpc.specs.Requests.{answer_header, asked, fault_code, request_fault}
use Rattle.someip_node_rules.specs.declared.config.OfferedService.{OfferedService}
use Rattle.someip_node_rules.specs.declared.config.WantedService.{WantedService}
use Rattle.someip_node_rules.specs.declared.drops.DropReason.TheVariants.{Answer, NotSubscribed, Request as OfRequest, Tp}
use Rattle.someip_node_rules.specs.declared.output.Output.{Output}
use Rattle.someip_node_rules.specs.declared.output.Output.TheVariants.{Answered as AnswerOutput, Event, Request}
use Rattle.someip_node_rules.specs.histories.Items.{AnswerTaken, MessageTaken, Requested, SegmentOffered}
use Rattle.someip_node_rules.specs.rules.Outcomes.{Outcome, dropped, meets, nothing}
use Rattle.someip_node_rules.specs.forms.Outputs.{Sends}
use Rattle.someip_node_rules.specs.forms.Setups.{limits_of, offered_as}
use Rattle.someip_node_rules.specs.histories.Tables.{Tables, is_up, known_endpoint, waiting_calls}

-- ---- segments

-- the message that a segment made whole, by what the segment was judged to be
abbrev pub completed_by : Result Offered TpError → Option (List ℕ) → Option (List ℕ)
completed_by (Ok Whole) message = message
completed_by (Ok Part) message = None
completed_by (Err refusal) message = None

-- the message that a segment makes whole, if it does
abbrev pub completed : SegmentOffer → Tables → Option (List ℕ)
completed o t =
    completed_by (judgement (limits_of t.config) t.clock o t.parts) (message_at (parts_after (limits_of t.config) t.clock o t.parts) o.key)

-- a segment comes: it is refused, or kept; a message that it makes whole is taken
abbrev pub segment_by : SegmentOffer → Result Offered TpError → Outcome
segment_by o (Ok Part) = meets (SegmentOffered o ∷ []) []
segment_by o (Ok Whole) = meets (SegmentOffered o ∷ MessageTaken o.key ∷ []) []
segment_by o (Err refusal) = record (dropped (Tp refusal)) { items = SegmentOffered o ∷ [] }

-- a segment comes, and is judged by the parts that the node holds: it is kept, or dropped as reassembly refuses it
abbrev pub segment : SegmentOffer → Tables → Outcome
segment o t = segment_by o (judgement (limits_of t.config) t.clock o t.parts)

-- ---- requests

-- what is handed up of a request, with a token where it waits for its answer
abbrev pub handed_up : InstanceId → Option ℕ → Header → List ℕ → Output
handed_up instance token header payload = Request token instance header.method payload

-- a REQUEST is handed up with the next token, or answered by an ERROR that tells the first check that it fails
abbrev pub request_by : InstanceId → ServiceRules → SocketAddrV4 → Header → List ℕ → Option RequestFault → Tables → Outcome
request_by instance rules from header payload None t =
    meets (Requested (asked rules from header) ∷ []) (handed_up instance (Some t.server.next) header payload ∷ [])
request_by instance rules from header payload (Some fault) t = record {
  items = [];
  given = Sends rules.endpoint from (record { header = answer_header (asked rules from header) kinds.Error (fault_code fault); payload = [] }) ∷ [];
  replies = [];
}

-- a REQUEST_NO_RETURN is handed up, or dropped
abbrev pub oneway_by : InstanceId → Header → List ℕ → Option RequestFault → Outcome
oneway_by instance header payload None = meets [] (handed_up instance None header payload ∷ [])
oneway_by instance header payload (Some fault) = dropped (OfRequest fault)

-- by its type: what is no request is dropped
abbrev pub by_type : MessageType → Outcome → Outcome → Outcome
by_type kinds.Request as_request as_oneway = as_request
by_type kinds.RequestNoReturn as_request as_oneway = as_oneway
by_type _ as_request as_oneway = dropped (OfRequest WrongType)

-- a message comes to an instance with this set-up
abbrev pub request_to : InstanceId → OfferedService → SocketAddrV4 → Header → List ℕ → Tables → Outcome
request_to instance service from header payload t =
    let fault = request_fault service.rules (is_up t instance) header t.server.requests t.server.next in
    by_type header.kind (request_by instance service.rules from header payload fault t) (oneway_by instance header payload fault)

-- a message comes to an instance
abbrev pub request : InstanceId → SocketAddrV4 → Header → List ℕ → Tables → Outcome
request instance from header payload t = option_map_or (λ service. request_to instance service from header payload t) (offered_as t.config instance) nothing

-- ---- answers

-- a message that comes to the client answers a call, which waits no longer, or is dropped
abbrev pub answer_by : Header → List ℕ → Option DropCause → Outcome
answer_by header payload None =
    meets (AnswerTaken (answered_call header) ∷ []) (AnswerOutput (answered_call header).message header.session header.code payload ∷ [])
answer_by header payload (Some cause) = dropped (Answer cause)

-- a message that is no event comes to the client from an endpoint
abbrev pub answer : SocketAddrV4 → Header → List ℕ → Tables → Outcome
answer from header payload t = answer_by header payload (answer_drop t.config.client_id from header (waiting_calls t))

-- ---- events

-- the client is subscribed to an eventgroup of an instance that has the event, by its own set-up
abbrev pub is_subscribed_by : Tables → InstanceId → ℕ → ℕ × BTreeSet ℕ → Bool
is_subscribed_by t instance event eventgroup =
    contains nat_cmp eventgroup.1 event
    && is_subscribed t.clock (wish_of (finite.get t.wishes (record { instance = instance; id = eventgroup.0 }))).stage

-- an event of a wanted instance is one of an eventgroup that the client is subscribed to, by its own set-up
abbrev pub takes_event : Tables → InstanceId → WantedService → ℕ → Bool
takes_event t instance want event = list_any (is_subscribed_by t instance event) want.groups.entries

-- an event is one of an instance: it comes from the endpoint of the known offer, with the wanted major version, and
-- belongs to an eventgroup that the client is subscribed to
abbrev pub is_event_of : Tables → SocketAddrV4 → Header → InstanceId × WantedService → Bool
is_event_of t from header want =
    (want.0.service == header.service) && (want.1.major == header.interface)
    && option_map_or (λ endpoint. eq_by_cmp endpoint_cmp endpoint from) (known_endpoint t want.0) false
    && takes_event t want.0 want.1 header.method

-- the instance that an event is of: the first one, by rising instance
abbrev pub publisher : Tables → SocketAddrV4 → Header → Option InstanceId
publisher t from header = option_map (λ want. want.0) (find (is_event_of t from header) t.config.wants.entries)

-- an event is handed up with the instance that it is of, and dropped, `NotSubscribed`, where it is of none
abbrev pub event_by : Header → List ℕ → Option InstanceId → Outcome
event_by header payload None = dropped NotSubscribed
event_by header payload (Some instance) = meets [] (Event instance header.method payload ∷ [])

-- an event comes to the client from an endpoint
abbrev pub event : SocketAddrV4 → Header → List ℕ → Tables → Outcome
event from header payload t = event_by header payload (publisher t from header)
