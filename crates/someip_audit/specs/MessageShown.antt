-- What a message that is none of Service Discovery shows over all books.
use Rattle.std.specs.Prelude.{ℕ, nat_lt, max, Bool, ◌&&◌, ◌||◌, not, ◌==◌, if◌then◌else◌, List, slice_index, length, Option, None, Some, option_map, Result, Ok, Err, true, false}
use Rattle.std.specs.Net.Addr.{ipv4_octets}
use Rattle.std.specs.Net.Socket.{v4_ip}
use Rattle.std.specs.declared.net.socket_addr.SocketAddrV4.{SocketAddrV4}
use Rattle.someip_wire.specs.declared.header.Header.{Header}
use Rattle.someip_wire.specs.declared.header.MessageType.{MessageType}
use Rattle.someip_wire.specs.declared.header.MessageType.TheVariants as kinds
use Rattle.someip_wire.specs.Discovery.{is_notification}
use Rattle.someip_wire.specs.Kinds.{has_tp_flag}
use Rattle.someip_wire.specs.Spelling.{MessageValue}
use Rattle.someip_reassembly.specs.declared.error.TpError.{TpError}
use Rattle.someip_tables.specs.declared.hashed.origin.Origin.{Origin}
use Rattle.audit_traffic.specs.calls.CallBooks as calls
use Rattle.audit_traffic.specs.calls.CallFindings.{is_answer_type, is_request_type}
use Rattle.audit_traffic.specs.calls.Tapped.{Tapped}
use Rattle.audit_traffic.specs.segments.SegmentBooks as segments
use Rattle.audit_sd.specs.declared.receivers.delivery.Delivery.{Delivery}
use Rattle.audit_sd.specs.receivers.ReceiverTables as receivers
use Rattle.audit_sd.specs.declared.servers.message.ServerMessage.{ServerMessage}
use Rattle.audit_sd.specs.servers.ServerTables as servers
use Rattle.audit_traffic.specs.declared.events.flow.EventFlow.{EventFlow}
use Rattle.audit_traffic.specs.declared.events.notification.Notification.{Notification as EventSeen}
use Rattle.audit_traffic.specs.sequence.Sequences as events
use Rattle.audit_traffic.specs.declared.cycles.finding.Finding.{Finding as CycleFinding}
use Rattle.audit_traffic.specs.cycles.CycleTables as cycles
use Rattle.audit_traffic.specs.declared.ways.finding.Finding.{Finding as WayFinding}
use Rattle.audit_traffic.specs.declared.ways.way.Way.{Way}
use Rattle.audit_traffic.specs.ways.WayTables as ways
use Rattle.someip_audit.specs.declared.finding.Finding.{Finding}
use Rattle.someip_audit.specs.declared.finding.Finding.TheVariants as findings
use Rattle.someip_audit.specs.AnswerTimes.{answer_ms_of, cycle_ms_of}
use Rattle.someip_audit.specs.BooksHeld.{Held}
use Rattle.someip_audit.specs.SdEntries.{server_key}
use Rattle.someip_audit.specs.SdShown.{Work, with_told}
use Rattle.audit_endpoints.specs.DiscoveryMessages.{is_at_discovery}

-- ---- a whole message

-- a message with this header and payload, as it was seen, and how long an answer to it or to its call may take
abbrev pub tapped_in : ℕ → ℕ → Origin → Header → List ℕ → Tapped
tapped_in now answer_ms origin header payload = record { now = now; answer_ms = answer_ms; numbers = origin.numbers; from = origin.from; to = origin.to; header = header; payload = payload }

-- what it shows of calls
abbrev pub call_shown : ℕ → Origin → Header → List ℕ → Work → Work
call_shown now origin header payload work = record {
  held = record work.held { calls = calls.book_after (tapped_in now (answer_ms_of work.held.times header.service header.method) origin header payload) work.held.calls };
  told = with_told (option_map (findings.Call header) (calls.told (tapped_in now (answer_ms_of work.held.times header.service header.method) origin header payload) work.held.calls)) work.told;
}

-- a message is an answer with another return code than E_OK
abbrev pub is_error : Header → Bool
is_error header = is_answer_type header.kind && not (header.code.0 == 0)

-- what it shows by its return code
abbrev pub told_of_code : Header → Option Finding
told_of_code header = if is_error header then Some (findings.Error header) else None

abbrev pub code_shown : Header → Work → Work
code_shown header work = record work { told = with_told (told_of_code header) work.told }

-- a message of this type goes to the server at its destination, and any other comes from the one at its source
abbrev pub goes_to_server : MessageType → Bool
goes_to_server kinds.Request = true
goes_to_server kinds.RequestNoReturn = true
goes_to_server kinds.TpRequest = true
goes_to_server kinds.TpRequestNoReturn = true
goes_to_server _ = false

abbrev pub server_end : Origin → Header → SocketAddrV4
server_end origin header = if goes_to_server header.kind then origin.to else origin.from

abbrev pub is_request : MessageType → Bool
is_request kinds.Request = true
is_request _ = false

-- a message, as far as its server goes
abbrev pub server_message : Origin → Header → ServerMessage
server_message origin header =
    record { server = server_key header.service (server_end origin header); interface = header.interface; is_request = is_request header.kind }

-- what it shows of its server
abbrev pub judged_shown : ℕ → Origin → Header → Work → Work
judged_shown now origin header work = record {
  held = record work.held { servers = servers.after_message now (server_message origin header) work.held.servers };
  told = with_told (option_map (findings.Server header) (servers.told_by now (server_message origin header) work.held.servers)) work.told;
}

-- an endpoint is of one node: its address is none of a group or of all, which begin with 224 and more
abbrev pub is_unicast : SocketAddrV4 → Bool
is_unicast endpoint = nat_lt (slice_index (ipv4_octets (v4_ip endpoint)) 0) 224

-- a message is an event to one endpoint
abbrev pub is_event : Origin → Header → Bool
is_event origin header = is_notification header.kind && is_unicast origin.to

-- the event that it is
abbrev pub delivery : Origin → Header → Delivery
delivery origin header = record { server = v4_ip origin.from; service = header.service; event = header.method; endpoint = origin.to }

-- what it shows of those who are subscribed
abbrev pub event_shown : ℕ → Origin → Header → Work → Work
event_shown now origin header work =
    if is_event origin header
    then record {
      held = record work.held { receivers = receivers.after_event now (delivery origin header) work.held.receivers };
      told = with_told (option_map (findings.Event (delivery origin header)) (receivers.told_of_event now (delivery origin header) work.held.receivers)) work.told;
    }
    else work

-- a notification to one endpoint or to a group, as far as its session goes
abbrev pub event_flow : Origin → Header → EventFlow
event_flow origin header = record { sender = origin.from; service = header.service; event = header.method; receiver = origin.to }

abbrev pub event_seen : Origin → Header → EventSeen
event_seen origin header = record { flow = event_flow origin header; session = header.session }

-- what it shows by its session
abbrev pub flow_shown : ℕ → Origin → Header → Work → Work
flow_shown now origin header work =
    if is_notification header.kind
    then record {
      held = record work.held { events = events.after_event now origin.numbers (event_seen origin header) work.held.events };
      told = with_told (option_map (findings.EventSession (event_flow origin header) header.session) (events.told_by origin.numbers (event_seen origin header) work.held.events)) work.told;
    }
    else work

-- that the book of cycles is full is told
abbrev pub told_of_cycle : Option CycleFinding → Option Finding
told_of_cycle None = None
told_of_cycle (Some shown) = Some findings.CyclesFull

-- an event with this cycle is watched from now on
abbrev pub watch_shown : ℕ → Origin → EventFlow → Option ℕ → Work → Work
watch_shown now origin flow None work = work
watch_shown now origin flow (Some cycle_ms) work = record {
  held = record work.held { cycles = cycles.after_event now flow cycle_ms origin.numbers work.held.cycles };
  told = with_told (told_of_cycle (cycles.told_by flow work.held.cycles)) work.told;
}

-- how often an event comes to one endpoint is judged where that is subscribed
abbrev pub cycle_shown : ℕ → Origin → Header → Work → Work
cycle_shown now origin header work =
    if is_event origin header && receivers.is_subscribed (delivery origin header) work.held.receivers.standing
    then watch_shown now origin (event_flow origin header) (cycle_ms_of work.held.times header.service header.method) work
    else work

-- what it shows of its server, then of those who are subscribed to its event, by the event's session, and by how often it comes
abbrev pub rest_shown : ℕ → Origin → Header → Work → Work
rest_shown now origin header work = cycle_shown now origin header (flow_shown now origin header (event_shown now origin header (judged_shown now origin header work)))

-- what it shows of calls, then by its return code, and then the rest
abbrev pub whole_shown : ℕ → Origin → Header → List ℕ → Work → Work
whole_shown now origin header payload work = rest_shown now origin header (code_shown header (call_shown now origin header payload work))

-- a message wants an answer or is one: a REQUEST, a RESPONSE or an ERROR
abbrev pub is_of_call : Header → Bool
is_of_call header = is_request_type header.kind || is_answer_type header.kind

-- the way that it went
abbrev pub way_of : Origin → Way
way_of origin = record { from = origin.from; to = origin.to }

-- that the book of ways is full is told
abbrev pub told_of_way : Option WayFinding → Option Finding
told_of_way None = None
told_of_way (Some shown) = Some findings.WaysFull

-- it is counted on its way
abbrev pub way_shown : Origin → Header → Work → Work
way_shown origin header work =
    if is_of_call header
    then record { held = record work.held { ways = ways.after_message (way_of origin) work.held.ways }; told = with_told (told_of_way (ways.told_by (way_of origin) work.held.ways)) work.told }
    else work

-- a whole message comes: what it shows, and then it is counted on its way
unfoldable pub whole_taken : ℕ → Origin → Header → List ℕ → Work → Work
whole_taken now origin header payload work = way_shown origin header (whole_shown now origin header payload work)

-- ---- a segment

-- what follows from what is told of a segment: its message, if it is whole
abbrev pub segment_told : ℕ → Origin → Header → Option (Result MessageValue TpError) → Work → Work
segment_told now origin header None work = work
segment_told now origin header (Some (Ok message)) work = whole_taken now origin message.header message.payload work
segment_told now origin header (Some (Err refusal)) work = record work { told = with_told (Some (findings.Segment header refusal)) work.told }

-- the books once it came
abbrev pub segment_held : ℕ → Origin → MessageValue → Held → Held
segment_held now origin message held =
    record held { segments = segments.book_after (segments.segment_of origin.from origin.to message) (max held.segments.latest now) origin.numbers held.segments }

abbrev pub piece_shown : ℕ → Origin → MessageValue → Work → Work
piece_shown now origin message work =
    segment_told now origin message.header
    (segments.told_of message.header (segments.segment_of origin.from origin.to message) (max work.held.segments.latest now) work.held.segments)
    (record work { held = segment_held now origin message work.held })

-- a payload has no room for the TP header of a segment
abbrev pub has_no_tp_header : List ℕ → Bool
has_no_tp_header payload = nat_lt (length payload) 4

-- that a segment whose payload begins at this place has no TP header is told
abbrev pub segment_shown : ℕ → Origin → ℕ → MessageValue → Work → Work
segment_shown now origin place message work =
    if has_no_tp_header message.payload then record work { told = with_told (Some (findings.NoTpHeader place)) work.told }
    else piece_shown now origin message work

-- ---- a message

-- a segment from or to the port of Service Discovery shows nothing: there messages are not put together
abbrev pub segment_at : ℕ → Origin → ℕ → MessageValue → Work → Work
segment_at now origin place message work = if is_at_discovery origin then work else segment_shown now origin place message work

-- one with the TP flag is a segment, and any other is whole; its payload begins at this place
abbrev pub message_shown : ℕ → Origin → ℕ → MessageValue → Work → Work
message_shown now origin place message work =
    if has_tp_flag message.header.kind then segment_at now origin place message work
    else whole_taken now origin message.header message.payload work
