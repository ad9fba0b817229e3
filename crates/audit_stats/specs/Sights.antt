-- What a message is to the figures.
use Rattle.std.specs.Prelude.{ℕ, ◌==◌, Bool, true, false, not, List, length, Option, None, Some, Result, Ok, Err, if◌then◌else◌}
use Rattle.std.specs.declared.net.socket_addr.SocketAddrV4.{SocketAddrV4}
use Rattle.someip_wire.specs.declared.header.Header.{Header}
use Rattle.someip_wire.specs.declared.header.MessageType.{MessageType}
use Rattle.someip_wire.specs.declared.header.MessageType.TheVariants.{Request, RequestNoReturn, Notification, Response, Error}
use Rattle.someip_wire.specs.Kinds.{has_tp_flag, without_tp_flag}
use Rattle.someip_wire.specs.Spelling.{MessageValue}
use Rattle.someip_reassembly.specs.declared.error.TpError.{TpError as Refusal}
use Rattle.someip_reassembly.specs.TpHeader.{segment_in}
use Rattle.audit_stats.specs.declared.keys.Call.{Call}
use Rattle.audit_stats.specs.declared.keys.Flow.{Flow}
use Rattle.audit_stats.specs.declared.sight.Load.{Load}
use Rattle.audit_stats.specs.declared.sight.Sight.{Sight}
use Rattle.audit_stats.specs.declared.sight.Sight.TheVariants as sights

-- what a segment brings: the bytes after its TP header. Its message ends where no more segments follow
abbrev pub load_of_segment : Result (ℕ × Bool × List ℕ) Refusal → Option Load
load_of_segment (Ok s) = Some (record { bytes = length s.2; ends = not s.1 })
load_of_segment (Err e) = None

-- what comes of a message: all of it, or a segment, if that has room for a TP header
abbrev pub load_of : MessageValue → Option Load
load_of m = if has_tp_flag m.header.kind then load_of_segment (segment_in m.payload) else Some (record { bytes = length m.payload; ends = true })

-- the flow of a header, from one endpoint to another
abbrev pub flow_of : SocketAddrV4 → SocketAddrV4 → Header → Flow
flow_of from to h = record { service = h.service; method = h.method; from = from; to = to }

-- the call of a header, from the endpoint that calls to the one that is called
abbrev pub call_of : SocketAddrV4 → SocketAddrV4 → Header → Call
call_of from to h = record { flow = flow_of from to h; client = h.client; session = h.session }

-- what a whole message is, or the last segment of one. An answer is an error by its type, or by a return code that is not E_OK
abbrev pub sight_of_whole : SocketAddrV4 → SocketAddrV4 → Header → MessageType → Sight
sight_of_whole from to h Request = sights.Called (call_of from to h) true
sight_of_whole from to h RequestNoReturn = sights.Called (call_of from to h) false
sight_of_whole from to h Response = sights.Answered (call_of to from h) (not (h.code.0 == 0))
sight_of_whole from to h Error = sights.Answered (call_of to from h) true
sight_of_whole from to h other = sights.Nothing

-- what a message is, by what comes of it: of an event each segment brings bytes, and of other messages the last one counts
abbrev pub sight_of_load : SocketAddrV4 → SocketAddrV4 → Header → MessageType → Option Load → Sight
sight_of_load from to h kind None = sights.Nothing
sight_of_load from to h Notification (Some load) = sights.Event (flow_of from to h) load
sight_of_load from to h kind (Some load) = if load.ends then sight_of_whole from to h kind else sights.Nothing

-- what a message from one endpoint to another is
abbrev pub sight_of : SocketAddrV4 → SocketAddrV4 → MessageValue → Sight
sight_of from to m = sight_of_load from to m.header (without_tp_flag m.header.kind) (load_of m)
