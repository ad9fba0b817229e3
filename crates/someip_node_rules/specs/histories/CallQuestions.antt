-- The questions of calls, requests and events: sessions, tokens, and what waits for its answer.
use Rattle.std.specs.Prelude.{ℕ, ◌+◌, if◌then◌else◌, List, [], ◌∷◌, filter, length, Option, None, Some}
use Rattle.std.specs.List.{flat_map}
use Rattle.std.specs.Ordering.{eq_by_cmp, nat_cmp}
use Rattle.std.specs.declared.net.socket_addr.SocketAddrV4.{SocketAddrV4}
use Rattle.someip_tables.specs.declared.deadline.Deadline.TheVariants.{At}
use Rattle.someip_tables.specs.declared.lasting.Lasting.{Lasting}
use Rattle.someip_tables.specs.Lastings.{unless_passed}
use Rattle.someip_rpc.specs.declared.call.Awaited.{Awaited}
use Rattle.someip_rpc.specs.declared.call.Call.{Call}
use Rattle.someip_rpc.specs.declared.call.CallKind.{CallKind}
use Rattle.someip_rpc.specs.declared.call.CallKind.TheVariants.{Request, RequestNoReturn}
use Rattle.someip_rpc.specs.declared.ids.CallKey.{CallKey}
use Rattle.someip_rpc.specs.declared.ids.EventId.{EventId}
use Rattle.someip_rpc.specs.declared.ids.MessageId.{MessageId}
use Rattle.someip_rpc.specs.declared.request.Asked.{Asked}
use Rattle.someip_rpc.specs.Calls.{Client, Pending}
use Rattle.someip_rpc.specs.Ids.{call_cmp, event_cmp, message_cmp}
use Rattle.someip_rpc.specs.Requests.{OpenRequests}
use Rattle.someip_rpc.specs.Servers.{EventSessions, Server}
use Rattle.someip_rpc.specs.Sessions.{LastSessions, session_after}
use Rattle.someip_node_rules.specs.declared.config.Config.{Config}
use Rattle.someip_node_rules.specs.histories.Items.{Item, AnswerTaken, Answered, Called, Published, Requested}
use Rattle.someip_node_rules.specs.histories.Questions.{clock_at, latest, table_of}

-- ---- calls

-- a call with its session
abbrev pub call_key : Call → ℕ → CallKey
call_key call session = record { message = call.message; session = session }

-- what a call waits for, from a moment on: the answer of its peer in its major version, as long as a call may wait
abbrev pub awaited_from : Config → Call → SocketAddrV4 → ℕ → Lasting Awaited
awaited_from config call peer now = record {
  value = record { peer = peer; interface = call.interface };
  until = At (now + config.common.call_timeout_ms);
}

-- the call that waits for an answer, if it does: one without a return does not
abbrev pub waiting_call : CallKind → CallKey → List CallKey
waiting_call Request key = key ∷ []
waiting_call RequestNoReturn key = []

abbrev pub call_made : Item → List CallKey
call_made (Called call peer session) = waiting_call call.kind (call_key call session)
call_made item = []

-- one with a return decides its key
abbrev pub called_by : CallKind → CallKey → Lasting Awaited → CallKey → Option (Lasting Awaited) → Option (Lasting Awaited)
called_by Request key awaited q stood = if eq_by_cmp call_cmp q key then Some awaited else stood
called_by RequestNoReturn key awaited q stood = stood

-- What a call waits for, and until when: it was made, and its answer was not taken since. The time may have passed
abbrev pub awaited_by : Config → Item → List Item → CallKey → Option (Lasting Awaited) → Option (Lasting Awaited)
awaited_by config (Called call peer session) before q stood =
    called_by call.kind (call_key call session) (awaited_from config call peer (clock_at before)) q stood
awaited_by config (AnswerTaken key) before q stood = if eq_by_cmp call_cmp q key then None else stood
awaited_by config item before q stood = stood

abbrev pub awaited_at : Config → List Item → CallKey → Option (Lasting Awaited)
awaited_at config = latest (awaited_by config) (λ _. None)

-- the calls that wait at a moment
abbrev pub pending_in : Config → ℕ → List Item → Pending
pending_in config now items = table_of (flat_map call_made items) (λ key. unless_passed now (awaited_at config items key))

-- the Message ID that a session was given of
abbrev pub message_called : Item → List MessageId
message_called (Called call peer session) = call.message ∷ []
message_called item = []

-- the session that a Message ID was given last
abbrev pub session_by : Item → List Item → MessageId → Option ℕ → Option ℕ
session_by (Called call peer session) before q stood = if eq_by_cmp message_cmp q call.message then Some session else stood
session_by item before q stood = stood

abbrev pub last_session_at : List Item → MessageId → Option ℕ
last_session_at = latest session_by (λ _. None)

abbrev pub call_sessions_in : List Item → LastSessions
call_sessions_in items = table_of (flat_map message_called items) (last_session_at items)

abbrev pub client_in : Config → List Item → Client
client_in config items = record { pending = pending_in config (clock_at items) items; sessions = call_sessions_in items }

-- ---- requests

-- a request was handed up
abbrev pub request_met : Item → List Asked
request_met (Requested request) = request ∷ []
request_met item = []

-- tokens count the requests that were handed up, from 1 on
abbrev pub next_token : List Item → ℕ
next_token items = length (flat_map request_met items) + 1

abbrev pub token_given : Item → List Item → List ℕ → List ℕ
token_given (Requested request) before tokens = next_token before ∷ tokens
token_given item before tokens = tokens

abbrev pub tokens_in : List Item → List ℕ
tokens_in [] = []
tokens_in (item ∷ before) = token_given item before (tokens_in before)

-- the request of a token: it was handed up under it, and was not answered since
abbrev pub open_request_by : Item → List Item → ℕ → Option Asked → Option Asked
open_request_by (Requested request) before q stood = if eq_by_cmp nat_cmp q (next_token before) then Some request else stood
open_request_by (Answered token) before q stood = if eq_by_cmp nat_cmp q token then None else stood
open_request_by item before q stood = stood

abbrev pub open_request_at : List Item → ℕ → Option Asked
open_request_at = latest open_request_by (λ _. None)

abbrev pub requests_in : List Item → OpenRequests
requests_in items = table_of (tokens_in items) (open_request_at items)

-- ---- events

abbrev pub event_published : Item → List EventId
event_published (Published event) = event ∷ []
event_published item = []

-- how often an event was published
abbrev pub times_published : List Item → EventId → ℕ
times_published items event = length (filter (eq_by_cmp event_cmp event) (flat_map event_published items))

-- the session that each event was given last: the first is 1, and each time the next one
abbrev pub event_sessions_in : List Item → EventSessions
event_sessions_in items = table_of (flat_map event_published items) (λ event. Some (session_after (times_published items event) 0))

abbrev pub server_in : List Item → Server
server_in items = record { requests = requests_in items; next = next_token items; sessions = event_sessions_in items }
