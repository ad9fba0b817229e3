-- What a server core keeps, and its answers (SOME/IP Protocol, "Request/Response Communication").
use Rattle.std.specs.Prelude.{ℕ, ◌+◌, ◌==◌, nat_lt, Bool, false, if◌then◌else◌, Option, None, Some, refl}
use Rattle.std.specs.Coded.{Coded, code_by, coded×, coded_ℕ}
use Rattle.std.specs.FinMap as finite
use Rattle.std.specs.FinMap.{FinMap}
use Rattle.someip_wire.specs.declared.header.MessageType.{MessageType}
use Rattle.someip_wire.specs.declared.header.MessageType.TheVariants as kinds
use Rattle.someip_rpc.specs.declared.error.RpcError.{RpcError}
use Rattle.someip_rpc.specs.declared.error.RpcError.TheVariants.{UnknownToken, BadErrorCode, TooLong}
use Rattle.someip_rpc.specs.declared.request.Arrived.{Arrived}
use Rattle.someip_rpc.specs.declared.request.Arrived.TheVariants as arrived
use Rattle.someip_rpc.specs.declared.request.Asked.{Asked}
use Rattle.someip_rpc.specs.declared.request.Reply.{Reply}
use Rattle.someip_rpc.specs.declared.request.Reply.TheVariants.{Response, Error}
use Rattle.someip_rpc.specs.Ids.{event_cmp, coded_event}
use Rattle.someip_rpc.specs.Requests.{OpenRequests, coded_open}

-- the session that each event of an instance was given last
abbrev pub EventSessions : Type 0
EventSessions = FinMap event_cmp ℕ

-- what a server core keeps: the requests that wait for their answer, the number of the next token, and the sessions
pub record Server : Type 0 where
  pub requests : OpenRequests
  pub next : ℕ
  pub sessions : EventSessions

-- a server that was asked nothing: tokens and sessions begin at 1
abbrev pub unasked : Server
unasked = record { requests = finite.empty; next = 1; sessions = finite.empty }

-- a server once a message came: a REQUEST that is handed up waits under its token, and the next token is one above
abbrev pub after_arrival : Asked → Arrived → Server → Server
after_arrival request (arrived.Request token) old = record old { requests = finite.insert old.requests token request; next = token + 1 }
after_arrival request _ old = old

-- an error is told without one: an ERROR cannot have the code E_OK
abbrev pub is_bad_error : Reply → Bool
is_bad_error (Response code) = false
is_bad_error (Error code) = code.0 == 0

-- why an answer with a payload of so many bytes is refused: the first that holds
abbrev pub answer_refusal : ℕ → Reply → ℕ → Option Asked → Option RpcError
answer_refusal limit reply size None = Some UnknownToken
answer_refusal limit reply size (Some request) =
    if is_bad_error reply then Some BadErrorCode
    else if nat_lt limit size then Some TooLong
    else None

-- the type and the code of a reply
abbrev pub kind_of_reply : Reply → MessageType
kind_of_reply (Response code) = kinds.Response
kind_of_reply (Error code) = kinds.Error

abbrev pub code_of_reply : Reply → ℕ
code_of_reply (Response code) = code.0
code_of_reply (Error code) = code.0

-- codes, by which a proof tells values apart
abbrev pub coded_server : Coded Server
coded_server =
    code_by (OpenRequests × (ℕ × FinMap event_cmp ℕ)) (coded× coded_open (coded× coded_ℕ (finite.code coded_event coded_ℕ))) (λ s. (s.requests, (s.next, s.sessions)))
    (λ p. record { requests = p.0; next = p.1.0; sessions = p.1.1 }) (λ _. refl)
