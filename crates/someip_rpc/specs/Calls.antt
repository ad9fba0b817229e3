-- The calls of a client (SOME/IP Protocol, "Request/Response Communication").
use Rattle.std.specs.Prelude.{◌≡◌, ℕ, ◌+◌, ◌<◌, nat_le, nat_lt, Bool, true, false, if◌then◌else◌, Option, None, Some, is_some, refl}
use Rattle.std.specs.Coded.{Coded, code_by, coded×, coded_ℕ}
use Rattle.std.specs.FinMap as finite
use Rattle.std.specs.FinMap.{FinMap}
use Rattle.std.specs.declared.net.socket_addr.SocketAddrV4.{SocketAddrV4}
use Rattle.someip_wire.specs.declared.header.Header.{Header}
use Rattle.someip_wire.specs.declared.header.MessageType.{MessageType}
use Rattle.someip_wire.specs.declared.header.MessageType.TheVariants as kinds
use Rattle.someip_tables.specs.declared.deadline.Deadline.TheVariants.{At}
use Rattle.someip_tables.specs.declared.lasting.Lasting.{Lasting}
use Rattle.someip_tables.specs.Endpoints.{coded_endpoint}
use Rattle.someip_tables.specs.Lastings.{coded_lasting, unexpired}
use Rattle.someip_rpc.specs.declared.call.Awaited.{Awaited}
use Rattle.someip_rpc.specs.declared.call.Call.{Call}
use Rattle.someip_rpc.specs.declared.call.CallKind.{CallKind}
use Rattle.someip_rpc.specs.declared.call.CallKind.TheVariants.{Request, RequestNoReturn}
use Rattle.someip_rpc.specs.declared.call.ClientRules.{ClientRules}
use Rattle.someip_rpc.specs.declared.error.RpcError.{RpcError}
use Rattle.someip_rpc.specs.declared.error.RpcError.TheVariants.{NotOffered, Busy, TooLong, OutOfMemory}
use Rattle.someip_rpc.specs.declared.ids.CallKey.{CallKey}
use Rattle.someip_rpc.specs.declared.ids.MessageId.{MessageId}
use Rattle.someip_rpc.specs.Ids.{call_cmp, coded_message, coded_call}
use Rattle.someip_rpc.specs.Sessions.{LastSessions, session_after}

-- the calls that wait for an answer, from whom, and until when
abbrev pub Pending : Type 0
Pending = FinMap call_cmp (Lasting Awaited)

-- what a client core keeps
pub record Client : Type 0 where
  pub pending : Pending
  pub sessions : LastSessions

-- a call waits for an answer
abbrev pub waits : CallKind → Bool
waits Request = true
waits RequestNoReturn = false

-- there is no room for a call that waits: 1024 do so already
abbrev pub is_full : CallKind → Pending → Bool
is_full Request live = nat_le 1024 (finite.len live)
is_full RequestNoReturn live = false

-- why a call with a payload of so many bytes is refused: the first that holds, by what waits now
abbrev pub call_refusal : ClientRules → CallKind → ℕ → Option SocketAddrV4 → Pending → Option RpcError
call_refusal rules kind size None live = Some NotOffered
call_refusal rules kind size (Some peer) live =
    if nat_lt rules.message_limit size then Some TooLong
    else if is_full kind live then Some Busy
    else None

-- the error of a call: why it is refused, and else only memory that ran out
abbrev pub or_memory : Option RpcError → RpcError
or_memory None = OutOfMemory
or_memory (Some refusal) = refusal

-- a session of a Message ID waits
abbrev pub is_pending : Pending → MessageId → ℕ → Bool
is_pending live message session = is_some (finite.get live (record { message = message; session = session }))

-- the first session, in cyclic order from one on, that does not wait
abbrev pub IsFirstFree : Pending → MessageId → ℕ → ℕ → Type 0
IsFirstFree live message first session =
    (n : ℕ) × (session ≡ session_after n first) × (is_pending live message session ≡ false)
    × ((k : ℕ) → k < n → is_pending live message (session_after k first) ≡ true)

-- the type of a call's message
abbrev pub kind_of_call : CallKind → MessageType
kind_of_call Request = kinds.Request
kind_of_call RequestNoReturn = kinds.RequestNoReturn

-- the header of a call's message: its code is E_OK
abbrev pub call_header : ℕ → Call → ℕ → Header
call_header client call session = record {
  service = call.message.service;
  method = call.message.method;
  client = client;
  session = session;
  interface = call.interface;
  kind = kind_of_call call.kind;
  code = record { 0 = 0 };
}

-- what waits once a call was sent: that call too, if it waits for an answer
abbrev pub pending_after : CallKind → CallKey → Awaited → ℕ → ℕ → Pending → Pending
pending_after Request key awaited until now pending = unexpired now (finite.insert pending key (record { value = awaited; until = At until }))
pending_after RequestNoReturn key awaited until now pending = pending

-- a client once a call was sent to a peer with a session
abbrev pub called : ClientRules → Call → SocketAddrV4 → ℕ → ℕ → Client → Client
called rules call peer session now old = record {
  pending =
      pending_after call.kind (record { message = call.message; session = session }) (record { peer = peer; interface = call.interface })
      (now + rules.call_timeout_ms) now old.pending;
  sessions = finite.insert old.sessions call.message session;
}

-- codes, by which a proof tells values apart
abbrev pub coded_awaited : Coded Awaited
coded_awaited = code_by (SocketAddrV4 × ℕ) (coded× coded_endpoint coded_ℕ) (λ a. (a.peer, a.interface)) (λ p. record { peer = p.0; interface = p.1 }) (λ _. refl)

abbrev pub coded_pending : Coded Pending
coded_pending = finite.code coded_call (coded_lasting coded_awaited)

abbrev pub coded_client : Coded Client
coded_client =
    code_by (Pending × LastSessions) (coded× coded_pending (finite.code coded_message coded_ℕ)) (λ c. (c.pending, c.sessions)) (λ p. record { pending = p.0; sessions = p.1 }) (λ _. refl)
