-- The answers to a client's calls (SOME/IP Protocol, "Request/Response Communication", "Error Handling").
use Rattle.std.specs.Prelude.{ℕ, ◌==◌, Bool, true, false, not, ◌&&◌, if◌then◌else◌, Option, None, Some}
use Rattle.std.specs.FinMap as finite
use Rattle.std.specs.Ordering.{eq_by_cmp}
use Rattle.std.specs.declared.net.socket_addr.SocketAddrV4.{SocketAddrV4}
use Rattle.someip_wire.specs.declared.header.Header.{Header}
use Rattle.someip_wire.specs.declared.header.MessageType.{MessageType}
use Rattle.someip_wire.specs.declared.header.MessageType.TheVariants.{Response, Error}
use Rattle.someip_tables.specs.declared.lasting.Lasting.{Lasting}
use Rattle.someip_tables.specs.Endpoints.{endpoint_cmp}
use Rattle.someip_rpc.specs.declared.call.Awaited.{Awaited}
use Rattle.someip_rpc.specs.declared.error.DropCause.{DropCause}
use Rattle.someip_rpc.specs.declared.error.DropCause.TheVariants.{NotPending, WrongType}
use Rattle.someip_rpc.specs.declared.ids.CallKey.{CallKey}
use Rattle.someip_rpc.specs.Calls.{Pending}

-- the types of answers: RESPONSE and ERROR
abbrev pub is_answer_type : MessageType → Bool
is_answer_type Response = true
is_answer_type Error = true
is_answer_type _ = false

-- a code that an answer of this type may have: an ERROR tells one other than E_OK
abbrev pub may_have_code : MessageType → ℕ → Bool
may_have_code Response code = true
may_have_code Error code = not (code == 0)
may_have_code _ code = false

-- the call that a message answers, by its Message ID and session
abbrev pub answered_call : Header → CallKey
answered_call header = record { message = record { service = header.service; method = header.method }; session = header.session }

-- the answer is awaited from this endpoint and with this Interface Version
abbrev pub is_awaited : SocketAddrV4 → ℕ → Option (Lasting Awaited) → Bool
is_awaited from interface None = false
is_awaited from interface (Some lasting) = eq_by_cmp endpoint_cmp lasting.value.peer from && (lasting.value.interface == interface)

-- a message from an endpoint answers a call that waits: code, Client ID, Message ID, session, endpoint and Interface
-- Version all count
abbrev pub is_answer_to_a_call : ℕ → SocketAddrV4 → Header → Pending → Bool
is_answer_to_a_call client from header live =
    may_have_code header.kind header.code.0 && (header.client == client) && is_awaited from header.interface (finite.get live (answered_call header))

-- why a message that comes to a client's endpoint is dropped as an answer
abbrev pub answer_drop : ℕ → SocketAddrV4 → Header → Pending → Option DropCause
answer_drop client from header live =
    if not (is_answer_type header.kind) then Some WrongType
    else if is_answer_to_a_call client from header live then None
    else Some NotPending
