-- The messages of a recording.
use Rattle.std.specs.Prelude.{ℕ, ◌+◌, List, Option, None, Some}
use Rattle.std.specs.declared.net.socket_addr.SocketAddrV4.{SocketAddrV4}
use Rattle.someip_wire.specs.declared.header.Header.{Header}
use Rattle.someip_wire.specs.declared.header.MessageType.{MessageType}
use Rattle.someip_wire.specs.declared.header.MessageType.TheVariants.{Request, Response, Error}
use Rattle.someip_wire.specs.declared.message.Message.{Message}
use Rattle.someip_tables.specs.declared.hashed.origin.Numbers.{Numbers}
use Rattle.audit_traffic.specs.declared.calls.call.AuditedCall.{AuditedCall}
use Rattle.audit_traffic.specs.declared.calls.known.OpenCall.{OpenCall}
use Rattle.audit_traffic.specs.calls.AuditedCalls.{asked_call, answered_call}
use Rattle.audit_traffic.specs.calls.Excerpts.{excerpt_of}

-- a whole message, as it was seen: when, how long an answer to it or to its call may take, in which datagram, and between which
-- endpoints
pub record Tapped : Type 0 where
  pub now : ℕ
  pub answer_ms : ℕ
  pub numbers : Numbers
  pub from : SocketAddrV4
  pub to : SocketAddrV4
  pub header : Header
  pub payload : List ℕ

abbrev pub tapped : ℕ → ℕ → Numbers → SocketAddrV4 → SocketAddrV4 → Message → Tapped
tapped now answer_ms numbers from to message = record { now = now; answer_ms = answer_ms; numbers = numbers; from = from; to = to; header = message.header; payload = message.payload.now }

-- the call that a message opens, if it is a REQUEST
abbrev pub call_asked : Tapped → AuditedCall
call_asked message = asked_call message.from message.to message.header

-- the call that a message answers, if it is an answer
abbrev pub call_answered : Tapped → AuditedCall
call_answered message = answered_call message.from message.to message.header

-- the call that a message is about, if it is about one: a REQUEST about the one that it opens, and a RESPONSE or ERROR about
-- the one that it answers
abbrev pub call_by : MessageType → Tapped → Option AuditedCall
call_by Request message = Some (call_asked message)
call_by Response message = Some (call_answered message)
call_by Error message = Some (call_answered message)
call_by _ message = None

abbrev pub call_of : Tapped → Option AuditedCall
call_of message = call_by message.header.kind message

-- a call as its REQUEST opens it, at a moment and in a datagram: it waits for as long as an answer may take
abbrev pub open_with : ℕ → ℕ → Numbers → List ℕ → OpenCall
open_with answer_ms now numbers payload = record { numbers = numbers; since = now; until = now + answer_ms; excerpt = excerpt_of payload }

abbrev pub opened : Tapped → OpenCall
opened message = open_with message.answer_ms message.now message.numbers message.payload
