-- What is known of a call by the messages of a recording, the newest first.
use Rattle.std.specs.Prelude.{◌+◌, Bool, false, if◌then◌else◌, List, [], ◌∷◌, Option, None, Some}
use Rattle.std.specs.Ordering.{eq_by_cmp}
use Rattle.someip_wire.specs.declared.header.MessageType.{MessageType}
use Rattle.someip_wire.specs.declared.header.MessageType.TheVariants.{Request, Response, Error}
use Rattle.audit_traffic.specs.declared.calls.call.AuditedCall.{AuditedCall}
use Rattle.audit_traffic.specs.declared.calls.finding.CallFinding.{CallFinding}
use Rattle.audit_traffic.specs.declared.calls.finding.CallRules.{CallRules}
use Rattle.audit_traffic.specs.declared.calls.known.Known.{Known}
use Rattle.audit_traffic.specs.calls.AuditedCalls.{call_cmp}
use Rattle.audit_traffic.specs.calls.CallBooks.{may_be_asked}
use Rattle.audit_traffic.specs.calls.KnownCalls.{known_at, told_of_request, known_by_request, told_of_answer, known_by_answer}
use Rattle.audit_traffic.specs.calls.Tapped.{Tapped, call_of, call_asked, call_answered, opened}

-- a message is about this call
abbrev pub is_this : AuditedCall → Option AuditedCall → Bool
is_this call None = false
is_this call (Some other) = eq_by_cmp call_cmp call other

abbrev pub is_about : AuditedCall → Tapped → Bool
is_about call message = is_this call (call_of message)

-- what a message about a call makes of what is known of it
abbrev pub known_by : MessageType → Tapped → Option Known → Option Known
known_by Request message what = Some (known_by_request (opened message) what)
known_by Response message what = known_by_answer (message.now + message.answer_ms) what
known_by Error message what = known_by_answer (message.now + message.answer_ms) what
known_by _ message what = what

-- what is known of a call after these messages: the newest one about it decides, by what was known of it at its moment
abbrev pub known_of : AuditedCall → List Tapped → Option Known
known_of call [] = None
known_of call (message ∷ past) =
    if is_about call message then known_by message.header.kind message (known_at message.now (known_of call past)) else known_of call past

-- what is told of a message after others, where no call was refused for want of room
abbrev pub told_after_by : MessageType → CallRules → Tapped → List Tapped → Option CallFinding
told_after_by Request rules message past =
    told_of_request message.header.session (opened message) (known_at message.now (known_of (call_asked message) past))
told_after_by Response rules message past =
    told_of_answer (may_be_asked rules message.answer_ms false message.now) message.now (known_at message.now (known_of (call_answered message) past))
told_after_by Error rules message past =
    told_of_answer (may_be_asked rules message.answer_ms false message.now) message.now (known_at message.now (known_of (call_answered message) past))
told_after_by _ rules message past = None

abbrev pub told_after : CallRules → Tapped → List Tapped → Option CallFinding
told_after rules message past = told_after_by message.header.kind rules message past
