-- A book of calls, and what a message makes of it.
use Rattle.std.specs.Prelude.{ℕ, ◌+◌, nat_lt, Bool, true, false, ◌||◌, if◌then◌else◌, Option, None, Some}
use Rattle.std.specs.FinMap as finite
use Rattle.std.specs.FinMap.{FinMap}
use Rattle.someip_tables.specs.hashed.Rooms.{may_hold}
use Rattle.someip_wire.specs.declared.header.MessageType.{MessageType}
use Rattle.someip_wire.specs.declared.header.MessageType.TheVariants.{Request, Response, Error}
use Rattle.audit_traffic.specs.declared.calls.call.AuditedCall.{AuditedCall}
use Rattle.audit_traffic.specs.declared.calls.finding.CallFinding.{CallFinding}
use Rattle.audit_traffic.specs.declared.calls.finding.CallFinding.TheVariants.{Full}
use Rattle.audit_traffic.specs.declared.calls.finding.CallRules.{CallRules}
use Rattle.audit_traffic.specs.declared.calls.known.Known.{Known}
use Rattle.audit_traffic.specs.calls.AuditedCalls.{call_cmp}
use Rattle.audit_traffic.specs.calls.KnownCalls.{known_at, told_of_request, known_by_request, told_of_answer, known_by_answer}
use Rattle.audit_traffic.specs.calls.Tapped.{Tapped, call_asked, call_answered, opened}

-- what is known of calls
abbrev pub Calls : Type 0
Calls = FinMap call_cmp Known

-- the settings, the calls, and whether a call was refused for want of room
pub record Book : Type 0 where
  pub rules : CallRules
  pub calls : Calls
  pub full : Bool

-- a book that saw nothing
abbrev pub new_book : CallRules → Book
new_book rules = record { rules = rules; calls = finite.empty; full = false }

-- what is known of a call at a moment
abbrev pub known : ℕ → Calls → AuditedCall → Option Known
known now calls call = known_at now (finite.get calls call)

-- a call of which nothing is known may have been asked: before the recording began, by what an answer to it may take, or it was
-- refused for want of room
abbrev pub may_be_asked : CallRules → ℕ → Bool → ℕ → Bool
may_be_asked rules answer_ms full now = nat_lt now (rules.begins + answer_ms) || full

-- what is told of a message
abbrev pub told_by : MessageType → Tapped → Book → Option CallFinding
told_by Request message book =
    if may_hold book.rules.limit book.calls (call_asked message)
    then told_of_request message.header.session (opened message) (known message.now book.calls (call_asked message))
    else if book.full then None else Some Full
told_by Response message book = told_of_answer (may_be_asked book.rules message.answer_ms book.full message.now) message.now (known message.now book.calls (call_answered message))
told_by Error message book = told_of_answer (may_be_asked book.rules message.answer_ms book.full message.now) message.now (known message.now book.calls (call_answered message))
told_by _ message book = None

abbrev pub told : Tapped → Book → Option CallFinding
told message book = told_by message.header.kind message book

-- calls with what is known of one, if anything is
abbrev pub with_known : AuditedCall → Option Known → Calls → Calls
with_known call None calls = calls
with_known call (Some what) calls = finite.insert calls call what

-- the calls once an answer came
abbrev pub calls_answered : Tapped → Book → Calls
calls_answered message book =
    with_known (call_answered message) (known_by_answer (message.now + message.answer_ms) (known message.now book.calls (call_answered message))) book.calls

-- the book then
abbrev pub book_by : MessageType → Tapped → Book → Book
book_by Request message book =
    if may_hold book.rules.limit book.calls (call_asked message)
    then record book { calls = finite.insert book.calls (call_asked message) (known_by_request (opened message) (known message.now book.calls (call_asked message))) }
    else record book { full = true }
book_by Response message book = record book { calls = calls_answered message book }
book_by Error message book = record book { calls = calls_answered message book }
book_by _ message book = book

abbrev pub book_after : Tapped → Book → Book
book_after message book = book_by message.header.kind message book
