-- The calls whose deadline has come.
use Rattle.std.specs.Prelude.{◌≡◌, ℕ, ◌+◌, nat_le, if◌then◌else◌, Option, None, Some}
use Rattle.std.specs.declared.cmp.Ordering.{Ordering}
use Rattle.std.specs.FinMap as finite
use Rattle.someip_tables.specs.Retained.{retain}
use Rattle.someip_tables.specs.declared.hashed.due.Due.{Due}
use Rattle.someip_tables.specs.hashed.Dues.{due_cmp}
use Rattle.audit_traffic.specs.declared.calls.call.AuditedCall.{AuditedCall}
use Rattle.audit_traffic.specs.declared.calls.finding.Unanswered.{Unanswered}
use Rattle.audit_traffic.specs.declared.calls.known.Known.TheVariants.{Open, Overdue}
use Rattle.audit_traffic.specs.declared.calls.known.OpenCall.{OpenCall}
use Rattle.audit_traffic.specs.calls.AuditedCalls.{call_cmp}
use Rattle.audit_traffic.specs.calls.CallBooks.{Calls}
use Rattle.audit_traffic.specs.calls.KnownCalls.{is_known_at}

-- an open call, as it is told
abbrev pub unanswered : AuditedCall → OpenCall → Unanswered
unanswered call open_call = record { call = call; numbers = open_call.numbers; since = open_call.since; until = open_call.until }

-- a call is open, and would be told so
abbrev pub IsOpenCall : Calls → Unanswered → Type 0
IsOpenCall calls told = (open_call : OpenCall) × (finite.get calls told.call ≡ Some (Open open_call)) × (told ≡ unanswered told.call open_call)

-- the moment of a call that is told, with the call
abbrev pub due_of : Unanswered → Due AuditedCall
due_of told = record { at = told.until; key = told.call }

-- by deadline, and then by call
abbrev pub told_cmp : Unanswered → Unanswered → Ordering
told_cmp a b = due_cmp call_cmp (due_of a) (due_of b)

-- the calls of which something is known at a moment
abbrev pub still_known : ℕ → Calls → Calls
still_known now calls = retain calls (λ _ what. is_known_at now what)

-- as many messages as a datagram may have, and some more
abbrev pub most_messages : ℕ
most_messages = 4096

-- the calls with room for those of a datagram: where there is not so much, those of which nothing is known any more are let go
abbrev pub with_room : ℕ → ℕ → Calls → Calls
with_room limit now calls = if nat_le (finite.len calls + most_messages) limit then calls else still_known now calls

-- the calls once what fell due was asked for: one that was told is overdue, with room from its deadline on, and where none is
-- told there is room
abbrev pub calls_after_due : ℕ → ℕ → Option Unanswered → Calls → Calls
calls_after_due limit now None calls = with_room limit now calls
calls_after_due limit now (Some told) calls = finite.insert (with_room limit told.until calls) told.call (Overdue told.since)
