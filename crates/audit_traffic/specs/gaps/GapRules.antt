-- Which sessions a gap has, and until when each of them may come (SOME/IP Protocol, "Session ID").
use Rattle.std.specs.Prelude.{ℕ, zero, suc, ◌+◌, ◌-◌, nat_le, Bool, not, if◌then◌else◌, Option, Some}
use Rattle.someip_tables.specs.Retained.{kept_if}
use Rattle.someip_tables.specs.Sessions.{next_session}
use Rattle.audit_traffic.specs.declared.gaps.awaited.Awaited.{Awaited}
use Rattle.audit_traffic.specs.declared.gaps.gap.Gap.{Gap}
use Rattle.audit_traffic.specs.events.EventRules.{ahead}

-- the session so many after another, in the order in which they are given
abbrev pub session_after : ℕ → ℕ → ℕ
session_after first zero = first
session_after first (suc n) = next_session (session_after first n)

-- the session before another: FFFF is before 1
abbrev pub session_before : ℕ → ℕ
session_before session = if nat_le session 1 then 0xffff else session - 1

-- how many sessions are missing: those from the first on, without that of the event that skips them
abbrev pub missing_count : Gap → ℕ
missing_count gap = ahead gap.first gap.session

-- a session that is missing from a moment on, where it may come for so many milliseconds
abbrev pub awaited_from : ℕ → ℕ → Gap → Awaited
awaited_from now overtake_ms gap = record { shown_by = gap.shown_by; numbers = gap.numbers; until = now + overtake_ms }

-- the moment until which it may come
abbrev pub waits_until : Awaited → Option ℕ
waits_until awaited = Some awaited.until

-- it did not come in time
abbrev pub is_lost_by : ℕ → Awaited → Bool
is_lost_by now awaited = nat_le awaited.until now

-- a session that is missing, unless it did not come in time
abbrev pub unless_lost : ℕ → Option Awaited → Option Awaited
unless_lost now = kept_if (λ awaited. not (is_lost_by now awaited))
