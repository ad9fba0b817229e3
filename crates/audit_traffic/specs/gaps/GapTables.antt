-- The sessions of events that are missing.
use Rattle.std.specs.Prelude.{◌≡◌, ℕ, zero, suc, ◌+◌, ◌≤◌, nat_le, nat_lt, Bool, true, false, not, ◌&&◌, if◌then◌else◌, Option, None, Some, is_some, refl}
use Rattle.std.specs.Coded.{Coded, code_by, coded×, coded_ℕ, coded_bool}
use Rattle.std.specs.FinMap as finite
use Rattle.std.specs.FinMap.{FinMap}
use Rattle.std.specs.declared.net.ipv4_addr.Ipv4Addr.{Ipv4Addr}
use Rattle.someip_tables.specs.Retained.{retain}
use Rattle.someip_tables.specs.declared.hashed.origin.Numbers.{Numbers}
use Rattle.someip_tables.specs.hashed.Dues.{IsFirstDue}
use Rattle.someip_tables.specs.hashed.Origins.{coded_numbers}
use Rattle.someip_tables.specs.hashed.Rooms.{told_when_full}
use Rattle.audit_traffic.specs.declared.events.flow.EventFlow.{EventFlow}
use Rattle.audit_traffic.specs.declared.gaps.awaited.Awaited.{Awaited}
use Rattle.audit_traffic.specs.declared.gaps.finding.Finding.{Finding}
use Rattle.audit_traffic.specs.declared.gaps.finding.Finding.TheVariants.{Full}
use Rattle.audit_traffic.specs.declared.gaps.finding.LostEvent.{LostEvent}
use Rattle.audit_traffic.specs.declared.gaps.gap.Gap.{Gap}
use Rattle.audit_traffic.specs.declared.gaps.key.MissingEvent.{MissingEvent}
use Rattle.audit_traffic.specs.events.FlowKeys.{coded_flow}
use Rattle.audit_traffic.specs.gaps.GapRules.{awaited_from, is_lost_by, missing_count, session_after, session_before, waits_until}
use Rattle.audit_traffic.specs.gaps.MissingKeys.{coded_missing, is_from, missing_cmp, missing_of, run_of}

-- the sessions that are missing
abbrev pub Waiting : Type 0
Waiting = FinMap missing_cmp Awaited

-- what a book holds, how many sessions it may hold, how many milliseconds later a session may come, and whether the book told
-- that it is full
pub record Gaps : Type 0 where
  pub limit : ℕ
  pub overtake_ms : ℕ
  pub waiting : Waiting
  pub told_full : Bool

-- ---- a gap

-- a session waits, and one that waits already goes on as it does
abbrev pub or_waits : MissingEvent → Awaited → Waiting → Waiting
or_waits key awaited waiting = if is_some (finite.get waiting key) then waiting else finite.insert waiting key awaited

-- so many sessions of a flow wait, from the first on
abbrev pub with_missing : EventFlow → ℕ → Awaited → ℕ → Waiting → Waiting
with_missing flow first awaited zero waiting = waiting
with_missing flow first awaited (suc n) waiting = or_waits (missing_of flow (session_after first n)) awaited (with_missing flow first awaited n waiting)

-- more sessions are missing than may wait each by itself
abbrev pub is_wide : Gap → Bool
is_wide gap = nat_lt 64 (missing_count gap)

-- how many keys the sessions of a gap take: a run that is too long takes one
abbrev pub key_count : Gap → ℕ
key_count gap = if is_wide gap then 1 else missing_count gap

-- how many of them wait each by itself
abbrev pub single_count : Gap → ℕ
single_count gap = if is_wide gap then 0 else missing_count gap

-- there is room for the sessions of a gap
abbrev pub has_room : Gap → Gaps → Bool
has_room gap book = nat_le (finite.len book.waiting + key_count gap) book.limit

-- what is told of a gap at once: nothing, where there is room for it
abbrev pub told_of_gap : Gap → Gaps → Option Finding
told_of_gap gap book = if has_room gap book then None else told_when_full Full book.told_full

-- the sessions of a gap as a run
abbrev pub run_of_gap : Gap → MissingEvent
run_of_gap gap = run_of gap.flow gap.first (session_before gap.session)

-- the sessions of a gap wait: more than 64 as one run
abbrev pub once_skipped : Gap → Awaited → Waiting → Waiting
once_skipped gap awaited waiting =
    if is_wide gap then or_waits (run_of_gap gap) awaited waiting else with_missing gap.flow gap.first awaited (missing_count gap) waiting

-- the book once sessions are missing
abbrev pub after_gap : ℕ → Gap → Gaps → Gaps
after_gap now gap book =
    if has_room gap book then record book { waiting = once_skipped gap (awaited_from now book.overtake_ms gap) book.waiting }
    else record book { told_full = true }

-- some of so many sessions wait, from the first on, and no others than before beside them
abbrev pub IsBegunGap : EventFlow → ℕ → Awaited → ℕ → Waiting → Waiting → Type 0
IsBegunGap flow first awaited count old new = (n : ℕ) × (n ≤ count) × (new ≡ with_missing flow first awaited n old)

-- where memory ran out some of the sessions of a gap wait, and a run does not
abbrev pub IsSkippedInPart : Gap → Awaited → Waiting → Waiting → Type 0
IsSkippedInPart gap awaited old new = IsBegunGap gap.flow gap.first awaited (single_count gap) old new

-- so it is with the book
abbrev pub IsPartOfGap : ℕ → Gap → Gaps → Gaps → Type 0
IsPartOfGap now gap old new =
    (n : ℕ) × (n ≤ single_count gap) × (new ≡ record old { waiting = with_missing gap.flow gap.first (awaited_from now old.overtake_ms gap) n old.waiting })

-- ---- an event

-- the book once a session came: it is missing no more
abbrev pub without_missing : MissingEvent → Gaps → Gaps
without_missing key book = record book { waiting = finite.remove book.waiting key }

-- once a sender began again: what was missing of it is so no more
abbrev pub without_sender : Ipv4Addr → Gaps → Gaps
without_sender address book = record book { waiting = retain book.waiting (λ key _. not (is_from address key)) }

-- ---- what falls due

-- what is told once a moment came: the session that is lost first, by deadline and then by key, if one is; else none is
abbrev pub FallsDue : ℕ → Waiting → Option LostEvent → Type 0
FallsDue now waiting None = (key : MissingEvent) (awaited : Awaited) → finite.get waiting key ≡ Some awaited → is_lost_by now awaited ≡ false
FallsDue now waiting (Some told) =
    IsFirstDue waits_until waiting (Some (record { at = told.at; key = told.key }))
    × (finite.get waiting told.key ≡ Some (record { shown_by = told.shown_by; numbers = told.numbers; until = told.at })) × (told.at ≤ now)

-- the book once it was told: it waits no more
abbrev pub after_due : Option LostEvent → Gaps → Gaps
after_due None book = book
after_due (Some told) book = record book { waiting = finite.remove book.waiting told.key }

-- ---- codes, by which a proof tells values apart

abbrev pub coded_awaited : Coded Awaited
coded_awaited =
    code_by (EventFlow × (Numbers × ℕ)) (coded× coded_flow (coded× coded_numbers coded_ℕ)) (λ a. (a.shown_by, (a.numbers, a.until)))
    (λ c. record { shown_by = c.0; numbers = c.1.0; until = c.1.1 }) (λ _. refl)

abbrev pub coded_gaps : Coded Gaps
coded_gaps =
    code_by (ℕ × (ℕ × (Waiting × Bool))) (coded× coded_ℕ (coded× coded_ℕ (coded× (finite.code coded_missing coded_awaited) coded_bool)))
    (λ b. (b.limit, (b.overtake_ms, (b.waiting, b.told_full)))) (λ c. record { limit = c.0; overtake_ms = c.1.0; waiting = c.1.1.0; told_full = c.1.1.1 }) (λ _. refl)
