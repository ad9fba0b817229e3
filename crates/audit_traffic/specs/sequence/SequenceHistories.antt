-- What a recording showed so far of the sessions of events, without a table. A list of steps has the newest first.
use Rattle.std.specs.Prelude.{ℕ, zero, suc, ◌==◌, Bool, false, not, ◌||◌, if◌then◌else◌, List, [], ◌∷◌, Option, None, Some, is_some}
use Rattle.std.specs.Ordering.{eq_by_cmp}
use Rattle.std.specs.declared.net.ipv4_addr.Ipv4Addr.{Ipv4Addr}
use Rattle.someip_tables.specs.Retained.{retain}
use Rattle.someip_tables.specs.declared.hashed.origin.Numbers.{Numbers}
use Rattle.audit_traffic.specs.declared.events.finding.Finding.{Finding as EventShown}
use Rattle.audit_traffic.specs.declared.events.finding.Finding.TheVariants as shown
use Rattle.audit_traffic.specs.declared.events.flow.EventFlow.{EventFlow}
use Rattle.audit_traffic.specs.declared.events.notification.Notification.{Notification}
use Rattle.audit_traffic.specs.declared.gaps.awaited.Awaited.{Awaited}
use Rattle.audit_traffic.specs.declared.gaps.gap.Gap.{Gap}
use Rattle.audit_traffic.specs.declared.gaps.key.MissingEvent.{MissingEvent}
use Rattle.audit_traffic.specs.declared.sequence.counting.Counting.{Counting}
use Rattle.audit_traffic.specs.declared.sequence.finding.Finding.{Finding}
use Rattle.audit_traffic.specs.declared.sequence.finding.Finding.TheVariants.{Repeated}
use Rattle.audit_traffic.specs.declared.sequence.sequence_book.SequenceRules.{SequenceRules}
use Rattle.audit_traffic.specs.events.EventHistories as flows
use Rattle.audit_traffic.specs.events.EventHistories.{shown_after}
use Rattle.audit_traffic.specs.gaps.GapRules.{awaited_from, is_lost_by, missing_count, session_after, unless_lost}
use Rattle.audit_traffic.specs.gaps.GapTables.{Gaps, is_wide, run_of_gap}
use Rattle.audit_traffic.specs.gaps.MissingKeys.{is_from, missing_cmp, missing_of}
use Rattle.audit_traffic.specs.sequence.CountedFlows.{counted, counted_event, counted_service}
use Rattle.audit_traffic.specs.sequence.Sequences.{Sequence, after_change, after_event, after_withdrawal, gap_of, new_sequence, told_behind, without}

-- an event came in the datagram with these numbers, a subscription of a client to a service at a server began or ended, a server withdrew an offer
-- of a service, or an address began again
pub data Shown : Type 0 where
  Came : Numbers → Notification → Shown
  Changed : Ipv4Addr → Ipv4Addr → ℕ → Shown
  Withdrawn : Ipv4Addr → ℕ → Shown
  BeganAgain : Ipv4Addr → Shown

-- at a moment
pub record Step : Type 0 where
  pub at : ℕ
  pub shown : Shown

-- what it says of the flows that count
abbrev pub of_flows : Counting → Shown → flows.Shown
of_flows counting (Came numbers event) = flows.Came (counted_event counting event)
of_flows counting (Changed client server service) = flows.Changed client server (counted_service counting service)
of_flows counting (Withdrawn server service) = flows.Withdrawn server (counted_service counting service)
of_flows counting (BeganAgain address) = flows.BeganAgain address

abbrev pub flows_shown : Counting → List Step → List flows.Shown
flows_shown counting [] = []
flows_shown counting (step ∷ earlier) = of_flows counting step.shown ∷ flows_shown counting earlier

-- ---- which sessions are missing

-- a session is among so many of a flow, from the first on
abbrev pub is_among : EventFlow → ℕ → ℕ → MissingEvent → Bool
is_among flow first zero key = false
is_among flow first (suc n) key = eq_by_cmp missing_cmp key (missing_of flow (session_after first n)) || is_among flow first n key

-- one that is missing stays so as it is, and else it is so from now on
abbrev pub or_awaited : Option Awaited → Awaited → Option Awaited
or_awaited None awaited = Some awaited
or_awaited (Some earlier) awaited = Some earlier

-- a session is one of a gap's, or it is the run of them all, where these are too many
abbrev pub is_of_gap : Gap → MissingEvent → Bool
is_of_gap gap key = if is_wide gap then eq_by_cmp missing_cmp key (run_of_gap gap) else is_among gap.flow gap.first (missing_count gap) key

-- a session, or a run, once a gap was shown: it is missing, if it is of the gap
abbrev pub after_gap_shown : ℕ → ℕ → Gap → MissingEvent → Option Awaited → Option Awaited
after_gap_shown now overtake_ms gap key before = if is_of_gap gap key then or_awaited before (awaited_from now overtake_ms gap) else before

-- a session once an event showed this of its flow
abbrev pub after_shown : ℕ → ℕ → Numbers → EventFlow → EventFlow → Option EventShown → MissingEvent → Option Awaited → Option Awaited
after_shown now overtake_ms numbers flow named (Some (shown.Gap session expected)) key before = after_gap_shown now overtake_ms (gap_of flow named numbers expected session) key before
after_shown now overtake_ms numbers flow named _ key before = before

-- a session once an event came, as it is counted: it is missing no more where the event has it
abbrev pub unless_it_came : Notification → MissingEvent → Option Awaited → Option Awaited
unless_it_came event key before = if eq_by_cmp missing_cmp key (missing_of event.flow event.session) then None else before

-- the same with what the event shows of its flow after these steps
abbrev pub after_came : Counting → ℕ → ℕ → Numbers → Notification → List Step → MissingEvent → Option Awaited → Option Awaited
after_came counting now overtake_ms numbers event earlier key before =
    if event.session == 0 then before
    else after_shown now overtake_ms numbers (counted counting event.flow) event.flow (shown_after (flows_shown counting earlier) (counted_event counting event)) key
    (unless_it_came (counted_event counting event) key before)

abbrev pub after_step : Counting → ℕ → ℕ → Shown → List Step → MissingEvent → Option Awaited → Option Awaited
after_step counting now overtake_ms (Came numbers event) earlier key before = after_came counting now overtake_ms numbers event earlier key before
after_step counting now overtake_ms (Changed client server service) earlier key before = before
after_step counting now overtake_ms (Withdrawn server service) earlier key before = before
after_step counting now overtake_ms (BeganAgain address) earlier key before = if is_from address key then None else before

-- a session that is missing after these steps. One that is lost by the next step waits no more then
abbrev pub missing_in : Counting → ℕ → List Step → MissingEvent → Option Awaited
missing_in counting overtake_ms [] key = None
missing_in counting overtake_ms (step ∷ earlier) key =
    after_step counting step.at overtake_ms step.shown earlier key (unless_lost step.at (missing_in counting overtake_ms earlier key))

-- ---- what an event shows

-- what it shows, by what it shows of its flow, and whether its session was missing
abbrev pub told_with : Numbers → EventFlow → EventFlow → Option EventShown → Bool → Option Finding
told_with numbers flow named None was_missing = None
told_with numbers flow named (Some shown.Repeated) was_missing = Some Repeated
told_with numbers flow named (Some shown.Behind) was_missing = told_behind was_missing
told_with numbers flow named (Some shown.Full) was_missing = None
told_with numbers flow named (Some (shown.Gap session expected)) was_missing = None

-- what an event shows that comes at a moment after these steps
abbrev pub told_in : Counting → ℕ → List Step → ℕ → Numbers → Notification → Option Finding
told_in counting overtake_ms earlier now numbers event =
    if event.session == 0 then None
    else told_with numbers (counted counting event.flow) event.flow (shown_after (flows_shown counting earlier) (counted_event counting event))
    (is_some (unless_lost now (missing_in counting overtake_ms earlier (missing_of (counted counting event.flow) event.session))))

-- ---- the book

-- once something was shown
abbrev pub book_after : ℕ → Shown → Sequence → Sequence
book_after now (Came numbers event) book = after_event now numbers event book
book_after now (Changed client server service) book = after_change client server service book
book_after now (Withdrawn server service) book = after_withdrawal server service book
book_after now (BeganAgain address) book = without address book

-- without the sessions that are lost by a moment
abbrev pub gaps_without_lost : ℕ → Gaps → Gaps
gaps_without_lost now book = record book { waiting = retain book.waiting (λ _ awaited. not (is_lost_by now awaited)) }

abbrev pub without_lost : ℕ → Sequence → Sequence
without_lost now book = record book { gaps = gaps_without_lost now book.gaps }

-- the book after these steps, where before each it was asked for all that fell due
abbrev pub book_of : SequenceRules → List Step → Sequence
book_of rules [] = new_sequence rules
book_of rules (step ∷ earlier) = book_after step.at step.shown (without_lost step.at (book_of rules earlier))
