-- The last event of each flow, and the sessions that are missing.
use Rattle.std.specs.Prelude.{◌≡◌, ◌⊎◌, ℕ, ◌==◌, Bool, true, false, if◌then◌else◌, Option, None, Some, is_some, refl}
use Rattle.std.specs.Coded.{Coded, code_by, coded×, coded_bool}
use Rattle.std.specs.FinMap as finite
use Rattle.std.specs.declared.net.ipv4_addr.Ipv4Addr.{Ipv4Addr}
use Rattle.someip_tables.specs.declared.hashed.origin.Numbers.{Numbers}
use Rattle.audit_traffic.specs.declared.events.finding.Finding.{Finding as EventShown}
use Rattle.audit_traffic.specs.declared.events.finding.Finding.TheVariants as shown
use Rattle.audit_traffic.specs.declared.events.flow.EventFlow.{EventFlow}
use Rattle.audit_traffic.specs.declared.events.notification.Notification.{Notification}
use Rattle.audit_traffic.specs.declared.gaps.finding.Finding.{Finding as GapShown}
use Rattle.audit_traffic.specs.declared.gaps.finding.Finding.TheVariants as gap
use Rattle.audit_traffic.specs.declared.gaps.finding.LostEvent.{LostEvent}
use Rattle.audit_traffic.specs.declared.gaps.gap.Gap.{Gap}
use Rattle.audit_traffic.specs.declared.sequence.counting.Counting.{Counting}
use Rattle.audit_traffic.specs.declared.sequence.counting.Counting.TheVariants.{ByEvent, BySender}
use Rattle.audit_traffic.specs.declared.sequence.finding.Finding.{Finding}
use Rattle.audit_traffic.specs.declared.sequence.finding.Finding.TheVariants.{EventsFull, GapsFull, Overtaken, Repeated}
use Rattle.audit_traffic.specs.declared.sequence.sequence_book.SequenceRules.{SequenceRules}
use Rattle.audit_traffic.specs.events.EventTables as events
use Rattle.audit_traffic.specs.events.EventTables.{Events, coded_events}
use Rattle.audit_traffic.specs.gaps.GapTables as gaps
use Rattle.audit_traffic.specs.gaps.GapTables.{Gaps, IsPartOfGap, coded_gaps}
use Rattle.audit_traffic.specs.gaps.MissingKeys.{missing_of}
use Rattle.audit_traffic.specs.sequence.CountedFlows.{counted, counted_event, counted_service}

-- what a book holds
pub record Sequence : Type 0 where
  pub counting : Counting
  pub events : Events
  pub gaps : Gaps

-- a book that saw nothing
abbrev pub new_sequence : SequenceRules → Sequence
new_sequence rules = record {
  counting = rules.counting;
  events = record { limit = rules.limit; flows = finite.empty; told_full = false };
  gaps = record { limit = rules.limit; overtake_ms = rules.overtake_ms; waiting = finite.empty; told_full = false };
}

-- ---- what an event shows

-- the sessions of a flow that an event of the datagram with these numbers skips
abbrev pub gap_of : EventFlow → EventFlow → Numbers → ℕ → ℕ → Gap
gap_of flow shown_by numbers first session = record { flow = flow; shown_by = shown_by; numbers = numbers; first = first; session = session }

-- the session of an event was missing
abbrev pub is_missing : Notification → Gaps → Bool
is_missing event book = is_some (finite.get book.waiting (missing_of event.flow event.session))

-- the sessions that are missing once an event came
abbrev pub gaps_without : Notification → Gaps → Gaps
gaps_without event book = gaps.without_missing (missing_of event.flow event.session) book

-- an event behind the last one was overtaken, where its session was missing
abbrev pub told_behind : Bool → Option Finding
told_behind true = Some Overtaken
told_behind false = None

-- what a gap shows
abbrev pub of_gap : Option GapShown → Option Finding
of_gap None = None
of_gap (Some gap.Full) = Some GapsFull

-- what is told of an event as it is counted, by what it shows of its flow
abbrev pub told_of : Numbers → EventFlow → Notification → Option EventShown → Gaps → Option Finding
told_of numbers named event None book = None
told_of numbers named event (Some shown.Repeated) book = Some Repeated
told_of numbers named event (Some shown.Behind) book = told_behind (is_missing event book)
told_of numbers named event (Some shown.Full) book = Some EventsFull
told_of numbers named event (Some (shown.Gap session expected)) book = of_gap (gaps.told_of_gap (gap_of event.flow named numbers expected session) (gaps_without event book))

-- what is told of an event: of one without a session nothing
abbrev pub told_by : Numbers → Notification → Sequence → Option Finding
told_by numbers event book =
    if event.session == 0 then None
    else told_of numbers event.flow (counted_event book.counting event) (events.told_by (counted_event book.counting event) book.events) book.gaps

-- ---- the book once an event came

-- the sessions that are missing then
abbrev pub gaps_after : ℕ → Numbers → EventFlow → Notification → Option EventShown → Gaps → Gaps
gaps_after now numbers named event (Some (shown.Gap session expected)) book = gaps.after_gap now (gap_of event.flow named numbers expected session) (gaps_without event book)
gaps_after now numbers named event _ book = gaps_without event book

abbrev pub after_event : ℕ → Numbers → Notification → Sequence → Sequence
after_event now numbers event book =
    if event.session == 0 then book
    else record book {
      events = events.after_event (counted_event book.counting event) book.events;
      gaps = gaps_after now numbers event.flow (counted_event book.counting event) (events.told_by (counted_event book.counting event) book.events) book.gaps;
    }

-- where memory ran out: the book is as it was, or the event is taken and some of the sessions that it skips are missing
abbrev pub IsLeft : ℕ → Numbers → Notification → Sequence → Sequence → Type 0
IsLeft now numbers event old new =
    (new ≡ old)
    ⊎ ((first session : ℕ) × (new.counting ≡ old.counting) × (new.events ≡ events.after_event (counted_event old.counting event) old.events)
    × (events.told_by (counted_event old.counting event) old.events ≡ Some (shown.Gap session first))
    × IsPartOfGap now (gap_of (counted old.counting event.flow) event.flow numbers first session) (gaps_without (counted_event old.counting event) old.gaps) new.gaps)

-- ---- what else changes it

-- once a subscription of a client to a service at a server began or ended, a server withdrew an offer of a service, or an address began again
abbrev pub after_change : Ipv4Addr → Ipv4Addr → ℕ → Sequence → Sequence
after_change client server service book = record book { events = events.after_change client server (counted_service book.counting service) book.events }

abbrev pub after_withdrawal : Ipv4Addr → ℕ → Sequence → Sequence
after_withdrawal server service book = record book { events = events.after_withdrawal server (counted_service book.counting service) book.events }

abbrev pub without : Ipv4Addr → Sequence → Sequence
without address book = record book { events = events.without address book.events; gaps = gaps.without_sender address book.gaps }

-- once a session that is lost was told
abbrev pub after_due : Option LostEvent → Sequence → Sequence
after_due told book = record book { gaps = gaps.after_due told book.gaps }

-- ---- codes, by which a proof tells values apart

abbrev pub is_by_event : Counting → Bool
is_by_event ByEvent = true
is_by_event BySender = false

abbrev pub counting_of : Bool → Counting
counting_of true = ByEvent
counting_of false = BySender

pub counting_back : (counting : Counting) → counting_of (is_by_event counting) ≡ counting
counting_back ByEvent = refl
counting_back BySender = refl

abbrev pub coded_counting : Coded Counting
coded_counting = code_by Bool coded_bool is_by_event counting_of counting_back

abbrev pub coded_sequence : Coded Sequence
coded_sequence =
    code_by (Counting × (Events × Gaps)) (coded× coded_counting (coded× coded_events coded_gaps)) (λ b. (b.counting, (b.events, b.gaps)))
    (λ c. record { counting = c.0; events = c.1.0; gaps = c.1.1 }) (λ _. refl)
