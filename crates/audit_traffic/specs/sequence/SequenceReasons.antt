-- Why a session of an event is lost, in plain words. A list of steps has the newest first.
use Rattle.std.specs.Prelude.{◌≡◌, ℕ, ◌+◌, ◌==◌, Bool, true, false, not, ◌||◌, List, [], ◌∷◌, ◌++◌, None, Some}
use Rattle.std.specs.Ordering.{eq_by_cmp}
use Rattle.someip_tables.specs.declared.hashed.origin.Numbers.{Numbers}
use Rattle.audit_traffic.specs.declared.events.finding.Finding.TheVariants as shown
use Rattle.audit_traffic.specs.declared.events.notification.Notification.{Notification}
use Rattle.audit_traffic.specs.declared.gaps.awaited.Awaited.{Awaited}
use Rattle.audit_traffic.specs.declared.gaps.key.MissingEvent.{MissingEvent}
use Rattle.audit_traffic.specs.declared.sequence.counting.Counting.{Counting}
use Rattle.audit_traffic.specs.events.EventHistories.{shown_after}
use Rattle.audit_traffic.specs.gaps.GapRules.{is_lost_by, unless_lost}
use Rattle.audit_traffic.specs.gaps.MissingKeys.{is_from, missing_cmp, missing_of}
use Rattle.audit_traffic.specs.sequence.CountedFlows.{counted, counted_event}
use Rattle.audit_traffic.specs.sequence.Sequences.{gap_of}
use Rattle.audit_traffic.specs.sequence.SequenceHistories.{BeganAgain, Came, Changed, Shown, Step, Withdrawn, flows_shown, is_of_gap, missing_in, unless_it_came}

-- a step leaves a session missing, or a run: it is no event that has it, and no reboot of its sender
abbrev pub leaves : Counting → MissingEvent → Shown → Bool
leaves counting key (Came numbers event) = (event.session == 0) || not (eq_by_cmp missing_cmp key (missing_of (counted counting event.flow) event.session))
leaves counting key (Changed client server service) = true
leaves counting key (Withdrawn server service) = true
leaves counting key (BeganAgain address) = not (is_from address key)

-- each of these steps came while the session might still come, and left it missing
abbrev pub NoneSince : Counting → MissingEvent → Awaited → List Step → Type 0
NoneSince counting key awaited [] = Unit {0}
NoneSince counting key awaited (step ∷ newer) = (is_lost_by step.at awaited ≡ false) × (leaves counting key step.shown ≡ true) × NoneSince counting key awaited newer

-- an event that comes after these steps skips a session: it shows a gap of its flow, and this is one of the gap's, or the run of
-- them all
abbrev pub Skips : Counting → List Step → Numbers → Notification → MissingEvent → Type 0
Skips counting earlier numbers event key =
    (session expected : ℕ) × (shown_after (flows_shown counting earlier) (counted_event counting event) ≡ Some (shown.Gap session expected))
    × (is_of_gap (gap_of (counted counting event.flow) event.flow numbers expected session) key ≡ true)

-- among the steps an event came that skips a session, which was not missing then. Since then no event had it, its sender did not
-- begin again, and it was not lost before the last of them
abbrev pub IsMissing : Counting → ℕ → MissingEvent → Awaited → List Step → Type 0
IsMissing counting overtake_ms key awaited steps =
    (newer : List Step) × (at : ℕ) × (numbers : Numbers) × (event : Notification) × (older : List Step)
    × (steps ≡ newer ++ record { at = at; shown = Came numbers event } ∷ older) × ((event.session == 0) ≡ false) × Skips counting older numbers event key
    × (unless_it_came (counted_event counting event) key (unless_lost at (missing_in counting overtake_ms older key)) ≡ None)
    × (record { shown_by = event.flow; numbers = numbers; until = at + overtake_ms } ≡ awaited) × NoneSince counting key awaited newer
