-- Why a flow is watched, in plain words. A list of steps has the newest first.
use Rattle.std.specs.Prelude.{◌≡◌, ℕ, ◌+◌, ◌*◌, Bool, true, not, List, [], ◌∷◌, ◌++◌}
use Rattle.std.specs.Ordering.{eq_by_cmp}
use Rattle.someip_tables.specs.declared.hashed.origin.Numbers.{Numbers}
use Rattle.audit_traffic.specs.declared.cycles.finding.SilentEvent.{SilentEvent}
use Rattle.audit_traffic.specs.declared.cycles.watch.Watch.{Watch}
use Rattle.audit_traffic.specs.declared.events.flow.EventFlow.{EventFlow}
use Rattle.audit_traffic.specs.events.EventRules.{is_at}
use Rattle.audit_traffic.specs.events.FlowKeys.{flow_cmp}
use Rattle.audit_traffic.specs.cycles.CycleRules.{goes_by, is_of_service, is_silent_by, watch_from}
use Rattle.audit_traffic.specs.cycles.CycleHistories.{Asked, BeganAgain, Came, Shown, Step, Unsubscribed, Withdrawn}

-- a step leaves the watch of a flow as it is: no event of the flow came, nothing ended its watch, and where the book was asked, the flow
-- was not silent
abbrev pub leaves : ℕ → Shown → EventFlow → Watch → Bool
leaves now (Came other cycle_ms numbers) flow watch = not (eq_by_cmp flow_cmp flow other)
leaves now (Unsubscribed server service client) flow watch = not (goes_by server service client flow)
leaves now (Withdrawn server service) flow watch = not (is_of_service server service flow)
leaves now (BeganAgain address) flow watch = not (is_at address flow)
leaves now Asked flow watch = not (is_silent_by now watch)

-- each of these steps left the watch of the flow as it is
abbrev pub NoneSince : EventFlow → Watch → List Step → Type 0
NoneSince flow watch [] = Unit {0}
NoneSince flow watch (step ∷ newer) = (leaves step.at step.shown flow watch ≡ true) × NoneSince flow watch newer

-- among the steps an event of the flow came, from which the watch is. Since then no event of the flow came, nothing ended its
-- watch, and the book was not asked at a moment by which the flow was silent
abbrev pub IsWatched : EventFlow → Watch → List Step → Type 0
IsWatched flow watch steps =
    (newer : List Step) × (at : ℕ) × (cycle_ms : ℕ) × (numbers : Numbers) × (older : List Step) × (steps ≡ newer ++ record { at = at; shown = Came flow cycle_ms numbers } ∷ older)
    × (watch_from at cycle_ms numbers ≡ watch) × NoneSince flow watch newer

-- what is told silent is so by its last event, three cycles before, since which none came, nothing ended its watch, and it was not told
abbrev pub IsToldSilent : SilentEvent → List Step → Type 0
IsToldSilent told steps =
    (newer : List Step) × (at : ℕ) × (cycle_ms : ℕ) × (older : List Step) × (steps ≡ newer ++ record { at = at; shown = Came told.flow cycle_ms told.numbers } ∷ older)
    × (told.silent_ms ≡ 3 * cycle_ms) × (told.at ≡ at + 3 * cycle_ms) × NoneSince told.flow (watch_from at cycle_ms told.numbers) newer
