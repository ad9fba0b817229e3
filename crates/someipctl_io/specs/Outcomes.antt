-- How a command ended.
use Rattle.std.specs.Prelude.{ℕ, Bool, if◌then◌else◌}
use Rattle.someipctl_io.specs.declared.outcome.Outcome.{Outcome}
use Rattle.someipctl_io.specs.declared.outcome.Outcome.TheVariants.{Done, FaultShown}

-- the outcome where a fault was shown, or none
abbrev pub fault_outcome : Bool → Outcome
fault_outcome fault_shown = if fault_shown then FaultShown else Done

-- the program's exit status
abbrev pub status_of : Outcome → ℕ
status_of Done = 0
status_of FaultShown = 1
