-- What the command does with a setup and a schedule.
use Rattle.std.specs.Prelude.{ℕ, List, take, Option}
use Rattle.std.specs.Io.KnownBytes.{Appends}
use Rattle.someip_world_rules.specs.declared.line.Line.{Line}
use Rattle.someip_world_rules.specs.declared.reuse.Reuse.{Reuse}
use Rattle.someip_world_setup.specs.declared.setup_node.SetupNode.{SetupNode}
use Rattle.someipctl_io.specs.declared.fault.Fault.{Fault}
use Rattle.someipctl_run.specs.Commands.{IsTraceOf, OfInput, RefusesBeginning, RefusesReading}
use Rattle.someipctl_run.specs.declared.error.ScheduleRefusal.{ScheduleRefusal}

-- a schedule has a trace
abbrev pub HasTrace : List SetupNode → List ℕ → Type 0
HasTrace nodes text = (lines : List Line) × (verdict : Reuse) × IsTraceOf nodes text lines verdict

-- a schedule has a trace, and a picture was written
abbrev pub Charts : List SetupNode → List ℕ → Option (List ℕ) → Option (List ℕ) → Type 0
Charts nodes text before after = HasTrace nodes text × (picture : List ℕ) × Appends before after picture

-- a schedule has a trace, and a beginning of a picture was written
abbrev pub ChartsPartly : List SetupNode → List ℕ → Option (List ℕ) → Option (List ℕ) → Type 0
ChartsPartly nodes text before after = HasTrace nodes text × (picture : List ℕ) × (n : ℕ) × Appends before after (take n picture)

-- what a fault says of the schedule, and of what was written: nothing, but where writing failed a beginning of a picture
abbrev pub RefusesChart : List SetupNode → List ℕ → Fault ScheduleRefusal → Option (List ℕ) → Option (List ℕ) → Type 0
RefusesChart nodes text fault before after = RefusesBeginning (ChartsPartly nodes text) nodes text fault before after

-- the schedule that is read has a trace, and a picture was written
abbrev pub ChartsInput : List SetupNode → Option (List ℕ) → Option (List ℕ) → Option (List ℕ) → Type 0
ChartsInput nodes input before after = OfInput input (λ text. Charts nodes text before after)

-- what a fault says of a schedule that is read, and of what was written: nothing, if the schedule can't be read
abbrev pub RefusesInputChart : List SetupNode → Option (List ℕ) → Fault ScheduleRefusal → Option (List ℕ) → Option (List ℕ) → Type 0
RefusesInputChart nodes input fault before after = RefusesReading (RefusesChart nodes) input fault before after
