-- What the command does with a setup and a schedule.
use Rattle.std.specs.Prelude.{ℕ, ◌≡◌, true, List, ◌++◌, map, Option, Some, None, Ok, Err, IsSomeAnd}
use Rattle.std.specs.Io.KnownBytes.{Appends, Keeps}
use Rattle.std.specs.Str.{is_utf8}
use Rattle.someip_world_rules.specs.exchanges.CleanReuse.{IsVerdictOn}
use Rattle.someip_world_rules.specs.Runs.{ComesTo}
use Rattle.someip_world_rules.specs.declared.error.RunError.TheVariants as runs
use Rattle.someip_world_rules.specs.declared.line.Line.{Line}
use Rattle.someip_world_rules.specs.declared.reuse.Reuse.{Reuse}
use Rattle.someip_world_schedule.specs.Schedule.{first_bad, steps_of}
use Rattle.someip_world_schedule.specs.declared.step.Step.{Step}
use Rattle.someip_world_setup.specs.GoodSetups.{Network}
use Rattle.someip_world_setup.specs.Readings.{HasValues, TextHasFault, setup_of_text, tree_of}
use Rattle.someip_world_setup_keys.specs.declared.error.SetupError.{SetupError}
use Rattle.someip_world_setup_keys.specs.declared.error.SetupError.TheVariants as errors
use Rattle.someip_world_setup.specs.declared.setup_node.SetupNode.{SetupNode}
use Rattle.someipctl_io.specs.Inputs.{WasLeft}
use Rattle.someipctl_io.specs.declared.fault.Fault.{Fault}
use Rattle.someipctl_io.specs.declared.fault.Fault.TheVariants.{Refused, CannotRead, CannotWrite, OutOfMemory}
use Rattle.someipctl_run.specs.ToldTraces.{object_trace}
use Rattle.someipctl_run.specs.Traces.{formed_trace, trace_text}
use Rattle.someipctl_run.specs.declared.error.ScheduleRefusal.{ScheduleRefusal}
use Rattle.someipctl_run.specs.declared.error.ScheduleRefusal.TheVariants.{BadLine, BadStep}
use Rattle.someipctl_run.specs.declared.error.SetupRefusal.{SetupRefusal}
use Rattle.someipctl_run.specs.declared.form.TraceForm.{TraceForm}

-- it holds of what the reader had left
abbrev pub OfInput : Option (List ℕ) → (List ℕ → Type 0) → Type 0
OfInput input P = (text : List ℕ) × WasLeft input text × P text

-- ---- setups

-- it is the setup that a text says
abbrev pub IsSetupOf : List ℕ → Network → Type 0
IsSetupOf text network = (is_utf8 text ≡ true) × IsSomeAnd (setup_of_text text) (HasValues network)

-- a text says no setup: it is no UTF-8 and so no TOML, or it has the fault that is told. That memory ran out refuses no
-- text, and is told by the command's own name for it
abbrev pub SaysNoSetup : List ℕ → SetupError → Type 0
SaysNoSetup text errors.NotToml = (is_utf8 text ≡ true) → tree_of text ≡ None
SaysNoSetup text errors.OutOfMemory = ⊥
SaysNoSetup text error = (is_utf8 text ≡ true) × TextHasFault (tree_of text) error

-- a text is refused, or memory ran out
abbrev pub RefusesSetup : List ℕ → Fault SetupRefusal → Type 0
RefusesSetup text (Refused refusal) = SaysNoSetup text refusal.0
RefusesSetup text OutOfMemory = Unit {0}
RefusesSetup text fault = ⊥

-- it is the setup that the text says which the reader had left
abbrev pub IsSetupOfInput : Option (List ℕ) → Network → Type 0
IsSetupOfInput input network = OfInput input (λ text. IsSetupOf text network)

-- what the reader had left is refused as a setup, or it could not be read, or memory ran out
abbrev pub RefusesInput : Option (List ℕ) → Fault SetupRefusal → Type 0
RefusesInput input (Refused refusal) = OfInput input (λ text. SaysNoSetup text refusal.0)
RefusesInput input CannotRead = Unit {0}
RefusesInput input CannotWrite = ⊥
RefusesInput input OutOfMemory = Unit {0}

-- ---- schedules

-- a text spells these steps: none of its lines is bad
abbrev pub SpellsSteps : List ℕ → List Step → Type 0
SpellsSteps text steps = (map (λ s. Some s) steps ≡ steps_of text) × (first_bad text ≡ None)

-- these are the lines of the schedule's trace, and this is the verdict on it
abbrev pub IsTraceOf : List SetupNode → List ℕ → List Line → Reuse → Type 0
IsTraceOf nodes text lines verdict =
    (steps : List Step) × SpellsSteps text steps × ComesTo nodes steps (Ok lines) × IsVerdictOn nodes steps lines verdict

-- a schedule has no trace: a line is bad, or a step can't happen
abbrev pub HasNoTrace : List SetupNode → List ℕ → ScheduleRefusal → Type 0
HasNoTrace nodes text (BadLine line) = first_bad text ≡ Some line
HasNoTrace nodes text (BadStep index fault) = (steps : List Step) × SpellsSteps text steps × ComesTo nodes steps (Err (runs.BadStep index fault))

-- the same, or memory ran out
abbrev pub RefusesTrace : List SetupNode → List ℕ → Fault ScheduleRefusal → Type 0
RefusesTrace nodes text (Refused refusal) = HasNoTrace nodes text refusal
RefusesTrace nodes text OutOfMemory = Unit {0}
RefusesTrace nodes text fault = ⊥

-- what is printed of a trace was written
abbrev pub RanAs : (List Line → Reuse → List ℕ) → List SetupNode → List ℕ → Option (List ℕ) → Option (List ℕ) → Type 0
RanAs printed nodes text before after =
    (lines : List Line) × (verdict : Reuse) × IsTraceOf nodes text lines verdict × Appends before after (printed lines verdict)

-- a beginning of it was written
abbrev pub RanPartlyAs : (List Line → Reuse → List ℕ) → List SetupNode → List ℕ → Option (List ℕ) → Option (List ℕ) → Type 0
RanPartlyAs printed nodes text before after =
    (lines : List Line) × (verdict : Reuse) × IsTraceOf nodes text lines verdict
    × (sent : List ℕ) × (unsent : List ℕ) × Appends before after sent × (sent ++ unsent ≡ printed lines verdict)

-- what a fault says of the schedule, and of what was written, where this is a beginning of what is printed
abbrev pub RefusesBeginning : (Option (List ℕ) → Option (List ℕ) → Type 0) → List SetupNode → List ℕ → Fault ScheduleRefusal → Option (List ℕ) → Option (List ℕ) → Type 0
RefusesBeginning Begins nodes text (Refused refusal) before after = HasNoTrace nodes text refusal × Keeps before after
RefusesBeginning Begins nodes text CannotRead before after = ⊥
RefusesBeginning Begins nodes text CannotWrite before after = Begins before after
RefusesBeginning Begins nodes text OutOfMemory before after = Keeps before after

abbrev pub RefusesRunAs : (List Line → Reuse → List ℕ) → List SetupNode → List ℕ → Fault ScheduleRefusal → Option (List ℕ) → Option (List ℕ) → Type 0
RefusesRunAs printed nodes text fault before after = RefusesBeginning (RanPartlyAs printed nodes text) nodes text fault before after

-- the same of a schedule that is read
abbrev pub RefusesReading : (List ℕ → Fault ScheduleRefusal → Option (List ℕ) → Option (List ℕ) → Type 0) → Option (List ℕ) → Fault ScheduleRefusal → Option (List ℕ) → Option (List ℕ) → Type 0
RefusesReading Refuses input CannotRead before after = Keeps before after
RefusesReading Refuses input OutOfMemory before after = Keeps before after
RefusesReading Refuses input fault before after = OfInput input (λ text. Refuses text fault before after)

-- ---- the trace alone

abbrev pub Ran : List SetupNode → List ℕ → Option (List ℕ) → Option (List ℕ) → Type 0
Ran nodes text before after = RanAs (trace_text nodes) nodes text before after

abbrev pub RefusesRun : List SetupNode → List ℕ → Fault ScheduleRefusal → Option (List ℕ) → Option (List ℕ) → Type 0
RefusesRun nodes text fault before after = RefusesRunAs (trace_text nodes) nodes text fault before after

abbrev pub RanInput : List SetupNode → Option (List ℕ) → Option (List ℕ) → Option (List ℕ) → Type 0
RanInput nodes input before after = OfInput input (λ text. Ran nodes text before after)

abbrev pub RefusesInputRun : List SetupNode → Option (List ℕ) → Fault ScheduleRefusal → Option (List ℕ) → Option (List ℕ) → Type 0
RefusesInputRun nodes input fault before after = RefusesReading (RefusesRun nodes) input fault before after

-- ---- the trace in a form

abbrev pub RanInForm : TraceForm → List SetupNode → List ℕ → Option (List ℕ) → Option (List ℕ) → Type 0
RanInForm form nodes text before after = RanAs (formed_trace form text nodes) nodes text before after

abbrev pub RefusesRunInForm : TraceForm → List SetupNode → List ℕ → Fault ScheduleRefusal → Option (List ℕ) → Option (List ℕ) → Type 0
RefusesRunInForm form nodes text fault before after = RefusesRunAs (formed_trace form text nodes) nodes text fault before after

abbrev pub RanInputInForm : TraceForm → List SetupNode → Option (List ℕ) → Option (List ℕ) → Option (List ℕ) → Type 0
RanInputInForm form nodes input before after = OfInput input (λ text. RanInForm form nodes text before after)

abbrev pub RefusesInputRunInForm : TraceForm → List SetupNode → Option (List ℕ) → Fault ScheduleRefusal → Option (List ℕ) → Option (List ℕ) → Type 0
RefusesInputRunInForm form nodes input fault before after = RefusesReading (RefusesRunInForm form nodes) input fault before after

-- ---- the trace as objects

abbrev pub RanAsObjects : TraceForm → List SetupNode → List ℕ → Option (List ℕ) → Option (List ℕ) → Type 0
RanAsObjects form nodes text before after = RanAs (object_trace form text nodes) nodes text before after

abbrev pub RefusesRunAsObjects : TraceForm → List SetupNode → List ℕ → Fault ScheduleRefusal → Option (List ℕ) → Option (List ℕ) → Type 0
RefusesRunAsObjects form nodes text fault before after = RefusesRunAs (object_trace form text nodes) nodes text fault before after

abbrev pub RanInputAsObjects : TraceForm → List SetupNode → Option (List ℕ) → Option (List ℕ) → Option (List ℕ) → Type 0
RanInputAsObjects form nodes input before after = OfInput input (λ text. RanAsObjects form nodes text before after)

abbrev pub RefusesInputRunAsObjects : TraceForm → List SetupNode → Option (List ℕ) → Fault ScheduleRefusal → Option (List ℕ) → Option (List ℕ) → Type 0
RefusesInputRunAsObjects form nodes input fault before after = RefusesReading (RefusesRunAsObjects form nodes) input fault before after
