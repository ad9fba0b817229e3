-- What the definitions of traces promise.
use Rattle.std.specs.Prelude.{ℕ, ◌≡◌, ◌-◌, List, [], ◌++◌, codes, map, slice_index_or, Option}
use Rattle.std.specs.List.{flat_map}
use Rattle.someip_world_rules.specs.declared.line.Line.{Line}
use Rattle.someip_world_rules.specs.declared.reuse.Reuse.{Reuse}
use Rattle.someip_texts.specs.Lines.{lines_of}
use Rattle.someip_world_schedule.specs.Schedule.{lines_of_steps, steps_of}
use Rattle.someip_world_schedule.specs.Steps.{step_in}
use Rattle.someip_world_setup_keys.specs.declared.error.SetupError.TheVariants as errors
use Rattle.someip_world_setup.specs.declared.setup_node.SetupNode.{SetupNode}
use Rattle.someipctl_run.specs.Commands.{RefusesInput}
use Rattle.someipctl_run.specs.Traces.{came_by_text, formed_trace, trace_text}
use Rattle.someipctl_io.specs.declared.fault.Fault.TheVariants.{Refused}
use Rattle.someipctl_run.specs.declared.form.TraceForm.TheVariants.{Plain, WithLines}

-- each line of a text stands in the other one after a word, which is a number or `-`, and a space
abbrev pub StandBehindWords : List ℕ → List ℕ → Type 0
StandBehindWords text marked =
    (rows : List (Option ℕ × List ℕ)) × (text ≡ flat_map (λ row. row.1) rows) × (marked ≡ flat_map (λ row. (came_by_text row.0 ++ codes " ") ++ row.1) rows)

-- without the first word of each line, a trace with the lines of its schedule is the trace; so is the plain form
abbrev pub FormsTellOneTrace : Type 0
FormsTellOneTrace =
    (text : List ℕ) (nodes : List SetupNode) (lines : List Line) (verdict : Reuse)
    → StandBehindWords (trace_text nodes lines verdict) (formed_trace WithLines text nodes lines verdict)
    × (formed_trace Plain text nodes lines verdict ≡ trace_text nodes lines verdict)

-- the steps of a schedule are those that the lines on which they stand spell, in order
abbrev pub StepsStandOnTheirLines : Type 0
StepsStandOnTheirLines = (text : List ℕ) → map (λ number. step_in (slice_index_or (lines_of text) (number - 1) [])) (lines_of_steps text) ≡ steps_of text

-- no text is refused as a setup for want of memory
abbrev pub MemoryRefusesNoSetup : Type 0
MemoryRefusesNoSetup = (input : Option (List ℕ)) → RefusesInput input (Refused (record { 0 = errors.OutOfMemory })) → ⊥
