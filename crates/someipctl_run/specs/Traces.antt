-- A trace, byte for byte.
use Rattle.std.specs.Prelude.{ℕ, ◌+◌, List, [], ◌∷◌, ◌++◌, slice_get, string_bytes, is_some, if◌then◌else◌, codes, decimal, Option, None, Some}
use Rattle.std.specs.Borrow.{Bor}
use Rattle.std.specs.Option.{option_map_or}
use Rattle.someip_world_rules.specs.Datagrams.{datagram_in}
use Rattle.someip_world_rules.specs.declared.line.Line.{Line}
use Rattle.someip_world_rules.specs.declared.reuse.Reuse.{Reuse}
use Rattle.someip_world_rules.specs.declared.reuse.Reuse.TheVariants.{Broken, Clean}
use Rattle.someip_world_setup.specs.declared.setup_node.SetupNode.{SetupNode}
use Rattle.someipctl_io.specs.Lines.{joined}
use Rattle.someipctl_io.specs.Words.{ended}
use Rattle.someipctl_run.specs.Outputs.{told_words}
use Rattle.someip_world_schedule.specs.Schedule.{lines_of_steps}
use Rattle.someipctl_run.specs.StepLines.{line_of_step}
use Rattle.someipctl_run.specs.declared.form.TraceForm.{TraceForm}
use Rattle.someipctl_run.specs.declared.form.TraceForm.TheVariants.{Plain, WithLines}

-- the name of the node of a place
abbrev pub node_name : List SetupNode → ℕ → List ℕ
node_name nodes place = option_map_or (λ node. string_bytes node.name) (slice_get nodes place) []

-- the index of a line's step and the name of its node
abbrev pub line_head : List SetupNode → Line → List ℕ
line_head nodes line = joined (decimal line.step ∷ codes " " ∷ node_name nodes line.node ∷ [])

-- a line, where the next datagram has a number
abbrev pub line_text : List SetupNode → ℕ → Line → List ℕ
line_text nodes number line = line_head nodes line ++ ended (told_words number line.told)

-- the number of the next datagram after a line
abbrev pub number_after : ℕ → Line → ℕ
number_after number line = if is_some (datagram_in line) then number + 1 else number

-- some lines: their datagrams are numbered in order
abbrev pub numbered_lines : List SetupNode → ℕ → List Line → List ℕ
numbered_lines nodes number [] = []
numbered_lines nodes number (line ∷ lines) = line_text nodes number line ++ numbered_lines nodes (number_after number line) lines

-- the verdict: a step is named by its index
abbrev pub reuse_line : Reuse → List ℕ
reuse_line Clean = joined (codes "reuse clean\n" ∷ [])
reuse_line (Broken step) = joined (codes "reuse broken at " ∷ decimal step ∷ codes "\n" ∷ [])

-- a whole trace: datagrams count from 1, and the verdict comes last
abbrev pub trace_text : List SetupNode → List Line → Reuse → List ℕ
trace_text nodes lines verdict = numbered_lines nodes 1 lines ++ reuse_line verdict

-- ---- traces with the lines of the schedule

-- the number of a line of the schedule, or `-` for none
abbrev pub came_by_text : Option ℕ → List ℕ
came_by_text None = codes "-"
came_by_text (Some line) = decimal line

-- what stands before a line of a trace: nothing, or where the trace shows the lines of the schedule the number of the
-- line by which it came, and a space
abbrev pub margin : Option (List ℕ) → Option ℕ → List ℕ
margin None came_by = []
margin (Some step_lines) came_by = joined (came_by_text came_by ∷ codes " " ∷ [])

-- the line of the schedule by which a line came
abbrev pub shown_line_of : Option (List ℕ) → ℕ → Option ℕ
shown_line_of None step = None
shown_line_of (Some step_lines) step = line_of_step step_lines step

-- a line of a trace, and what stands before it
abbrev pub marked_line : Option (List ℕ) → List SetupNode → ℕ → Line → List ℕ
marked_line step_lines nodes number line = margin step_lines (shown_line_of step_lines line.step) ++ line_text nodes number line

abbrev pub marked_lines : Option (List ℕ) → List SetupNode → ℕ → List Line → List ℕ
marked_lines step_lines nodes number [] = []
marked_lines step_lines nodes number (line ∷ lines) = marked_line step_lines nodes number line ++ marked_lines step_lines nodes (number_after number line) lines

-- the verdict came by no line
abbrev pub marked_verdict : Option (List ℕ) → Reuse → List ℕ
marked_verdict step_lines verdict = margin step_lines None ++ reuse_line verdict

-- a whole trace, with what stands before its lines
abbrev pub marked_trace : Option (List ℕ) → List SetupNode → List Line → Reuse → List ℕ
marked_trace step_lines nodes lines verdict = marked_lines step_lines nodes 1 lines ++ marked_verdict step_lines verdict

-- the lines on which the steps stand, where a trace shows them
abbrev pub shown_lines : TraceForm → List ℕ → Option (List ℕ)
shown_lines Plain step_lines = None
shown_lines WithLines step_lines = Some step_lines

-- the trace of a schedule of this text, in a form
abbrev pub formed_trace : TraceForm → List ℕ → List SetupNode → List Line → Reuse → List ℕ
formed_trace form text nodes lines verdict = marked_trace (shown_lines form (lines_of_steps text)) nodes lines verdict

-- where the numbers point
abbrev pub pointed : Option (Bor (List ℕ)) → Option (List ℕ)
pointed None = None
pointed (Some step_lines) = Some step_lines.now
