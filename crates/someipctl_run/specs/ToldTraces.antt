-- A trace in either form of lines.
use Rattle.std.specs.Prelude.{ℕ, List, [], ◌∷◌, ◌++◌, codes, Option, None, Some}
use Rattle.someip_world_rules.specs.declared.line.Line.{Line}
use Rattle.someip_world_rules.specs.declared.reuse.Reuse.{Reuse}
use Rattle.someip_world_rules.specs.declared.reuse.Reuse.TheVariants.{Broken, Clean}
use Rattle.someip_world_schedule.specs.Schedule.{lines_of_steps}
use Rattle.someip_world_setup.specs.declared.setup_node.SetupNode.{SetupNode}
use Rattle.someipctl_io.specs.declared.form.Form.{Form as LineForm}
use Rattle.someipctl_io.specs.declared.form.Form.TheVariants.{Json}
use Rattle.someipctl_io.specs.ToldLines.{Content, text, number, nothing, ToldField, ToldHead, ToldLine, field, line_text}
use Rattle.someipctl_run.specs.ToldOutputs.{line_told, next_field}
use Rattle.someipctl_run.specs.Traces.{node_name, number_after, shown_line_of, shown_lines}
use Rattle.someipctl_run.specs.declared.form.TraceForm.{TraceForm}

-- ---- heads

-- the line of the schedule by which a line came, if it came by one
abbrev pub came_by_told : Option ℕ → Content
came_by_told None = nothing
came_by_told (Some line) = number line

-- where the trace shows the lines of the schedule, the one by which a line came
abbrev pub origin_told : Option (List ℕ) → Option ℕ → List ToldField
origin_told None came_by = []
origin_told (Some step_lines) came_by = field [] (codes "line") (came_by_told came_by) ∷ []

-- the index of a step and the name of a node
abbrev pub step_told : ℕ → List ℕ → List ToldField
step_told step name = field [] (codes "step") (number step) ∷ next_field (codes "node") (text name) ∷ []

-- the head of a line of a step at a node
abbrev pub head_at : Option (List ℕ) → Option ℕ → ℕ → List ℕ → ToldHead
head_at step_lines came_by step name = record { number = step_told step name; origin = origin_told step_lines came_by; place = [] }

-- the head of a line of a trace
abbrev pub trace_head : Option (List ℕ) → List SetupNode → Line → ToldHead
trace_head step_lines nodes line = head_at step_lines (shown_line_of step_lines line.step) line.step (node_name nodes line.node)

-- the verdict came by no line and in no step
abbrev pub verdict_head : Option (List ℕ) → ToldHead
verdict_head step_lines = record { number = []; origin = origin_told step_lines None; place = [] }

-- ---- the trace

-- a line, where the next datagram is the k-th
abbrev pub trace_line : LineForm → Option (List ℕ) → List SetupNode → ℕ → Line → List ℕ
trace_line form step_lines nodes k line = line_text form (trace_head step_lines nodes line) (line_told k line.told)

-- some lines: their datagrams are numbered in order
abbrev pub trace_lines : LineForm → Option (List ℕ) → List SetupNode → ℕ → List Line → List ℕ
trace_lines form step_lines nodes k [] = []
trace_lines form step_lines nodes k (line ∷ lines) =
    trace_line form step_lines nodes k line ++ trace_lines form step_lines nodes (number_after k line) lines

-- what the verdict tells: a step is named by its index
abbrev pub reuse_told : Reuse → ToldLine
reuse_told Clean = record { kind = codes "reuse"; word = None; fields = field (codes "reuse ") (codes "result") (text (codes "clean")) ∷ [] }
reuse_told (Broken step) = record {
  kind = codes "reuse";
  word = None;
  fields = field (codes "reuse ") (codes "result") (text (codes "broken")) ∷ field (codes " at ") (codes "at") (number step) ∷ [];
}

-- the line of the verdict
abbrev pub reuse_text : LineForm → Option (List ℕ) → Reuse → List ℕ
reuse_text form step_lines verdict = line_text form (verdict_head step_lines) (reuse_told verdict)

-- a whole trace: datagrams count from 1, and the verdict comes last
abbrev pub whole_trace : LineForm → Option (List ℕ) → List SetupNode → List Line → Reuse → List ℕ
whole_trace form step_lines nodes lines verdict = trace_lines form step_lines nodes 1 lines ++ reuse_text form step_lines verdict

-- the trace of a schedule of this text as objects, which show its lines or not
abbrev pub object_trace : TraceForm → List ℕ → List SetupNode → List Line → Reuse → List ℕ
object_trace form schedule nodes lines verdict = whole_trace Json (shown_lines form (lines_of_steps schedule)) nodes lines verdict
