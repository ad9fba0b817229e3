use Rattle.std.proofs.Common.{◌+◌, ◌≤◌, drop}
use Rattle.someipctl_io.proofs.SendingLemmas.{IsSending}
use Rattle.someipctl_io.specs.declared.form.Form.TheVariants.{Json}
use Rattle.someipctl_run.specs.ToldTraces.{trace_lines}
use Rattle.someipctl_run.specs.Traces.{pointed}
use Rattle.someipctl_run.proofs.objects.put_line_objects.Given as goal

-- what is left is still to send, and there are no more datagrams than lines so far
abbrev pub invariant-loop-line : goal.invariant-loop-line
invariant-loop-line g l =
    IsSending (g.W.Write.contents l.initial.writer) l.initial.buffer (g.W.Write.contents l.writer) l.buffer
    (trace_lines Json (pointed l.step_lines) l.nodes l.number (drop l.line-index l.lines)) (trace_lines Json (pointed l.step_lines) l.nodes 1 l.lines)
    × (l.number ≤ l.line-index + 1)
