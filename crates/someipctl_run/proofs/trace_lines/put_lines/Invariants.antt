use Rattle.std.proofs.Common.{◌+◌, ◌≤◌, drop}
use Rattle.someipctl_io.proofs.SendingLemmas.{IsSending}
use Rattle.someipctl_run.specs.Traces.{marked_lines, pointed}
use Rattle.someipctl_run.proofs.trace_lines.put_lines.Given as goal

-- what is left is still to send, and there are no more datagrams than lines so far
abbrev pub invariant-loop-line : goal.invariant-loop-line
invariant-loop-line g l =
    IsSending (g.W.Write.contents l.initial.writer) l.initial.buffer (g.W.Write.contents l.writer) l.buffer
    (marked_lines (pointed l.step_lines) l.nodes l.number (drop l.line-index l.lines)) (marked_lines (pointed l.step_lines) l.nodes 1 l.lines)
    × (l.number ≤ l.line-index + 1)
