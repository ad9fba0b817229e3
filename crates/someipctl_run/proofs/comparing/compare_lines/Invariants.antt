use Rattle.std.proofs.Common.{◌≡◌, ◌+◌, ◌≤◌, [], drop}
use Rattle.someipctl_run.specs.Expected.{printed_from}
use Rattle.someipctl_run.proofs.ExpectedLemmas.{IsComparing}
use Rattle.someipctl_run.proofs.comparing.compare_lines.Given as goal

-- what is left of the lines is still to compare, and there are no more datagrams than lines so far; the buffer is empty
abbrev pub invariant-loop-line : goal.invariant-loop-line
invariant-loop-line l =
    IsComparing (printed_from l.trace.form l.trace.step_lines.now l.trace.nodes.now 1 l.lines)
    (printed_from l.trace.form l.trace.step_lines.now l.trace.nodes.now l.number (drop l.line-index l.lines)) l.expected l.rest
    × (l.number ≤ l.line-index + 1)
    × (l.buffer ≡ [])
