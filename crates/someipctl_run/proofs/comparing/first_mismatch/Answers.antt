use Rattle.std.proofs.Common.{None, [], ◌∷◌, ◌++◌}
use Rattle.someipctl_run.specs.Expected.{PrintedLine, printed_from}
use Rattle.someipctl_run.specs.Traces.{marked_verdict, shown_lines}
use Rattle.someipctl_run.proofs.ComparingLemmas.{ends_all}
use Rattle.someipctl_run.proofs.ExpectedLemmas.{last_line}
use Rattle.someipctl_run.proofs.comparing.first_mismatch.Goals as goal

pub returns-in-Same-take_line-clause-found : goal.returns-in-Same-take_line-clause-found
returns-in-Same-take_line-clause-found c =
    let front = printed_from c.args.trace.now.form c.args.trace.now.step_lines.now c.args.trace.now.nodes.now 1 c.args.trace.now.lines.now in
    let last : PrintedLine = record { came_by = None; text = marked_verdict (shown_lines c.args.trace.now.form c.args.trace.now.step_lines.now) c.args.trace.now.verdict } in
    ends_all c.args.extent (front ++ last ∷ []) c.args.expected.now c.in-Same-take_line.rest.now c.left_over.result
    (last_line front last c.args.expected.now c.in-Same.rest.now c.in-Same-take_line.rest.now (rw c.in-Same.is at c.in_ok-rest.ensures.compared)
    (rw (c.in_ok-text.ensures.text, c.shown.ensures) at (rw c.in-Same-take_line.is at c.take_line.ensures)))
    c.left_over.ensures
