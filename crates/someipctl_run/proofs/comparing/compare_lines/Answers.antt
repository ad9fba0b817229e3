use Rattle.someipctl_run.proofs.ExpectedLemmas.{IsComparing-differs, IsComparing-ended, IsComparing-more, next_printed}
use Rattle.someipctl_run.proofs.TraceLemmas.{more_numbers}
use Rattle.someipctl_run.proofs.comparing.compare_lines.Goals as goal

pub loop-line-preserved : goal.loop-line-preserved
loop-line-preserved c =
    let next = next_printed c.args.trace.now.form c.args.trace.now.step_lines.now c.args.trace.now.nodes.now c.loop-line.number c.args.trace.now.lines.now c.loop-line.line-index c.line-item.result c.loop-line-test.true c.line-item.is in
    rw c.number_after-number.ensures (
      IsComparing-more _ _ _ _ _ _ _ c.loop-line.invariant.0 next
          (rw (c.in_ok-text.ensures.text, c.shown-step_lines.ensures) at (rw c.in-Same.is at c.take_line.ensures)),
      more_numbers c.loop-line.number c.loop-line.line-index c.line-item.result c.loop-line.invariant.1,
      c.in_ok-text.ensures.empty,
    )

pub returns-in-Ended-clause-compared : goal.returns-in-Ended-clause-compared
returns-in-Ended-clause-compared c = λ more.
    let next = next_printed c.args.trace.now.form c.args.trace.now.step_lines.now c.args.trace.now.nodes.now c.loop-line.number c.args.trace.now.lines.now c.loop-line.line-index c.line-item.result c.loop-line-test.true c.line-item.is in
    let taken = rw (c.in_ok-text.ensures.text, c.shown-step_lines.ensures) at (rw c.in-Ended.is at c.take_line.ensures) in
    rw taken.0 (IsComparing-ended _ _ _ more _ _ _ _ c.loop-line.invariant.0 next taken.1.1)

pub returns-in-Differs-clause-compared : goal.returns-in-Differs-clause-compared
returns-in-Differs-clause-compared c = λ more.
    let next = next_printed c.args.trace.now.form c.args.trace.now.step_lines.now c.args.trace.now.nodes.now c.loop-line.number c.args.trace.now.lines.now c.loop-line.line-index c.line-item.result c.loop-line-test.true c.line-item.is in
    let taken = rw (c.in_ok-text.ensures.text, c.shown-step_lines.ensures, c.line_of_step.ensures) at (rw c.in-Differs.is at c.take_line.ensures) in
    IsComparing-differs _ _ _ _ more _ _ _ _ c.loop-line.invariant.0 next taken.0 taken.1 taken.2
