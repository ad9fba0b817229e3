use Rattle.someipctl_io.proofs.SendingLemmas.{OnErr-any, IsSending-more, IsSending-stop}
use Rattle.someipctl_run.specs.Traces.{pointed}
use Rattle.someipctl_run.proofs.TraceLemmas.{more_numbers, next_line}
use Rattle.someipctl_run.proofs.trace_lines.put_lines.Goals as goal

pub returns-in_err-put_marked_line-clause-err : goal.returns-in_err-put_marked_line-clause-err
returns-in_err-put_marked_line-clause-err g c =
    OnErr-any c.from_residual.result
    (IsSending-stop _ _ _ _ _ _ _ _ _ c.loop-line.invariant.0
    (next_line (pointed c.args.step_lines) c.args.nodes.now c.loop-line.number c.args.lines.now c.loop-line.line-index c.line-item.result c.loop-line-test.true c.line-item.is) c.in_err-put_marked_line.ensures.err)

pub loop-line-preserved : goal.loop-line-preserved
loop-line-preserved g c =
    rw c.number_after-number.ensures (
      IsSending-more _ _ _ _ _ _ _ _ _ _ c.loop-line.invariant.0
          (next_line (pointed c.args.step_lines) c.args.nodes.now c.loop-line.number c.args.lines.now c.loop-line.line-index c.line-item.result c.loop-line-test.true c.line-item.is) c.in_ok-put_marked_line.ensures.ok,
      more_numbers c.loop-line.number c.loop-line.line-index c.line-item.result c.loop-line.invariant.1,
    )
