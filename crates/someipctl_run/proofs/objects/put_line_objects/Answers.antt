use Rattle.someipctl_io.proofs.SendingLemmas.{OnErr-any, IsSending-more, IsSending-stop}
use Rattle.someipctl_io.specs.declared.form.Form.TheVariants.{Json}
use Rattle.someipctl_run.specs.Traces.{pointed}
use Rattle.someipctl_run.proofs.TraceLemmas.{more_numbers, next_trace_line}
use Rattle.someipctl_run.proofs.objects.put_line_objects.Goals as goal

pub returns-in_err-put_line_object-clause-err : goal.returns-in_err-put_line_object-clause-err
returns-in_err-put_line_object-clause-err g c =
    OnErr-any c.from_residual.result
    (IsSending-stop _ _ _ _ _ _ _ _ _ c.loop-line.invariant.0
    (next_trace_line Json (pointed c.args.step_lines) c.args.nodes.now c.loop-line.number c.args.lines.now c.loop-line.line-index c.line-item.result c.loop-line-test.true c.line-item.is) c.in_err-put_line_object.ensures.err)

pub loop-line-preserved : goal.loop-line-preserved
loop-line-preserved g c =
    rw c.number_after-number.ensures (
      IsSending-more _ _ _ _ _ _ _ _ _ _ c.loop-line.invariant.0
          (next_trace_line Json (pointed c.args.step_lines) c.args.nodes.now c.loop-line.number c.args.lines.now c.loop-line.line-index c.line-item.result c.loop-line-test.true c.line-item.is) c.in_ok-put_line_object.ensures.ok,
      more_numbers c.loop-line.number c.loop-line.line-index c.line-item.result c.loop-line.invariant.1,
    )
