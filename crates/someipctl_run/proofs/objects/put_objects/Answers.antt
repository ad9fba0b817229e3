use Rattle.std.proofs.lemmas.Result.{on_ok_weaker, on_err_weaker}
use Rattle.someipctl_io.proofs.SendingLemmas.{OnErr-any, Sends-trans, Stops-after, Stops-before}
use Rattle.someipctl_run.proofs.objects.put_objects.Goals as goal

pub returns-in_err-put_line_objects-clause-err : goal.returns-in_err-put_line_objects-clause-err
returns-in_err-put_line_objects-clause-err g c = OnErr-any c.from_residual.result (Stops-before _ _ _ _ _ (rw c.shown-step_lines.ensures at c.in_err-put_line_objects.ensures.err))

pub returns-clause-ok : goal.returns-clause-ok
returns-clause-ok g c = on_ok_weaker c.put_verdict_object.result (λ sends. Sends-trans _ _ _ _ _ _ _ _ (rw c.shown-step_lines.ensures at c.in_ok-put_line_objects.ensures.ok) sends) (rw c.shown-step_lines.ensures at c.put_verdict_object.ensures.ok)

pub returns-clause-err : goal.returns-clause-err
returns-clause-err g c = on_err_weaker c.put_verdict_object.result (λ stops. Stops-after _ _ _ _ _ _ _ (rw c.shown-step_lines.ensures at c.in_ok-put_line_objects.ensures.ok) stops) (rw c.shown-step_lines.ensures at c.put_verdict_object.ensures.err)
