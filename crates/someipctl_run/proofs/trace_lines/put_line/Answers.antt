use Rattle.std.proofs.lemmas.Result.{on_ok_weaker, on_err_weaker}
use Rattle.someipctl_io.proofs.SendingLemmas.{OnErr-any, Sends-trans, Stops-after, Stops-before}
use Rattle.someipctl_run.proofs.trace_lines.put_line.Goals as goal

pub returns-in_err-put_parts-clause-err : goal.returns-in_err-put_parts-clause-err
returns-in_err-put_parts-clause-err g c = OnErr-any c.from_residual.result (Stops-before _ _ _ _ _ (rw c.head_parts.ensures at c.in_err-put_parts.ensures.err))

pub returns-clause-ok : goal.returns-clause-ok
returns-clause-ok g c = on_ok_weaker c.put_told.result (λ sends. Sends-trans _ _ _ _ _ _ _ _ (rw c.head_parts.ensures at c.in_ok-put_parts.ensures.ok) sends) c.put_told.ensures.ok

pub returns-clause-err : goal.returns-clause-err
returns-clause-err g c = on_err_weaker c.put_told.result (λ stops. Stops-after _ _ _ _ _ _ _ (rw c.head_parts.ensures at c.in_ok-put_parts.ensures.ok) stops) c.put_told.ensures.err
