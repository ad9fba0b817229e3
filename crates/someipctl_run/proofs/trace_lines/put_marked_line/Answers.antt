use Rattle.std.proofs.lemmas.Result.{on_ok_weaker, on_err_weaker}
use Rattle.someipctl_io.proofs.SendingLemmas.{OnErr-any, Sends-trans, Stops-after, Stops-before}
use Rattle.someipctl_run.proofs.trace_lines.put_marked_line.Goals as goal

pub returns-in_err-put_margin-clause-err : goal.returns-in_err-put_margin-clause-err
returns-in_err-put_margin-clause-err g c = OnErr-any c.from_residual.result (Stops-before _ _ _ _ _ (rw c.shown_line_of.ensures at c.in_err-put_margin.ensures.err))

pub returns-clause-ok : goal.returns-clause-ok
returns-clause-ok g c = on_ok_weaker c.put_line.result (λ sends. Sends-trans _ _ _ _ _ _ _ _ (rw c.shown_line_of.ensures at c.in_ok-put_margin.ensures.ok) sends) c.put_line.ensures.ok

pub returns-clause-err : goal.returns-clause-err
returns-clause-err g c = on_err_weaker c.put_line.result (λ stops. Stops-after _ _ _ _ _ _ _ (rw c.shown_line_of.ensures at c.in_ok-put_margin.ensures.ok) stops) c.put_line.ensures.err
