use Rattle.std.proofs.lemmas.Result.{on_err_weaker, on_ok_weaker}
use Rattle.someipctl_io.proofs.SendingLemmas.{OnErr-any, Sends-trans, Stops-after, Stops-before}
use Rattle.someipctl_stats.proofs.lacking.put_lacks.Goals as goal

pub returns-in_err-put_lack-clause-err : goal.returns-in_err-put_lack-clause-err
returns-in_err-put_lack-clause-err g c = OnErr-any c.from_residual.result (Stops-before _ _ _ _ _ c.in_err-put_lack.ensures.err)

pub returns-in_err-put_lack-2-clause-err : goal.returns-in_err-put_lack-2-clause-err
returns-in_err-put_lack-2-clause-err g c = OnErr-any c.from_residual-in_err-put_lack-2.result (Stops-after _ _ _ _ _ _ _ c.in_ok-put_lack.ensures.ok (Stops-before _ _ _ _ _ c.in_err-put_lack-2.ensures.err))

pub returns-clause-ok : goal.returns-clause-ok
returns-clause-ok g c = on_ok_weaker c.put_lack-3.result (λ s. Sends-trans _ _ _ _ _ _ _ _ c.in_ok-put_lack.ensures.ok (Sends-trans _ _ _ _ _ _ _ _ c.in_ok-put_lack-2.ensures.ok s)) c.put_lack-3.ensures.ok

pub returns-clause-err : goal.returns-clause-err
returns-clause-err g c = on_err_weaker c.put_lack-3.result (λ s. Stops-after _ _ _ _ _ _ _ c.in_ok-put_lack.ensures.ok (Stops-after _ _ _ _ _ _ _ c.in_ok-put_lack-2.ensures.ok s)) c.put_lack-3.ensures.err
