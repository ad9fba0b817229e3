use Rattle.std.proofs.lemmas.Result.{on_err_weaker, on_ok_weaker}
use Rattle.someipctl_io.proofs.SendingLemmas.{OnErr-any, Sends-trans, Stops-after, Stops-before}
use Rattle.someipctl_stats.proofs.account.put_stats.Goals as goal

pub returns-in_err-put_figures-clause-err : goal.returns-in_err-put_figures-clause-err
returns-in_err-put_figures-clause-err g c = OnErr-any c.from_residual.result (Stops-before _ _ _ _ _ c.in_err-put_figures.ensures.err)

pub returns-clause-ok : goal.returns-clause-ok
returns-clause-ok g c = on_ok_weaker c.put_lacks.result (λ s. Sends-trans _ _ _ _ _ _ _ _ c.in_ok-put_figures.ensures.ok s) c.put_lacks.ensures.ok

pub returns-clause-err : goal.returns-clause-err
returns-clause-err g c = on_err_weaker c.put_lacks.result (λ s. Stops-after _ _ _ _ _ _ _ c.in_ok-put_figures.ensures.ok s) c.put_lacks.ensures.err
