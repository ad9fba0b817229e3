use Rattle.std.proofs.lemmas.Result.{on_ok_weaker, on_err_weaker}
use Rattle.someipctl_io.proofs.SendingLemmas.{OnErr-any, Sends-trans, Stops-after, Stops-before}
use Rattle.someipctl_io.proofs.options.put_run.Goals as goal

pub returns-in_err-put_text-clause-err : goal.returns-in_err-put_text-clause-err
returns-in_err-put_text-clause-err g c = OnErr-any c.from_residual.result (Stops-before _ _ _ _ _ c.in_err-put_text.ensures.err)

pub returns-clause-ok : goal.returns-clause-ok
returns-clause-ok g c = on_ok_weaker c.put_options.result (Sends-trans _ _ _ _ _ _ _ _ c.in_ok-put_text.ensures.ok) c.put_options.ensures.ok

pub returns-clause-err : goal.returns-clause-err
returns-clause-err g c = on_err_weaker c.put_options.result (Stops-after _ _ _ _ _ _ _ c.in_ok-put_text.ensures.ok) c.put_options.ensures.err
