use Rattle.std.proofs.Common.{sym}
use Rattle.std.proofs.lemmas.List.{append-nil}
use Rattle.std.proofs.lemmas.Result.{on_ok_weaker, on_err_weaker}
use Rattle.someipctl_io.proofs.SendingLemmas.{OnErr-any, Sends-as, Sends-trans, Stops-after, Stops-as, Stops-before}
use Rattle.someipctl_io.proofs.told_options.put_runs_in.Goals as goal

pub returns-in_err-put_run_in-clause-err : goal.returns-in_err-put_run_in-clause-err
returns-in_err-put_run_in-clause-err g c = OnErr-any c.from_residual.result (Stops-before _ _ _ _ _ c.in_err-put_run_in.ensures.err)

pub returns-clause-ok : goal.returns-clause-ok
returns-clause-ok g c =
    on_ok_weaker c.put_run_in-2.result (λ s. Sends-trans _ _ _ _ _ _ _ _ c.in_ok-put_run_in.ensures.ok (Sends-as _ _ _ _ _ _ (sym (append-nil _)) s)) c.put_run_in-2.ensures.ok

pub returns-clause-err : goal.returns-clause-err
returns-clause-err g c =
    on_err_weaker c.put_run_in-2.result (λ s. Stops-after _ _ _ _ _ _ _ c.in_ok-put_run_in.ensures.ok (Stops-as _ _ _ _ _ (sym (append-nil _)) s)) c.put_run_in-2.ensures.err
