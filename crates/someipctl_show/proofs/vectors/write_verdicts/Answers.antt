use Rattle.someipctl_io.proofs.SendingLemmas.{OnErr-any, Sends-trans, Stops-after, Stops-before, Stops-flush}
use Rattle.someipctl_show.proofs.vectors.write_verdicts.Goals as goal
use Rattle.std.proofs.lemmas.Result.{on_err_weaker}

pub returns-in_err-put_verdicts-clause-err : goal.returns-in_err-put_verdicts-clause-err
returns-in_err-put_verdicts-clause-err g c =
    OnErr-any c.from_residual.result (Stops-before _ _ _ _ _ (rw c.requires at c.in_err-put_verdicts.ensures.err))

pub returns-in_err-put_summary-clause-err : goal.returns-in_err-put_summary-clause-err
returns-in_err-put_summary-clause-err g c =
    OnErr-any c.from_residual-in_err-put_summary.result (Stops-after _ _ _ _ _ _ _ (rw c.requires at c.in_ok-put_verdicts.ensures.ok) c.in_err-put_summary.ensures.err)

pub returns-clause-err : goal.returns-clause-err
returns-clause-err g c =
    on_err_weaker c.flush.result (Stops-flush _ _ _ _ _ _ (Sends-trans _ _ _ _ _ _ _ _ (rw c.requires at c.in_ok-put_verdicts.ensures.ok) c.in_ok-put_summary.ensures.ok)) c.flush.ensures.err
