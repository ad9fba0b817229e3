use Rattle.std.proofs.lemmas.Result.{on_ok_weaker, on_err_weaker}
use Rattle.someipctl_io.proofs.SendingLemmas.{OnErr-any, Sends-trans, Stops-after, Stops-before}
use Rattle.someipctl_audit.proofs.summary.put_tally.Goals as goal

pub returns-in_err-put_audited-clause-err : goal.returns-in_err-put_audited-clause-err
returns-in_err-put_audited-clause-err g c = OnErr-any c.from_residual.result (Stops-before _ _ _ _ _ c.in_err-put_audited.ensures.err)

pub returns-clause-ok : goal.returns-clause-ok
returns-clause-ok g c =
    let ok = rw c.kinds.ensures at c.put_kinds.ensures.ok in
    on_ok_weaker c.put_kinds.result (Sends-trans _ _ _ _ _ _ _ _ c.in_ok-put_audited.ensures.ok) ok

pub returns-clause-err : goal.returns-clause-err
returns-clause-err g c =
    let err = rw c.kinds.ensures at c.put_kinds.ensures.err in
    on_err_weaker c.put_kinds.result (Stops-after _ _ _ _ _ _ _ c.in_ok-put_audited.ensures.ok) err
