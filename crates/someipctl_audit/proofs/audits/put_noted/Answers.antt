use Rattle.std.proofs.lemmas.Result.{on_ok_weaker, on_err_weaker}
use Rattle.someipctl_io.proofs.SendingLemmas.{OnErr-any, Sends-trans, Stops-after, Stops-before}
use Rattle.someipctl_audit.proofs.audits.put_noted.Goals as goal

pub returns-in_err-put_groups-clause-err : goal.returns-in_err-put_groups-clause-err
returns-in_err-put_groups-clause-err g c = OnErr-any c.from_residual.result (Stops-before _ _ _ _ _ c.in_err-put_groups.ensures.err)

pub returns-clause-ok : goal.returns-clause-ok
returns-clause-ok g c = on_ok_weaker c.put_weights.result (Sends-trans _ _ _ _ _ _ _ _ c.in_ok-put_groups.ensures.ok) c.put_weights.ensures.ok

pub returns-clause-err : goal.returns-clause-err
returns-clause-err g c = on_err_weaker c.put_weights.result (Stops-after _ _ _ _ _ _ _ c.in_ok-put_groups.ensures.ok) c.put_weights.ensures.err
