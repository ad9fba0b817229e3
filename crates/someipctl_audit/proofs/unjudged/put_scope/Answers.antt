use Rattle.std.proofs.lemmas.Result.{on_ok_weaker, on_err_weaker}
use Rattle.someipctl_io.proofs.SendingLemmas.{OnErr-any, Sends-trans, Stops-after, Stops-before}
use Rattle.someipctl_audit.proofs.unjudged.put_scope.Goals as goal

pub returns-in_err-put_passed-clause-err : goal.returns-in_err-put_passed-clause-err
returns-in_err-put_passed-clause-err g c = OnErr-any c.from_residual.result (Stops-before _ _ _ _ _ c.in_err-put_passed.ensures.err)

pub returns-clause-ok : goal.returns-clause-ok
returns-clause-ok g c = on_ok_weaker c.put_offer.result (Sends-trans _ _ _ _ _ _ _ _ c.in_ok-put_passed.ensures.ok) c.put_offer.ensures.ok

pub returns-clause-err : goal.returns-clause-err
returns-clause-err g c = on_err_weaker c.put_offer.result (Stops-after _ _ _ _ _ _ _ c.in_ok-put_passed.ensures.ok) c.put_offer.ensures.err
