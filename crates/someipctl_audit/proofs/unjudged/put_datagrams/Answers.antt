use Rattle.std.proofs.lemmas.Result.{on_ok_weaker, on_err_weaker}
use Rattle.someipctl_io.proofs.SendingLemmas.{OnErr-any, Sends-trans, Stops-after, Stops-before}
use Rattle.someipctl_audit.proofs.unjudged.put_datagrams.Goals as goal

pub returns-in_err-put_scope-clause-err : goal.returns-in_err-put_scope-clause-err
returns-in_err-put_scope-clause-err g c = OnErr-any c.from_residual.result (Stops-before _ _ _ _ _ (rw c.was_offered.ensures at c.in_err-put_scope.ensures.err))

pub returns-clause-ok : goal.returns-clause-ok
returns-clause-ok g c = on_ok_weaker c.put_ways_alone.result (Sends-trans _ _ _ _ _ _ _ _ (rw c.was_offered.ensures at c.in_ok-put_scope.ensures.ok)) c.put_ways_alone.ensures.ok

pub returns-clause-err : goal.returns-clause-err
returns-clause-err g c = on_err_weaker c.put_ways_alone.result (Stops-after _ _ _ _ _ _ _ (rw c.was_offered.ensures at c.in_ok-put_scope.ensures.ok)) c.put_ways_alone.ensures.err
