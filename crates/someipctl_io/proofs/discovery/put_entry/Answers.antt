use Rattle.std.proofs.lemmas.Result.{on_ok_weaker, on_err_weaker}
use Rattle.someipctl_io.proofs.SendingLemmas.{OnErr-any, Sends-trans, Stops-after, Stops-before}
use Rattle.someipctl_io.proofs.discovery.put_entry.Goals as goal

pub returns-in_err-put_head-in-Good-clause-err : goal.returns-in_err-put_head-in-Good-clause-err
returns-in_err-put_head-in-Good-clause-err g c = rw c.in-Good.is (OnErr-any c.from_residual.result (Stops-before _ _ _ _ _ c.in_err-put_head-in-Good.ensures.err))

pub returns-in_err-put_head-in-BadRun-clause-err : goal.returns-in_err-put_head-in-BadRun-clause-err
returns-in_err-put_head-in-BadRun-clause-err g c = rw c.in-BadRun.is (OnErr-any c.from_residual-in_err-put_head-in-BadRun.result (Stops-before _ _ _ _ _ c.in_err-put_head-in-BadRun.ensures.err))

pub returns-in_ok-put_head-in-Good-clause-ok : goal.returns-in_ok-put_head-in-Good-clause-ok
returns-in_ok-put_head-in-Good-clause-ok g c =
    rw c.in-Good.is (on_ok_weaker c.put_runs.result (Sends-trans _ _ _ _ _ _ _ _ c.in_ok-put_head-in-Good.ensures.ok) (rw (c.deref.ensures.value, c.deref-in-Good.ensures.value) at c.put_runs.ensures.ok))

pub returns-in_ok-put_head-in-Good-clause-err : goal.returns-in_ok-put_head-in-Good-clause-err
returns-in_ok-put_head-in-Good-clause-err g c =
    rw c.in-Good.is (on_err_weaker c.put_runs.result (Stops-after _ _ _ _ _ _ _ c.in_ok-put_head-in-Good.ensures.ok) (rw (c.deref.ensures.value, c.deref-in-Good.ensures.value) at c.put_runs.ensures.err))

pub returns-in_ok-put_head-in-BadRun-clause-ok : goal.returns-in_ok-put_head-in-BadRun-clause-ok
returns-in_ok-put_head-in-BadRun-clause-ok g c =
    rw c.in-BadRun.is (on_ok_weaker c.put_parts.result (Sends-trans _ _ _ _ _ _ _ _ c.in_ok-put_head-in-BadRun.ensures.ok) c.put_parts.ensures.ok)

pub returns-in_ok-put_head-in-BadRun-clause-err : goal.returns-in_ok-put_head-in-BadRun-clause-err
returns-in_ok-put_head-in-BadRun-clause-err g c =
    rw c.in-BadRun.is (on_err_weaker c.put_parts.result (Stops-after _ _ _ _ _ _ _ c.in_ok-put_head-in-BadRun.ensures.ok) c.put_parts.ensures.err)
