use Rattle.std.proofs.lemmas.Result.{on_ok_weaker, on_err_weaker}
use Rattle.someipctl_io.proofs.SendingLemmas.{OnErr-any, Sends-trans, Stops-after, Stops-before}
use Rattle.someipctl_run.proofs.comparing.put_mismatch.Goals as goal

pub returns-in_err-put_parts-clause-err : goal.returns-in_err-put_parts-clause-err
returns-in_err-put_parts-clause-err g c = OnErr-any c.from_residual.result (Stops-before _ _ _ _ _ c.in_err-put_parts.ensures.err)

pub returns-in_err-put-clause-err : goal.returns-in_err-put-clause-err
returns-in_err-put-clause-err g c =
    OnErr-any c.from_residual-in_err-put.result
    (Stops-after _ _ _ _ _ _ _ c.in_ok-put_parts.ensures.ok (Stops-before _ _ _ _ _ (rw c.expected_or_dash.ensures at c.in_err-put.ensures.err)))

pub returns-in_err-put_parts-2-clause-err : goal.returns-in_err-put_parts-2-clause-err
returns-in_err-put_parts-2-clause-err g c =
    OnErr-any c.from_residual-in_err-put_parts-2.result
    (Stops-after _ _ _ _ _ _ _ c.in_ok-put_parts.ensures.ok
    (Stops-after _ _ _ _ _ _ _ (rw c.expected_or_dash.ensures at c.in_ok-put.ensures.ok) (Stops-before _ _ _ _ _ c.in_err-put_parts-2.ensures.err)))

pub returns-in_err-put-2-clause-err : goal.returns-in_err-put-2-clause-err
returns-in_err-put-2-clause-err g c =
    OnErr-any c.from_residual-in_err-put-2.result
    (Stops-after _ _ _ _ _ _ _ c.in_ok-put_parts.ensures.ok
    (Stops-after _ _ _ _ _ _ _ (rw c.expected_or_dash.ensures at c.in_ok-put.ensures.ok)
    (Stops-after _ _ _ _ _ _ _ c.in_ok-put_parts-2.ensures.ok (Stops-before _ _ _ _ _ (rw c.got_or_dash.ensures at c.in_err-put-2.ensures.err)))))

pub returns-clause-ok : goal.returns-clause-ok
returns-clause-ok g c =
    on_ok_weaker c.put_parts-3.result
    (λ sends. Sends-trans _ _ _ _ _ _ _ _ c.in_ok-put_parts.ensures.ok
    (Sends-trans _ _ _ _ _ _ _ _ (rw c.expected_or_dash.ensures at c.in_ok-put.ensures.ok)
    (Sends-trans _ _ _ _ _ _ _ _ c.in_ok-put_parts-2.ensures.ok (Sends-trans _ _ _ _ _ _ _ _ (rw c.got_or_dash.ensures at c.in_ok-put-2.ensures.ok) sends))))
    (rw c.came_by_part.ensures at c.put_parts-3.ensures.ok)

pub returns-clause-err : goal.returns-clause-err
returns-clause-err g c =
    on_err_weaker c.put_parts-3.result
    (λ stops. Stops-after _ _ _ _ _ _ _ c.in_ok-put_parts.ensures.ok
    (Stops-after _ _ _ _ _ _ _ (rw c.expected_or_dash.ensures at c.in_ok-put.ensures.ok)
    (Stops-after _ _ _ _ _ _ _ c.in_ok-put_parts-2.ensures.ok (Stops-after _ _ _ _ _ _ _ (rw c.got_or_dash.ensures at c.in_ok-put-2.ensures.ok) stops))))
    (rw c.came_by_part.ensures at c.put_parts-3.ensures.err)
