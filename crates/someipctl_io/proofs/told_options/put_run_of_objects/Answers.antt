use Rattle.std.proofs.lemmas.Result.{on_ok_weaker, on_err_weaker}
use Rattle.someipctl_io.proofs.SendingLemmas.{OnErr-any, Sends-trans, Stops-after, Stops-before}
use Rattle.someipctl_io.proofs.told_options.put_run_of_objects.Goals as goal

pub returns-in_err-put_key-clause-err : goal.returns-in_err-put_key-clause-err
returns-in_err-put_key-clause-err g c = OnErr-any c.from_residual.result (Stops-before _ _ _ _ _ c.in_err-put_key.ensures.err)

pub returns-in_err-put-clause-err : goal.returns-in_err-put-clause-err
returns-in_err-put-clause-err g c = OnErr-any c.from_residual-in_err-put.result (Stops-after _ _ _ _ _ _ _ c.in_ok-put_key.ensures.ok (Stops-before _ _ _ _ _ c.in_err-put.ensures.err))

pub returns-in_err-put_objects-clause-err : goal.returns-in_err-put_objects-clause-err
returns-in_err-put_objects-clause-err g c =
    OnErr-any c.from_residual-in_err-put_objects.result
    (Stops-after _ _ _ _ _ _ _ c.in_ok-put_key.ensures.ok (Stops-after _ _ _ _ _ _ _ c.in_ok-put.ensures.ok (Stops-before _ _ _ _ _ c.in_err-put_objects.ensures.err)))

pub returns-clause-ok : goal.returns-clause-ok
returns-clause-ok g c =
    on_ok_weaker c.put-2.result
    (λ s. Sends-trans _ _ _ _ _ _ _ _ c.in_ok-put_key.ensures.ok (Sends-trans _ _ _ _ _ _ _ _ c.in_ok-put.ensures.ok (Sends-trans _ _ _ _ _ _ _ _ c.in_ok-put_objects.ensures.ok s)))
    c.put-2.ensures.ok

pub returns-clause-err : goal.returns-clause-err
returns-clause-err g c =
    on_err_weaker c.put-2.result
    (λ s. Stops-after _ _ _ _ _ _ _ c.in_ok-put_key.ensures.ok (Stops-after _ _ _ _ _ _ _ c.in_ok-put.ensures.ok (Stops-after _ _ _ _ _ _ _ c.in_ok-put_objects.ensures.ok s)))
    c.put-2.ensures.err
