use Rattle.std.proofs.lemmas.Result.{on_ok_weaker, on_err_weaker}
use Rattle.someipctl_io.proofs.SendingLemmas.{OnErr-any, Sends-trans, Stops-after, Stops-before}
use Rattle.someipctl_io.proofs.objects.put_begin_of_object.Goals as goal

pub returns-in_err-put_kind-clause-err : goal.returns-in_err-put_kind-clause-err
returns-in_err-put_kind-clause-err g c = OnErr-any c.from_residual.result (Stops-before _ _ _ _ _ c.in_err-put_kind.ensures.err)

pub returns-in_err-put_fields-clause-err : goal.returns-in_err-put_fields-clause-err
returns-in_err-put_fields-clause-err g c = OnErr-any c.from_residual-in_err-put_fields.result (Stops-after _ _ _ _ _ _ _ c.in_ok-put_kind.ensures.ok (Stops-before _ _ _ _ _ c.in_err-put_fields.ensures.err))

pub returns-in_err-put_fields-2-clause-err : goal.returns-in_err-put_fields-2-clause-err
returns-in_err-put_fields-2-clause-err g c =
    OnErr-any c.from_residual-in_err-put_fields-2.result
    (Stops-after _ _ _ _ _ _ _ c.in_ok-put_kind.ensures.ok (Stops-after _ _ _ _ _ _ _ c.in_ok-put_fields.ensures.ok (Stops-before _ _ _ _ _ c.in_err-put_fields-2.ensures.err)))

pub returns-clause-ok : goal.returns-clause-ok
returns-clause-ok g c =
    on_ok_weaker c.put_fields-3.result
    (λ s. Sends-trans _ _ _ _ _ _ _ _ c.in_ok-put_kind.ensures.ok (Sends-trans _ _ _ _ _ _ _ _ c.in_ok-put_fields.ensures.ok (Sends-trans _ _ _ _ _ _ _ _ c.in_ok-put_fields-2.ensures.ok s)))
    c.put_fields-3.ensures.ok

pub returns-clause-err : goal.returns-clause-err
returns-clause-err g c =
    on_err_weaker c.put_fields-3.result
    (λ s. Stops-after _ _ _ _ _ _ _ c.in_ok-put_kind.ensures.ok (Stops-after _ _ _ _ _ _ _ c.in_ok-put_fields.ensures.ok (Stops-after _ _ _ _ _ _ _ c.in_ok-put_fields-2.ensures.ok s)))
    c.put_fields-3.ensures.err
