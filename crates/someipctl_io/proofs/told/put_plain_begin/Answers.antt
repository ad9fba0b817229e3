use Rattle.std.proofs.lemmas.Result.{on_ok_weaker, on_err_weaker}
use Rattle.someipctl_io.proofs.SendingLemmas.{OnErr-any, Sends-trans, Stops-after, Stops-before}
use Rattle.someipctl_io.proofs.told.put_plain_begin.Goals as goal

pub returns-in_err-put_origin-clause-err : goal.returns-in_err-put_origin-clause-err
returns-in_err-put_origin-clause-err g c = OnErr-any c.from_residual.result (Stops-before _ _ _ _ _ c.in_err-put_origin.ensures.err)

pub returns-in_err-put_fields-clause-err : goal.returns-in_err-put_fields-clause-err
returns-in_err-put_fields-clause-err g c = OnErr-any c.from_residual-in_err-put_fields.result (Stops-after _ _ _ _ _ _ _ c.in_ok-put_origin.ensures.ok (Stops-before _ _ _ _ _ c.in_err-put_fields.ensures.err))

pub returns-in_err-put_fields-2-clause-err : goal.returns-in_err-put_fields-2-clause-err
returns-in_err-put_fields-2-clause-err g c =
    OnErr-any c.from_residual-in_err-put_fields-2.result
    (Stops-after _ _ _ _ _ _ _ c.in_ok-put_origin.ensures.ok (Stops-after _ _ _ _ _ _ _ c.in_ok-put_fields.ensures.ok (Stops-before _ _ _ _ _ c.in_err-put_fields-2.ensures.err)))

pub returns-clause-ok : goal.returns-clause-ok
returns-clause-ok g c =
    on_ok_weaker c.put_parts.result
    (λ s. Sends-trans _ _ _ _ _ _ _ _ c.in_ok-put_origin.ensures.ok (Sends-trans _ _ _ _ _ _ _ _ c.in_ok-put_fields.ensures.ok (Sends-trans _ _ _ _ _ _ _ _ c.in_ok-put_fields-2.ensures.ok s)))
    (rw c.word_parts.ensures at c.put_parts.ensures.ok)

pub returns-clause-err : goal.returns-clause-err
returns-clause-err g c =
    on_err_weaker c.put_parts.result
    (λ s. Stops-after _ _ _ _ _ _ _ c.in_ok-put_origin.ensures.ok (Stops-after _ _ _ _ _ _ _ c.in_ok-put_fields.ensures.ok (Stops-after _ _ _ _ _ _ _ c.in_ok-put_fields-2.ensures.ok s)))
    (rw c.word_parts.ensures at c.put_parts.ensures.err)
