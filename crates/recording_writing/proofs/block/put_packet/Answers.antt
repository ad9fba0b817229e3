use Rattle.std.proofs.lemmas.Result.{on_ok_weaker, on_err_weaker}
use Rattle.someipctl_io.proofs.SendingLemmas.{OnErr-any, Sends-trans, Stops-after, Stops-before}
use Rattle.recording_writing.proofs.block.put_packet.Goals as goal

pub returns-in_err-put_numbers-clause-err : goal.returns-in_err-put_numbers-clause-err
returns-in_err-put_numbers-clause-err g c = OnErr-any c.from_residual.result (Stops-before _ _ _ _ _ c.in_err-put_numbers.ensures.err)

pub returns-in_err-put-clause-err : goal.returns-in_err-put-clause-err
returns-in_err-put-clause-err g c =
    OnErr-any c.from_residual-in_err-put.result (Stops-after _ _ _ _ _ _ _ c.in_ok-put_numbers.ensures.ok (Stops-before _ _ _ _ _ c.in_err-put.ensures.err))

pub returns-in_err-put_padding-clause-err : goal.returns-in_err-put_padding-clause-err
returns-in_err-put_padding-clause-err g c =
    OnErr-any c.from_residual-in_err-put_padding.result
    (Stops-after _ _ _ _ _ _ _ c.in_ok-put_numbers.ensures.ok (Stops-after _ _ _ _ _ _ _ c.in_ok-put.ensures.ok (Stops-before _ _ _ _ _ c.in_err-put_padding.ensures.err)))

pub returns-clause-ok : goal.returns-clause-ok
returns-clause-ok g c =
    on_ok_weaker c.put_numbers-2.result
    (λ sends. Sends-trans _ _ _ _ _ _ _ _ c.in_ok-put_numbers.ensures.ok (Sends-trans _ _ _ _ _ _ _ _ c.in_ok-put.ensures.ok (Sends-trans _ _ _ _ _ _ _ _ c.in_ok-put_padding.ensures.ok sends)))
    c.put_numbers-2.ensures.ok

pub returns-clause-err : goal.returns-clause-err
returns-clause-err g c =
    on_err_weaker c.put_numbers-2.result
    (λ stops. Stops-after _ _ _ _ _ _ _ c.in_ok-put_numbers.ensures.ok (Stops-after _ _ _ _ _ _ _ c.in_ok-put.ensures.ok (Stops-after _ _ _ _ _ _ _ c.in_ok-put_padding.ensures.ok stops)))
    c.put_numbers-2.ensures.err
