use Rattle.std.proofs.lemmas.Result.{on_ok_weaker, on_err_weaker}
use Rattle.someipctl_io.proofs.SendingLemmas.{OnErr-any, Sends-trans, Stops-after, Stops-before}
use Rattle.someipctl_io.proofs.objects.put_quoted.Goals as goal

pub returns-in_err-put-clause-err : goal.returns-in_err-put-clause-err
returns-in_err-put-clause-err g c = OnErr-any c.from_residual.result (Stops-before _ _ _ _ _ c.in_err-put.ensures.err)

pub returns-in_err-put_escaped-clause-err : goal.returns-in_err-put_escaped-clause-err
returns-in_err-put_escaped-clause-err g c = rw (← c.as_bytes.ensures.value) (OnErr-any c.from_residual-in_err-put_escaped.result (Stops-after _ _ _ _ _ _ _ c.in_ok-put.ensures.ok (Stops-before _ _ _ _ _ c.in_err-put_escaped.ensures.err)))

pub returns-clause-ok : goal.returns-clause-ok
returns-clause-ok g c = rw (← c.as_bytes.ensures.value) (on_ok_weaker c.put-2.result (λ s. Sends-trans _ _ _ _ _ _ _ _ c.in_ok-put.ensures.ok (Sends-trans _ _ _ _ _ _ _ _ c.in_ok-put_escaped.ensures.ok s)) c.put-2.ensures.ok)

pub returns-clause-err : goal.returns-clause-err
returns-clause-err g c = rw (← c.as_bytes.ensures.value) (on_err_weaker c.put-2.result (λ s. Stops-after _ _ _ _ _ _ _ c.in_ok-put.ensures.ok (Stops-after _ _ _ _ _ _ _ c.in_ok-put_escaped.ensures.ok s)) c.put-2.ensures.err)
