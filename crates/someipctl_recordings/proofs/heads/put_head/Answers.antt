use Rattle.std.proofs.lemmas.Result.{on_ok_weaker, on_err_weaker}
use Rattle.someipctl_io.proofs.SendingLemmas.{OnErr-any, Sends-trans, Stops-after, Stops-before}
use Rattle.someipctl_recordings.proofs.heads.put_head.Goals as goal

pub returns-in_err-put_time-clause-err : goal.returns-in_err-put_time-clause-err
returns-in_err-put_time-clause-err g c = OnErr-any c.from_residual.result (Stops-before _ _ _ _ _ c.in_err-put_time.ensures.err)

pub returns-in_err-put_words-clause-err : goal.returns-in_err-put_words-clause-err
returns-in_err-put_words-clause-err g c =
    OnErr-any c.from_residual-in_err-put_words.result (Stops-after _ _ _ _ _ _ _ c.in_ok-put_time.ensures.ok (Stops-before _ _ _ _ _ (rw c.endpoint_words.ensures at c.in_err-put_words.ensures.err)))

pub returns-clause-ok : goal.returns-clause-ok
returns-clause-ok g c =
    on_ok_weaker c.put_parts.result
    (λ sends. Sends-trans _ _ _ _ _ _ _ _ c.in_ok-put_time.ensures.ok (Sends-trans _ _ _ _ _ _ _ _ (rw c.endpoint_words.ensures at c.in_ok-put_words.ensures.ok) sends)) c.put_parts.ensures.ok

pub returns-clause-err : goal.returns-clause-err
returns-clause-err g c =
    on_err_weaker c.put_parts.result
    (λ stops. Stops-after _ _ _ _ _ _ _ c.in_ok-put_time.ensures.ok (Stops-after _ _ _ _ _ _ _ (rw c.endpoint_words.ensures at c.in_ok-put_words.ensures.ok) stops)) c.put_parts.ensures.err
