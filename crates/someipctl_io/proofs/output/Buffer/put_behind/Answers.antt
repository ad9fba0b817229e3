use Rattle.std.proofs.lemmas.Result.{on_ok_weaker, on_err_weaker}
use Rattle.someipctl_io.proofs.SendingLemmas.{OnErr-any, Sends-trans, Sends-written, Stops-after, Stops-at, Stops-before}
use Rattle.someipctl_io.proofs.output.Buffer.put_behind.Goals as goal

pub returns-in_err-flush-clause-err : goal.returns-in_err-flush-clause-err
returns-in_err-flush-clause-err g c = OnErr-any _ (Stops-before _ _ _ _ _ c.in_err-flush.ensures.err)

pub returns-then-len-self-clause-ok : goal.returns-then-len-self-clause-ok
returns-then-len-self-clause-ok g c = on_ok_weaker _ (λ wrote. Sends-trans _ _ _ _ _ _ _ _ c.in_ok-flush.ensures.ok (Sends-written _ _ _ _ wrote c.in_ok-flush.ensures.empty)) c.write_text.ensures.ok

pub returns-then-len-self-clause-err : goal.returns-then-len-self-clause-err
returns-then-len-self-clause-err g c = on_err_weaker _ (λ front. Stops-after _ _ _ _ _ _ _ c.in_ok-flush.ensures.ok (Stops-at _ _ _ _ front.0 front.1 c.in_ok-flush.ensures.empty)) c.write_text.ensures.err
