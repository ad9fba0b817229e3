use Rattle.std.proofs.lemmas.Result.{on_ok_weaker, on_err_weaker}
use Rattle.someipctl_io.proofs.SendingLemmas.{OnErr-any, Sends-trans, Stops-after, Stops-before}
use Rattle.someipctl_io.proofs.discovery.put_message.Goals as goal

pub returns-in_err-put_parts-clause-err : goal.returns-in_err-put_parts-clause-err
returns-in_err-put_parts-clause-err g c = OnErr-any c.from_residual.result (Stops-before _ _ _ _ _ (rw c.sd_parts.ensures at c.in_err-put_parts.ensures.err))

pub returns-clause-ok : goal.returns-clause-ok
returns-clause-ok g c = on_ok_weaker c.put_entries.result (Sends-trans _ _ _ _ _ _ _ _ (rw c.sd_parts.ensures at c.in_ok-put_parts.ensures.ok)) (rw c.deref.ensures.value at c.put_entries.ensures.ok)

pub returns-clause-err : goal.returns-clause-err
returns-clause-err g c = on_err_weaker c.put_entries.result (Stops-after _ _ _ _ _ _ _ (rw c.sd_parts.ensures at c.in_ok-put_parts.ensures.ok)) (rw c.deref.ensures.value at c.put_entries.ensures.err)
