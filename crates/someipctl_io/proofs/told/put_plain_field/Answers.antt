use Rattle.std.proofs.lemmas.Result.{on_ok_weaker, on_err_weaker}
use Rattle.someipctl_io.proofs.SendingLemmas.{OnErr-any, Sends-trans, Stops-after, Stops-before}
use Rattle.someipctl_io.proofs.told.put_plain_field.Goals as goal

pub returns-in_err-put-clause-err : goal.returns-in_err-put-clause-err
returns-in_err-put-clause-err g c = rw (← c.as_bytes.ensures.value) (OnErr-any c.from_residual.result (Stops-before _ _ _ _ _ c.in_err-put.ensures.err))

pub returns-clause-ok : goal.returns-clause-ok
returns-clause-ok g c = rw (← c.as_bytes.ensures.value) (on_ok_weaker c.put_plain_said.result (Sends-trans _ _ _ _ _ _ _ _ c.in_ok-put.ensures.ok) c.put_plain_said.ensures.ok)

pub returns-clause-err : goal.returns-clause-err
returns-clause-err g c = rw (← c.as_bytes.ensures.value) (on_err_weaker c.put_plain_said.result (Stops-after _ _ _ _ _ _ _ c.in_ok-put.ensures.ok) c.put_plain_said.ensures.err)
