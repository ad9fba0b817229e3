use Rattle.std.proofs.lemmas.Result.{on_ok_weaker, on_err_weaker}
use Rattle.someipctl_io.proofs.SendingLemmas.{OnErr-any, Sends-trans, Stops-after, Stops-before}
use Rattle.someipctl_io.proofs.told_entries.put_entry_begin.Goals as goal

pub returns-in_err-put_begin-clause-err : goal.returns-in_err-put_begin-clause-err
returns-in_err-put_begin-clause-err g c = rw (← c.name_of-name.ensures) (OnErr-any c.from_residual.result (Stops-before _ _ _ _ _ c.in_err-put_begin.ensures.err))

pub returns-clause-ok : goal.returns-clause-ok
returns-clause-ok g c = rw (← c.name_of-name.ensures) (on_ok_weaker c.put_head_fields.result (Sends-trans _ _ _ _ _ _ _ _ c.in_ok-put_begin.ensures.ok) c.put_head_fields.ensures.ok)

pub returns-clause-err : goal.returns-clause-err
returns-clause-err g c = rw (← c.name_of-name.ensures) (on_err_weaker c.put_head_fields.result (Stops-after _ _ _ _ _ _ _ c.in_ok-put_begin.ensures.ok) c.put_head_fields.ensures.err)
