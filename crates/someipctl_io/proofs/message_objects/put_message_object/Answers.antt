use Rattle.std.proofs.lemmas.Result.{on_ok_weaker, on_err_weaker}
use Rattle.someipctl_io.proofs.SendingLemmas.{OnErr-any, Sends-trans, Stops-after, Stops-before}
use Rattle.someipctl_io.proofs.message_objects.put_message_object.Goals as goal

pub returns-in_err-put_begin_of_object-clause-err : goal.returns-in_err-put_begin_of_object-clause-err
returns-in_err-put_begin_of_object-clause-err g c = OnErr-any c.from_residual.result (Stops-before _ _ _ _ _ c.in_err-put_begin_of_object.ensures.err)

pub returns-clause-ok : goal.returns-clause-ok
returns-clause-ok g c = on_ok_weaker c.put_members.result (Sends-trans _ _ _ _ _ _ _ _ c.in_ok-put_begin_of_object.ensures.ok) c.put_members.ensures.ok

pub returns-clause-err : goal.returns-clause-err
returns-clause-err g c = on_err_weaker c.put_members.result (Stops-after _ _ _ _ _ _ _ c.in_ok-put_begin_of_object.ensures.ok) c.put_members.ensures.err
