use Rattle.std.proofs.lemmas.Result.{on_ok_weaker, on_err_weaker}
use Rattle.someipctl_io.proofs.SendingLemmas.{OnErr-any, Sends-trans, Stops-after, Stops-before}
use Rattle.std.proofs.lemmas.List.{take_rest}
use Rattle.someipctl_io.proofs.ObjectLemmas.{items_of_run}
use Rattle.someipctl_io.proofs.told_options.put_objects.Goals as goal

pub returns-in_err-put_object-clause-err : goal.returns-in_err-put_object-clause-err
returns-in_err-put_object-clause-err g c =
    rw (items_of_run c.args.run.now c.first-item.result c.in-len1-up.len_at_least c.first-item.is) (OnErr-any c.from_residual.result (Stops-before _ _ _ _ _ c.in_err-put_object.ensures.err))

pub returns-clause-ok : goal.returns-clause-ok
returns-clause-ok g c =
    rw (items_of_run c.args.run.now c.first-item.result c.in-len1-up.len_at_least c.first-item.is) (on_ok_weaker c.put_other_objects.result (Sends-trans _ _ _ _ _ _ _ _ c.in_ok-put_object.ensures.ok) (rw (take_rest c.args.run.now 1) at c.put_other_objects.ensures.ok))

pub returns-clause-err : goal.returns-clause-err
returns-clause-err g c =
    rw (items_of_run c.args.run.now c.first-item.result c.in-len1-up.len_at_least c.first-item.is) (on_err_weaker c.put_other_objects.result (Stops-after _ _ _ _ _ _ _ c.in_ok-put_object.ensures.ok) (rw (take_rest c.args.run.now 1) at c.put_other_objects.ensures.err))
