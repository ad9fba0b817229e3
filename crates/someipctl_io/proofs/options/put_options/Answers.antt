use Rattle.std.proofs.lemmas.Result.{on_ok_weaker, on_err_weaker}
use Rattle.someipctl_io.proofs.SendingLemmas.{OnErr-any, Sends-trans, Stops-after, Stops-before}
use Rattle.std.proofs.lemmas.List.{take_rest}
use Rattle.someipctl_io.proofs.DiscoveryLemmas.{run_of}
use Rattle.someipctl_io.proofs.options.put_options.Goals as goal

pub returns-in_err-put_option-clause-err : goal.returns-in_err-put_option-clause-err
returns-in_err-put_option-clause-err g c =
    rw (run_of c.args.run.now c.first-item.result c.in-len1-up.len_at_least c.first-item.is) (OnErr-any c.from_residual.result (Stops-before _ _ _ _ _ c.in_err-put_option.ensures.err))

pub returns-clause-ok : goal.returns-clause-ok
returns-clause-ok g c =
    rw (run_of c.args.run.now c.first-item.result c.in-len1-up.len_at_least c.first-item.is) (on_ok_weaker c.put_others.result (Sends-trans _ _ _ _ _ _ _ _ c.in_ok-put_option.ensures.ok) (rw (take_rest c.args.run.now 1) at c.put_others.ensures.ok))

pub returns-clause-err : goal.returns-clause-err
returns-clause-err g c =
    rw (run_of c.args.run.now c.first-item.result c.in-len1-up.len_at_least c.first-item.is) (on_err_weaker c.put_others.result (Stops-after _ _ _ _ _ _ _ c.in_ok-put_option.ensures.ok) (rw (take_rest c.args.run.now 1) at c.put_others.ensures.err))
