use Rattle.someipctl_io.proofs.SendingLemmas.{OnErr-any, Sends-trans, Stops-after, Stops-before}
use Rattle.someipctl_io.proofs.told_items.put_behind_in.Goals as goal

pub returns-in_err-no_word-clause-err : goal.returns-in_err-no_word-clause-err
returns-in_err-no_word-clause-err g c = OnErr-any c.from_residual.result (Stops-before _ _ _ _ _ c.in_err-no_word.ensures.err)

pub returns-in_err-faulty-clause-err : goal.returns-in_err-faulty-clause-err
returns-in_err-faulty-clause-err g c = OnErr-any c.from_residual-in_err-faulty.result (Stops-after _ _ _ _ _ _ _ c.in_ok-no_word.ensures.ok c.in_err-faulty.ensures.err)

pub returns-clause-ok : goal.returns-clause-ok
returns-clause-ok g c = Sends-trans _ _ _ _ _ _ _ _ c.in_ok-no_word.ensures.ok c.in_ok-faulty.ensures.ok
