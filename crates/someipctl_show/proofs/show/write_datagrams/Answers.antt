use Rattle.someipctl_io.proofs.SendingLemmas.{OnErr-any}
use Rattle.someipctl_show.proofs.KindLemmas.{sends_all, stops_flush}
use Rattle.someipctl_show.proofs.show.write_datagrams.Goals as goal

pub returns-in_err-outcome-clause-err : goal.returns-in_err-outcome-clause-err
returns-in_err-outcome-clause-err g c =
    OnErr-any c.from_residual.result (rw c.requires.empty at c.in_err-outcome.ensures.err)

pub returns-in_err-flush-clause-err : goal.returns-in_err-flush-clause-err
returns-in_err-flush-clause-err g c =
    OnErr-any c.from_residual-in_err-flush.result (stops_flush _ _ _ _ _ _ (rw c.requires.empty at c.in_ok-outcome.ensures.ok) c.in_err-flush.ensures.err)

pub returns-clause-ok : goal.returns-clause-ok
returns-clause-ok g c = sends_all _ _ _ _ _ _ _ c.in_ok-outcome.ensures.ok c.in_ok-flush.ensures.ok c.requires.empty c.in_ok-flush.ensures.empty

pub returns-clause-outcome : goal.returns-clause-outcome
returns-clause-outcome g c = c.in_ok-outcome.ensures.outcome
