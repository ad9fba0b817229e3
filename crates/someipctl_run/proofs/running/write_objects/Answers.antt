use Rattle.std.proofs.lemmas.Result.{on_err_weaker}
use Rattle.someipctl_io.proofs.SendingLemmas.{Stops-flush}
use Rattle.someipctl_run.proofs.running.write_objects.Goals as goal

pub returns-clause-err : goal.returns-clause-err
returns-clause-err g c = on_err_weaker c.flush.result (λ stops. Stops-flush _ _ _ _ _ _ (rw c.requires.empty at c.in_ok-put_objects.ensures.ok) stops) c.flush.ensures.err
