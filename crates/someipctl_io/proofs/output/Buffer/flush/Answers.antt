use Rattle.someipctl_io.proofs.SendingLemmas.{OnErr-any, Stops-flushing}
use Rattle.someipctl_io.proofs.output.Buffer.flush.Goals as goal

pub returns-in_err-write_text-clause-err : goal.returns-in_err-write_text-clause-err
returns-in_err-write_text-clause-err g c =
    OnErr-any c.from_residual.result (Stops-flushing _ _ _ _ c.in_err-write_text.ensures.err.0 c.in_err-write_text.ensures.err.1 (cc (c.self.view_is, c.deref.ensures.value)))
