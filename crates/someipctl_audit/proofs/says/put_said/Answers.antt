use Rattle.std.proofs.Common.{refl}
use Rattle.someipctl_audit.proofs.PutsLemmas.{puts_err}
use Rattle.someipctl_audit.proofs.says.put_said.Goals as goal

pub returns-in_err-put_line : goal.returns-in_err-put_line
returns-in_err-put_line g c =
    let stops = rw (c.name.ensures, c.words.ensures) at c.in_err-put_line.ensures.err in
    puts_err _ _ c.from_residual.result _ _ _ _ c.from_residual.ensures.0 stops

pub returns : goal.returns
returns g c = (refl, rw (c.name.ensures, c.words.ensures) at c.in_ok-put_line.ensures.ok)
