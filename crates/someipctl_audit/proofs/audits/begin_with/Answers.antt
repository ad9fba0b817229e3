use Rattle.std.proofs.Common.{Some, ap, ◌∙◌}
use Rattle.someipctl_audit.proofs.audits.begin_with.Goals as goal

pub returns-clause-begun : goal.returns-clause-begun
returns-clause-begun g c =
    let begun = rw (c.watch_of-watch.ensures.ports, c.watch_of-watch.ensures.learns) at c.in_ok-begin.ensures in
    c.replace.ensures.after ∙ ap (λ a. Some a) begun
