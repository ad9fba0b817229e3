use Rattle.toml.specs.View.{view}
use Rattle.someipctl_rules.proofs.RefusalLemmas.{other_kind}
use Rattle.someipctl_rules.proofs.unknown.refuse_unknown_kinds.Goals as goal

pub returns-clause-unsaid : goal.returns-clause-unsaid
returns-clause-unsaid c = rw c.in-Some.is (other_kind (view c.in-Some.bounds.now) c.in-Some-first_unknown.words.now c.in-Some-first_unknown.ensures)
