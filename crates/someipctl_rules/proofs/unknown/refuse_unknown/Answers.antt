use Rattle.std.proofs.Common.{map}
use Rattle.toml.specs.View.{view}
use Rattle.someipctl_rules.proofs.RefusalLemmas.{other_key}
use Rattle.someipctl_rules.proofs.unknown.refuse_unknown.Goals as goal

pub returns-clause-unsaid : goal.returns-clause-unsaid
returns-clause-unsaid c = other_key (map (λ k. k.now) c.args.known.now) (view c.args.table.now) c.in-Some.key.now c.in-Some.ensures
