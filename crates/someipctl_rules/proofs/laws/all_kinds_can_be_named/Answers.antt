use Rattle.std.proofs.Common.{refl}
use Rattle.audit_rules.specs.Kinds.{all_kinds}
use Rattle.someipctl_rules.proofs.laws.all_kinds_can_be_named.Goals as goal

pub returns : goal.returns
unfolding all_kinds
returns c = refl
