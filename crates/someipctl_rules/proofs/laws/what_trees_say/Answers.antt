use Rattle.std.proofs.Common.{refl}
use Rattle.audit_rules.specs.Kinds.{all_kinds}
use Rattle.someipctl_rules.proofs.laws.what_trees_say.Goals as goal

pub returns : goal.returns
unfolding all_kinds
returns c = record {
  nothing = refl;
  each = refl;
  allowed = refl;
  bounded = refl;
  both = refl;
  method_alone = refl;
  unknown_kind = refl;
  unknown_bound = refl;
  unknown_key = refl;
  no_service = refl;
}
