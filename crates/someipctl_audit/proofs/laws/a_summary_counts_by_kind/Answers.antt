use Rattle.std.proofs.Common.{refl}
use Rattle.std.specs.Fmt.{digits}
use Rattle.hex.specs.Hex.{encode_with}
use Rattle.json.specs.Print.{escape_byte}
use Rattle.audit_rules.specs.Kinds.{all_kinds}
use Rattle.someipctl_audit.proofs.laws.a_summary_counts_by_kind.Goals as goal

pub returns : goal.returns
unfolding digits encode_with escape_byte all_kinds
returns c = record { some = refl; in_order = refl; none = refl; objects = refl }
