use Rattle.std.proofs.Common.{refl}
use Rattle.std.specs.Fmt.{digits}
use Rattle.hex.specs.Hex.{encode_with}
use Rattle.json.specs.Print.{escape_byte}
use Rattle.someipctl_audit.proofs.laws.rules_are_summed_up.Goals as goal

pub returns : goal.returns
unfolding digits encode_with escape_byte
returns c = record { allowed = refl; none = refl; allowed_object = refl; exceeded = refl; any_method = refl; exceeded_object = refl }
