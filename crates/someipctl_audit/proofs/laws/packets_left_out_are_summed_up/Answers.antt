use Rattle.std.proofs.Common.{refl}
use Rattle.std.specs.Fmt.{digits}
use Rattle.hex.specs.Hex.{encode_with}
use Rattle.json.specs.Print.{escape_byte}
use Rattle.someipctl_audit.proofs.laws.packets_left_out_are_summed_up.Goals as goal

pub returns : goal.returns
unfolding digits encode_with escape_byte
returns c = record { two_kinds = refl; none = refl; object = refl }
