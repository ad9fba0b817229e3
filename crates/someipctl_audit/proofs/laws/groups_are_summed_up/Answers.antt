use Rattle.std.proofs.Common.{refl}
use Rattle.std.specs.Fmt.{digits}
use Rattle.hex.specs.Hex.{encode_with}
use Rattle.json.specs.Print.{escape_byte}
use Rattle.someipctl_audit.proofs.laws.groups_are_summed_up.Goals as goal

pub returns : goal.returns
unfolding digits encode_with escape_byte
returns c = record { late = refl; moved = refl; reboot = refl; object = refl; other_kind = refl }
