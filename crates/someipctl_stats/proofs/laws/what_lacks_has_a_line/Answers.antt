use Rattle.std.proofs.Common.{refl}
use Rattle.std.specs.Fmt.{digits}
use Rattle.hex.specs.Hex.{encode_with}
use Rattle.json.specs.Print.{escape_byte}
use Rattle.someipctl_stats.proofs.laws.what_lacks_has_a_line.Goals as goal

pub returns-clause-none : goal.returns-clause-none
returns-clause-none c = refl

pub returns-clause-all : goal.returns-clause-all
unfolding digits encode_with escape_byte
returns-clause-all c = refl

pub returns-clause-object : goal.returns-clause-object
unfolding digits encode_with escape_byte
returns-clause-object c = refl
