use Rattle.std.proofs.Common.{refl}
use Rattle.std.specs.Fmt.{digits}
use Rattle.hex.specs.Hex.{encode_with}
use Rattle.json.specs.Print.{escape_byte}
use Rattle.someipctl_stats.proofs.laws.ways_have_lines.Goals as goal

pub returns-clause-plain : goal.returns-clause-plain
unfolding digits encode_with escape_byte
returns-clause-plain c = refl

pub returns-clause-object : goal.returns-clause-object
unfolding digits encode_with escape_byte
returns-clause-object c = refl
