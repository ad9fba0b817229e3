use Rattle.std.proofs.Common.{refl}
use Rattle.std.specs.Fmt.{digits}
use Rattle.hex.specs.Hex.{encode_with}
use Rattle.json.specs.Print.{escape_byte}
use Rattle.someipctl_stats.proofs.laws.what_is_full_has_a_line.Goals as goal

pub returns-clause-methods : goal.returns-clause-methods
unfolding digits encode_with escape_byte
returns-clause-methods c = refl

pub returns-clause-events : goal.returns-clause-events
unfolding digits encode_with escape_byte
returns-clause-events c = refl

pub returns-clause-discovery : goal.returns-clause-discovery
unfolding digits encode_with escape_byte
returns-clause-discovery c = refl

pub returns-clause-calls : goal.returns-clause-calls
unfolding digits encode_with escape_byte
returns-clause-calls c = refl

pub returns-clause-object : goal.returns-clause-object
unfolding digits encode_with escape_byte
returns-clause-object c = refl
