use Rattle.std.proofs.Common.{refl, ap}
use Rattle.std.specs.Result.{result_ok}
use Rattle.hex.specs.Hex.{encode_lower}
use Rattle.hex.proofs.HexLemmas.{decode_of-encode_lower}
use Rattle.hex.proofs.OnLiterals.{hex_on_literals}
use Rattle.someipctl_show.proofs.CaptureLemmas.{bytes_of-decoded}
use Rattle.someipctl_show.proofs.laws.what_lines_say.Goals as goal

pub returns-clause-spelled : goal.returns-clause-spelled
returns-clause-spelled c bytes h =
    bytes_of-decoded (encode_lower bytes) bytes (ap result_ok (decode_of-encode_lower bytes h))

pub returns-clause-blanks : goal.returns-clause-blanks
unfolding hex_on_literals
returns-clause-blanks c = refl

pub returns-clause-cases : goal.returns-clause-cases
unfolding hex_on_literals
returns-clause-cases c = refl
