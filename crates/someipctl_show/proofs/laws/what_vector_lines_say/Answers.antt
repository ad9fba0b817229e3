use Rattle.std.proofs.Common.{refl, codes}
use Rattle.hex.proofs.OnLiterals.{hex_on_literals}
use Rattle.someip_payload.specs.ShapeText.{bool_text}
use Rattle.someipctl_show.proofs.VectorLemmas.{early_text, no_hex, bare_text, blank_line}
use Rattle.someipctl_show.proofs.laws.what_vector_lines_say.Goals as goal

pub returns-clause-datagram : goal.returns-clause-datagram
unfolding hex_on_literals
returns-clause-datagram c = (codes "12fF", refl, refl)

pub returns-clause-empty : goal.returns-clause-empty
unfolding hex_on_literals
returns-clause-empty c = (codes "-", refl, refl)

pub returns-clause-payload : goal.returns-clause-payload
unfolding hex_on_literals
returns-clause-payload c = (codes "bool 07", refl, (codes "bool", codes "07", refl, bool_text, refl))

pub returns-clause-expected : goal.returns-clause-expected
returns-clause-expected c text = refl

pub returns-clause-early : goal.returns-clause-early
returns-clause-early c = early_text

pub returns-clause-no_hex : goal.returns-clause-no_hex
returns-clause-no_hex c = no_hex

pub returns-clause-two_blanks : goal.returns-clause-two_blanks
unfolding hex_on_literals
returns-clause-two_blanks c = refl

pub returns-clause-bare : goal.returns-clause-bare
returns-clause-bare c = bare_text

pub returns-clause-blank : goal.returns-clause-blank
returns-clause-blank c = blank_line
