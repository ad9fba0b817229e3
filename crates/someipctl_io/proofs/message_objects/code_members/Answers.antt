use Rattle.std.proofs.Common.{◌∙◌, refl, arith}
use Rattle.hex.specs.Hex.{encode_with}
use Rattle.someipctl_io.proofs.MessageObjectLemmas.{code-text}
use Rattle.someipctl_io.proofs.message_objects.code_members.Goals as goal

pub returns : goal.returns
unfolding encode_with
returns c = rw c.write_hex.ensures refl ∙ code-text c.args.code (omega (arith, c.ranges.code.fits))
