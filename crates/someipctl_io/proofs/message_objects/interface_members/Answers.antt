use Rattle.std.proofs.Common.{◌∙◌, refl, arith}
use Rattle.hex.specs.Hex.{encode_with}
use Rattle.someipctl_io.proofs.MessageObjectLemmas.{interface-text}
use Rattle.someipctl_io.proofs.message_objects.interface_members.Goals as goal

pub returns : goal.returns
unfolding encode_with
returns c = rw c.write_hex.ensures refl ∙ interface-text c.args.interface (omega (arith, c.ranges.interface.fits))
