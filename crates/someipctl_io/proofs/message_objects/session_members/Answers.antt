use Rattle.std.proofs.Common.{◌∙◌, refl}
use Rattle.hex.specs.Hex.{encode_with}
use Rattle.someipctl_io.proofs.MessageObjectLemmas.{session-text}
use Rattle.someipctl_io.proofs.message_objects.session_members.Goals as goal

pub returns : goal.returns
unfolding encode_with
returns c = rw (c.write_hex.ensures, c.write_hex-2.ensures, c.to_be_bytes.ensures, c.to_be_bytes-2.ensures) refl ∙ session-text c.args.client c.args.session
