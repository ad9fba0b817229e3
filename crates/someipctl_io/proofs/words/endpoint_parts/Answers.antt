use Rattle.std.proofs.Common.{append_assoc}
use Rattle.std.proofs.lemmas.List.{append-nil}
use Rattle.someipctl_io.proofs.words.endpoint_parts.Goals as goal

pub returns : goal.returns
returns c = rw (c.octets-octets.ensures, c.ip.ensures, c.port.ensures) (simp (append_assoc, append-nil))
