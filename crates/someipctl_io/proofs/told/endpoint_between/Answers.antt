use Rattle.std.proofs.Common.{append_assoc}
use Rattle.std.proofs.lemmas.List.{append-nil}
use Rattle.someipctl_io.proofs.told.endpoint_between.Goals as goal

pub returns-clause-text : goal.returns-clause-text
returns-clause-text c = rw (c.octets-octets.ensures, c.ip.ensures, c.port.ensures) (simp (append_assoc, append-nil))
