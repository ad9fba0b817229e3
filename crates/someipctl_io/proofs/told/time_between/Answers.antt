use Rattle.std.proofs.Common.{append_assoc}
use Rattle.std.proofs.lemmas.List.{append-nil}
use Rattle.someipctl_io.proofs.told.time_between.Goals as goal

pub returns : goal.returns
returns c = simp (append_assoc, append-nil)
