use Rattle.std.proofs.Common.{length, arith}
use Rattle.recording.proofs.ItemLemmas.{left_none}
use Rattle.recording.proofs.recording.Recording.next.Goals as goal

pub returns-in-Ok-None-clause-nothing : goal.returns-in-Ok-None-clause-nothing
returns-in-Ok-None-clause-nothing c = left_none _ _ (length c.self.inside.file.now) c.self.inside.file.now (omega arith)

pub returns-in-Err-clause-ended : goal.returns-in-Err-clause-ended
returns-in-Err-clause-ended c = left_none _ _ (length c.self.inside.file.now) c.self.inside.file.now (omega arith)
