use Rattle.std.proofs.Common.{drop}
use Rattle.recording_writing.specs.Blocks.{numbers}
use Rattle.someipctl_io.proofs.SendingLemmas.{IsSending}
use Rattle.recording_writing.proofs.block.put_numbers.Given as goal

abbrev pub invariant-loop-value : goal.invariant-loop-value
invariant-loop-value g l = IsSending (g.W.Write.contents l.initial.writer) l.initial.buffer (g.W.Write.contents l.writer) l.buffer (numbers (drop l.value-index l.values)) (numbers l.values)
