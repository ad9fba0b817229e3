use Rattle.std.proofs.Common.{length}
use Rattle.someip_texts.specs.Lines.{lines_of}
use Rattle.someipctl_run.proofs.ExpectedLemmas.{AreLines}
use Rattle.someipctl_run.proofs.expected.first_no_line.Given as goal

abbrev pub invariant-loop-i : goal.invariant-loop-i
invariant-loop-i l = AreLines (length l.yielded) (lines_of l.file)
