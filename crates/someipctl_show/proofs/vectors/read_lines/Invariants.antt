use Rattle.std.proofs.Common.{length, map, take}
use Rattle.someip_texts.specs.Lines.{lines_of}
use Rattle.someipctl_show.specs.VectorLines.{AreSaid, said_by}
use Rattle.someipctl_show.proofs.vectors.read_lines.Given as goal

abbrev pub invariant-loop-i : goal.invariant-loop-i
invariant-loop-i l =
    AreSaid (take (length l.yielded) (lines_of l.text)) (map said_by l.lines.items)
