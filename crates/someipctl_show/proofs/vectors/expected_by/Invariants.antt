use Rattle.std.proofs.Common.{◌≡◌, ◌++◌, drop, map}
use Rattle.someipctl_show.specs.VectorLines.{said_by}
use Rattle.someipctl_show.specs.Vectors.{expected_text}
use Rattle.someipctl_show.proofs.vectors.expected_by.Given as goal

abbrev pub invariant-loop-line : goal.invariant-loop-line
invariant-loop-line l =
    l.text.items ++ expected_text (map said_by (drop l.line-index l.lines)) ≡ expected_text (map said_by l.lines)
