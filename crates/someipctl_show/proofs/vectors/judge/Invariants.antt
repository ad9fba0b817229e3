use Rattle.std.proofs.Common.{◌++◌, Bool, List, drop, map}
use Rattle.someipctl_show.specs.VectorLines.{said_by}
use Rattle.someipctl_show.specs.Vectors.{AreJudged, vectors_in}
use Rattle.someipctl_show.proofs.vectors.judge.Given as goal

abbrev pub invariant-loop-i : goal.invariant-loop-i
invariant-loop-i l =
    (others : List Bool) → AreJudged (vectors_in (map said_by (drop l.i l.lines))) others → AreJudged (vectors_in (map said_by l.lines)) (l.results.items ++ others)
