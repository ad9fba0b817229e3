use Rattle.std.proofs.Common.{◌≡◌, length}
use Rattle.someipctl_explore.specs.MovesTexts.{first_misfit}
use Rattle.someipctl_explore.proofs.moves_reading.first_misfit.Given as goal

-- those that are left decide, and they become fewer
abbrev pub invariant-loop-left : goal.invariant-loop-left
invariant-loop-left l = first_misfit l.nodes l.left l.numbers ≡ first_misfit l.nodes l.moves l.lines

abbrev pub decreases-loop-left : goal.decreases-loop-left
decreases-loop-left l = length l.left
