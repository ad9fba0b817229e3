use Rattle.std.specs.FinMap as finite
use Rattle.someipctl_io.proofs.SendingLemmas.{IsSending}
use Rattle.someipctl_stats.specs.StatsText.{lines_of_methods}
use Rattle.someipctl_stats.proofs.figures.put_methods.Given as goal

-- the lines of some were printed, and those of the rest are left
abbrev pub invariant-loop-flow : goal.invariant-loop-flow
invariant-loop-flow g l =
    IsSending (g.W.Write.contents l.initial.writer) l.initial.buffer (g.W.Write.contents l.writer) l.buffer (lines_of_methods l.form l.flow-iterator) (lines_of_methods l.form (finite.entries l.figures.methods.values))
