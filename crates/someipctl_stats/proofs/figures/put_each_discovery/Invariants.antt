use Rattle.std.specs.FinMap as finite
use Rattle.someipctl_io.proofs.SendingLemmas.{IsSending}
use Rattle.someipctl_stats.specs.StatsText.{lines_of_ways}
use Rattle.someipctl_stats.proofs.figures.put_each_discovery.Given as goal

-- the lines of some were printed, and those of the rest are left
abbrev pub invariant-loop-way : goal.invariant-loop-way
invariant-loop-way g l =
    IsSending (g.W.Write.contents l.initial.writer) l.initial.buffer (g.W.Write.contents l.writer) l.buffer (lines_of_ways l.form l.way-iterator) (lines_of_ways l.form (finite.entries l.figures.discovery.values))
