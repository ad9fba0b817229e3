use Rattle.someipctl_recordings.specs.Wanted.{view_wanted}
use Rattle.someipctl_stats.proofs.CountingLemmas.{IsCounting}
use Rattle.someipctl_stats.proofs.counting.count_due.Given as goal

-- some of what fell due was counted
abbrev pub invariant-loop : goal.invariant-loop
invariant-loop g l = IsCounting (view_wanted l.wanted) l.now l.initial.audit l.audit l.initial.figures l.figures
