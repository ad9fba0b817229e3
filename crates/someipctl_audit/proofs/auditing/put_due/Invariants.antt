use Rattle.std.proofs.Common.{◌-◌, ◌^◌}
use Rattle.someipctl_audit.specs.AskedAudits.{view_asked}
use Rattle.someipctl_audit.proofs.StepLemmas.{IsDraining}
use Rattle.someipctl_audit.proofs.auditing.put_due.Given as goal

-- the findings that can still be counted
abbrev pub decreases-loop-told : goal.decreases-loop-told
decreases-loop-told g l = 2 ^ 64 - l.tally.reports

-- some of what fell due was printed
abbrev pub invariant-loop-told : goal.invariant-loop-told
invariant-loop-told g l = IsDraining (view_asked l.asked) l.now l.initial.audit l.audit l.initial.tally l.tally (g.W.Write.contents l.initial.writer) l.initial.buffer (g.W.Write.contents l.writer) l.buffer
