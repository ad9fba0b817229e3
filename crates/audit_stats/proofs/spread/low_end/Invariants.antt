use Rattle.std.proofs.Common.{min}
use Rattle.audit_stats.proofs.BucketLemmas.{IsHalved}
use Rattle.audit_stats.proofs.spread.low_end.Given as goal

-- so many halvings are left, and the low end of what is left, so wide, is that of the value
abbrev pub invariant-loop-rest : goal.invariant-loop-rest
invariant-loop-rest l = IsHalved (min l.value 4294967295) l.rest l.width

abbrev pub decreases-loop-rest : goal.decreases-loop-rest
decreases-loop-rest l = l.rest
