use Rattle.std.proofs.Common.{◌≡◌}
use Rattle.audit_stats.specs.Spreads.{bucket_at}
use Rattle.audit_stats.proofs.spread.bucket_at.Given as goal

-- the bucket is that of what is left of the rank among the buckets that are left
abbrev pub invariant-loop-low : goal.invariant-loop-low
invariant-loop-low l = bucket_at l.left l.low-iterator ≡ bucket_at l.rank l.buckets.entries
