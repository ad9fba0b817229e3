use Rattle.audit_stats.proofs.BucketLemmas.{rank_by_hundreds}
use Rattle.audit_stats.proofs.spread.rank_of.Goals as goal

pub returns : goal.returns
returns c = rank_by_hundreds c.args.percent c.args.count
