use Rattle.audit_stats.proofs.RankLemmas.{one_value, rank_at, some_value}
use Rattle.audit_stats.proofs.laws.ranks_are_places.Goals as goal

pub returns-clause-place : goal.returns-clause-place
returns-clause-place c = rank_at 0

pub returns-clause-one : goal.returns-clause-one
returns-clause-one c = one_value

pub returns-clause-some : goal.returns-clause-some
returns-clause-some c = some_value
