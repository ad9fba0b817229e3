use Rattle.audit_stats.proofs.RankLemmas.{extremes}
use Rattle.audit_stats.proofs.SpreadLemmas.{count_is}
use Rattle.audit_stats.proofs.laws.extremes_are_exact.Goals as goal

pub returns-clause-count : goal.returns-clause-count
returns-clause-count c = count_is

pub returns-clause-ranks : goal.returns-clause-ranks
returns-clause-ranks c = extremes
