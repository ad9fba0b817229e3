use Rattle.audit_stats.proofs.AnsweredLemmas.{answered_asked}
use Rattle.audit_stats.proofs.laws.no_more_are_answered_than_asked.Goals as goal

pub returns : goal.returns
returns c = answered_asked
