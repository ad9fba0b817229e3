use Rattle.audit_stats.proofs.SpreadLemmas.{told_beyond, told_near}
use Rattle.audit_stats.proofs.laws.told_quantiles_are_near.Goals as goal

pub returns-clause-near : goal.returns-clause-near
returns-clause-near c = told_near

pub returns-clause-beyond : goal.returns-clause-beyond
returns-clause-beyond c = told_beyond
