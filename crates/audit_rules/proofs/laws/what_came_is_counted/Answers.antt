use Rattle.audit_rules.proofs.WeighingLemmas.{allowed_is, bounded_is, counting_is}
use Rattle.audit_rules.proofs.laws.what_came_is_counted.Goals as goal

pub returns-clause-counting : goal.returns-clause-counting
returns-clause-counting c = counting_is

pub returns-clause-allowed : goal.returns-clause-allowed
returns-clause-allowed c = allowed_is

pub returns-clause-bounded : goal.returns-clause-bounded
returns-clause-bounded c = bounded_is
