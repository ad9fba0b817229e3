use Rattle.audit_stats.proofs.FullLemmas.{told_for_good, told_once}
use Rattle.audit_stats.proofs.laws.full_is_told_once.Goals as goal

pub returns-clause-notes : goal.returns-clause-notes
returns-clause-notes c = told_once

pub returns-clause-stays : goal.returns-clause-stays
returns-clause-stays c = told_for_good
