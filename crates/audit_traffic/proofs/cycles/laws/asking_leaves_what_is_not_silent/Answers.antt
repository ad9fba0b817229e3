use Rattle.audit_traffic.proofs.about_cycles.ReasonLemmas.{all_silent, asking_leaves}
use Rattle.audit_traffic.proofs.cycles.laws.asking_leaves_what_is_not_silent.Goals as goal

pub returns-clause-left : goal.returns-clause-left
returns-clause-left c = λ now book after told. asking_leaves now book after told

pub returns-clause-silent : goal.returns-clause-silent
returns-clause-silent c = all_silent
