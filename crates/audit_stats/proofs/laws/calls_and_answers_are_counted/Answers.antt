use Rattle.audit_stats.proofs.CallLemmas.{methods_held}
use Rattle.audit_stats.proofs.laws.calls_and_answers_are_counted.Goals as goal

pub returns : goal.returns
returns c = methods_held
