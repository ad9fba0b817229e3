use Rattle.audit_traffic.proofs.about_calls.FindingLemmas.{answered_is_by, by_is_answered}
use Rattle.audit_traffic.proofs.calls.history_laws.an_answered_call_had_its_first_answer.Goals as goal

pub returns : goal.returns
returns c = λ call until past. (answered_is_by call past until, by_is_answered call past until)
