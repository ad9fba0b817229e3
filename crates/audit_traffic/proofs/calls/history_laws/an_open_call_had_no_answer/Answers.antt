use Rattle.audit_traffic.proofs.about_calls.FindingLemmas.{open_is_by, by_is_open}
use Rattle.audit_traffic.proofs.calls.history_laws.an_open_call_had_no_answer.Goals as goal

pub returns : goal.returns
returns c = λ call open_call past. (open_is_by call past open_call, by_is_open call past open_call)
