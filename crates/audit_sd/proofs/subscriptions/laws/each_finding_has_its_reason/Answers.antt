use Rattle.audit_sd.proofs.about_subscriptions.ReasonLemmas.{waiting_is, is_waiting, unanswered_is, is_unanswered, unasked_is, is_unasked}
use Rattle.audit_sd.proofs.subscriptions.laws.each_finding_has_its_reason.Goals as goal

pub returns-clause-waits : goal.returns-clause-waits
returns-clause-waits c = λ answer_ms key asked events. (waiting_is answer_ms key asked events, is_waiting answer_ms key asked events)

pub returns-clause-unanswered : goal.returns-clause-unanswered
returns-clause-unanswered c = λ answer_ms now key asked events. (unanswered_is answer_ms now key asked events, λ both. is_unanswered answer_ms now key asked events both.0 both.1)

pub returns-clause-unasked : goal.returns-clause-unasked
returns-clause-unasked c = λ settled now entry finding events. (unasked_is settled now entry finding events, is_unasked settled now entry finding events)
