use Rattle.audit_traffic.proofs.about_events.HistoryLemmas.{kept, told}
use Rattle.audit_traffic.proofs.events.laws.a_book_tells_what_was_shown.Goals as goal

pub returns-clause-kept : goal.returns-clause-kept
returns-clause-kept c = λ limit shown flow fits. kept limit shown fits flow

pub returns-clause-told : goal.returns-clause-told
returns-clause-told c = told
