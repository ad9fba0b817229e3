use Rattle.audit_sd.proofs.about_subscriptions.HistoryLemmas.{waits, owes, unasked}
use Rattle.audit_sd.proofs.subscriptions.laws.a_book_tells_what_the_events_show.Goals as goal

pub returns-clause-waits : goal.returns-clause-waits
returns-clause-waits c = waits

pub returns-clause-owes : goal.returns-clause-owes
returns-clause-owes c = owes

pub returns-clause-unasked : goal.returns-clause-unasked
returns-clause-unasked c = unasked
