use Rattle.audit_traffic.proofs.about_events.HistoryLemmas.{full_kept, full_noted, no_gap}
use Rattle.audit_traffic.proofs.events.laws.a_full_book_tells_no_gap.Goals as goal

pub returns-clause-notes : goal.returns-clause-notes
returns-clause-notes c = full_noted

pub returns-clause-stays : goal.returns-clause-stays
returns-clause-stays c = full_kept

pub returns-clause-no_gap : goal.returns-clause-no_gap
returns-clause-no_gap c = no_gap
