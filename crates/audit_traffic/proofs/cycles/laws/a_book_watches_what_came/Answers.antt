use Rattle.audit_traffic.proofs.about_cycles.HistoryLemmas.{watched}
use Rattle.audit_traffic.proofs.cycles.laws.a_book_watches_what_came.Goals as goal

pub returns : goal.returns
returns c = watched
