use Rattle.audit_sd.proofs.about_offers.HistoryLemmas.{stands, told}
use Rattle.audit_sd.proofs.offers.laws.a_book_tells_what_the_events_show.Goals as goal

pub returns-clause-stands : goal.returns-clause-stands
returns-clause-stands c = stands

pub returns-clause-told : goal.returns-clause-told
returns-clause-told c = told
