use Rattle.audit_sd.proofs.about_servers.HistoryLemmas.{known, told}
use Rattle.audit_sd.proofs.servers.laws.a_book_tells_what_the_events_show.Goals as goal

pub returns-clause-known : goal.returns-clause-known
returns-clause-known c = known

pub returns-clause-told : goal.returns-clause-told
returns-clause-told c = told
