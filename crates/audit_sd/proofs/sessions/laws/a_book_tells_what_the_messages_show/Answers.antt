use Rattle.audit_sd.proofs.about_sessions.HistoryLemmas.{kept, told, never_full}
use Rattle.audit_sd.proofs.sessions.laws.a_book_tells_what_the_messages_show.Goals as goal

pub returns-clause-kept : goal.returns-clause-kept
returns-clause-kept c = λ limit overtake messages sender destination fits. kept limit overtake messages fits sender destination

pub returns-clause-told : goal.returns-clause-told
returns-clause-told c = told

pub returns-clause-room : goal.returns-clause-room
returns-clause-room c = never_full
