use Rattle.audit_sd.proofs.about_sessions.PairLemmas.{len_is}
use Rattle.audit_sd.proofs.sessions.session_book.SessionBook.len.Goals as goal

pub returns-clause-count : goal.returns-clause-count
returns-clause-count c = rw (← c.self.view_is) (len_is c.self.inside.last c.len.result c.len.ensures.len c.len.ensures.ordered)

pub returns-clause-few : goal.returns-clause-few
returns-clause-few c = rw (← c.self.view_is, len_is c.self.inside.last c.len.result c.len.ensures.len c.len.ensures.ordered) c.self.invariant
