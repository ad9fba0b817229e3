use Rattle.audit_sd.proofs.about_sessions.PairLemmas.{none_within}
use Rattle.audit_sd.proofs.sessions.session_book.SessionBook.new.Goals as goal

pub invariant_of-result : goal.invariant_of-result
invariant_of-result c = none_within c.new-2.result c.new.result.limit c.new-2.ensures.len c.new-2.ensures.ordered
