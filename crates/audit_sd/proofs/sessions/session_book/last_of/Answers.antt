use Rattle.std.proofs.Common.{◌∙◌, rules}
use Rattle.audit_sd.proofs.about_sessions.PairLemmas.{known_is}
use Rattle.audit_sd.proofs.sessions.session_book.last_of.Goals as goal

pub returns : goal.returns
returns c = rw (← c.pair_of.ensures) ((search rules) ∙ known_is c.args.last.now c.pair_of.result)
