use Rattle.sd_wire.proofs.encoding.WriteLemmas.{one_text, written_not_refused, one_refused}
use Rattle.sd_wire.proofs.laws.a_message_has_one_text.Goals as goal

pub returns-clause-one : goal.returns-clause-one
returns-clause-one c = one_text

pub returns-clause-not_both : goal.returns-clause-not_both
returns-clause-not_both c = written_not_refused

pub returns-clause-one_refused : goal.returns-clause-one_refused
returns-clause-one_refused c = λ m. one_refused m.entries
