use Rattle.audit_traffic.proofs.about_sequence.SequenceLemmas.{missing, told}
use Rattle.audit_traffic.proofs.sequence.laws.a_book_tells_what_the_steps_show.Goals as goal

pub returns-clause-missing : goal.returns-clause-missing
returns-clause-missing c = missing

pub returns-clause-told : goal.returns-clause-told
returns-clause-told c = told
