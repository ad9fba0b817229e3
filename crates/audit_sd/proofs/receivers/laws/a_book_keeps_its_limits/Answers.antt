use Rattle.audit_sd.proofs.about_receivers.LimitLemmas.{few_stand, few_told}
use Rattle.audit_sd.proofs.receivers.laws.a_book_keeps_its_limits.Goals as goal

pub returns-clause-standing : goal.returns-clause-standing
returns-clause-standing c = few_stand

pub returns-clause-told : goal.returns-clause-told
returns-clause-told c = few_told
