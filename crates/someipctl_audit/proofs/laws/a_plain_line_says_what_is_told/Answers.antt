use Rattle.someipctl_audit.proofs.PlainLemmas.{due-plain, finding-plain}
use Rattle.someipctl_audit.proofs.laws.a_plain_line_says_what_is_told.Goals as goal

pub returns-clause-found : goal.returns-clause-found
returns-clause-found c = finding-plain

pub returns-clause-fell : goal.returns-clause-fell
returns-clause-fell c = due-plain
