use Rattle.someipctl_io.proofs.PlainLemmas.{item-plain, message-plain, whole-plain}
use Rattle.someipctl_io.proofs.laws.a_plain_line_tells_the_same.Goals as goal

pub returns-clause-message : goal.returns-clause-message
returns-clause-message c = message-plain

pub returns-clause-whole : goal.returns-clause-whole
returns-clause-whole c = whole-plain

pub returns-clause-item : goal.returns-clause-item
returns-clause-item c = item-plain
