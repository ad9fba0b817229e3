use Rattle.someipctl_show.proofs.OneText.{no_types_no_floats, one_text}
use Rattle.someipctl_show.proofs.laws.datagrams_have_one_text.Goals as goal

pub returns-clause-one : goal.returns-clause-one
returns-clause-one c = one_text

pub returns-clause-none : goal.returns-clause-none
returns-clause-none c = no_types_no_floats
