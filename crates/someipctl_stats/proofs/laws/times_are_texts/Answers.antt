use Rattle.std.proofs.Common.{refl}
use Rattle.std.specs.Fmt.{digits}
use Rattle.someipctl_stats.proofs.laws.times_are_texts.Goals as goal

pub returns-clause-none : goal.returns-clause-none
unfolding digits
returns-clause-none c = refl

pub returns-clause-few : goal.returns-clause-few
unfolding digits
returns-clause-few c = refl

pub returns-clause-some : goal.returns-clause-some
unfolding digits
returns-clause-some c = refl

pub returns-clause-many : goal.returns-clause-many
unfolding digits
returns-clause-many c = refl
