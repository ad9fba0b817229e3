use Rattle.std.proofs.Common.{arith}
use Rattle.someip_tables.proofs.tracked.first_passed.Goals as goal

pub returns-else-first-as_millis-clause-none : goal.returns-else-first-as_millis-clause-none
returns-else-first-as_millis-clause-none g c = λ due has. omega (arith, c.in_ok-first.ensures.first due has)
