use Rattle.someip_tables.proofs.about_hashed.BackDues.{last_is_first}
use Rattle.someip_tables.proofs.hashed.tracked.first_due.Goals as goal

pub returns-clause-first : goal.returns-clause-first
returns-clause-first g c = last_is_first g.met.K.Ord.total c.args.dues.now c.in_ok-first.first.now c.in_ok-first.ensures.greatest
