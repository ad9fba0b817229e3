use Rattle.someip_tables.proofs.DueLemmas.{not_before}
use Rattle.someip_tables.proofs.tracked.first_due.Goals as goal

pub returns-clause-first : goal.returns-clause-first
returns-clause-first g c = λ due has. not_before g.K.Ord.cmp c.in_ok-first.first.now due (c.in_ok-first.ensures.least due has)
