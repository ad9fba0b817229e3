use Rattle.someip_tables.proofs.Sorted.{any-sorted_set, sorted_set-rises, sorted_set-only}
use Rattle.someip_tables.proofs.laws.a_sorted_set_rises.Goals as goal

pub returns-clause-same : goal.returns-clause-same
returns-clause-same g c = any-sorted_set g.met.K.Ord.total g.met.K.Key.exact

pub returns-clause-rises : goal.returns-clause-rises
returns-clause-rises g c = sorted_set-rises g.met.K.Ord.total g.met.K.Key.exact

pub returns-clause-only : goal.returns-clause-only
returns-clause-only g c = sorted_set-only g.met.K.Ord.total g.met.K.Key.exact
