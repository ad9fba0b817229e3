use Rattle.someip_tables.proofs.about_hashed.FirstDues.{one_first}
use Rattle.someip_tables.proofs.hashed.laws.one_key_is_due_first.Goals as goal

pub returns : goal.returns
returns g c = one_first g.met.K.Ord.total g.met.K.Key.exact
