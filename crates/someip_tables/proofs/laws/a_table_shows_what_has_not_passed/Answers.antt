use Rattle.someip_tables.proofs.Expiry.{get-unexpired, unexpired-unexpired}
use Rattle.someip_tables.proofs.laws.a_table_shows_what_has_not_passed.Goals as goal

pub returns-clause-unexpired : goal.returns-clause-unexpired
returns-clause-unexpired g c = get-unexpired g.met.K.Ord.total g.met.K.Key.exact

pub returns-clause-later : goal.returns-clause-later
returns-clause-later g c = unexpired-unexpired g.met.K.Ord.total g.met.K.Key.exact
