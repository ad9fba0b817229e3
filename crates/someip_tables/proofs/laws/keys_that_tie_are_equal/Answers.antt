use Rattle.someip_tables.proofs.laws.keys_that_tie_are_equal.Goals as goal

pub returns : goal.returns
returns g c = g.met.K.Key.exact
