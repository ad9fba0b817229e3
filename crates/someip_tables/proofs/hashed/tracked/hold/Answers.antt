use Rattle.std.proofs.Common.{Some}
use Rattle.someip_tables.proofs.about_hashed.Hashed.{updates_by_order}
use Rattle.someip_tables.proofs.hashed.tracked.hold.Goals as goal

pub returns-in-Some-clause-ok : goal.returns-in-Some-clause-ok
returns-in-Some-clause-ok g c = updates_by_order g.K.Ord.cmp g.met.K.Ord.matches_eq c.args.held.now c.insert.new.self c.args.key (Some c.args.value) c.in_ok-earlier.ensures.updates.0

pub returns-in-None-clause-ok : goal.returns-in-None-clause-ok
returns-in-None-clause-ok g c = updates_by_order g.K.Ord.cmp g.met.K.Ord.matches_eq c.args.held.now c.insert.new.self c.args.key (Some c.args.value) c.in_ok-earlier.ensures.updates.0
