use Rattle.std.proofs.Common.{None}
use Rattle.someip_tables.proofs.about_hashed.Hashed.{updates_by_order}
use Rattle.someip_tables.proofs.hashed.tracked.drop_key.Goals as goal

pub returns-clause-left : goal.returns-clause-left
returns-clause-left g c = updates_by_order g.K.Ord.cmp g.met.K.Ord.matches_eq c.args.held.now c.remove.new.self c.args.key.now None c.remove.ensures.updates.0
