use Rattle.std.proofs.Common.{◌∙◌}
use Rattle.someip_tables.proofs.Trees.{get-map_of, map_of-insert}
use Rattle.someip_tables.proofs.plain_map.put_value.Goals as goal

pub returns-in-Ok-clause-ok : goal.returns-in-Ok-clause-ok
returns-in-Ok-clause-ok g c = map_of-insert g.met.K.Ord.total g.met.K.Key.exact c.args.map.now.entries c.insert.new.self.entries c.args.key _ c.in-Ok.ensures.updates.0

pub returns-in-Err-clause-absent : goal.returns-in-Err-clause-absent
returns-in-Err-clause-absent g c = get-map_of g.met.K.Ord.total c.args.map.now.entries c.args.key ∙ c.in-Err.ensures.absent
