use Rattle.someip_tables.proofs.Trees.{map_of-remove}
use Rattle.someip_tables.proofs.hashed.due_table.DueTable.remove.Goals as goal

pub returns : goal.returns
returns g c = rw (← c.self.view_is) (map_of-remove g.met.K.Ord.total g.met.K.Key.exact c.self.inside.held.entries c.take_out.new.held.entries c.args.key.now c.take_out.ensures.held)
