use Rattle.std.proofs.Common.{sym, ◌∙◌}
use Rattle.someip_tables.proofs.Trees.{get-map_of}
use Rattle.someip_tables.proofs.hashed.due_table.DueTable.get.Goals as goal

pub returns : goal.returns
returns g c = rw (← c.self.view_is) (c.look.ensures ∙ sym (get-map_of g.met.K.Ord.total c.self.inside.held.entries c.args.key.now))
