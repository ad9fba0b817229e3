use Rattle.std.proofs.Common.{sym, ◌∙◌}
use Rattle.someip_tables.proofs.Trees.{entries-map_of}
use Rattle.audit_stats.proofs.table.Table.iter.Goals as goal

pub returns-clause-rest : goal.returns-clause-rest
returns-clause-rest g c = rw (← c.self.view_is) (c.iter.ensures.rest ∙ sym (entries-map_of g.met.K.Ord.total g.met.K.Key.exact c.self.inside.held.entries c.iter.ensures.ordered))
