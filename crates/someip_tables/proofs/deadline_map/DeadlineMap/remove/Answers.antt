use Rattle.std.proofs.Common.{sym, ◌∙◌}
use Rattle.someip_tables.proofs.Trees.{get-map_of, map_of-remove}
use Rattle.someip_tables.proofs.deadline_map.DeadlineMap.remove.Goals as goal

pub returns-clause-value : goal.returns-clause-value
returns-clause-value g c = rw (← c.self.view_is) (c.take_out.ensures.value ∙ sym (get-map_of g.met.K.Ord.total c.self.inside.held.entries c.args.key.now))

pub returns-clause-rest : goal.returns-clause-rest
returns-clause-rest g c = rw (← c.self.view_is) (map_of-remove g.met.K.Ord.total g.met.K.Key.exact c.self.inside.held.entries c.take_out.new.held.entries c.args.key.now c.take_out.ensures.held)
