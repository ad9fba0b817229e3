use Rattle.someip_tables.proofs.Trees.{map_of-none, none_of_empty}
use Rattle.someip_tables.proofs.deadline_map.DeadlineMap.is_empty.Goals as goal

pub returns : goal.returns
returns g c =
    rw (← c.self.view_is)
    (λ t. map_of-none g.met.K.Ord.total g.met.K.Key.exact c.self.inside.held.entries (c.is_empty.ensures.0 t), λ is. c.is_empty.ensures.1 (none_of_empty g.met.K.Ord.total g.met.K.Key.exact c.self.inside.held.entries is))
