use Rattle.someip_tables.proofs.ExpiredKeys.{first_holds, none_holds}
use Rattle.someip_tables.proofs.deadline_map.DeadlineMap.first_deadline.Goals as goal

pub returns-in-Some : goal.returns-in-Some
returns-in-Some g c =
    rw (← c.self.view_is)
    (first_holds g.met.K.Ord.total g.met.K.Key.exact c.self.inside.dues c.self.inside.held c.in-Some.due c.self.invariant c.in-Some.ensures.found c.in-Some.ensures.first)

pub returns-in-None : goal.returns-in-None
returns-in-None g c =
    rw (← c.self.view_is)
    (none_holds g.met.K.Ord.total g.met.K.Key.exact c.self.inside.dues c.self.inside.held c.self.invariant c.in-None.ensures.none)
