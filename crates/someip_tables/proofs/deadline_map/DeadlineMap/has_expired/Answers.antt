use Rattle.someip_tables.proofs.ExpiredKeys.{first_tells}
use Rattle.someip_tables.proofs.deadline_map.DeadlineMap.has_expired.Goals as goal

pub returns : goal.returns
returns g c =
    rw (c.is_some.ensures, ← c.self.view_is)
    (first_tells g.met.K.Ord.total g.met.K.Key.exact c.args.now c.self.inside.dues c.self.inside.held c.first_passed.result c.self.invariant c.first_passed.ensures.found c.first_passed.ensures.passed c.first_passed.ensures.none)
