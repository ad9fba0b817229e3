use Rattle.someip_tables.specs.Tables.{map_of}
use Rattle.someip_tables.proofs.AgendaKeys.{come_tells}
use Rattle.someip_tables.proofs.timed_map.TimedMap.first_due.Goals as goal

pub returns : goal.returns
returns g c = λ now.
    rw (c.first_due.ensures now, c.deref.ensures.value, ← c.self.view_is)
    (come_tells g.met.K.Ord.total g.met.K.Key.exact g.V.Waits.moment now (map_of g.K.Ord.cmp c.self.inside.held.entries) c.self.inside.dues.items c.self.invariant.0)
