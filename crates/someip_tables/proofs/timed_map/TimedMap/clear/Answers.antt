use Rattle.std.proofs.Common.{arith}
use Rattle.someip_tables.proofs.AgendaLemmas.{agenda_none}
use Rattle.someip_tables.proofs.timed_map.TimedMap.clear.Goals as goal

pub invariant_of-self : goal.invariant_of-self
invariant_of-self g c = (
  agenda_none g.met.K.Ord.total g.met.K.Key.exact g.V.Waits.moment c.clear.new.self.entries c.clear-2.new.self.items c.clear.ensures.len c.clear-2.ensures.items,
  omega (arith, c.clear.ensures.len),
)
