use Rattle.std.proofs.Common.{arith}
use Rattle.someip_tables.proofs.AgendaLemmas.{agenda_none}
use Rattle.someip_tables.proofs.timed_map.TimedMap.new.Goals as goal

pub invariant_of-result : goal.invariant_of-result
invariant_of-result g c = (
  agenda_none g.met.K.Ord.total g.met.K.Key.exact g.V.Waits.moment c.new.result.entries c.new-2.result.items c.new.ensures.len c.new-2.ensures.items,
  omega (arith, c.new.ensures.len),
)
