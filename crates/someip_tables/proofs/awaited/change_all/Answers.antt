use Rattle.someip_tables.proofs.AgendaFills.{filled}
use Rattle.someip_tables.proofs.awaited.change_all.Goals as goal

pub returns-clause-agenda : goal.returns-clause-agenda
returns-clause-agenda g c =
    let same = rw c.fill.ensures.items at c.sort.ensures.same in
    filled g.met.K.Ord.total g.met.K.Key.exact g.V.Waits.moment c.change_each.new.held.entries c.sort.new.dues.items c.change_each.ensures.ordered same c.sort.ensures.sorted
