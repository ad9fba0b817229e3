use Rattle.std.proofs.Common.{arith}
use Rattle.someip_tables.proofs.AgendaLemmas.{agenda_fits_tree}
use Rattle.someip_tables.proofs.awaited.make_room.Goals as goal

pub overflow_sub-len : goal.overflow_sub-len
overflow_sub-len g c =
    let fits = agenda_fits_tree g.met.K.Ord.total g.met.K.Key.exact g.V.Waits.moment c.args.held.now.entries c.args.dues.now.items c.len.ensures.ordered c.requires in
    omega (arith, fits, c.len.ensures.len, c.len-2.ensures, c.args.dues.now.ok.0)
