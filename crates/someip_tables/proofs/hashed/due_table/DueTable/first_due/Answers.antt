use Rattle.someip_tables.proofs.about_hashed.FirstDues.{first_is}
use Rattle.someip_tables.proofs.hashed.due_table.DueTable.first_due.Goals as goal

pub returns : goal.returns
returns g c =
    rw (← c.self.view_is)
    (first_is g.met.K.Ord.total g.V.Waits.moment c.self.inside.dues c.self.inside.held.entries c.first_due.result c.self.invariant c.first_due.ensures.found
    c.first_due.ensures.first c.first_due.ensures.none)
