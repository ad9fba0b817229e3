use Rattle.someip_tables.proofs.Outcomes.{on_err}
use Rattle.someip_tables.proofs.about_hashed.FirstDues.{wants_new}
use Rattle.someip_tables.proofs.hashed.tracked.put.Goals as goal

pub returns-in_err-add_due-clause-grows : goal.returns-in_err-add_due-clause-grows
returns-in_err-add_due-clause-grows g c =
    on_err c.from_residual.result
    (rw (← c.waits_for-moment.ensures)
    (wants_new g.met.K.Ord.total g.V.Waits.moment c.args.dues.now c.args.held.now.entries c.args.key c.waits_for-moment.result c.requires c.in_err-add_due.ensures.waits
    c.in_err-add_due.ensures.absent))
