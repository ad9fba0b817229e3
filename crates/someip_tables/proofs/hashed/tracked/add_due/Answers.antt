use Rattle.std.proofs.Common.{true}
use Rattle.someip_tables.proofs.Outcomes.{on_err}
use Rattle.someip_tables.proofs.about_hashed.BackDues.{absent_due, changed_due}
use Rattle.someip_tables.proofs.hashed.tracked.add_due.Goals as goal

pub returns-in_ok-insert-clause-ok : goal.returns-in_ok-insert-clause-ok
returns-in_ok-insert-clause-ok g c = rw c.in-Some.is (changed_due g.met.K.Ord.total c.args.dues.now c.insert.new.self c.args.key c.in-Some.at true c.in_ok-insert.ensures.updates.0)

pub returns-in_err-insert-clause-absent : goal.returns-in_err-insert-clause-absent
returns-in_err-insert-clause-absent g c =
    on_err c.from_residual.result (rw c.in-Some.is (absent_due g.met.K.Ord.total g.met.K.Key.exact c.args.dues.now c.args.key c.in-Some.at c.in_err-insert.ensures.absent))
