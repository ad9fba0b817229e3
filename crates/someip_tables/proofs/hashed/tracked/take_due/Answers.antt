use Rattle.std.proofs.Common.{false}
use Rattle.someip_tables.proofs.about_hashed.BackDues.{changed_due}
use Rattle.someip_tables.proofs.hashed.tracked.take_due.Goals as goal

pub returns-in-Some : goal.returns-in-Some
returns-in-Some g c = rw c.in-Some.is (changed_due g.met.K.Ord.total c.args.dues.now c.remove.new.self c.args.key c.in-Some.at false c.remove.ensures.updates.0)
