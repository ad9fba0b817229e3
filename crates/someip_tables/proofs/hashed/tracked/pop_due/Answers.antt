use Rattle.std.proofs.Common.{false}
use Rattle.someip_tables.proofs.about_hashed.BackDues.{changed_due, last_is_first}
use Rattle.someip_tables.proofs.hashed.tracked.pop_due.Goals as goal

pub returns-clause-first : goal.returns-clause-first
returns-clause-first g c = last_is_first g.met.K.Ord.total c.args.dues.now c.in_ok-last.last c.in_ok-last.ensures.greatest

pub returns-clause-taken : goal.returns-clause-taken
returns-clause-taken g c =
    changed_due g.met.K.Ord.total c.args.dues.now c.pop_last.new.self c.in_ok-last.last.0.key c.in_ok-last.last.0.at false c.in_ok-last.ensures.updates.0
