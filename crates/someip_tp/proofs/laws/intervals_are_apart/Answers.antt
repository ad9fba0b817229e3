use Rattle.someip_tp.proofs.reserved_memory.Intervals.{holds_all, are_one}
use Rattle.someip_tp.proofs.laws.intervals_are_apart.Goals as goal

pub returns-clause-whole : goal.returns-clause-whole
returns-clause-whole c = holds_all

pub returns-clause-apart : goal.returns-clause-apart
returns-clause-apart c = are_one
