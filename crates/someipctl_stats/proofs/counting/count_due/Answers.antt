use Rattle.someipctl_recordings.specs.Wanted.{view_wanted}
use Rattle.someipctl_stats.proofs.CountingLemmas.{counting_end, counting_more}
use Rattle.someipctl_stats.proofs.counting.count_due.Goals as goal

pub returns-in_default : goal.returns-in_default
returns-in_default g c =
    let none = rw c.in_default.is at c.due.ensures.none in
    let left = rw c.in_default.is at c.due.ensures.after in
    counting_end (view_wanted c.args.wanted.now) _ _ c.loop.audit _ _ _ c.loop.invariant none left

pub loop-preserved : goal.loop-preserved
loop-preserved g c =
    let due = rw c.in-Some.is at c.due.ensures.due in
    let first = rw c.in-Some.is at c.due.ensures.first in
    let left = rw c.in-Some.is at c.due.ensures.after in
    counting_more (view_wanted c.args.wanted.now) _ _ c.loop.audit _ _ _ _ c.in-Some.told c.loop.invariant (record { due = due; first = first }) left c.in_ok-count_told.ensures
