use Rattle.std.proofs.Common.{arith}
use Rattle.someipctl_io.proofs.SendingLemmas.{OnErr-any}
use Rattle.someipctl_audit.specs.AskedAudits.{view_asked}
use Rattle.someipctl_audit.proofs.StepLemmas.{draining_begin, draining_end, draining_more, draining_stop}
use Rattle.someipctl_audit.proofs.auditing.put_due.Goals as goal

pub loop-told-init : goal.loop-told-init
loop-told-init g c = draining_begin (view_asked c.args.asked.now) _ _ _ _ _

pub returns-in_default-clause-puts : goal.returns-in_default-clause-puts
returns-in_default-clause-puts g c =
    let none = rw c.in_default.is at c.due.ensures.none in
    let left = rw c.in_default.is at c.due.ensures.after in
    draining_end (view_asked c.args.asked.now) _ _ c.loop-told.audit _ _ _ _ _ _ _ c.loop-told.invariant none left

pub returns-in_err-tell_due-clause-stops : goal.returns-in_err-tell_due-clause-stops
returns-in_err-tell_due-clause-stops g c =
    let due = rw c.in-Some.is at c.due.ensures.due in
    let first = rw c.in-Some.is at c.due.ensures.first in
    OnErr-any c.from_residual.result
    (draining_stop (view_asked c.args.asked.now) _ _ c.loop-told.audit _ _ _ _ _ _ _ c.in-Some.told c.loop-told.invariant (record { due = due; first = first }) c.in_err-tell_due.ensures.err)

pub loop-told-preserved : goal.loop-told-preserved
loop-told-preserved g c =
    let due = rw c.in-Some.is at c.due.ensures.due in
    let first = rw c.in-Some.is at c.due.ensures.first in
    let left = rw c.in-Some.is at c.due.ensures.after in
    draining_more (view_asked c.args.asked.now) _ _ c.loop-told.audit _ _ c.loop-told.tally _ _ _ _ _ _ _ c.in-Some.told c.loop-told.invariant (record { due = due; first = first }) left c.in_ok-tell_due.ensures.ok c.in_ok-tell_due.ensures.counts

pub loop-told-smaller : goal.loop-told-smaller
loop-told-smaller g c = omega (arith, c.in_ok-tell_due.ensures.more, c.in_ok-tell_due.ensures.few)
