use Rattle.std.proofs.Common.{◌≡◌, ◌+◌, length, arith}
use Rattle.std.specs.Map.{values_of}
use Rattle.audit_traffic.proofs.about_events.ChangedGroups.{count_is, receivers_in}
use Rattle.audit_traffic.proofs.events.groups.count.Goals as goal

pub overflow_add-flows : goal.overflow_add-flows
overflow_add-flows c =
    let kept : c.loop-group.flows + (length c.in-Some.group.now.items + receivers_in c.next.new.self) ≡ receivers_in (values_of c.args.groups.now.entries) = rw c.in-Some.ensures.steps at c.loop-group.invariant in
    omega (arith, kept, count_is c.args.groups.now.entries, c.requires, c.len-flows.ensures)

pub returns : goal.returns
returns c =
    let kept : c.loop-group.flows + 0 ≡ receivers_in (values_of c.args.groups.now.entries) = rw c.in-None.ensures.steps.0 at c.loop-group.invariant in
    omega (arith, kept, count_is c.args.groups.now.entries)
