use Rattle.std.proofs.Common.{◌≡◌, Some, None, sym}
use Rattle.std.specs.Map.{lookup}
use Rattle.audit_traffic.specs.events.FlowGroups.{is_same_source, source_of}
use Rattle.audit_traffic.proofs.about_events.OneFlowLemmas.{none_disturbed, one_after, one_count, one_kept}
use Rattle.audit_traffic.proofs.events.groups.disturb_one.Goals as goal

pub returns-clause-after : goal.returns-clause-after
returns-clause-after c =
    let found : lookup (is_same_source (source_of c.args.flow.now)) c.args.groups.now.entries ≡ Some c.in-Some.group.now = rw (← c.of.ensures) (sym c.in-Some.ensures.value) in
    one_after c.args.flow.now c.in-Some.group.now c.disturb_one.new.receivers c.disturb_one.ensures c.args.groups.now.entries (c.get_mut.follows.lender c.disturb_one.new.receivers).entries found
    c.in-Some.ensures.unique (rw (← c.of.ensures) (c.get_mut.follows.holds c.disturb_one.new.receivers).0)

pub returns-clause-count : goal.returns-clause-count
returns-clause-count c =
    let found : lookup (is_same_source (source_of c.args.flow.now)) c.args.groups.now.entries ≡ Some c.in-Some.group.now = rw (← c.of.ensures) (sym c.in-Some.ensures.value) in
    one_count c.args.flow.now c.in-Some.group.now c.disturb_one.new.receivers c.disturb_one.ensures c.args.groups.now.entries (c.get_mut.follows.lender c.disturb_one.new.receivers).entries found
    c.in-Some.ensures.unique (rw (← c.of.ensures) (c.get_mut.follows.holds c.disturb_one.new.receivers).0)

pub returns-clause-flows : goal.returns-clause-flows
returns-clause-flows c =
    let found : lookup (is_same_source (source_of c.args.flow.now)) c.args.groups.now.entries ≡ Some c.in-Some.group.now = rw (← c.of.ensures) (sym c.in-Some.ensures.value) in
    one_kept c.args.flow.now c.in-Some.group.now c.disturb_one.new.receivers c.disturb_one.ensures c.args.groups.now.entries (c.get_mut.follows.lender c.disturb_one.new.receivers).entries found
    c.in-Some.ensures.unique (rw (← c.of.ensures) (c.get_mut.follows.holds c.disturb_one.new.receivers).0) c.requires

pub returns-in_default-clause-after : goal.returns-in_default-clause-after
returns-in_default-clause-after c =
    let absent : lookup (is_same_source (source_of c.args.flow.now)) c.args.groups.now.entries ≡ None = rw (← c.of.ensures) (sym c.in_default.ensures.value) in
    rw c.get_mut.follows.holds-at-none (none_disturbed c.args.flow.now c.args.groups.now.entries c.in_default.ensures.unique absent)
