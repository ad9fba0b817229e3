use Rattle.std.proofs.Common.{◌≡◌, Some, None, sym, ◌∙◌}
use Rattle.std.specs.Map.{lookup}
use Rattle.audit_traffic.specs.events.FlowGroups.{is_same_source, source_of}
use Rattle.audit_traffic.proofs.about_events.ForgottenFlow.{gone_after, gone_flows, none_forgotten, none_known, one_known}
use Rattle.audit_traffic.proofs.events.groups.forget_one.Goals as goal

pub returns-in_default-clause-there : goal.returns-in_default-clause-there
returns-in_default-clause-there c =
    let absent : lookup (is_same_source (source_of c.args.flow.now)) c.args.groups.now.entries ≡ None = rw (← c.of.ensures) (sym c.in_default.ensures.value) in
    none_known c.args.flow.now c.args.groups.now.entries c.in_default.ensures.unique absent

pub returns-in_default-clause-after : goal.returns-in_default-clause-after
returns-in_default-clause-after c =
    let absent : lookup (is_same_source (source_of c.args.flow.now)) c.args.groups.now.entries ≡ None = rw (← c.of.ensures) (sym c.in_default.ensures.value) in
    rw c.get_mut.follows.holds-at-none (none_forgotten c.args.flow.now c.args.groups.now.entries c.in_default.ensures.unique absent)

pub returns-clause-there : goal.returns-clause-there
returns-clause-there c =
    let found : lookup (is_same_source (source_of c.args.flow.now)) c.args.groups.now.entries ≡ Some c.in-Some.group.now = rw (← c.of.ensures) (sym c.in-Some.ensures.value) in
    c.forget_one.ensures.there ∙ one_known c.args.flow.now c.in-Some.group.now c.args.groups.now.entries c.in-Some.ensures.unique found

pub returns-clause-after : goal.returns-clause-after
returns-clause-after c =
    let found : lookup (is_same_source (source_of c.args.flow.now)) c.args.groups.now.entries ≡ Some c.in-Some.group.now = rw (← c.of.ensures) (sym c.in-Some.ensures.value) in
    gone_after c.args.flow.now c.in-Some.group.now c.forget_one.new.receivers c.forget_one.ensures.left c.args.groups.now.entries (c.get_mut.follows.lender c.forget_one.new.receivers).entries found
    c.in-Some.ensures.unique (rw (← c.of.ensures) (c.get_mut.follows.holds c.forget_one.new.receivers).0) (c.get_mut.follows.holds c.forget_one.new.receivers).4 c.requires

pub returns-clause-flows : goal.returns-clause-flows
returns-clause-flows c =
    let found : lookup (is_same_source (source_of c.args.flow.now)) c.args.groups.now.entries ≡ Some c.in-Some.group.now = rw (← c.of.ensures) (sym c.in-Some.ensures.value) in
    gone_flows c.args.flow.now c.in-Some.group.now c.forget_one.new.receivers c.forget_one.ensures.left c.args.groups.now.entries (c.get_mut.follows.lender c.forget_one.new.receivers).entries found
    c.in-Some.ensures.unique (rw (← c.of.ensures) (c.get_mut.follows.holds c.forget_one.new.receivers).0) (c.get_mut.follows.holds c.forget_one.new.receivers).4 c.requires
