use Rattle.std.proofs.Common.{◌≡◌, Some, None, sym, ap, ◌∙◌}
use Rattle.std.specs.Map.{lookup}
use Rattle.audit_traffic.specs.events.FlowGroups.{is_same_source, source_of}
use Rattle.audit_traffic.proofs.about_events.AddedFlows.{known_by_source}
use Rattle.audit_traffic.proofs.about_events.CameLemmas.{came_count, came_kept, came_known, came_none}
use Rattle.audit_traffic.proofs.about_events.SourceLemmas.{found_in}
use Rattle.audit_traffic.proofs.events.groups.came.Goals as goal

pub returns-in_err-group-clause-had : goal.returns-in_err-group-clause-had
returns-in_err-group-clause-had c =
    let absent : lookup (is_same_source (source_of c.args.event.now.flow)) c.args.groups.now.entries ≡ None = rw (← c.of.ensures) (sym c.in_err-group.ensures.value) in
    c.from_residual.ensures ∙ sym (known_by_source c.args.event.now.flow c.args.groups.now.entries c.in_err-group.ensures.unique ∙ ap (found_in c.args.event.now.flow) absent)

pub returns-clause-had : goal.returns-clause-had
returns-clause-had c =
    let found : lookup (is_same_source (source_of c.args.event.now.flow)) c.args.groups.now.entries ≡ Some c.in_ok-group.group.now = rw (← c.of.ensures) (sym c.in_ok-group.ensures.value) in
    c.take_note.ensures.had ∙ sym (known_by_source c.args.event.now.flow c.args.groups.now.entries c.in_ok-group.ensures.unique ∙ ap (found_in c.args.event.now.flow) found)

pub returns-clause-known : goal.returns-clause-known
returns-clause-known c =
    let found : lookup (is_same_source (source_of c.args.event.now.flow)) c.args.groups.now.entries ≡ Some c.in_ok-group.group.now = rw (← c.of.ensures) (sym c.in_ok-group.ensures.value) in
    came_known c.args.event.now c.take_note.result c.in_ok-group.group.now c.take_note.new.receivers c.take_note.ensures.known c.take_note.ensures.none c.args.groups.now.entries found
    c.in_ok-group.ensures.unique (c.get_mut.follows.lender c.take_note.new.receivers).entries (rw (← c.of.ensures) (c.get_mut.follows.holds c.take_note.new.receivers).0)

pub returns-clause-none : goal.returns-clause-none
returns-clause-none c =
    let found : lookup (is_same_source (source_of c.args.event.now.flow)) c.args.groups.now.entries ≡ Some c.in_ok-group.group.now = rw (← c.of.ensures) (sym c.in_ok-group.ensures.value) in
    came_none c.args.event.now c.take_note.result c.in_ok-group.group.now c.take_note.new.receivers c.take_note.ensures.known c.take_note.ensures.none c.args.groups.now.entries found
    c.in_ok-group.ensures.unique (c.get_mut.follows.lender c.take_note.new.receivers).entries (rw (← c.of.ensures) (c.get_mut.follows.holds c.take_note.new.receivers).0)

pub returns-clause-count : goal.returns-clause-count
returns-clause-count c =
    let found : lookup (is_same_source (source_of c.args.event.now.flow)) c.args.groups.now.entries ≡ Some c.in_ok-group.group.now = rw (← c.of.ensures) (sym c.in_ok-group.ensures.value) in
    came_count c.args.event.now c.take_note.result c.in_ok-group.group.now c.take_note.new.receivers c.take_note.ensures.known c.take_note.ensures.none c.args.groups.now.entries found
    c.in_ok-group.ensures.unique (c.get_mut.follows.lender c.take_note.new.receivers).entries (rw (← c.of.ensures) (c.get_mut.follows.holds c.take_note.new.receivers).0)

pub returns-clause-flows : goal.returns-clause-flows
returns-clause-flows c =
    let found : lookup (is_same_source (source_of c.args.event.now.flow)) c.args.groups.now.entries ≡ Some c.in_ok-group.group.now = rw (← c.of.ensures) (sym c.in_ok-group.ensures.value) in
    came_kept c.args.event.now c.take_note.result c.in_ok-group.group.now c.take_note.new.receivers c.take_note.ensures.known c.take_note.ensures.none c.args.groups.now.entries found
    c.in_ok-group.ensures.unique (c.get_mut.follows.lender c.take_note.new.receivers).entries (rw (← c.of.ensures) (c.get_mut.follows.holds c.take_note.new.receivers).0) c.requires
