use Rattle.std.proofs.Common.{◌≡◌, None, Some, length, sym, ap, arith, ◌∙◌}
use Rattle.std.specs.Vec.{vec_len}
use Rattle.std.specs.Map.{lookup}
use Rattle.audit_traffic.specs.events.FlowGroups.{is_same_source, source_of}
use Rattle.audit_traffic.proofs.about_events.CountLemmas.{receivers_are}
use Rattle.audit_traffic.proofs.about_events.SourceLemmas.{items_of}
use Rattle.audit_traffic.proofs.events.groups.receivers.Goals as goal

pub returns-in-Some : goal.returns-in-Some
returns-in-Some c =
    let found : lookup (is_same_source (source_of c.args.flow.now)) c.args.groups.now.entries ≡ Some c.in-Some.receivers.now = rw (← c.of.ensures) (sym c.in-Some.ensures.value) in
    let items : vec_len c.in-Some.receivers.now ≡ length c.in-Some.receivers.now.items = omega arith in
    c.len.ensures ∙ items ∙ ap (λ v. length (items_of v)) (sym found) ∙ receivers_are c.args.flow.now c.args.groups.now.entries c.values-each.ensures.unique c.requires

pub returns-in-None : goal.returns-in-None
returns-in-None c =
    let absent : lookup (is_same_source (source_of c.args.flow.now)) c.args.groups.now.entries ≡ None = rw (← c.of.ensures) (sym c.in-None.ensures.value) in
    ap (λ v. length (items_of v)) (sym absent) ∙ receivers_are c.args.flow.now c.args.groups.now.entries c.values-each.ensures.unique c.requires
