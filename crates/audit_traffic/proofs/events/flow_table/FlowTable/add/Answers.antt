use Rattle.std.proofs.Common.{◌≡◌, ◌+◌, ◌<◌, None, ap, arith, sym, ◌∙◌}
use Rattle.std.specs.FinMap as finite
use Rattle.someip_tables.specs.Tables.{map_of}
use Rattle.audit_traffic.specs.events.FlowGroups.{flows_in}
use Rattle.audit_traffic.specs.events.FlowKeys.{flow_cmp}
use Rattle.audit_traffic.proofs.about_events.AddedFlows.{len_is, len_more}
use Rattle.audit_traffic.proofs.events.flow_table.FlowTable.add.Goals as goal

pub overflow_add-self : goal.overflow_add-self
overflow_add-self c =
    let room : finite.len (map_of flow_cmp (flows_in c.self.inside.groups.entries)) < 18446744073709551615 = rw (← c.self.view_is) at c.requires.room in
    omega (arith, room, len_is c.self.inside.groups.entries c.self.invariant.0, c.self.invariant.1)

pub invariant_of-self-2 : goal.invariant_of-self-2
invariant_of-self-2 c =
    let new : finite.get (map_of flow_cmp (flows_in c.self.inside.groups.entries)) c.args.flow.now ≡ None = rw (← c.self.view_is) at c.requires.new in
    (c.in_ok-add.ensures.flows, ap (λ n. n + 1) c.self.invariant.1 ∙ sym (len_more c.self.inside.groups.entries c.add.new.groups.entries c.args.flow.now c.args.last c.self.invariant.0 c.in_ok-add.ensures.flows new c.in_ok-add.ensures.ok))
