use Rattle.std.proofs.Common.{sym, ◌∙◌}
use Rattle.someip_tables.specs.Endpoints.{address_cmp}
use Rattle.someip_tables.specs.Tables.{map_of}
use Rattle.audit_index.specs.Slots.{stands}
use Rattle.audit_traffic.specs.events.FlowKeys.{flow_cmp}
use Rattle.audit_traffic.specs.events.FlowPlaces.{offering_cmp, route_cmp}
use Rattle.audit_traffic.proofs.about_events.EndLemmas.{its_own, not_its_own, way_gone}
use Rattle.audit_traffic.proofs.events.forgetting.forget_if_at.Goals as goal

pub returns-then-is_at-clause-way : goal.returns-then-is_at-clause-way
returns-then-is_at-clause-way c = way_gone c.args.address.now c.args.flow.now (map_of flow_cmp c.args.flows.now) (map_of flow_cmp c.forget_one.new.self) c.forget_one.ensures (sym c.is_at.ensures ∙ c.if-is_at.true)

pub returns-then-is_at-clause-found : goal.returns-then-is_at-clause-found
returns-then-is_at-clause-found c =
    its_own c.args.address.now c.args.flow.now (stands address_cmp flow_cmp c.args.ends.now) (stands route_cmp flow_cmp c.args.routes.now) (stands offering_cmp flow_cmp c.args.offerings.now) (map_of flow_cmp c.args.flows.now) c.requires
    (map_of flow_cmp c.forget_one.new.self) c.forget_one.ensures (stands address_cmp flow_cmp c.take_out.new.ends) (stands route_cmp flow_cmp c.take_out.new.routes) (stands offering_cmp flow_cmp c.take_out.new.offerings)
    c.take_out.ensures.ends c.take_out.ensures.routes c.take_out.ensures.offerings

pub returns-else-is_at-clause-found : goal.returns-else-is_at-clause-found
returns-else-is_at-clause-found c =
    not_its_own c.args.address.now c.args.flow.now (stands address_cmp flow_cmp c.args.ends.now) (stands route_cmp flow_cmp c.args.routes.now) (stands offering_cmp flow_cmp c.args.offerings.now) (map_of flow_cmp c.args.flows.now) c.requires
    (sym c.is_at.ensures ∙ c.if-is_at.false)
