use Rattle.std.proofs.Common.{◌∙◌}
use Rattle.someip_tables.specs.Endpoints.{address_cmp}
use Rattle.someip_tables.specs.Tables.{map_of}
use Rattle.audit_index.specs.Slots.{stands}
use Rattle.audit_traffic.specs.events.FlowKeys.{flow_cmp}
use Rattle.audit_traffic.specs.events.FlowPlaces.{receiver_of, route_cmp, route_of, sender_of}
use Rattle.audit_traffic.specs.events.PlaceOrder.{routes}
use Rattle.audit_traffic.proofs.about_events.EndLemmas.{known_changed}
use Rattle.audit_traffic.proofs.about_events.SteadyLemmas.{found_changed, steady_before, withdrawn_is}
use Rattle.audit_traffic.proofs.events.found_flows.FoundFlows.withdraw.Goals as goal

pub disturb_at-requires : goal.disturb_at-requires
disturb_at-requires c = (c.self.invariant c.if-not-self.false).by_offering

pub invariant_of-self-2 : goal.invariant_of-self-2
invariant_of-self-2 c = λ whole. record {
  by_sender = known_changed sender_of (stands address_cmp flow_cmp c.self.inside.ends) (map_of flow_cmp c.self.inside.flows) (map_of flow_cmp c.disturb_at.new.flows) _ c.disturb_at.ensures.after (c.self.invariant whole).by_sender;
  by_receiver = known_changed receiver_of (stands address_cmp flow_cmp c.self.inside.ends) (map_of flow_cmp c.self.inside.flows) (map_of flow_cmp c.disturb_at.new.flows) _ c.disturb_at.ensures.after (c.self.invariant whole).by_receiver;
  by_route =
      found_changed routes.total routes.exact route_of (stands route_cmp flow_cmp c.self.inside.routes) (map_of flow_cmp c.self.inside.flows) (map_of flow_cmp c.disturb_at.new.flows) _ c.disturb_at.ensures.after (λ flow l. steady_before _ flow l)
      (c.self.invariant whole).by_route;
  by_offering = c.disturb_at.ensures.found;
}

pub returns : goal.returns
returns c = rw (← c.self.view_is) (c.disturb_at.ensures.after ∙ withdrawn_is c.args.server c.args.service (map_of flow_cmp c.self.inside.flows))
