use Rattle.std.proofs.Common.{ap, ◌∙◌}
use Rattle.someip_tables.specs.Endpoints.{address_cmp}
use Rattle.someip_tables.specs.Tables.{map_of}
use Rattle.audit_index.specs.Slots.{stands}
use Rattle.audit_traffic.specs.events.FlowKeys.{flow_cmp}
use Rattle.audit_traffic.specs.events.FlowPlaces.{all_groups, offering_cmp, offering_of, once_disturbed_at, receiver_of, route_cmp, route_of, sender_of}
use Rattle.audit_traffic.specs.events.PlaceOrder.{offerings}
use Rattle.someip_tables.specs.Changed.{each_changed}
use Rattle.audit_traffic.proofs.about_events.EndLemmas.{known_changed}
use Rattle.audit_traffic.proofs.about_events.SteadyLemmas.{changed_is, found_changed, steady_before}
use Rattle.audit_traffic.proofs.events.found_flows.FoundFlows.disturb.Goals as goal

pub disturb_at-requires : goal.disturb_at-requires
disturb_at-requires c = (c.self.invariant c.if-not-self.false).by_route

pub invariant_of-self-2 : goal.invariant_of-self-2
invariant_of-self-2 c = λ whole. record {
  by_sender = known_changed sender_of (stands address_cmp flow_cmp c.self.inside.ends) (map_of flow_cmp c.disturb_at.new.flows) (map_of flow_cmp c.disturb_at-2.new.flows) _ c.disturb_at-2.ensures.after (known_changed sender_of (stands address_cmp flow_cmp c.self.inside.ends) (map_of flow_cmp c.self.inside.flows) (map_of flow_cmp c.disturb_at.new.flows) _ c.disturb_at.ensures.after (c.self.invariant whole).by_sender);
  by_receiver = known_changed receiver_of (stands address_cmp flow_cmp c.self.inside.ends) (map_of flow_cmp c.disturb_at.new.flows) (map_of flow_cmp c.disturb_at-2.new.flows) _ c.disturb_at-2.ensures.after (known_changed receiver_of (stands address_cmp flow_cmp c.self.inside.ends) (map_of flow_cmp c.self.inside.flows) (map_of flow_cmp c.disturb_at.new.flows) _ c.disturb_at.ensures.after (c.self.invariant whole).by_receiver);
  by_route = c.disturb_at-2.ensures.found;
  by_offering =
      found_changed offerings.total offerings.exact offering_of (stands offering_cmp flow_cmp c.self.inside.offerings) (map_of flow_cmp c.disturb_at.new.flows) (map_of flow_cmp c.disturb_at-2.new.flows) _ c.disturb_at-2.ensures.after (λ flow l. steady_before _ flow l)
      (found_changed offerings.total offerings.exact offering_of (stands offering_cmp flow_cmp c.self.inside.offerings) (map_of flow_cmp c.self.inside.flows) (map_of flow_cmp c.disturb_at.new.flows) _ c.disturb_at.ensures.after (λ flow l. steady_before _ flow l)
      (c.self.invariant whole).by_offering);
}

pub returns : goal.returns
returns c = rw (← c.self.view_is) (rw c.all_groups.ensures at c.disturb_at-2.ensures.after
    ∙ ap (each_changed (once_disturbed_at route_cmp route_of (record { server = c.args.server; service = c.args.service; receiver = all_groups }))) c.disturb_at.ensures.after
    ∙ changed_is c.args.client c.args.server c.args.service (map_of flow_cmp c.self.inside.flows))
