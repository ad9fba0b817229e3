use Rattle.std.proofs.Common.{sym}
use Rattle.someip_tables.specs.Endpoints.{address_cmp}
use Rattle.someip_tables.specs.Tables.{map_of}
use Rattle.audit_index.specs.Slots.{stands}
use Rattle.audit_traffic.specs.events.FlowKeys.{flow_cmp}
use Rattle.audit_traffic.specs.events.FlowPlaces.{offering_cmp, offering_of, receiver_of, route_cmp, route_of, sender_of}
use Rattle.audit_traffic.specs.events.PlaceOrder.{offerings, routes}
use Rattle.audit_traffic.proofs.about_events.EndLemmas.{known_changed}
use Rattle.audit_traffic.proofs.about_events.SteadyLemmas.{found_came}
use Rattle.audit_traffic.proofs.events.found_flows.FoundFlows.came.Goals as goal

pub invariant_of-self-else-not-put_steady : goal.invariant_of-self-else-not-put_steady
invariant_of-self-else-not-put_steady c = λ whole. record {
  by_sender = known_changed sender_of (stands address_cmp flow_cmp c.self.inside.ends) (map_of flow_cmp c.self.inside.flows) (map_of flow_cmp c.came.new.self) _ c.in_ok-last.ensures.known (c.self.invariant whole).by_sender;
  by_receiver = known_changed receiver_of (stands address_cmp flow_cmp c.self.inside.ends) (map_of flow_cmp c.self.inside.flows) (map_of flow_cmp c.came.new.self) _ c.in_ok-last.ensures.known (c.self.invariant whole).by_receiver;
  by_route =
      found_came routes.total routes.exact route_of (stands route_cmp flow_cmp c.self.inside.routes) (stands route_cmp flow_cmp c.put_steady.new.routes) (map_of flow_cmp c.self.inside.flows) (map_of flow_cmp c.came.new.self) c.args.event.now c.in_ok-last.last
      (sym c.in_ok-last.ensures.had) c.in_ok-last.ensures.known c.put_steady.ensures.routes (λ _. c.put_steady.ensures.route c.if-not-put_steady.false) (c.self.invariant whole).by_route;
  by_offering =
      found_came offerings.total offerings.exact offering_of (stands offering_cmp flow_cmp c.self.inside.offerings) (stands offering_cmp flow_cmp c.put_steady.new.offerings) (map_of flow_cmp c.self.inside.flows) (map_of flow_cmp c.came.new.self) c.args.event.now c.in_ok-last.last
      (sym c.in_ok-last.ensures.had) c.in_ok-last.ensures.known c.put_steady.ensures.offerings (λ _. c.put_steady.ensures.offering c.if-not-put_steady.false) (c.self.invariant whole).by_offering;
}

pub invariant_of-self-else-last : goal.invariant_of-self-else-last
invariant_of-self-else-last c = λ whole. record {
  by_sender = known_changed sender_of (stands address_cmp flow_cmp c.self.inside.ends) (map_of flow_cmp c.self.inside.flows) (map_of flow_cmp c.came.new.self) _ c.in_ok-last.ensures.known (c.self.invariant whole).by_sender;
  by_receiver = known_changed receiver_of (stands address_cmp flow_cmp c.self.inside.ends) (map_of flow_cmp c.self.inside.flows) (map_of flow_cmp c.came.new.self) _ c.in_ok-last.ensures.known (c.self.invariant whole).by_receiver;
  by_route =
      found_came routes.total routes.exact route_of (stands route_cmp flow_cmp c.self.inside.routes) (stands route_cmp flow_cmp c.self.inside.routes) (map_of flow_cmp c.self.inside.flows) (map_of flow_cmp c.came.new.self) c.args.event.now c.in_ok-last.last
      (sym c.in_ok-last.ensures.had) c.in_ok-last.ensures.known (λ _ _ there. there) (λ is. let isnt = c.if-last.false in absurd (cc)) (c.self.invariant whole).by_route;
  by_offering =
      found_came offerings.total offerings.exact offering_of (stands offering_cmp flow_cmp c.self.inside.offerings) (stands offering_cmp flow_cmp c.self.inside.offerings) (map_of flow_cmp c.self.inside.flows) (map_of flow_cmp c.came.new.self) c.args.event.now c.in_ok-last.last
      (sym c.in_ok-last.ensures.had) c.in_ok-last.ensures.known (λ _ _ there. there) (λ is. let isnt = c.if-last.false in absurd (cc)) (c.self.invariant whole).by_offering;
}
