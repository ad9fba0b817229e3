use Rattle.someip_tables.specs.Endpoints.{address_cmp}
use Rattle.someip_tables.specs.Tables.{map_of}
use Rattle.audit_index.specs.Slots.{stands}
use Rattle.audit_index.proofs.PlaceLemmas.{at_insert, at_more}
use Rattle.someip_tables.specs.EndpointOrder.{addresses_total, exact_addresses}
use Rattle.audit_traffic.specs.events.FlowKeys.{flow_cmp}
use Rattle.audit_traffic.specs.events.FlowOrder.{flows_total, exact_flows}
use Rattle.audit_traffic.specs.events.FlowPlaces.{is_known, is_steady, offering_cmp, offering_of, receiver_of, route_cmp, route_of, sender_of}
use Rattle.audit_traffic.specs.events.PlaceOrder.{offerings, routes}
use Rattle.audit_traffic.proofs.events.found_flows.FoundFlows.add.Goals as goal

pub invariant_of-self-else-not-put_flow : goal.invariant_of-self-else-not-put_flow
invariant_of-self-else-not-put_flow c = λ whole. record {
  by_sender =
      at_insert addresses_total exact_addresses flows_total exact_flows (λ flow _. sender_of flow) is_known (stands address_cmp flow_cmp c.put_flow.new.ends) (map_of flow_cmp c.self.inside.flows) (map_of flow_cmp c.add.new.self) c.args.flow.now c.args.last
      c.in_ok-add.ensures.ok (c.put_flow.ensures.sender c.if-not-put_flow.false)
      (at_more addresses_total exact_addresses flows_total exact_flows (λ flow _. sender_of flow) is_known (stands address_cmp flow_cmp c.self.inside.ends) (stands address_cmp flow_cmp c.put_flow.new.ends) (map_of flow_cmp c.self.inside.flows) c.put_flow.ensures.ends
      (c.self.invariant whole).by_sender);
  by_receiver =
      at_insert addresses_total exact_addresses flows_total exact_flows (λ flow _. receiver_of flow) is_known (stands address_cmp flow_cmp c.put_flow.new.ends) (map_of flow_cmp c.self.inside.flows) (map_of flow_cmp c.add.new.self) c.args.flow.now c.args.last
      c.in_ok-add.ensures.ok (c.put_flow.ensures.receiver c.if-not-put_flow.false)
      (at_more addresses_total exact_addresses flows_total exact_flows (λ flow _. receiver_of flow) is_known (stands address_cmp flow_cmp c.self.inside.ends) (stands address_cmp flow_cmp c.put_flow.new.ends) (map_of flow_cmp c.self.inside.flows) c.put_flow.ensures.ends
      (c.self.invariant whole).by_receiver);
  by_route =
      at_insert routes.total routes.exact flows_total exact_flows (λ flow _. route_of flow) is_steady (stands route_cmp flow_cmp c.put_flow.new.routes) (map_of flow_cmp c.self.inside.flows) (map_of flow_cmp c.add.new.self) c.args.flow.now c.args.last
      c.in_ok-add.ensures.ok (c.put_flow.ensures.route c.if-not-put_flow.false)
      (at_more routes.total routes.exact flows_total exact_flows (λ flow _. route_of flow) is_steady (stands route_cmp flow_cmp c.self.inside.routes) (stands route_cmp flow_cmp c.put_flow.new.routes) (map_of flow_cmp c.self.inside.flows) c.put_flow.ensures.routes
      (c.self.invariant whole).by_route);
  by_offering =
      at_insert offerings.total offerings.exact flows_total exact_flows (λ flow _. offering_of flow) is_steady (stands offering_cmp flow_cmp c.put_flow.new.offerings) (map_of flow_cmp c.self.inside.flows) (map_of flow_cmp c.add.new.self) c.args.flow.now c.args.last
      c.in_ok-add.ensures.ok (c.put_flow.ensures.offering c.if-not-put_flow.false)
      (at_more offerings.total offerings.exact flows_total exact_flows (λ flow _. offering_of flow) is_steady (stands offering_cmp flow_cmp c.self.inside.offerings) (stands offering_cmp flow_cmp c.put_flow.new.offerings) (map_of flow_cmp c.self.inside.flows) c.put_flow.ensures.offerings
      (c.self.invariant whole).by_offering);
}
