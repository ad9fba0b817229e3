use Rattle.someip_tables.specs.Endpoints.{address_cmp}
use Rattle.someip_tables.specs.Tables.{map_of}
use Rattle.audit_index.specs.Slots.{stands}
use Rattle.audit_traffic.specs.events.FlowKeys.{flow_cmp}
use Rattle.audit_traffic.specs.events.FlowPlaces.{offering_cmp, offering_of, receiver_of, route_cmp, route_of, sender_of}
use Rattle.audit_traffic.specs.events.PlaceOrder.{offerings, routes}
use Rattle.audit_traffic.proofs.about_events.EndLemmas.{none_known_at}
use Rattle.audit_traffic.proofs.about_events.SteadyLemmas.{none_at}
use Rattle.audit_traffic.proofs.events.found_flows.FoundFlows.new.Goals as goal

pub invariant_of-result : goal.invariant_of-result
invariant_of-result c = λ _. record {
  by_sender = none_known_at sender_of (stands address_cmp flow_cmp c.new-2.result) (map_of flow_cmp c.new.result) c.new.ensures;
  by_receiver = none_known_at receiver_of (stands address_cmp flow_cmp c.new-2.result) (map_of flow_cmp c.new.result) c.new.ensures;
  by_route = none_at routes.total routes.exact route_of (stands route_cmp flow_cmp c.new-3.result) (map_of flow_cmp c.new.result) c.new.ensures;
  by_offering = none_at offerings.total offerings.exact offering_of (stands offering_cmp flow_cmp c.new-4.result) (map_of flow_cmp c.new.result) c.new.ensures;
}
