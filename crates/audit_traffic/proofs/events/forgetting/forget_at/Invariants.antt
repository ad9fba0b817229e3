use Rattle.std.proofs.Common.{length}
use Rattle.someip_tables.specs.Endpoints.{address_cmp}
use Rattle.someip_tables.specs.Tables.{map_of}
use Rattle.audit_index.specs.Places.{AreOnTheWay}
use Rattle.audit_index.specs.Slots.{stands}
use Rattle.audit_traffic.specs.events.FlowKeys.{flow_cmp}
use Rattle.audit_traffic.specs.events.FlowPlaces.{AreFound, becomes_forgotten, offering_cmp, route_cmp}
use Rattle.audit_traffic.proofs.events.forgetting.forget_at.Given as goal

-- each flow is as it was, or forgotten, and those that are left are found
abbrev pub invariant-loop-flow : goal.invariant-loop-flow
invariant-loop-flow l = record {
  way : AreOnTheWay (becomes_forgotten l.fn.address) (map_of flow_cmp l.fn.flows) (map_of flow_cmp l.flows);
  found : AreFound (stands address_cmp flow_cmp l.ends) (stands route_cmp flow_cmp l.routes) (stands offering_cmp flow_cmp l.offerings) (map_of flow_cmp l.flows);
}

-- each turn uses up a flow
abbrev pub decreases-loop-flow : goal.decreases-loop-flow
decreases-loop-flow l = length l.ends
