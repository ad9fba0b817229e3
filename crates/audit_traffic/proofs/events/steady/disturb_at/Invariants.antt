use Rattle.std.proofs.Common.{length}
use Rattle.someip_tables.specs.Tables.{map_of}
use Rattle.audit_index.specs.Places.{AreAt, AreOnTheWay}
use Rattle.audit_index.specs.Slots.{stands}
use Rattle.audit_traffic.specs.events.FlowKeys.{flow_cmp}
use Rattle.audit_traffic.specs.events.FlowPlaces.{becomes_disturbed, is_steady}
use Rattle.audit_traffic.proofs.events.steady.disturb_at.Given as goal

-- each flow is as it was, or disturbed, and those that are not disturbed are found
abbrev pub invariant-loop-flow : goal.invariant-loop-flow
invariant-loop-flow g l = record {
  way : AreOnTheWay (becomes_disturbed g.P.Ord.cmp g.P.FlowPlace.place_of l.fn.place) (map_of flow_cmp l.fn.flows) (map_of flow_cmp l.flows);
  found : AreAt (λ flow _. g.P.FlowPlace.place_of flow) is_steady (stands g.P.Ord.cmp flow_cmp l.places) (map_of flow_cmp l.flows);
}

-- each turn uses up a flow
abbrev pub decreases-loop-flow : goal.decreases-loop-flow
decreases-loop-flow g l = length l.places
