use Rattle.std.proofs.Common.{length}
use Rattle.someip_tables.specs.Tables.{map_of}
use Rattle.audit_index.specs.Places.{AreOnTheWay}
use Rattle.audit_index.specs.Slots.{stands}
use Rattle.audit_traffic.specs.events.FlowKeys.{flow_cmp}
use Rattle.audit_traffic.specs.cycles.WatchPlaces.{AreFound, becomes_ended, place_cmp}
use Rattle.audit_traffic.proofs.cycles.ending.end_all.Given as goal

-- each watch is as it was, or ended, and those that are left are found
abbrev pub invariant-loop-flow : goal.invariant-loop-flow
invariant-loop-flow l = record {
  way : AreOnTheWay (becomes_ended l.fn.place) (map_of flow_cmp l.fn.watches) (map_of flow_cmp l.watches);
  found : AreFound (stands place_cmp flow_cmp l.places) (map_of flow_cmp l.watches);
}

-- each turn uses up a flow
abbrev pub decreases-loop-flow : goal.decreases-loop-flow
decreases-loop-flow l = length l.places
