use Rattle.someip_tables.specs.Tables.{map_of}
use Rattle.audit_index.specs.Slots.{stands}
use Rattle.audit_index.proofs.PlaceLemmas.{way_more}
use Rattle.audit_traffic.specs.events.FlowKeys.{flow_cmp}
use Rattle.audit_traffic.specs.cycles.WatchPlaces.{becomes_ended, place_cmp}
use Rattle.audit_traffic.proofs.about_cycles.WatchLemmas.{all_ended, ended_again, none_at, taken}
use Rattle.audit_traffic.proofs.cycles.ending.end_all.Goals as goal

pub end_if_at-requires : goal.end_if_at-requires
end_if_at-requires c =
    taken c.args.place c.in-Some.flow (stands place_cmp flow_cmp c.loop-flow.places) (stands place_cmp flow_cmp c.take.new.self) (map_of flow_cmp c.loop-flow.watches) c.in-Some.ensures.taken c.loop-flow.invariant.found

pub loop-flow-preserved : goal.loop-flow-preserved
loop-flow-preserved c = record {
  way = way_more (becomes_ended c.args.place) (ended_again c.args.place) (map_of flow_cmp c.args.watches.now) (map_of flow_cmp c.loop-flow.watches) (map_of flow_cmp c.end_if_at.new.watches) c.loop-flow.invariant.way c.end_if_at.ensures.way;
  found = c.end_if_at.ensures.found;
}

pub returns-clause-left : goal.returns-clause-left
returns-clause-left c =
    all_ended c.args.place (map_of flow_cmp c.args.watches.now) (map_of flow_cmp c.loop-flow.watches)
    (none_at c.args.place (stands place_cmp flow_cmp c.loop-flow.places) (map_of flow_cmp c.loop-flow.watches) c.loop-flow.invariant.found c.in_default.ensures.none) c.loop-flow.invariant.way
