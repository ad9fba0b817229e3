use Rattle.someip_tables.specs.Tables.{map_of}
use Rattle.audit_index.specs.Slots.{stands}
use Rattle.audit_index.proofs.PlaceLemmas.{but_settled, but_taken, way_more}
use Rattle.audit_traffic.specs.events.FlowKeys.{flow_cmp}
use Rattle.audit_traffic.specs.events.FlowOrder.{flows_total, exact_flows}
use Rattle.audit_traffic.specs.events.FlowPlaces.{becomes_disturbed, is_steady}
use Rattle.audit_traffic.proofs.about_events.SteadyLemmas.{all_disturbed, disturbed_again}
use Rattle.audit_traffic.proofs.events.steady.disturb_at.Goals as goal

pub loop-flow-preserved : goal.loop-flow-preserved
loop-flow-preserved g c = record {
  way =
      way_more (becomes_disturbed g.P.Ord.cmp g.P.FlowPlace.place_of c.args.place) (disturbed_again g.met.P.Ord.total g.met.P.Key.exact g.P.FlowPlace.place_of c.args.place)
      (map_of flow_cmp c.args.flows.now) (map_of flow_cmp c.loop-flow.flows) (map_of flow_cmp c.disturb_if_at.new.flows) c.loop-flow.invariant.way c.disturb_if_at.ensures.way;
  found =
      but_settled g.met.P.Ord.total g.met.P.Key.exact flows_total exact_flows (λ flow _. g.P.FlowPlace.place_of flow) is_steady c.args.place c.in-Some.flow (stands g.P.Ord.cmp flow_cmp c.take.new.self)
      (map_of flow_cmp c.loop-flow.flows) (map_of flow_cmp c.disturb_if_at.new.flows) c.disturb_if_at.ensures.settled
      (but_taken g.met.P.Ord.total g.met.P.Key.exact flows_total exact_flows (λ flow _. g.P.FlowPlace.place_of flow) is_steady c.args.place c.in-Some.flow (stands g.P.Ord.cmp flow_cmp c.loop-flow.places) (stands g.P.Ord.cmp flow_cmp c.take.new.self)
      (map_of flow_cmp c.loop-flow.flows) c.in-Some.ensures.taken c.loop-flow.invariant.found);
}

pub returns-clause-after : goal.returns-clause-after
returns-clause-after g c =
    all_disturbed g.met.P.Ord.total g.met.P.Key.exact g.P.FlowPlace.place_of c.args.place (stands g.P.Ord.cmp flow_cmp c.loop-flow.places) (map_of flow_cmp c.args.flows.now) (map_of flow_cmp c.loop-flow.flows)
    c.loop-flow.invariant.found c.in_default.ensures.none c.loop-flow.invariant.way
