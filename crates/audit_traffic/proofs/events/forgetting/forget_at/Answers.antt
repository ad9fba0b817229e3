use Rattle.someip_tables.specs.Endpoints.{address_cmp}
use Rattle.someip_tables.specs.Tables.{map_of}
use Rattle.audit_index.specs.Slots.{stands}
use Rattle.audit_index.proofs.PlaceLemmas.{way_more}
use Rattle.audit_traffic.specs.events.FlowKeys.{flow_cmp}
use Rattle.audit_traffic.specs.events.FlowPlaces.{becomes_forgotten, offering_cmp, route_cmp}
use Rattle.audit_traffic.proofs.about_events.EndLemmas.{all_forgotten, forgotten_again, taken_end}
use Rattle.audit_traffic.proofs.events.forgetting.forget_at.Goals as goal

pub forget_if_at-requires : goal.forget_if_at-requires
forget_if_at-requires c =
    taken_end c.args.address c.in-Some.flow (stands address_cmp flow_cmp c.take.new.self) (stands route_cmp flow_cmp c.loop-flow.routes) (stands offering_cmp flow_cmp c.loop-flow.offerings) (map_of flow_cmp c.loop-flow.flows)
    (stands address_cmp flow_cmp c.loop-flow.ends) c.in-Some.ensures.taken c.loop-flow.invariant.found

pub loop-flow-preserved : goal.loop-flow-preserved
loop-flow-preserved c = record {
  way =
      way_more (becomes_forgotten c.args.address) (forgotten_again c.args.address) (map_of flow_cmp c.args.flows.now) (map_of flow_cmp c.loop-flow.flows) (map_of flow_cmp c.forget_if_at.new.flows)
      c.loop-flow.invariant.way c.forget_if_at.ensures.way;
  found = c.forget_if_at.ensures.found;
}

pub returns-clause-after : goal.returns-clause-after
returns-clause-after c =
    all_forgotten c.args.address (stands address_cmp flow_cmp c.loop-flow.ends) (map_of flow_cmp c.args.flows.now) (map_of flow_cmp c.loop-flow.flows) c.loop-flow.invariant.found.by_sender c.loop-flow.invariant.found.by_receiver
    c.in_default.ensures.none c.loop-flow.invariant.way
