use Rattle.std.proofs.Common.{ap, sym, ◌∙◌}
use Rattle.std.specs.Ordering.{eq_by_cmp}
use Rattle.someip_tables.specs.Tables.{map_of}
use Rattle.audit_traffic.specs.events.FlowKeys.{flow_cmp}
use Rattle.audit_traffic.proofs.about_events.SteadyLemmas.{settled_elsewhere, settled_here, way_here}
use Rattle.audit_traffic.proofs.events.steady.disturb_if_at.Goals as goal

pub returns-then-is_same_key-clause-way : goal.returns-then-is_same_key-clause-way
returns-then-is_same_key-clause-way g c =
    way_here g.met.P.Ord.total g.met.P.Key.exact g.P.FlowPlace.place_of c.args.place.now c.args.flow.now (map_of flow_cmp c.args.flows.now) (map_of flow_cmp c.disturb_one.new.self) c.disturb_one.ensures
    (ap (λ p. eq_by_cmp g.P.Ord.cmp p c.args.place.now) (sym c.of_flow.ensures) ∙ sym c.is_same_key.ensures.test ∙ c.if-is_same_key.true)

pub returns-then-is_same_key-clause-settled : goal.returns-then-is_same_key-clause-settled
returns-then-is_same_key-clause-settled g c =
    settled_here g.met.P.Ord.total g.met.P.Key.exact g.P.FlowPlace.place_of c.args.place.now c.args.flow.now (map_of flow_cmp c.args.flows.now) (map_of flow_cmp c.disturb_one.new.self) c.disturb_one.ensures

pub returns-else-is_same_key-clause-settled : goal.returns-else-is_same_key-clause-settled
returns-else-is_same_key-clause-settled g c =
    settled_elsewhere g.met.P.Ord.total g.met.P.Key.exact g.P.FlowPlace.place_of c.args.place.now c.args.flow.now (map_of flow_cmp c.args.flows.now)
    (ap (λ p. eq_by_cmp g.P.Ord.cmp p c.args.place.now) (sym c.of_flow.ensures) ∙ sym c.is_same_key.ensures.test ∙ c.if-is_same_key.false)
