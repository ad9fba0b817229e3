use Rattle.std.proofs.Common.{sym, ◌∙◌}
use Rattle.someip_tables.specs.Tables.{map_of}
use Rattle.audit_index.specs.Slots.{stands}
use Rattle.audit_traffic.specs.events.FlowKeys.{flow_cmp}
use Rattle.audit_traffic.specs.cycles.WatchPlaces.{place_cmp}
use Rattle.audit_traffic.proofs.about_cycles.WatchLemmas.{found_remove, not_at, way_ended}
use Rattle.audit_traffic.proofs.cycles.ending.end_if_at.Goals as goal

pub returns-then-is_at-clause-way : goal.returns-then-is_at-clause-way
returns-then-is_at-clause-way c = way_ended c.args.place.now c.args.flow.now (map_of flow_cmp c.args.watches.now) (map_of flow_cmp c.drop_one.new.watches) c.drop_one.ensures.gone (sym c.is_at.ensures ∙ c.if-is_at.true)

pub returns-then-is_at-clause-found : goal.returns-then-is_at-clause-found
returns-then-is_at-clause-found c =
    found_remove c.args.place.now (stands place_cmp flow_cmp c.args.places.now) (stands place_cmp flow_cmp c.drop_one.new.places) (map_of flow_cmp c.args.watches.now) (map_of flow_cmp c.drop_one.new.watches) c.args.flow.now c.drop_one.ensures.gone
    c.drop_one.ensures.stay c.requires

pub returns-else-is_at-clause-found : goal.returns-else-is_at-clause-found
returns-else-is_at-clause-found c = not_at c.args.place.now c.args.flow.now (stands place_cmp flow_cmp c.args.places.now) (map_of flow_cmp c.args.watches.now) (sym c.is_at.ensures ∙ c.if-is_at.false) c.requires
