use Rattle.someip_tables.specs.Tables.{map_of}
use Rattle.audit_index.specs.Slots.{stands}
use Rattle.audit_traffic.specs.events.FlowKeys.{flow_cmp}
use Rattle.audit_traffic.specs.cycles.WatchPlaces.{place_cmp, sender_place}
use Rattle.audit_traffic.proofs.about_cycles.WatchLemmas.{but_none, found_remove}
use Rattle.audit_traffic.proofs.cycles.watch_table.WatchTable.remove.Goals as goal

pub invariant_of-self : goal.invariant_of-self
invariant_of-self c =
    found_remove (sender_place c.args.flow.now) (stands place_cmp flow_cmp c.self.inside.places) (stands place_cmp flow_cmp c.drop_one.new.places) (map_of flow_cmp c.self.inside.watches) (map_of flow_cmp c.drop_one.new.watches) c.args.flow.now c.drop_one.ensures.gone
    c.drop_one.ensures.stay (but_none (sender_place c.args.flow.now) c.args.flow.now (stands place_cmp flow_cmp c.self.inside.places) (map_of flow_cmp c.self.inside.watches) c.self.invariant)
