use Rattle.someip_tables.specs.Tables.{map_of}
use Rattle.audit_index.specs.Slots.{stands}
use Rattle.audit_traffic.specs.events.FlowKeys.{flow_cmp}
use Rattle.audit_traffic.specs.cycles.WatchPlaces.{place_cmp}
use Rattle.audit_traffic.proofs.about_cycles.WatchLemmas.{none_found}
use Rattle.audit_traffic.proofs.cycles.watch_table.WatchTable.new.Goals as goal

pub invariant_of-result : goal.invariant_of-result
invariant_of-result c = none_found (stands place_cmp flow_cmp c.new-2.result) (map_of flow_cmp c.new.result) c.new.ensures
