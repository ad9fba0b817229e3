use Rattle.std.proofs.Common.{ap, ◌∙◌}
use Rattle.std.specs.Option.{is_some}
use Rattle.someip_tables.specs.Tables.{map_of}
use Rattle.audit_index.specs.Slots.{stands}
use Rattle.audit_traffic.specs.events.FlowKeys.{flow_cmp}
use Rattle.audit_traffic.specs.cycles.WatchPlaces.{place_cmp}
use Rattle.audit_traffic.proofs.about_cycles.WatchLemmas.{all_found, entered}
use Rattle.audit_traffic.proofs.cycles.watch_table.WatchTable.insert.Goals as goal

pub invariant_of-self : goal.invariant_of-self
invariant_of-self c =
    all_found (stands place_cmp flow_cmp c.self.inside.places) (stands place_cmp flow_cmp c.enter_unless.new.places) (map_of flow_cmp c.self.inside.watches) c.enter_unless.ensures.stay c.self.invariant

pub invariant_of-self-in_err-insert : goal.invariant_of-self-in_err-insert
invariant_of-self-in_err-insert c =
    rw c.in_err-insert.ensures.err
    (all_found (stands place_cmp flow_cmp c.self.inside.places) (stands place_cmp flow_cmp c.enter_unless.new.places) (map_of flow_cmp c.self.inside.watches) c.enter_unless.ensures.stay c.self.invariant)

pub invariant_of-self-2 : goal.invariant_of-self-2
invariant_of-self-2 c =
    entered (stands place_cmp flow_cmp c.self.inside.places) (stands place_cmp flow_cmp c.enter_unless.new.places) (map_of flow_cmp c.self.inside.watches) (map_of flow_cmp c.insert.new.self) c.args.flow c.args.watch c.in_ok-insert.ensures.ok
    (λ none. c.in_ok-enter_unless.ensures.found (c.is_some-is_watched.ensures ∙ ap is_some c.get.ensures ∙ none)) c.enter_unless.ensures.stay c.self.invariant
