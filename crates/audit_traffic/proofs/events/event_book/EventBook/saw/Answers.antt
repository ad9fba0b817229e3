use Rattle.std.proofs.Common.{◌≡◌, true, None, refl, sym, ap, ◌∙◌}
use Rattle.std.specs.FinMap as finite
use Rattle.std.specs.Option.{is_some}
use Rattle.someip_tables.specs.Tables.{map_of}
use Rattle.audit_traffic.specs.events.EventTables.{has_room, may_take}
use Rattle.audit_traffic.specs.events.FlowKeys.{flow_cmp}
use Rattle.audit_traffic.proofs.about_events.SawLemmas.{came_is, held_event, known_then, taken_then}
use Rattle.audit_traffic.proofs.events.event_book.EventBook.saw.Goals as goal

pub returns-in-Some-clause-after : goal.returns-in-Some-clause-after
returns-in-Some-clause-after c =
    let held : may_take c.self.inside.room.limit c.args.event.flow (map_of flow_cmp c.self.inside.flows) ≡ true = rw (← c.in-Some.ensures.had) refl in
    rw (← c.self.view_is)
    (held_event c.args.event (record { limit = c.self.inside.room.limit; flows = map_of flow_cmp c.self.inside.flows; told_full = c.self.inside.room.told_full }) (map_of flow_cmp c.came.new.self) c.if-event-eq0.false held
    (c.in-Some.ensures.known ∙ came_is c.args.event (map_of flow_cmp c.self.inside.flows) c.in-Some.last (sym c.in-Some.ensures.had)))

pub add-requires-clause-room : goal.add-requires-clause-room
add-requires-clause-room c = c.has_room.ensures.fits c.if-not-has_room.false

pub returns-clause-after : goal.returns-clause-after
returns-clause-after c =
    let absent : finite.get (map_of flow_cmp c.self.inside.flows) c.args.event.flow ≡ None = sym c.in_default.ensures.had in
    let room : has_room c.self.inside.room.limit c.args.event.flow (map_of flow_cmp c.self.inside.flows) ≡ true =
    ap (has_room c.self.inside.room.limit c.args.event.flow) (sym c.in_default.ensures.none) ∙ (sym c.has_room.ensures.room ∙ c.if-not-has_room.false) in
    let held : may_take c.self.inside.room.limit c.args.event.flow (map_of flow_cmp c.self.inside.flows) ≡ true =
    taken_then (is_some (finite.get (map_of flow_cmp c.self.inside.flows) c.args.event.flow)) (has_room c.self.inside.room.limit c.args.event.flow (map_of flow_cmp c.self.inside.flows)) room in
    rw (← c.self.view_is)
    (held_event c.args.event (record { limit = c.self.inside.room.limit; flows = map_of flow_cmp c.self.inside.flows; told_full = c.self.inside.room.told_full }) (map_of flow_cmp c.came-2.new.self) c.if-event-eq0.false held
    (known_then c.args.event (map_of flow_cmp c.self.inside.flows) (map_of flow_cmp c.add.new.self) (map_of flow_cmp c.came-2.new.self) c.came-2.result c.renewed.result absent c.renewed.ensures
    (c.in_ok-add.ensures.ok ∙ ap (λ m. finite.insert m c.args.event.flow c.renewed.result) c.in_default.ensures.none) c.came-2.ensures.had c.came-2.ensures.known))
