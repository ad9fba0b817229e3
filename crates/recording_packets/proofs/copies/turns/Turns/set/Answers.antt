use Rattle.std.proofs.Common.{◌≡◌, ◌∙◌, sym, ap, refl, Some, None}
use Rattle.std.specs.List.{slice_index_or, slice_set}
use Rattle.recording_packets.specs.copies.Slots.{place_in, slot_of, turn_at, with_turn}
use Rattle.recording_packets.specs.declared.copies.turns.Turns.{Turns}
use Rattle.recording_packets.proofs.about_copies.SlotLemmas.{is_there, no_turn, other_put, slot_set, some_of}
use Rattle.recording_packets.proofs.copies.turns.Turns.set.Goals as goal

pub returns-then-is_some : goal.returns-then-is_some
returns-then-is_some c =
    let before = some_of c.turn_in_slot.result (sym c.is_some.ensures ∙ c.if-is_some.true) in
    let stands : turn_at (place_in c.args.self.now c.args.packet.now) c.args.packet.now ≡ Some before.0 = sym c.turn_in_slot.ensures ∙ before.1 in
    let new : Turns = record c.args.self.now { slots = c.set_turn.new.slots } in
    slot_set c.args.self.now new c.args.packet.now c.args.turn before.0 refl (is_there c.args.self.now.slots.items (slot_of c.args.self.now.shift c.args.packet.now) before.0 c.args.packet.now stands) stands
    (c.set_turn.ensures ∙ ap (λ i. slice_set c.args.self.now.slots.items i (with_turn c.args.turn (slice_index_or c.args.self.now.slots.items i None))) c.slot_of-slot.ensures) refl

pub returns-else-is_some : goal.returns-else-is_some
returns-else-is_some c =
    let new : Turns = record c.args.self.now { others = c.set_other.new.others } in
    other_put c.args.self.now new c.args.packet.now c.args.turn refl (sym c.turn_in_slot.ensures ∙ no_turn c.turn_in_slot.result (sym c.is_some.ensures ∙ c.if-is_some.false)) refl c.set_other.ensures
