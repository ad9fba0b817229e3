use Rattle.std.proofs.Common.{◌≡◌, ◌<◌, ◌∙◌, sym, ap, refl, subst, length, true, false, None}
use Rattle.std.specs.List.{slice_index_or, slice_set}
use Rattle.recording_packets.specs.copies.Slots.{is_place, place_in, slot_of}
use Rattle.recording_packets.specs.declared.copies.turns.Turns.{Turns}
use Rattle.recording_packets.proofs.about_copies.SlotLemmas.{other_gone, slot_emptied}
use Rattle.recording_packets.proofs.copies.turns.Turns.remove.Goals as goal

pub returns-then-has_turn : goal.returns-then-has_turn
returns-then-has_turn c =
    let new : Turns = record c.args.self.now { slots = c.put_in.new.slots; others = c.remove_other.new.others } in
    let slot = c.slot_of-slot.ensures in
    let place : is_place c.args.packet.now.mark c.args.turn (place_in c.args.self.now c.args.packet.now) ≡ true =
    ap (λ i. is_place c.args.packet.now.mark c.args.turn (slice_index_or c.args.self.now.slots.items i None)) (sym slot)
    ∙ ap (λ l. is_place c.args.packet.now.mark c.args.turn (slice_index_or l c.slot_of-slot.result None)) (sym c.deref.ensures.value) ∙ sym c.has_turn.ensures.value ∙ c.if-has_turn.true in
    let there : slot_of c.args.self.now.shift c.args.packet.now < length c.args.self.now.slots.items =
    subst (λ i. i < length c.args.self.now.slots.items) slot (subst (λ l. c.slot_of-slot.result < length l) c.deref.ensures.value (c.has_turn.ensures.there c.if-has_turn.true)) in
    slot_emptied c.args.self.now new c.args.packet.now c.args.turn refl there place c.requires.alone
    (c.put_in.ensures ∙ ap (λ i. slice_set c.args.self.now.slots.items i None) slot) c.remove_other.ensures

pub returns-else-has_turn : goal.returns-else-has_turn
returns-else-has_turn c =
    let new : Turns = record c.args.self.now { others = c.remove_other.new.others } in
    let apart : is_place c.args.packet.now.mark c.args.turn (place_in c.args.self.now c.args.packet.now) ≡ false =
    ap (λ i. is_place c.args.packet.now.mark c.args.turn (slice_index_or c.args.self.now.slots.items i None)) (sym c.slot_of-slot.ensures)
    ∙ ap (λ l. is_place c.args.packet.now.mark c.args.turn (slice_index_or l c.slot_of-slot.result None)) (sym c.deref.ensures.value) ∙ sym c.has_turn.ensures.value ∙ c.if-has_turn.false in
    other_gone c.args.self.now new c.args.packet.now c.args.turn refl apart c.requires.present refl c.remove_other.ensures
