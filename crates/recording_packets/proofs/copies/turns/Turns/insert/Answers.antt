use Rattle.std.proofs.Common.{◌≡◌, ◌<◌, ◌∙◌, sym, ap, refl, subst, cond, length, Some, None}
use Rattle.std.specs.List.{slice_index_or, slice_set}
use Rattle.recording_packets.specs.copies.Remembered.{is_same}
use Rattle.recording_packets.specs.copies.Owned.{packet_of}
use Rattle.recording_packets.specs.copies.Slots.{place_in, slot_of}
use Rattle.recording_packets.specs.declared.copies.turns.Turns.{Turns}
use Rattle.recording_packets.proofs.about_copies.SlotLemmas.{free_slot, or_none, other_put, slot_filled}
use Rattle.recording_packets.proofs.copies.turns.Turns.insert.Goals as goal

pub returns-then-is_free-clause-ok : goal.returns-then-is_free-clause-ok
returns-then-is_free-clause-ok c = λ q.
    let made : Turns = c.make_room.new.self in
    let new : Turns = record made { slots = c.put_in.new.slots } in
    let slot = c.slot_of-slot.ensures in
    let free = free_slot _ c.slot_of-slot.result (sym c.is_free.ensures ∙ c.if-is_free.true) in
    let there : slot_of made.shift c.args.packet < length made.slots.items = subst (λ i. i < length made.slots.items) slot (subst (λ l. c.slot_of-slot.result < length l) c.deref.ensures.value free.0) in
    let empty : place_in made c.args.packet ≡ None = ap (λ i. slice_index_or made.slots.items i None) (sym slot) ∙ ap (λ l. slice_index_or l c.slot_of-slot.result None) (sym c.deref.ensures.value) ∙ free.1 in
    slot_filled made new c.args.packet c.args.turn refl there empty (c.put_in.ensures ∙ ap (λ i. slice_set made.slots.items i (Some (record { packet = c.args.packet; turn = c.args.turn }))) slot) refl q
    ∙ ap (λ x. cond (is_same (packet_of c.args.packet.owned.value) (packet_of q.owned.value)) (Some c.args.turn) x) (c.make_room.ensures.same q)

pub returns-in_ok-insert-clause-ok : goal.returns-in_ok-insert-clause-ok
returns-in_ok-insert-clause-ok c = λ q.
    let made : Turns = c.make_room.new.self in
    let new : Turns = record made { others = c.insert.new.self } in
    other_put made new c.args.packet c.args.turn refl (or_none _ _ (c.make_room.ensures.same c.args.packet ∙ c.requires)) refl c.in_ok-insert.ensures.updates.0 q
    ∙ ap (λ x. cond (is_same (packet_of c.args.packet.owned.value) (packet_of q.owned.value)) (Some c.args.turn) x) (c.make_room.ensures.same q)
