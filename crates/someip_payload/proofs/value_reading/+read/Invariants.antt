use Rattle.std.proofs.Common.{◌≡◌, ◌-◌, length, map, drop}
use Rattle.someip_payload_values.specs.View.{form, forms, all_variants, all_members, data_of, slot_of}
use Rattle.someip_payload.specs.ReadValues.{value_in, elements_in, members_in, variant_in, slots_in}
use Rattle.someip_payload.proofs.ValueLoops.{items_after, slots_after}
use Rattle.someip_payload.proofs.value_reading.+read.Given as goal

abbrev pub invariant-elements-loop : goal.invariant-elements-loop
invariant-elements-loop l =
    items_after (map data_of l.values.items) (elements_in (value_in (form l.element)) (length l.text - l.counter) l.left) ≡ elements_in (value_in (form l.element)) (length l.text) l.text

abbrev pub invariant-members-loop-i : goal.invariant-members-loop-i
invariant-members-loop-i l = items_after (map data_of l.values.items) (members_in l.i (forms (drop l.i l.shapes)) l.left) ≡ members_in 0 (forms l.shapes) l.text

abbrev pub invariant-slots-loop-i : goal.invariant-slots-loop-i
invariant-slots-loop-i l = slots_after (map slot_of l.slots.items) (slots_in l.i (all_members (drop l.i l.members)) l.left) ≡ slots_in 0 (all_members l.members) l.text

abbrev pub invariant-variant-loop-variant : goal.invariant-variant-loop-variant
invariant-variant-loop-variant l = variant_in (all_variants (drop l.variant-index l.variants)) l.kind l.rest ≡ variant_in (all_variants l.variants) l.kind l.rest
