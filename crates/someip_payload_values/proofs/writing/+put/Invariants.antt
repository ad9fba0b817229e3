use Rattle.std.proofs.Common.{◌≡◌, ◌++◌, ℕ, List, drop}
use Rattle.someip_payload_values.specs.View.{form, forms, all_variants, all_members, data_of, data_of_all, slots_of}
use Rattle.someip_payload_values.specs.Writing.{text_of, each_text, members_text, variant_text, slots_text}
use Rattle.someip_payload_values.proofs.Writes.{text_after}
use Rattle.someip_payload_values.proofs.writing.+put.Given as goal

abbrev pub invariant-put_each-loop-value : goal.invariant-put_each-loop-value
invariant-put_each-loop-value l =
    (added : List ℕ) × (l.out.items ≡ l.fn.out.items ++ added)
    × (text_after added (each_text (text_of (form l.element)) (data_of_all (drop l.value-index l.values))) ≡ each_text (text_of (form l.element)) (data_of_all l.values))

abbrev pub invariant-put_members-loop-i : goal.invariant-put_members-loop-i
invariant-put_members-loop-i l =
    (added : List ℕ) × (l.out.items ≡ l.fn.out.items ++ added)
    × (text_after added (members_text (forms (drop l.i l.shapes)) (data_of_all (drop l.i l.values))) ≡ members_text (forms l.shapes) (data_of_all l.values))

abbrev pub invariant-put_variant-loop-variant : goal.invariant-put_variant-loop-variant
invariant-put_variant-loop-variant l =
    (l.out.items ≡ l.fn.out.items)
    × (variant_text l.width l.field (all_variants (drop l.variant-index l.variants)) l.kind (data_of l.value) ≡ variant_text l.width l.field (all_variants l.variants) l.kind (data_of l.value))

abbrev pub invariant-put_slots-loop-i : goal.invariant-put_slots-loop-i
invariant-put_slots-loop-i l =
    (added : List ℕ) × (l.out.items ≡ l.fn.out.items ++ added)
    × (text_after added (slots_text (all_members (drop l.i l.members)) (slots_of (drop l.i l.slots))) ≡ slots_text (all_members l.members) (slots_of l.slots))
