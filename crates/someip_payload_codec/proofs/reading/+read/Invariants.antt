use Rattle.std.proofs.Common.{◌≡◌, ℕ, ◌-◌, ◌≤◌, length, map, drop}
use Rattle.someip_payload_values.specs.View.{form, forms, all_variants, all_members, data_of, slots_of}
use Rattle.someip_payload_codec.specs.View.{seen}
use Rattle.someip_payload_codec.specs.Reading.{data_at, items_at, fixed_at, members_at, variant_at, tagged_at, item_at, all_absent}
use Rattle.someip_payload_codec.proofs.parts.Loops.{items_after, members_after}
use Rattle.someip_payload_codec.proofs.reading.+read.Given as goal

abbrev pub invariant-items-loop-window : goal.invariant-items-loop-window
invariant-items-loop-window l =
    items_after (map data_of l.values.items) (items_at (data_at (form l.element)) l.left (seen l.window)) ≡ items_at (data_at (form l.element)) l.max (seen l.fn.window)

abbrev pub decreases-items-loop-window : goal.decreases-items-loop-window
decreases-items-loop-window l = l.left

abbrev pub invariant-members-loop-shape : goal.invariant-members-loop-shape
invariant-members-loop-shape l =
    members_after (map data_of l.values.items) (members_at (forms (drop l.shape-index l.shapes)) (seen l.window)) ≡ members_at (forms l.shapes) (seen l.fn.window)

abbrev pub invariant-fixed-loop : goal.invariant-fixed-loop
invariant-fixed-loop l =
    members_after (map data_of l.values.items) (fixed_at (data_at (form l.element)) (l.count - l.counter) (seen l.window)) ≡ fixed_at (data_at (form l.element)) l.count (seen l.fn.window)

abbrev pub invariant-variant-loop-variant : goal.invariant-variant-loop-variant
invariant-variant-loop-variant l =
    variant_at (all_variants (drop l.variant-index l.variants)) l.kind l.len l.place (seen l.start) (seen l.rest) ≡ variant_at (all_variants l.variants) l.kind l.len l.place (seen l.start) (seen l.rest)

abbrev pub invariant-tagged_items-loop-window : goal.invariant-tagged_items-loop-window
invariant-tagged_items-loop-window l =
    (left : ℕ) × (length l.window.bytes.now ≤ left)
    × (tagged_at (item_at (all_members l.members)) left (slots_of l.slots.items) (seen l.window)
    ≡ tagged_at (item_at (all_members l.members)) (length l.fn.window.bytes.now) (all_absent (all_members l.members)) (seen l.fn.window))
    × (length l.slots.items ≡ length l.members)

abbrev pub decreases-tagged_items-loop-window : goal.decreases-tagged_items-loop-window
decreases-tagged_items-loop-window l = length l.window.bytes.now
