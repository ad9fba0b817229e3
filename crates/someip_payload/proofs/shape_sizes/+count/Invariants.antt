use Rattle.std.proofs.Common.{◌≡◌, ◌≤◌, ◌+◌, ◌-◌, ◌^◌, min, drop}
use Rattle.someip_payload_values.specs.View.{forms, all_variants, all_members}
use Rattle.someip_payload.specs.ShapeSizes.{count_all, count_variants, count_members}
use Rattle.someip_payload.proofs.shape_sizes.+count.Given as goal

abbrev pub invariant-shapes_in_all-loop-shape : goal.invariant-shapes_in_all-loop-shape
invariant-shapes_in_all-loop-shape l = (l.count ≤ 2 ^ 64 - 1) × (min (l.count + count_all (forms (drop l.shape-index l.shapes))) (2 ^ 64 - 1) ≡ min (count_all (forms l.shapes)) (2 ^ 64 - 1))

abbrev pub invariant-shapes_in_variants-loop-variant : goal.invariant-shapes_in_variants-loop-variant
invariant-shapes_in_variants-loop-variant l =
    (l.count ≤ 2 ^ 64 - 1) × (min (l.count + count_variants (all_variants (drop l.variant-index l.variants))) (2 ^ 64 - 1) ≡ min (count_variants (all_variants l.variants)) (2 ^ 64 - 1))

abbrev pub invariant-shapes_in_members-loop-member : goal.invariant-shapes_in_members-loop-member
invariant-shapes_in_members-loop-member l =
    (l.count ≤ 2 ^ 64 - 1) × (min (l.count + count_members (all_members (drop l.member-index l.members))) (2 ^ 64 - 1) ≡ min (count_members (all_members l.members)) (2 ^ 64 - 1))
