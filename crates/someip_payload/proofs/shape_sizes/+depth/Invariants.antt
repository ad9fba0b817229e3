use Rattle.std.proofs.Common.{◌≡◌, ◌-◌, ◌^◌, min, max, drop}
use Rattle.someip_payload_values.specs.View.{forms, all_variants, all_members}
use Rattle.someip_payload_values.specs.Check.{deepest, deepest_variant, deepest_member}
use Rattle.someip_payload.proofs.shape_sizes.+depth.Given as goal

abbrev pub invariant-deepest_of-loop-shape : goal.invariant-deepest_of-loop-shape
invariant-deepest_of-loop-shape l = max l.deepest (min (deepest (forms (drop l.shape-index l.shapes))) (2 ^ 64 - 1)) ≡ min (deepest (forms l.shapes)) (2 ^ 64 - 1)

abbrev pub invariant-deepest_variant_of-loop-variant : goal.invariant-deepest_variant_of-loop-variant
invariant-deepest_variant_of-loop-variant l =
    max l.deepest (min (deepest_variant (all_variants (drop l.variant-index l.variants))) (2 ^ 64 - 1)) ≡ min (deepest_variant (all_variants l.variants)) (2 ^ 64 - 1)

abbrev pub invariant-deepest_member_of-loop-member : goal.invariant-deepest_member_of-loop-member
invariant-deepest_member_of-loop-member l =
    max l.deepest (min (deepest_member (all_members (drop l.member-index l.members))) (2 ^ 64 - 1)) ≡ min (deepest_member (all_members l.members)) (2 ^ 64 - 1)
