use Rattle.std.proofs.Common.{◌≡◌, drop}
use Rattle.std.specs.Prelude.{nat_le}
use Rattle.someip_payload_values.specs.View.{forms, all_variants, all_members}
use Rattle.someip_payload_values.specs.Check.{deepest, deepest_variant, deepest_member}
use Rattle.someip_payload_values.proofs.check.+within.Given as goal

abbrev pub invariant-are_within-loop-shape : goal.invariant-are_within-loop-shape
invariant-are_within-loop-shape l = nat_le (deepest (forms (drop l.shape-index l.shapes))) l.limit ≡ nat_le (deepest (forms l.shapes)) l.limit

abbrev pub invariant-are_variants_within-loop-variant : goal.invariant-are_variants_within-loop-variant
invariant-are_variants_within-loop-variant l =
    nat_le (deepest_variant (all_variants (drop l.variant-index l.variants))) l.limit ≡ nat_le (deepest_variant (all_variants l.variants)) l.limit

abbrev pub invariant-are_tagged_within-loop-member : goal.invariant-are_tagged_within-loop-member
invariant-are_tagged_within-loop-member l =
    nat_le (deepest_member (all_members (drop l.member-index l.members))) l.limit ≡ nat_le (deepest_member (all_members l.members)) l.limit
