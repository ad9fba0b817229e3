use Rattle.std.proofs.Common.{◌≡◌, ℕ, List, [], drop}
use Rattle.std.specs.Ordering.{nat_cmp}
use Rattle.std.specs.BTreeSet as tree
use Rattle.someip_payload_values.specs.View.{all_variants}
use Rattle.someip_payload_values.specs.Check.{is_among, are_numbers}
use Rattle.someip_payload_values.proofs.check.have_numbers.Given as goal

abbrev pub invariant-loop-variant : goal.invariant-loop-variant
invariant-loop-variant l =
    (earlier : List ℕ) × (are_numbers earlier (all_variants (drop l.variant-index l.variants)) ≡ are_numbers [] (all_variants l.variants))
    × ((k : ℕ) → tree.contains nat_cmp l.numbers k ≡ is_among k earlier)
