use Rattle.std.proofs.Common.{◌≡◌, ℕ, List, [], drop}
use Rattle.std.specs.Ordering.{nat_cmp}
use Rattle.std.specs.BTreeSet as tree
use Rattle.someip_payload_values.specs.View.{all_members}
use Rattle.someip_payload_values.specs.Check.{is_among, are_ids}
use Rattle.someip_payload_values.proofs.check.have_ids.Given as goal

abbrev pub invariant-loop-member : goal.invariant-loop-member
invariant-loop-member l =
    (earlier : List ℕ) × (are_ids earlier (all_members (drop l.member-index l.members)) ≡ are_ids [] (all_members l.members))
    × ((k : ℕ) → tree.contains nat_cmp l.ids k ≡ is_among k earlier)
