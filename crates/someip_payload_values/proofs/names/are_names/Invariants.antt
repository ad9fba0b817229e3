use Rattle.std.proofs.Common.{◌≡◌, ℕ, List, [], map, drop, Bor}
use Rattle.std.specs.List.{list_any}
use Rattle.std.specs.Str.{bytes_eq}
use Rattle.std.specs.Ordering.{nat_cmp}
use Rattle.std.specs.Cmp.Lexicographic.{slice_cmp}
use Rattle.std.specs.BTreeSet as tree
use Rattle.someip_payload_values.specs.Check.{are_names}
use Rattle.someip_payload_values.proofs.names.are_names.Given as goal

abbrev pub invariant-loop-i : goal.invariant-loop-i
invariant-loop-i l =
    (earlier : List (List ℕ)) × (are_names earlier (map (λ n. n.now) (drop l.i l.names)) ≡ are_names [] (map (λ n. n.now) l.names))
    × ((k : Bor (List ℕ)) → tree.contains (λ x y. slice_cmp nat_cmp x.now y.now) l.met k ≡ list_any (λ e. bytes_eq e k.now) earlier)
