-- Copies of sets, and of maps to sets.
use Rattle.std.proofs.Common.{◌≡◌, ℕ, List, [], ◌∷◌, refl}
use Rattle.std.specs.List.{AllZip}
use Rattle.std.specs.BTreeMap.{BTreeMap}
use Rattle.std.specs.BTreeMap as map
use Rattle.std.specs.BTreeSet.{BTreeSet}
use Rattle.std.specs.BTreeSet as set

-- lists are equal whose elements are
pub same_list : {X : Type 0} (R : X → X → Type 0) → ((x y : X) → R x y → y ≡ x) → (xs ys : List X) → AllZip R xs ys → ys ≡ xs
same_list R same [] [] each = refl
same_list R same [] (y ∷ ys) each = absurd each
same_list R same (x ∷ xs) [] each = absurd each
same_list R same (x ∷ xs) (y ∷ ys) each = λ i. same x y each.0 i ∷ same_list R same xs ys each.1 i

pub same_set : (s copy : BTreeSet ℕ) → set.IsClone (λ a b. b ≡ a) s copy → copy ≡ s
same_set s copy each = λ i. record { keys = same_list (λ a b. b ≡ a) (λ a b is. is) s.keys copy.keys each i }

-- maps have the same entries whose keys and values are the same
pub same_entries : {K X : Type 0} (D : X → X → Type 0) → ((x y : X) → D x y → y ≡ x) → (m copy : BTreeMap K X) → map.IsClone (λ a b. b ≡ a) D m copy
    → copy.entries ≡ m.entries
same_entries D same m copy each = same_list (λ p q. (q.0 ≡ p.0) × D p.1 q.1) (λ p q is. λ j. (is.0 j, same p.1 q.1 is.1 j)) m.entries copy.entries each

pub same_entries_of_sets : (m copy : BTreeMap ℕ (BTreeSet ℕ)) → map.IsClone (λ a b. b ≡ a) (set.IsClone (λ a b. b ≡ a)) m copy → copy.entries ≡ m.entries
same_entries_of_sets m copy each = same_entries (set.IsClone (λ a b. b ≡ a)) same_set m copy each
