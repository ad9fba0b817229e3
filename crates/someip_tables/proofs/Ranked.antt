-- Lists in strict order: what a search finds in them, and what an insert, a removal and a sort leave.
use Rattle.std.proofs.Common.{◌≡◌, ℕ, ◌+◌, ◌<◌, ◌≤◌, zero, suc, Bool, true, false, cond, ◌||◌, List, [], ◌∷◌, length, get_or, refl, ap, sym, ◌∙◌, arith}
use Rattle.std.specs.List.{list_any, AllByRecursion, IsDistinct, HoldsAt, insert, remove}
use Rattle.std.specs.List.Sorted.{IsStrictlySortedBy, IsSorted, IsNonDecreasingBy, IsPartitionPoint, IsPermutation}
use Rattle.std.specs.declared.cmp.Ordering.{Ordering}
use Rattle.std.specs.declared.cmp.Ordering.TheVariants.{Less, Equal, Greater}
use Rattle.std.specs.Ordering.{eq_by_cmp, is_eq, is_lt, ordering_index, ordering_reverse}
use Rattle.std.specs.Cmp.{IsTotalOrder, Equal-is, eq_by_cmp_equiv}
use Rattle.std.specs.FinMap.{IsAntisymmetric}
use Rattle.std.proofs.lemmas.List.Sorted.{searchable_from_sorted, list_any-IsPermutation, IsPermutation-insert}
use Rattle.std.proofs.lemmas.List.Folds.{list_any_at}
use Rattle.std.proofs.lemmas.Map.Keys.{Less-from_sorted, sorted_from_all_adjacent, IsDistinct-IsPermutation, apart_from_distinct}
use Rattle.someip_tables.proofs.Entries.{same_by_test}

all_removed : {X : Type 0} (P : X → Type 0) (xs : List X) (i : ℕ) → AllByRecursion P xs → AllByRecursion P (remove xs i)
all_removed P [] zero all = tt
all_removed P [] (suc i) all = tt
all_removed P (x ∷ xs) zero all = all.1
all_removed P (x ∷ xs) (suc i) all = (all.0, all_removed P xs i all.1)

all_inserted : {X : Type 0} (P : X → Type 0) (xs : List X) (i : ℕ) (y : X) → P y → AllByRecursion P xs → AllByRecursion P (insert xs i y)
all_inserted P [] zero y one all = (one, tt)
all_inserted P [] (suc i) y one all = (one, tt)
all_inserted P (x ∷ xs) zero y one all = (one, all)
all_inserted P (x ∷ xs) (suc i) y one all = (all.0, all_inserted P xs i y one all.1)

all_from_places : {X : Type 0} (P : X → Type 0) (xs : List X) → ((k : ℕ) (d : X) → k < length xs → P (get_or xs k d)) → AllByRecursion P xs
all_from_places P [] each = tt
all_from_places P (x ∷ xs) each = (each 0 x (omega arith), all_from_places P xs (λ k d lt. each (suc k) d (omega (arith, lt))))

module _ {X : Type 0} {R : X → X → Ordering} (o : IsTotalOrder R) (exact : IsAntisymmetric R) where
  turned : (x y : X) (r : Ordering) → R x y ≡ r → R y x ≡ ordering_reverse r
  turned x y r is = o.antisymm y x ∙ ap ordering_reverse is

  -- ---- what a search finds

  pub searchable : (xs : List X) (x : X) → IsStrictlySortedBy R xs → IsNonDecreasingBy (λ y. ordering_index (R y x)) xs
  searchable xs x rises =
      searchable_from_sorted o (λ y. y) xs x (λ k d low lt. ap is_lt (turned (get_or xs k d) (get_or xs (k + 1) d) Less (Less-from_sorted R xs k (k + 1) d rises (omega arith) lt)))

  -- ---- what a removal leaves

  none_past : (x q : X) (xs : List X) → AllByRecursion (λ y. R x y ≡ Less) xs → eq_by_cmp R q x ≡ true → list_any (eq_by_cmp R q) xs ≡ false
  none_past x q [] above t = refl
  none_past x q (y ∷ ys) above t =
      let apart : eq_by_cmp R q y ≡ false = ap is_eq (o.congr q x y ((Equal-is (R q x)).0 t) ∙ above.0) in
      ap (λ b. b || list_any (eq_by_cmp R q) ys) apart ∙ none_past x q ys above.1 t

  pub removed_rises : (xs : List X) (i : ℕ) → IsStrictlySortedBy R xs → IsStrictlySortedBy R (remove xs i)
  unfolding IsStrictlySortedBy
  removed_rises [] zero rises = tt
  removed_rises [] (suc i) rises = tt
  removed_rises (x ∷ xs) zero rises = rises.1
  removed_rises (x ∷ xs) (suc i) rises = (all_removed (λ y. R x y ≡ Less) xs i rises.0, removed_rises xs i rises.1)

  pub removed_has : (xs : List X) (i : ℕ) (x q : X) → IsStrictlySortedBy R xs → i < length xs → HoldsAt (λ y. R y x ≡ Equal) xs i
      → list_any (eq_by_cmp R q) (remove xs i) ≡ cond (eq_by_cmp R q x) false (list_any (eq_by_cmp R q) xs)
  unfolding IsStrictlySortedBy
  removed_has [] i x q rises lt at = absurd (omega (arith, lt))
  removed_has (y ∷ ys) zero x q rises lt at = cases (eq_by_cmp R q y) refl
    where
      same : y ≡ x
      same = exact y x (at y)

      cases : (b : Bool) → eq_by_cmp R q y ≡ b → list_any (eq_by_cmp R q) ys ≡ cond (eq_by_cmp R q x) false (eq_by_cmp R q y || list_any (eq_by_cmp R q) ys)
      cases true t = none_past y q ys rises.0 t ∙ ap (λ b. cond b false (eq_by_cmp R q y || list_any (eq_by_cmp R q) ys)) (sym (sym (ap (eq_by_cmp R q) same) ∙ t))
      cases false t =
          ap (λ b. b || list_any (eq_by_cmp R q) ys) (sym t)
          ∙ ap (λ b. cond b false (eq_by_cmp R q y || list_any (eq_by_cmp R q) ys)) (sym (sym (ap (eq_by_cmp R q) same) ∙ t))
  removed_has (y ∷ ys) (suc i) x q rises lt at = cases (eq_by_cmp R q x) refl (removed_has ys i x q rises.1 (omega (arith, lt)) at)
    where
      cases : (b : Bool) → eq_by_cmp R q x ≡ b → list_any (eq_by_cmp R q) (remove ys i) ≡ cond (eq_by_cmp R q x) false (list_any (eq_by_cmp R q) ys)
          → (eq_by_cmp R q y || list_any (eq_by_cmp R q) (remove ys i)) ≡ cond (eq_by_cmp R q x) false (eq_by_cmp R q y || list_any (eq_by_cmp R q) ys)
      cases true t rest =
          let below : R y x ≡ Less = sym (ap (R y) (exact (get_or ys i y) x (at y))) ∙ Less-from_sorted R (y ∷ ys) 0 (suc i) y rises (omega arith) lt in
          let apart : eq_by_cmp R q y ≡ false = ap is_eq (o.congr q x y ((Equal-is (R q x)).0 t) ∙ turned y x Less below) in
          ap (λ b. b || list_any (eq_by_cmp R q) (remove ys i)) apart
          ∙ (rest ∙ ap (λ b. cond b false (list_any (eq_by_cmp R q) ys)) t)
          ∙ sym (ap (λ b. cond b false (eq_by_cmp R q y || list_any (eq_by_cmp R q) ys)) t)
      cases false t rest =
          ap (λ b. eq_by_cmp R q y || b) (rest ∙ ap (λ b. cond b false (list_any (eq_by_cmp R q) ys)) t)
          ∙ sym (ap (λ b. cond b false (eq_by_cmp R q y || list_any (eq_by_cmp R q) ys)) t)

  -- ---- what an insert leaves

  pub inserted_rises : (xs : List X) (i : ℕ) (x : X) → IsStrictlySortedBy R xs → i ≤ length xs → IsPartitionPoint (λ y. R y x ≡ Less) (λ y. R y x ≡ Greater) xs i → IsStrictlySortedBy R (insert xs i x)
  unfolding IsStrictlySortedBy
  inserted_rises [] zero x rises le parts = (tt, tt)
  inserted_rises [] (suc i) x rises le parts = (tt, tt)
  inserted_rises (y ∷ ys) zero x rises le parts =
      (all_from_places (λ z. R x z ≡ Less) (y ∷ ys) (λ k d lt. turned (get_or (y ∷ ys) k d) x Greater (parts.1 k d (omega arith) lt)), rises)
  inserted_rises (y ∷ ys) (suc i) x rises le parts = (
    all_inserted (λ z. R y z ≡ Less) ys i x (parts.0 0 y (omega arith) (omega arith)) rises.0,
    inserted_rises ys i x rises.1 (omega (arith, le)) (λ k d low lt. parts.0 (suc k) d (omega arith) (omega (arith, lt)), λ k d low lt. parts.1 (suc k) d (omega (arith, low)) (omega (arith, lt))),
  )

  pub inserted_has : (xs : List X) (i : ℕ) (x q : X) → list_any (eq_by_cmp R q) (insert xs i x) ≡ cond (eq_by_cmp R q x) true (list_any (eq_by_cmp R q) xs)
  inserted_has xs i x q = sym (list_any-IsPermutation (eq_by_cmp R q) (x ∷ xs) (insert xs i x) (IsPermutation-insert xs i x)) ∙ at (eq_by_cmp R q x)
    where
      at : (b : Bool) → (b || list_any (eq_by_cmp R q) xs) ≡ cond b true (list_any (eq_by_cmp R q) xs)
      at true = refl
      at false = refl

  -- what is there is put in
  pub found_has : (xs : List X) (i : ℕ) (x q : X) → i < length xs → HoldsAt (λ y. R y x ≡ Equal) xs i → list_any (eq_by_cmp R q) xs ≡ cond (eq_by_cmp R q x) true (list_any (eq_by_cmp R q) xs)
  found_has xs i x q lt at = cases (eq_by_cmp R q x) refl
    where
      cases : (b : Bool) → eq_by_cmp R q x ≡ b → list_any (eq_by_cmp R q) xs ≡ cond b true (list_any (eq_by_cmp R q) xs)
      cases true t = list_any_at (eq_by_cmp R q) xs i x lt (ap (eq_by_cmp R q) (exact (get_or xs i x) x (at x)) ∙ t)
      cases false t = refl

  -- what is not there is not found
  not_found : (xs : List X) (i : ℕ) (x : X) → IsPartitionPoint (λ y. R y x ≡ Less) (λ y. R y x ≡ Greater) xs i → list_any (eq_by_cmp R x) xs ≡ false
  not_found [] i x parts = refl
  not_found (y ∷ ys) zero x parts =
      ap (λ b. b || list_any (eq_by_cmp R x) ys) (ap is_eq (turned y x Greater (parts.1 0 y (omega arith) (omega arith))))
      ∙ not_found ys zero x (λ k d low lt. absurd (omega (arith, lt)), λ k d low lt. parts.1 (suc k) d (omega arith) (omega (arith, lt)))
  not_found (y ∷ ys) (suc i) x parts =
      ap (λ b. b || list_any (eq_by_cmp R x) ys) (ap is_eq (turned y x Less (parts.0 0 y (omega arith) (omega arith))))
      ∙ not_found ys i x (λ k d low lt. parts.0 (suc k) d (omega arith) (omega (arith, lt)), λ k d low lt. parts.1 (suc k) d (omega (arith, low)) (omega (arith, lt)))

  pub absent_has : (xs : List X) (i : ℕ) (x q : X) → IsPartitionPoint (λ y. R y x ≡ Less) (λ y. R y x ≡ Greater) xs i → list_any (eq_by_cmp R q) xs ≡ cond (eq_by_cmp R q x) false (list_any (eq_by_cmp R q) xs)
  absent_has xs i x q parts = cases (eq_by_cmp R q x) refl
    where
      cases : (b : Bool) → eq_by_cmp R q x ≡ b → list_any (eq_by_cmp R q) xs ≡ cond b false (list_any (eq_by_cmp R q) xs)
      cases true t = ap (λ p. list_any (eq_by_cmp R p) xs) (same_by_test exact q x t) ∙ not_found xs i x parts
      cases false t = refl

  -- ---- what a sort leaves

  pub sorted_rises : (old new : List X) → IsDistinct (eq_by_cmp R) old → IsPermutation old new → IsSorted R new → IsStrictlySortedBy R new
  unfolding IsStrictlySortedBy
  sorted_rises old [] apart same sorted = tt
  sorted_rises old (x ∷ xs) apart same sorted =
      sorted_from_all_adjacent o (x ∷ xs) x (λ k lt.
      less (get_or (x ∷ xs) k x) (get_or (x ∷ xs) (k + 1) x) (sorted k x (omega arith) lt) (apart_from_distinct (eq_by_cmp R) (x ∷ xs) k (k + 1) x (IsDistinct-IsPermutation (eq_by_cmp R) (eq_by_cmp_equiv o).symm old (x ∷ xs) same apart) (omega arith) lt))
    where
      less : (a b : X) → is_lt (R b a) ≡ false → eq_by_cmp R a b ≡ false → R a b ≡ Less
      less a b not_under not_tied = cases (R a b) refl (ap is_lt (sym (turned a b (R a b) refl)) ∙ not_under) not_tied
        where
          cases : (r : Ordering) → R a b ≡ r → is_lt (ordering_reverse r) ≡ false → is_eq r ≡ false → R a b ≡ Less
          cases Less is under tied = is
          cases Equal is under tied = absurd (cc)
          cases Greater is under tied = absurd (cc)
