-- The elements of a list in an order, each once, are determined by which they are.
use Rattle.std.proofs.Common.{◌≡◌, Bool, true, false, cond, ◌||◌, List, [], ◌∷◌, map, None, Some, refl, ap, sym, subst, ◌∙◌}
use Rattle.std.specs.List.{list_any, AllByRecursion}
use Rattle.std.specs.List.Sorted.{IsStrictlySortedBy}
use Rattle.std.specs.Option.{is_some}
use Rattle.std.specs.BTreeSet.{BTreeSet, IsFromIterResult}
use Rattle.std.specs.declared.cmp.Ordering.{Ordering}
use Rattle.std.specs.declared.cmp.Ordering.TheVariants.{Less, Equal, Greater}
use Rattle.std.specs.Ordering.{eq_by_cmp, is_lt}
use Rattle.std.specs.Cmp.{IsTotalOrder}
use Rattle.std.specs.FinMap.{FinMap, IsAntisymmetric, find, get, keys, entries, from_entries, from_sorted, entries-from_sorted, get-from_sorted, get-from_entries, same_map, entries_sorted, contains_key-keys}
use Rattle.std.specs.FinMap.Entries.{below_all, is_sorted}
use Rattle.std.proofs.lemmas.Bool.{and_from, and_parts}
use lib.Dec.{T}
use Rattle.someip_tables.specs.SortedSet.{sorted_set}
use Rattle.someip_tables.proofs.Entries.{true_from}

abbrev marked : {X : Type 0} → List X → List (X × Unit {0})
marked xs = map (λ x. (x, tt {0})) xs

keys-marked : {X : Type 0} (xs : List X) → map (λ e. e.0) (marked xs) ≡ xs
keys-marked [] = refl
keys-marked (x ∷ xs) = ap (λ ys. x ∷ ys) (keys-marked xs)

find-marked : {X : Type 0} (R : X → X → Ordering) (q : X) (xs : List X) → find R q (marked xs) ≡ cond (list_any (eq_by_cmp R q) xs) (Some tt) None
find-marked R q [] = refl
find-marked R q (x ∷ xs) = elim (eq_by_cmp R q x) as (λ b. cond b (Some tt) (find R q (marked xs)) ≡ cond (b || list_any (eq_by_cmp R q) xs) (Some tt) None) [ true ↦ refl | false ↦ find-marked R q xs ]

below-marked : {X : Type 0} (R : X → X → Ordering) (x : X) (ys : List X) → AllByRecursion (λ y. R x y ≡ Less) ys → below_all R x (marked ys) ≡ true
below-marked R x [] below = refl
below-marked R x (y ∷ ys) below = and_from _ _ (ap is_lt below.0) (below-marked R x ys below.1)

sorted-marked : {X : Type 0} (R : X → X → Ordering) (xs : List X) → IsStrictlySortedBy R xs → is_sorted R (marked xs) ≡ true
unfolding IsStrictlySortedBy
sorted-marked R [] rising = refl
sorted-marked R (x ∷ xs) rising = and_from _ _ (below-marked R x xs rising.0) (sorted-marked R xs rising.1)

below-keys : {X V : Type 0} (R : X → X → Ordering) (x : X) (es : List (X × V)) → below_all R x es ≡ true → below_all R x (marked (map (λ e. e.0) es)) ≡ true
below-keys R x [] below = refl
below-keys R x (e ∷ es) below = let parts = and_parts _ _ below in and_from _ _ parts.0 (below-keys R x es parts.1)

sorted-keys : {X V : Type 0} (R : X → X → Ordering) (es : List (X × V)) → is_sorted R es ≡ true → is_sorted R (marked (map (λ e. e.0) es)) ≡ true
sorted-keys R [] rising = refl
sorted-keys R (e ∷ es) rising = let parts = and_parts _ _ rising in and_from _ _ (below-keys R e.0 es parts.0) (sorted-keys R es parts.1)

module _ {X : Type 0} {R : X → X → Ordering} (o : IsTotalOrder R) (exact : IsAntisymmetric R) where
  -- the same elements make the same list
  pub sorted_set_same : (xs ys : List X) → ((q : X) → list_any (eq_by_cmp R q) xs ≡ list_any (eq_by_cmp R q) ys) → sorted_set R xs ≡ sorted_set R ys
  sorted_set_same xs ys same =
      ap keys (same_map o exact _ _ (λ q.
      get-from_entries o (marked xs) q ∙ find-marked R q xs ∙ ap (λ b. cond b (Some tt) None) (same q) ∙ sym (get-from_entries o (marked ys) q ∙ find-marked R q ys)))

  -- rising lists with the same elements are one list
  pub rising_same : (xs ys : List X) → is_sorted R (marked xs) ≡ true → is_sorted R (marked ys) ≡ true → ((q : X) → list_any (eq_by_cmp R q) xs ≡ list_any (eq_by_cmp R q) ys) → xs ≡ ys
  rising_same xs ys xs_rise ys_rise same =
      let left : T (is_sorted R (marked xs)) = subst T (sym xs_rise) tt in
      let right : T (is_sorted R (marked ys)) = subst T (sym ys_rise) tt in
      let maps : from_sorted {R = R} (marked xs) ≡ from_sorted (marked ys) = same_map o exact _ _ (λ q.
      get-from_sorted R (marked xs) q left ∙ find-marked R q xs ∙ ap (λ b. cond b (Some tt) None) (same q) ∙ sym (get-from_sorted R (marked ys) q right ∙ find-marked R q ys)) in
      sym (keys-marked xs) ∙ ap (map (λ e. e.0)) (sym (entries-from_sorted R (marked xs) left)) ∙ ap keys maps ∙ ap (map (λ e. e.0)) (entries-from_sorted R (marked ys) right) ∙ keys-marked ys

  -- a rising list with the keys of a map lists them as the map does
  pub keys_of_list : {V : Type 0} (m : FinMap R V) (ks : List X) → IsStrictlySortedBy R ks → ((q : X) → list_any (eq_by_cmp R q) ks ≡ is_some (get m q)) → ks ≡ keys m
  keys_of_list m ks rises same =
      rising_same ks (keys m) (sorted-marked R ks rises) (sorted-keys R (entries m) (true_from (entries_sorted m))) (λ q. same q ∙ contains_key-keys m q)

  -- and so does a set
  pub keys_of_set : {V : Type 0} (m : FinMap R V) (n : BTreeSet X) → IsStrictlySortedBy R n.keys → ((q : X) → list_any (eq_by_cmp R q) n.keys ≡ is_some (get m q)) → n.keys ≡ keys m
  keys_of_set m n rises same = keys_of_list m n.keys rises same

  -- what is collected into an ordered set
  pub collected : (xs : List X) (n : BTreeSet X) → IsFromIterResult R xs n → n.keys ≡ sorted_set R xs
  collected xs n is =
      let rises = subst T (sym (sorted-marked R n.keys is.1)) tt in
      let s : FinMap R (Unit {0}) = from_sorted (marked n.keys) in
      let same : s ≡ from_entries (marked xs) = same_map o exact _ _ (λ q.
      get-from_sorted R (marked n.keys) q rises ∙ find-marked R q n.keys ∙ ap (λ b. cond b (Some tt) None) (is.0 q) ∙ sym (get-from_entries o (marked xs) q ∙ find-marked R q xs)) in
      sym (keys-marked n.keys) ∙ ap (map (λ e. e.0)) (sym (entries-from_sorted R (marked n.keys) rises)) ∙ ap keys same

  -- a sorted set has the elements of the list
  pub any-sorted_set : (xs : List X) (q : X) → list_any (eq_by_cmp R q) (sorted_set R xs) ≡ list_any (eq_by_cmp R q) xs
  any-sorted_set xs q =
      sym (contains_key-keys (from_entries (marked xs)) q) ∙ ap is_some (get-from_entries o (marked xs) q ∙ find-marked R q xs) ∙ told (list_any (eq_by_cmp R q) xs)
    where
      told : (b : Bool) → is_some (cond b (Some (tt {0})) None) ≡ b
      told true = refl
      told false = refl

  rising-keys : {V : Type 0} (es : List (X × V)) → is_sorted R es ≡ true → IsStrictlySortedBy R (map (λ e. e.0) es)
  unfolding IsStrictlySortedBy
  rising-keys [] sorted = tt
  rising-keys (e ∷ es) sorted = let parts = and_parts _ _ sorted in (all_below e.0 es parts.0, rising-keys es parts.1)
    where
      less : (r : Ordering) → is_lt r ≡ true → r ≡ Less
      less Less h = refl
      less Equal h = absurd (cc)
      less Greater h = absurd (cc)

      all_below : {V : Type 0} (x : X) (fs : List (X × V)) → below_all R x fs ≡ true → AllByRecursion (λ y. R x y ≡ Less) (map (λ f. f.0) fs)
      all_below x [] below = tt
      all_below x (f ∷ fs) below = let parts = and_parts _ _ below in (less (R x f.0) parts.0, all_below x fs parts.1)

  -- and rises
  pub sorted_set-rises : (xs : List X) → IsStrictlySortedBy R (sorted_set R xs)
  sorted_set-rises xs = rising-keys (entries (from_entries {R = R} (marked xs))) (true_from (entries_sorted (from_entries {R = R} (marked xs))))

  -- the keys of a map rise
  pub keys_rise : {V : Type 0} (m : FinMap R V) → IsStrictlySortedBy R (keys m)
  keys_rise m = rising-keys (entries m) (true_from (entries_sorted m))

  -- no other list does
  pub sorted_set-only : (xs ys : List X) → IsStrictlySortedBy R ys → ((q : X) → list_any (eq_by_cmp R q) ys ≡ list_any (eq_by_cmp R q) xs) → ys ≡ sorted_set R xs
  sorted_set-only xs ys rises same =
      rising_same ys (sorted_set R xs) (sorted-marked R ys rises) (sorted-marked R (sorted_set R xs) (sorted_set-rises xs)) (λ q. same q ∙ sym (any-sorted_set xs q))
