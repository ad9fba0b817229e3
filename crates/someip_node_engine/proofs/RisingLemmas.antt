-- Lists that rise: what stands where in them, and what is told of each in their order.
use Rattle.std.proofs.Common.{◌≡◌, ℕ, zero, suc, true, false, ◌||◌, if◌then◌else◌, List, [], ◌∷◌, ◌++◌, map, drop, refl, sym, ap, subst, ◌∙◌, append_assoc}
use Rattle.std.specs.List.{AllByRecursion, flat_map, list_any}
use Rattle.std.specs.List.Sorted.{IsStrictlySortedBy}
use Rattle.std.specs.declared.cmp.Ordering.{Ordering}
use Rattle.std.specs.declared.cmp.Ordering.TheVariants.{Less, Equal, Greater}
use Rattle.std.specs.Ordering.{eq_by_cmp, is_eq, is_lt, ordering_reverse}
use Rattle.std.specs.Cmp.{IsTotalOrder}
use Rattle.std.specs.FinMap.{FinMap, IsAntisymmetric, entries, entries_sorted, keys}
use Rattle.std.specs.FinMap.Entries.{below_all, is_sorted}
use Rattle.std.proofs.lemmas.Bool.{and_parts}
use Rattle.someip_tables.proofs.Entries.{true_from}

-- ---- in a list that rises

-- a test that answers Less
pub less_by : (r : Ordering) → is_lt r ≡ true → r ≡ Less
less_by Less h = refl
less_by Equal h = absurd (cc)
less_by Greater h = absurd (cc)

module _ {K : Type 0} {R : K → K → Ordering} (o : IsTotalOrder R) where
  -- what stands before the first stands before all
  pub before_all : (w x : K) (xs : List K) → R w x ≡ Less → AllByRecursion (λ y. R x y ≡ Less) xs → AllByRecursion (λ y. R w y ≡ Less) xs
  before_all w x [] lt all = tt
  before_all w x (y ∷ ys) lt all = (o.trans w x y lt all.0, before_all w x ys lt all.1)

  -- what stands before all is none of them
  pub none_of : (w : K) (xs : List K) → AllByRecursion (λ y. R w y ≡ Less) xs → list_any (eq_by_cmp R w) xs ≡ false
  none_of w [] all = refl
  none_of w (x ∷ xs) all = rw all.0 (none_of w xs all.1)

  -- what stands before something stands before all that does not
  pub below_past : IsAntisymmetric R → (w x y : K) → R w x ≡ Less → is_lt (R y x) ≡ false → R w y ≡ Less
  below_past exact w x y lt past = cases (R y x) refl past
    where
      cases : (r : Ordering) → R y x ≡ r → is_lt r ≡ false → R w y ≡ Less
      cases Less is past = absurd (cc)
      cases Equal is past = subst (λ k. R w k ≡ Less) (sym (exact y x is)) lt
      cases Greater is past = o.trans w x y lt (o.antisymm x y ∙ ap ordering_reverse is)

  -- what does not stand before what does not stand before something does not either
  pub not_before : IsAntisymmetric R → (x y z : K) → is_lt (R y x) ≡ false → is_lt (R z y) ≡ false → is_lt (R z x) ≡ false
  not_before exact x y z past later = cases (R z x) refl
    where
      cases : (r : Ordering) → R z x ≡ r → is_lt r ≡ false
      cases Less is = let before : is_lt (R z y) ≡ true = ap is_lt (below_past exact z x y is past) in absurd (cc)
      cases Equal is = refl
      cases Greater is = refl

module _ {K : Type 0} (R : K → K → Ordering) where
  -- what is left of it rises
  pub sorted_drop : (n : ℕ) (xs : List K) → IsStrictlySortedBy R xs → IsStrictlySortedBy R (drop n xs)
  unfolding IsStrictlySortedBy
  sorted_drop zero xs rises = rises
  sorted_drop (suc n) [] rises = tt
  sorted_drop (suc n) (x ∷ xs) rises = sorted_drop n xs rises.1

-- ---- what is told of each thing, with that of one more

-- f tells of each what rest does, and of x something more, which comes first; of what stands before x it tells nothing.
-- So over a list that rises f tells that, if x is in the list, and then what rest does

module _ {K Y : Type 0} {R : K → K → Ordering} (o : IsTotalOrder R) (exact : IsAntisymmetric R) (f rest : K → List Y) (x : K) (told : List Y)
    (others : (w : K) → eq_by_cmp R x w ≡ false → f w ≡ rest w) (here : f x ≡ told ++ rest x) (before : (w : K) → R w x ≡ Less → f w ≡ []) where
  same_past : (ws : List K) → AllByRecursion (λ w. R x w ≡ Less) ws → flat_map f ws ≡ flat_map rest ws
  same_past [] all = refl
  same_past (w ∷ ws) all = ap (λ ys. ys ++ flat_map f ws) (others w (ap is_eq all.0)) ∙ ap (λ ys. rest w ++ ys) (same_past ws all.1)

  pub first_told : (ws : List K) → IsStrictlySortedBy R ws → flat_map f ws ≡ (if list_any (eq_by_cmp R x) ws then told else []) ++ flat_map rest ws
  unfolding IsStrictlySortedBy
  first_told [] rises = refl
  first_told (w ∷ ws) rises = cases (R x w) refl (first_told ws rises.1)
    where
      cases : (r : Ordering) → R x w ≡ r → flat_map f ws ≡ (if list_any (eq_by_cmp R x) ws then told else []) ++ flat_map rest ws
          → f w ++ flat_map f ws ≡ (if is_eq r || list_any (eq_by_cmp R x) ws then told else []) ++ (rest w ++ flat_map rest ws)
      cases Less is so_far =
          let past : AllByRecursion (λ y. R x y ≡ Less) ws = before_all o x w ws is rises.0 in
          rw (none_of o x ws past, others w (ap is_eq is), same_past ws past) refl
      cases Equal is so_far =
          let same : x ≡ w = exact x w is in
          let past : AllByRecursion (λ y. R x y ≡ Less) ws = subst (λ k. AllByRecursion (λ y. R k y ≡ Less) ws) (sym same) rises.0 in
          let at : f w ≡ told ++ rest w = subst (λ k. f k ≡ told ++ rest k) same here in
          ap (λ ys. ys ++ flat_map f ws) at ∙ ap (λ ys. (told ++ rest w) ++ ys) (same_past ws past) ∙ append_assoc told (rest w) (flat_map rest ws)
      cases Greater is so_far =
          let lt : R w x ≡ Less = o.antisymm w x ∙ ap ordering_reverse is in
          let nothing : f w ≡ [] = before w lt in
          let left : rest w ≡ [] = sym (others w (ap is_eq is)) ∙ nothing in
          rw (nothing, left) so_far

-- ---- the keys of a map rise

module _ {K X : Type 0} {R : K → K → Ordering} where
  pub keys_rise : (m : FinMap R X) → IsStrictlySortedBy R (keys m)
  unfolding IsStrictlySortedBy
  keys_rise m = rise (entries m) (true_from (entries_sorted m))
    where
      first : (x : K) (es : List (K × X)) → below_all R x es ≡ true → AllByRecursion (λ y. R x y ≡ Less) (map (λ e. e.0) es)
      first x [] below = tt
      first x (e ∷ es) below = let parts = and_parts _ _ below in (less_by (R x e.0) parts.0, first x es parts.1)

      rise : (es : List (K × X)) → is_sorted R es ≡ true → IsStrictlySortedBy R (map (λ e. e.0) es)
      rise [] sorted = tt
      rise (e ∷ es) sorted = let parts = and_parts _ _ sorted in (first e.0 es parts.0, rise es parts.1)
