-- The entries of a map, and of what a test leaves of it, in order.
use Rattle.std.proofs.Common.{◌≡◌, Bool, true, false, cond, List, [], ◌∷◌, map, filter, length, ◌||◌, None, Some, refl, ap, sym, subst, ◌∙◌, arith}
use Rattle.std.specs.Option.{is_some}
use Rattle.std.specs.List.{list_any}
use Rattle.std.specs.declared.cmp.Ordering.{Ordering}
use Rattle.std.specs.Ordering.{eq_by_cmp, is_lt}
use Rattle.std.specs.Cmp.{IsTotalOrder}
use Rattle.std.specs.FinMap.{FinMap, IsAntisymmetric, find, get, keys, len, entries, empty, empty_of_len, get-empty, len-empty, len-entries, get-from_entries, from_sorted, entries-from_sorted, get-from_sorted, get-entries, same_map, entries_sorted}
use Rattle.std.specs.FinMap.Entries.{below_all, is_sorted}
use Rattle.std.proofs.lemmas.Bool.{and_from, and_parts}
use lib.Dec.{T}
use Rattle.std.specs.List.Sorted.{IsStrictlySortedBy}
use Rattle.std.specs.Map.{keys_of}
use Rattle.someip_tables.specs.Retained.{kept_if, retain}
use Rattle.someip_tables.specs.Tables.{map_of}
use Rattle.someip_tables.proofs.Entries.{true_from, same_by_test, find-filter, entries_distinct, get-retain}
use Rattle.someip_tables.proofs.Trees.{entries-map_of}

no_entries : {A : Type 0} (es : List A) → length es ≡ 0 → es ≡ []
no_entries [] e = refl
no_entries (x ∷ es) e = absurd (omega arith)

filter_none : {A : Type 0} (p : A → Bool) (es : List A) → length (filter p es) ≡ 0 → list_any p es ≡ false
filter_none p [] none = refl
filter_none p (e ∷ es) none = cases (p e) none (filter_none p es)
  where
    cases : (b : Bool) → length (cond b (e ∷ filter p es) (filter p es)) ≡ 0 → (length (filter p es) ≡ 0 → list_any p es ≡ false) → (b || list_any p es) ≡ false
    cases true none rest = absurd (omega arith)
    cases false none rest = rest none

-- ---- what a filter leaves is in order

module _ {K X : Type 0} (R : K → K → Ordering) (p : K × X → Bool) where
  below-filter : (k : K) (es : List (K × X)) → below_all R k es ≡ true → below_all R k (filter p es) ≡ true
  below-filter k [] below = refl
  below-filter k (e ∷ es) below = let parts = and_parts _ _ below in cases (p e) parts.0 (below-filter k es parts.1)
    where
      cases : (b : Bool) → is_lt (R k e.0) ≡ true → below_all R k (filter p es) ≡ true → below_all R k (cond b (e ∷ filter p es) (filter p es)) ≡ true
      cases true lt rest = and_from _ _ lt rest
      cases false lt rest = rest

  sorted-filter : (es : List (K × X)) → is_sorted R es ≡ true → is_sorted R (filter p es) ≡ true
  sorted-filter [] sorted = refl
  sorted-filter (e ∷ es) sorted = let parts = and_parts _ _ sorted in cases (p e) (below-filter e.0 es parts.0) (sorted-filter es parts.1)
    where
      cases : (b : Bool) → below_all R e.0 (filter p es) ≡ true → is_sorted R (filter p es) ≡ true → is_sorted R (cond b (e ∷ filter p es) (filter p es)) ≡ true
      cases true below rest = and_from _ _ below rest
      cases false below rest = rest

-- ---- keys alone

abbrev marks : {K X : Type 0} → List (K × X) → List (K × Unit {0})
marks es = map (λ e. (e.0, tt {0})) es

keys-marks : {K X : Type 0} (es : List (K × X)) → map (λ e. e.0) (marks es) ≡ map (λ e. e.0) es
keys-marks [] = refl
keys-marks (e ∷ es) = ap (λ ks. e.0 ∷ ks) (keys-marks es)

module _ {K X : Type 0} (R : K → K → Ordering) where
  below-marks : (k : K) (es : List (K × X)) → below_all R k es ≡ true → below_all R k (marks es) ≡ true
  below-marks k [] below = refl
  below-marks k (e ∷ es) below = let parts = and_parts _ _ below in and_from _ _ parts.0 (below-marks k es parts.1)

  sorted-marks : (es : List (K × X)) → is_sorted R es ≡ true → is_sorted R (marks es) ≡ true
  sorted-marks [] sorted = refl
  sorted-marks (e ∷ es) sorted = let parts = and_parts _ _ sorted in and_from _ _ (below-marks e.0 es parts.0) (sorted-marks es parts.1)

  find-marks : (q : K) (es : List (K × X)) → find R q (marks es) ≡ cond (is_some (find R q es)) (Some tt) None
  find-marks q [] = refl
  find-marks q (e ∷ es) = elim (eq_by_cmp R q e.0) as (λ b. cond b (Some tt) (find R q (marks es)) ≡ cond (is_some (cond b (Some e.1) (find R q es))) (Some tt) None) [ true ↦ refl | false ↦ find-marks q es ]

marked : {K X : Type 0} {R : K → K → Ordering} (m : FinMap R X) → T (is_sorted R (marks (entries m)))
marked {R = R} m = subst T (sym (sorted-marks R (entries m) (true_from (entries_sorted m)))) tt

module _ {K X : Type 0} {R : K → K → Ordering} (o : IsTotalOrder R) (exact : IsAntisymmetric R) where
  -- the entries that pass a test
  pub entries-retain : (m : FinMap R X) (p : K → X → Bool) → entries (retain m p) ≡ filter (λ e. p e.0 e.1) (entries m)
  entries-retain m p =
      let left : List (K × X) = filter (λ e. p e.0 e.1) (entries m) in
      let rises : T (is_sorted R left) = subst T (sym (sorted-filter R (λ e. p e.0 e.1) (entries m) (true_from (entries_sorted m)))) tt in
      ap entries (same_map o exact (retain m p) (from_sorted left) (λ q.
      get-retain o exact m p q ∙ ap (kept_if (p q)) (get-entries m q)
      ∙ sym (get-from_sorted R left q rises ∙ find-filter o exact (λ e. p e.0 e.1) q (entries m) (entries_distinct o exact m))))
      ∙ entries-from_sorted R left rises

  -- maps with the same keys list them alike
  pub same_keys : {Y : Type 0} (m : FinMap R X) (n : FinMap R Y) → ((q : K) → is_some (get m q) ≡ is_some (get n q)) → keys m ≡ keys n
  same_keys m n same =
      let marks_m : FinMap R (Unit {0}) = from_sorted (marks (entries m)) in
      let marks_n : FinMap R (Unit {0}) = from_sorted (marks (entries n)) in
      let maps : marks_m ≡ marks_n = same_map o exact _ _ (λ q.
      get-from_sorted R (marks (entries m)) q (marked m) ∙ find-marks R q (entries m) ∙ ap (λ v. cond (is_some v) (Some tt) None) (sym (get-entries m q))
      ∙ ap (λ b. cond b (Some tt) None) (same q)
      ∙ sym (get-from_sorted R (marks (entries n)) q (marked n) ∙ find-marks R q (entries n) ∙ ap (λ v. cond (is_some v) (Some tt) None) (sym (get-entries n q)))) in
      sym (keys-marks (entries m)) ∙ ap (map (λ e. e.0)) (sym (entries-from_sorted R (marks (entries m)) (marked m))) ∙ ap keys maps
      ∙ ap (map (λ e. e.0)) (entries-from_sorted R (marks (entries n)) (marked n)) ∙ keys-marks (entries n)

  -- ---- the keys of the entries of a list by rising keys that pass a test

  pub keys_chosen : (p : K → X → Bool) (es : List (K × X)) → IsStrictlySortedBy R (keys_of es) → map (λ e. e.0) (filter (λ e. p e.0 e.1) es) ≡ keys (retain (map_of R es) p)
  keys_chosen p es rising = sym (ap (map (λ e. e.0)) (entries-retain (map_of R es) p ∙ ap (filter (λ e. p e.0 e.1)) (entries-map_of o exact es rising)))

  find_fails : (p : K → X → Bool) (q : K) (es : List (K × X)) → list_any (λ e. p e.0 e.1) es ≡ false → kept_if (p q) (find R q es) ≡ None
  find_fails p q [] none = refl
  find_fails p q (e ∷ es) none = cases (p e.0 e.1) (eq_by_cmp R q e.0) refl refl none (find_fails p q es)
    where
      cases : (b t : Bool) → p e.0 e.1 ≡ b → eq_by_cmp R q e.0 ≡ t → (b || list_any (λ d. p d.0 d.1) es) ≡ false → (list_any (λ d. p d.0 d.1) es ≡ false → kept_if (p q) (find R q es) ≡ None)
          → kept_if (p q) (cond t (Some e.1) (find R q es)) ≡ None
      cases true t b is none rest = absurd (cc)
      cases false true b is none rest = let fails : p q e.1 ≡ false = ap (λ k. p k e.1) (same_by_test exact q e.0 is) ∙ b in rw fails refl
      cases false false b is none rest = rest none

  -- none passes
  pub none_chosen : (p : K → X → Bool) (es : List (K × X)) → list_any (λ e. p e.0 e.1) es ≡ false → retain (map_of R es) p ≡ empty
  none_chosen p es none =
      same_map o exact _ _ (λ q. get-retain o exact (map_of R es) p q ∙ ap (kept_if (p q)) (get-from_entries o es q) ∙ find_fails p q es none ∙ sym (get-empty R q))

  -- some do
  pub some_chosen : (p : K → X → Bool) (es : List (K × X)) → IsStrictlySortedBy R (keys_of es) → list_any (λ e. p e.0 e.1) es ≡ true → retain (map_of R es) p ≡ empty → ⊥
  some_chosen p es rising some is =
      let nothing : length (filter (λ e. p e.0 e.1) es) ≡ 0 =
      ap length (sym (entries-retain (map_of R es) p ∙ ap (filter (λ e. p e.0 e.1)) (entries-map_of o exact es rising))) ∙ sym (len-entries (retain (map_of R es) p)) ∙ ap (λ m. len m) is ∙ len-empty R X in
      let fails : list_any (λ e. p e.0 e.1) es ≡ false = filter_none (λ e. p e.0 e.1) es nothing in
      cc

-- the empty map has no keys
pub keys-empty : {K : Type 0} (X : Type 0) (R : K → K → Ordering) → keys (empty {K = K} {X = X} {R = R}) ≡ []
keys-empty {K = K} X R = ap (map (λ e. e.0)) (no_entries (entries (empty {K = K} {X = X} {R = R})) (sym (len-entries (empty {K = K} {X = X} {R = R})) ∙ len-empty R X))

-- a map without keys is empty
pub no_keys : {K V : Type 0} {R : K → K → Ordering} (m : FinMap R V) → keys m ≡ [] → m ≡ empty
no_keys {K} {V} {R} m is = empty_of_len m (len-entries m ∙ none (entries m) is)
  where
    none : (es : List (K × V)) → map (λ e. e.0) es ≡ [] → length es ≡ 0
    none [] is = refl
    none (e ∷ es) is = absurd (cc)
