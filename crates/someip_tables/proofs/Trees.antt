-- What an ordered map shows as a finite map.
use Rattle.std.proofs.Common.{◌≡◌, Bool, true, cond, List, [], ◌∷◌, filter, length, None, Some, refl, ap, sym, subst, ◌∙◌, arith}
use Rattle.std.specs.declared.cmp.Ordering.{Ordering}
use Rattle.std.specs.declared.cmp.Ordering.TheVariants.{Less}
use Rattle.std.specs.Ordering.{eq_by_cmp, is_lt}
use Rattle.std.specs.Cmp.{IsTotalOrder, eq_by_cmp_equiv}
use Rattle.std.specs.List.{AllByRecursion}
use Rattle.std.specs.List.Sorted.{IsStrictlySortedBy}
use Rattle.std.specs.Map.{keys_of, lookup}
use Rattle.std.specs.BTreeMap.{is_at}
use Rattle.std.specs.FinMap.{IsAntisymmetric, find, get, insert, remove, len, entries, retain_keys, from_sorted, entries-from_sorted, get-from_sorted, get-from_entries, get-insert, get-remove, get-retain_keys, empty, get-empty, len-entries, same_map}
use Rattle.std.specs.FinMap.Entries.{below_all, is_sorted}
use Rattle.std.proofs.lemmas.Bool.{and_from}
use Rattle.std.proofs.lemmas.Map.Entries.{lookup-filter-keys, none_past_head}
use Rattle.std.proofs.lemmas.Map.{lookup-none}
use Rattle.std.proofs.lemmas.Map.Keys.{IsDistinct-from_sorted}
use Rattle.std.specs.Option.{is_none}
use Rattle.someip_tables.specs.Distinct.{are_distinct}
use lib.Dec.{T}
use Rattle.someip_tables.specs.Tables.{map_of}
use Rattle.someip_tables.proofs.Entries.{same_by_test, own_test}

pub find-lookup : {K X : Type 0} (R : K → K → Ordering) (q : K) (es : List (K × X)) → find R q es ≡ lookup (is_at (R q)) es
find-lookup R q [] = refl
find-lookup R q (e ∷ es) = ap (λ v. cond (eq_by_cmp R q e.0) (Some e.1) v) (find-lookup R q es)

below_all-keys : {K X : Type 0} (R : K → K → Ordering) (k : K) (es : List (K × X)) → AllByRecursion (λ y. R k y ≡ Less) (keys_of es) → below_all R k es ≡ true
below_all-keys R k [] below = refl
below_all-keys R k (e ∷ es) below = and_from _ _ (ap is_lt below.0) (below_all-keys R k es below.1)

is_sorted-keys : {K X : Type 0} (R : K → K → Ordering) (es : List (K × X)) → IsStrictlySortedBy R (keys_of es) → is_sorted R es ≡ true
unfolding IsStrictlySortedBy
is_sorted-keys R [] rising = refl
is_sorted-keys R (e ∷ es) rising = and_from _ _ (below_all-keys R e.0 es rising.0) (is_sorted-keys R es rising.1)

module _ {K X : Type 0} {R : K → K → Ordering} (o : IsTotalOrder R) where
  pub get-map_of : (es : List (K × X)) (q : K) → get (map_of R es) q ≡ lookup (is_at (R q)) es
  get-map_of es q = get-from_entries o es q ∙ find-lookup R q es

module _ {K X : Type 0} {R : K → K → Ordering} (o : IsTotalOrder R) (exact : IsAntisymmetric R) where
  pub map_of-insert : (old new : List (K × X)) (k : K) (x : X) → ((q : K) → lookup (is_at (R q)) new ≡ cond (is_at (R k) q) (Some x) (lookup (is_at (R q)) old))
      → map_of R new ≡ insert (map_of R old) k x
  map_of-insert old new k x is =
      same_map o exact _ _ (λ q.
      get-map_of o new q ∙ is q ∙ ap (λ b. cond b (Some x) (lookup (is_at (R q)) old)) ((eq_by_cmp_equiv o).symm k q)
      ∙ ap (λ v. cond (eq_by_cmp R q k) (Some x) v) (sym (get-map_of o old q)) ∙ sym (get-insert o (map_of R old) k x q))

  pub map_of-remove : (old new : List (K × X)) (k : K) → ((q : K) → lookup (is_at (R q)) new ≡ cond (is_at (R k) q) None (lookup (is_at (R q)) old))
      → map_of R new ≡ remove (map_of R old) k
  map_of-remove old new k is =
      same_map o exact _ _ (λ q.
      get-map_of o new q ∙ is q ∙ ap (λ b. cond b None (lookup (is_at (R q)) old)) ((eq_by_cmp_equiv o).symm k q)
      ∙ ap (λ v. cond (eq_by_cmp R q k) None v) (sym (get-map_of o old q)) ∙ sym (get-remove o (map_of R old) k q))

  pub map_of-filter_keys : (p : K → Bool) (es : List (K × X)) → map_of R (filter (λ e. p e.0) es) ≡ retain_keys (map_of R es) p
  map_of-filter_keys p es =
      same_map o exact _ _ (λ q.
      get-map_of o (filter (λ e. p e.0) es) q
      ∙ lookup-filter-keys (is_at (R q)) p (p q) (λ k tie. ap p (sym (same_by_test exact q k tie))) es
      ∙ ap (λ v. cond (p q) v None) (sym (get-map_of o es q))
      ∙ sym (get-retain_keys (map_of R es) p q (λ k tie. ap p (sym (exact q k tie)))))

  -- a list by rising keys is that of its map
  pub entries-map_of : (es : List (K × X)) → IsStrictlySortedBy R (keys_of es) → entries (map_of R es) ≡ es
  entries-map_of es rising =
      let sorted = subst T (sym (is_sorted-keys R es rising)) tt in
      ap entries (same_map o exact (map_of R es) (from_sorted es) (λ q. get-from_entries o es q ∙ sym (get-from_sorted R es q sorted))) ∙ entries-from_sorted R es sorted

  pub len-map_of : (es : List (K × X)) → IsStrictlySortedBy R (keys_of es) → len (map_of R es) ≡ length es
  len-map_of es rising = len-entries (map_of R es) ∙ ap length (entries-map_of es rising)

  -- no entries make the empty map, and no other list does
  pub map_of-none : (es : List (K × X)) → length es ≡ 0 → map_of R es ≡ empty
  map_of-none [] is = refl
  map_of-none (e ∷ es) is = absurd (omega arith)

  pub none_of_empty : (es : List (K × X)) → map_of R es ≡ empty → length es ≡ 0
  none_of_empty [] is = refl
  none_of_empty (e ∷ es) is =
      let found : lookup (is_at (R e.0)) (e ∷ es) ≡ Some e.1 = ap (λ b. cond b (Some e.1) (lookup (is_at (R e.0)) es)) (own_test o e.0) in
      let none : lookup (is_at (R e.0)) (e ∷ es) ≡ None = sym (get-map_of o (e ∷ es) e.0) ∙ (ap (λ m. get m e.0) is ∙ get-empty R e.0) in
      absurd (cc)

  -- in a list by rising keys none stands twice
  pub rising_distinct : (es : List (K × X)) → IsStrictlySortedBy R (keys_of es) → are_distinct R es ≡ true
  unfolding IsStrictlySortedBy
  rising_distinct [] rising = refl
  rising_distinct (e ∷ es) rising =
      let none : find R e.0 es ≡ None = find-lookup R e.0 es ∙ lookup-none (is_at (R e.0)) es (none_past_head (eq_by_cmp_equiv o) e.0 e es (IsDistinct-from_sorted R (keys_of (e ∷ es)) rising) (own_test o e.0)) in
      and_from _ _ (ap is_none none) (rising_distinct es rising.1)
