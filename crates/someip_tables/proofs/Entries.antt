-- A list of entries without a key twice, and the map that it makes.
use Rattle.std.proofs.Common.{◌≡◌, ◌+◌, ◌≤◌, Bool, true, false, cond, not, ◌&&◌, List, [], ◌∷◌, ◌++◌, filter, length, Option, None, Some, refl, ap, sym, ◌∙◌, arith}
use Rattle.std.specs.Option.{is_some, is_none, option_map_or}
use Rattle.std.specs.declared.cmp.Ordering.{Ordering}
use Rattle.std.specs.declared.cmp.Ordering.TheVariants.{Less, Equal, Greater}
use Rattle.std.specs.Ordering.{eq_by_cmp, is_eq, is_lt}
use Rattle.std.specs.Cmp.{IsTotalOrder, Equal-is, eq_by_cmp_equiv, tied_itself}
use Rattle.std.specs.FinMap.{FinMap, IsAntisymmetric, find, get, remove, len, from_entries, retain_keys, get-retain_keys, get-from_entries, get-remove, len-empty, len-insert, same_map, entries, entries_sorted, get-entries, len-entries}
use Rattle.std.specs.FinMap.Entries.{find-append, below_all, is_sorted}
use Rattle.std.proofs.lemmas.Bool.{and_parts, and_from}
use lib.Dec.{T}
use Rattle.someip_tables.specs.Retained.{kept_if, retain}
use Rattle.someip_tables.specs.Distinct.{are_distinct}

pub none_found : {X : Type 0} (v : Option X) → is_none v ≡ true → v ≡ None
none_found None e = refl
none_found (Some x) e = cc

pub same_by_test : {K : Type 0} {R : K → K → Ordering} → IsAntisymmetric R → (q k : K) → eq_by_cmp R q k ≡ true → q ≡ k
same_by_test {R = R} exact q k t = exact q k ((Equal-is (R q k)).0 t)

pub own_test : {K : Type 0} {R : K → K → Ordering} → IsTotalOrder R → (k : K) → eq_by_cmp R k k ≡ true
own_test o k = ap is_eq (tied_itself o k)

length-filter-le : {X : Type 0} (p : X → Bool) (xs : List X) → length (filter p xs) ≤ length xs
length-filter-le p [] = omega arith
length-filter-le p (x ∷ xs) = cases (p x) (length-filter-le p xs)
  where
    cases : (b : Bool) → length (filter p xs) ≤ length xs → length (cond b (x ∷ filter p xs) (filter p xs)) ≤ length (x ∷ xs)
    cases true le = omega arith
    cases false le = omega arith

-- tests that answer alike leave the same
pub filter_alike : {X : Type 0} (p q : X → Bool) (xs : List X) → ((x : X) → p x ≡ q x) → filter p xs ≡ filter q xs
filter_alike p q [] same = refl
filter_alike p q (x ∷ xs) same = ap (λ b. cond b (x ∷ filter p xs) (filter p xs)) (same x) ∙ ap (λ ys. cond (q x) (x ∷ ys) ys) (filter_alike p q xs same)

pub true_from : {b : Bool} → T b → b ≡ true
true_from {b = true} h = refl
true_from {b = false} h = absurd h

module _ {K X : Type 0} {R : K → K → Ordering} (o : IsTotalOrder R) (exact : IsAntisymmetric R) where
  pub get-retain : (m : FinMap R X) (p : K → X → Bool) (q : K) → get (retain m p) q ≡ kept_if (p q) (get m q)
  get-retain m p q =
      get-retain_keys m (λ k. option_map_or (p k) (get m k) false) q (λ x tie. ap (λ k. option_map_or (p k) (get m k) false) (sym (exact q x tie))) ∙ at (get m q)
    where
      at : (v : Option X) → cond (option_map_or (p q) v false) v None ≡ kept_if (p q) v
      at None = refl
      at (Some x) = refl

  -- what a filter leaves at a key
  pub find-filter : (p : K × X → Bool) (q : K) (es : List (K × X)) → are_distinct R es ≡ true → find R q (filter p es) ≡ kept_if (λ x. p (q, x)) (find R q es)
  find-filter p q [] d = refl
  find-filter p q (e ∷ es) d =
      let parts = and_parts _ _ d in
      cases (eq_by_cmp R q e.0) (p e) refl refl (none_found _ parts.0) (find-filter p q es parts.1)
    where
      cases : (t b : Bool) → eq_by_cmp R q e.0 ≡ t → p e ≡ b → find R e.0 es ≡ None → find R q (filter p es) ≡ kept_if (λ x. p (q, x)) (find R q es)
          → find R q (cond b (e ∷ filter p es) (filter p es)) ≡ kept_if (λ x. p (q, x)) (cond t (Some e.1) (find R q es))
      cases true true t b none rest =
          let same : p (q, e.1) ≡ true = ap (λ k. p (k, e.1)) (same_by_test exact q e.0 t) ∙ b in
          rw (t, same)
      cases true false t b none rest =
          let is = same_by_test exact q e.0 t in
          let same : p (q, e.1) ≡ false = ap (λ k. p (k, e.1)) is ∙ b in
          let gone : find R q es ≡ None = ap (λ k. find R k es) is ∙ none in
          rest ∙ ap (kept_if (λ x. p (q, x))) gone ∙ rw same
      cases false true t b none rest = rw t rest
      cases false false t b none rest = rest

  pub from_entries-filter : (p : K × X → Bool) (es : List (K × X)) → are_distinct R es ≡ true → from_entries {R = R} (filter p es) ≡ retain (from_entries es) (λ k x. p (k, x))
  from_entries-filter p es d =
      same_map o exact _ _ (λ q.
      get-from_entries o _ q ∙ find-filter p q es d ∙ ap (kept_if (λ x. p (q, x))) (sym (get-from_entries o es q)) ∙ sym (get-retain (from_entries es) (λ k x. p (k, x)) q))

  pub distinct-filter : (p : K × X → Bool) (es : List (K × X)) → are_distinct R es ≡ true → are_distinct R (filter p es) ≡ true
  distinct-filter p [] d = refl
  distinct-filter p (e ∷ es) d =
      let parts = and_parts _ _ d in
      let gone : find R e.0 (filter p es) ≡ None = find-filter p e.0 es parts.1 ∙ ap (kept_if (λ x. p (e.0, x))) (none_found _ parts.0) in
      cases (p e) (ap is_none gone) (distinct-filter p es parts.1)
    where
      cases : (b : Bool) → is_none (find R e.0 (filter p es)) ≡ true → are_distinct R (filter p es) ≡ true → are_distinct R (cond b (e ∷ filter p es) (filter p es)) ≡ true
      cases true none rest = and_from _ _ none rest
      cases false none rest = rest

  pub distinct-push : (k : K) (v : X) (es : List (K × X)) → find R k es ≡ None → are_distinct R es ≡ true → are_distinct R (es ++ (k, v) ∷ []) ≡ true
  distinct-push k v [] none d = refl
  distinct-push k v (e ∷ es) none d =
      let parts = and_parts _ _ d in
      cases (eq_by_cmp R k e.0) refl none (none_found _ parts.0) (λ n. distinct-push k v es n parts.1)
    where
      cases : (t : Bool) → eq_by_cmp R k e.0 ≡ t → cond t (Some e.1) (find R k es) ≡ None → find R e.0 es ≡ None → (find R k es ≡ None → are_distinct R (es ++ (k, v) ∷ []) ≡ true) → are_distinct R (e ∷ (es ++ (k, v) ∷ [])) ≡ true
      cases true t n absent rest = absurd (cc)
      cases false t n absent rest =
          let other : eq_by_cmp R e.0 k ≡ false = (eq_by_cmp_equiv o).symm e.0 k ∙ t in
          let gone : find R e.0 (es ++ (k, v) ∷ []) ≡ None = find-append R o es k v e.0 n ∙ rw other absent in
          and_from _ _ (ap is_none gone) (rest n)

  pub len-from_entries : (es : List (K × X)) → are_distinct R es ≡ true → len (from_entries {R = R} es) ≡ length es
  len-from_entries [] d = len-empty R X
  len-from_entries (e ∷ es) d =
      let parts = and_parts _ _ d in
      let absent : is_some (get (from_entries {R = R} es) e.0) ≡ false = ap is_some (get-from_entries o es e.0 ∙ none_found _ parts.0) in
      len-insert o (from_entries es) e.0 e.1 ∙ rw absent (ap (λ n. n + 1) (len-from_entries es parts.1) ∙ omega arith)

  -- a map without a key
  pub remove_retain : (m : FinMap R X) (k : K) → retain m (λ q _. not (eq_by_cmp R k q)) ≡ remove m k
  remove_retain m k =
      same_map o exact _ _ (λ q. get-retain m (λ q _. not (eq_by_cmp R k q)) q ∙ at q (get m q) (eq_by_cmp R k q) ((eq_by_cmp_equiv o).symm q k) ∙ sym (get-remove o m k q))
    where
      at : (q : K) (v : Option X) (t : Bool) → eq_by_cmp R q k ≡ t → kept_if (λ _. not t) v ≡ cond (eq_by_cmp R q k) None v
      at q None true e = rw e
      at q None false e = rw e
      at q (Some x) true e = rw e
      at q (Some x) false e = rw e

  -- a test of keys alone
  pub retain_keys_retain : (m : FinMap R X) (p : K → Bool) → retain m (λ k _. p k) ≡ retain_keys m p
  retain_keys_retain m p =
      same_map o exact _ _ (λ q.
      get-retain m (λ k _. p k) q ∙ at (p q) (get m q) ∙ sym (get-retain_keys m p q (λ x tie. ap p (sym (exact q x tie)))))
    where
      at : (t : Bool) (v : Option X) → kept_if (λ _. t) v ≡ cond t v None
      at true None = refl
      at false None = refl
      at t (Some x) = refl

  pub retain_both : (m : FinMap R X) (p : K → X → Bool) (t : K → Bool) → retain_keys (retain m p) t ≡ retain m (λ k x. p k x && t k)
  retain_both m p t =
      same_map o exact _ _ (λ q.
      get-retain_keys (retain m p) t q (λ x tie. ap t (sym (exact q x tie))) ∙ ap (λ v. cond (t q) v None) (get-retain m p q)
      ∙ at q (t q) (get m q) ∙ sym (get-retain m (λ k x. p k x && t k) q))
    where
      both : (a b : Bool) (x : X) → cond b (cond a (Some x) None) None ≡ cond (a && b) (Some x) None
      both true b x = refl
      both false true x = refl
      both false false x = refl

      at : (q : K) (b : Bool) (v : Option X) → cond b (kept_if (p q) v) None ≡ kept_if (λ x. p q x && b) v
      at q true None = refl
      at q false None = refl
      at q b (Some x) = both (p q x) b x

  -- the entries of a map make it, and none stands twice among them
  pub from_entries-entries : (m : FinMap R X) → from_entries {R = R} (entries m) ≡ m
  from_entries-entries m = same_map o exact _ _ (λ q. get-from_entries o (entries m) q ∙ sym (get-entries m q))

  absent_above : (x : K) (es : List (K × X)) → below_all R x es ≡ true → find R x es ≡ None
  absent_above x [] below = refl
  absent_above x (e ∷ es) below = let parts = and_parts _ _ below in cases (R x e.0) parts.0 (absent_above x es parts.1)
    where
      cases : (r : Ordering) → is_lt r ≡ true → find R x es ≡ None → cond (is_eq r) (Some e.1) (find R x es) ≡ None
      cases Less lt rest = rest
      cases Equal lt rest = absurd (cc)
      cases Greater lt rest = absurd (cc)

  sorted_distinct : (es : List (K × X)) → is_sorted R es ≡ true → are_distinct R es ≡ true
  sorted_distinct [] sorted = refl
  sorted_distinct (e ∷ es) sorted = let parts = and_parts _ _ sorted in and_from _ _ (ap is_none (absent_above e.0 es parts.0)) (sorted_distinct es parts.1)

  pub entries_distinct : (m : FinMap R X) → are_distinct R (entries m) ≡ true
  entries_distinct m = sorted_distinct (entries m) (true_from (entries_sorted m))

  -- how many entries pass is how many keys do
  pub length-filter_is : (p : K → X → Bool) (t : K → Bool) (es : List (K × X)) → are_distinct R es ≡ true
      → length (filter (λ e. p e.0 e.1 && t e.0) es) ≡ len (retain_keys (retain (from_entries {R = R} es) p) t)
  length-filter_is p t es d =
      sym (len-from_entries _ (distinct-filter (λ e. p e.0 e.1 && t e.0) es d))
      ∙ ap len (from_entries-filter (λ e. p e.0 e.1 && t e.0) es d ∙ sym (retain_both (from_entries es) p t))

  -- what passes a test is no more than there was
  pub len-retain_keys-≤ : (m : FinMap R X) (p : K → Bool) → len (retain_keys m p) ≤ len m
  len-retain_keys-≤ m p =
      let whole : from_entries {R = R} (entries m) ≡ m = from_entries-entries m in
      let rest : len (retain_keys m p) ≡ length (filter (λ e. p e.0) (entries m)) =
      ap (λ n. len (retain_keys n p)) (sym whole)
      ∙ ap len (sym (retain_keys_retain (from_entries (entries m)) p))
      ∙ ap len (sym (from_entries-filter (λ e. p e.0) (entries m) (entries_distinct m)))
      ∙ len-from_entries _ (distinct-filter (λ e. p e.0) (entries m) (entries_distinct m)) in
      rw (rest, len-entries m) (length-filter-le (λ e. p e.0) (entries m))

  pub len-retain-≤ : (m : FinMap R X) (p : K → X → Bool) → len (retain m p) ≤ len m
  len-retain-≤ m p = len-retain_keys-≤ m (λ k. option_map_or (p k) (get m k) false)
