-- Sets and maps that are made of a list in which no key stands twice have what the list has, in another order.
use Rattle.std.proofs.Common.{◌≡◌, ℕ, Bool, true, false, List, [], ◌∷◌, ◌++◌, map, Ordering, Less, Equal, Greater, refl, sym, ◌∙◌, subst, append-nil}
use Rattle.std.specs.List.{list_any, list_all, AllByRecursion, IsDistinct}
use Rattle.std.specs.List.Sorted.{IsPermutation}
use Rattle.std.specs.Ordering.{eq_by_cmp, is_eq, match_ordering, nat_cmp}
use Rattle.std.specs.Cmp.{IsEquivalence, IsTotalOrder, eq_by_cmp_equiv, nat_cmp_total}
use Rattle.std.specs.BTreeMap.{insert_entry}
use Rattle.std.specs.BTreeSet.{insert_key}
use Rattle.std.proofs.lemmas.Bool.{or_parts, or_from, true≢false}
use Rattle.std.proofs.lemmas.List.Folds.{list_any-append}
use Rattle.std.proofs.lemmas.List.Sums.{AllPass-from_list_all, list_all-from_AllPass}
use Rattle.std.proofs.lemmas.List.Sorted.{IsPermutation-refl, IsPermutation-sym, IsPermutation-cons, IsPermutation-map, IsPermutation-append_right, IsPermutation-trans, IsPermutation-middle, All-permutation}
use Rattle.std.proofs.lemmas.Map.Keys.{IsDistinct-IsPermutation}
use Rattle.someip_world_setup_keys.specs.Clashes.{has_repeat, same_number}
use Rattle.someip_world_setup_keys.specs.Made.{with_keys, with_entries, set_of}

-- ---- lists in which nothing stands twice

module _ {A : Type 0} (same : A → A → Bool) where
  all_apart : (x : A) (xs : List A) → list_any (same x) xs ≡ false → AllByRecursion (λ y. same x y ≡ false) xs
  all_apart x [] h = tt
  all_apart x (y ∷ ys) h = let parts = or_parts (same x y) (list_any (same x) ys) h in (parts.0, all_apart x ys parts.1)

  none_same : (x : A) (xs : List A) → AllByRecursion (λ y. same x y ≡ false) xs → list_any (same x) xs ≡ false
  none_same x [] h = refl
  none_same x (y ∷ ys) h = or_from (same x y) (list_any (same x) ys) h.0 (none_same x ys h.1)

  distinct : (xs : List A) → has_repeat same xs ≡ false → IsDistinct same xs
  unfolding IsDistinct
  distinct [] h = tt
  distinct (x ∷ xs) h = let parts = or_parts (list_any (same x) xs) (has_repeat same xs) h in (all_apart x xs parts.0, distinct xs parts.1)

  no_repeat : (xs : List A) → IsDistinct same xs → has_repeat same xs ≡ false
  unfolding IsDistinct
  no_repeat [] h = refl
  no_repeat (x ∷ xs) h = or_from (list_any (same x) xs) (has_repeat same xs) (none_same x xs h.0) (no_repeat xs h.1)

  -- nor in another order
  pub repeat-permutation : IsEquivalence same → (xs ys : List A) → IsPermutation xs ys → has_repeat same xs ≡ false → has_repeat same ys ≡ false
  repeat-permutation laws xs ys order h = no_repeat ys (IsDistinct-IsPermutation same laws.symm xs ys order (distinct xs h))

  -- nor in a part
  pub repeat-append : (xs ys : List A) → has_repeat same (xs ++ ys) ≡ false → (has_repeat same xs ≡ false) × (has_repeat same ys ≡ false)
  repeat-append [] ys h = (refl, h)
  repeat-append (x ∷ xs) ys h =
      let parts = or_parts (list_any (same x) (xs ++ ys)) (has_repeat same (xs ++ ys)) h in
      let here = or_parts (list_any (same x) xs) (list_any (same x) ys) (sym (list_any-append (same x) xs ys) ∙ parts.0) in
      let rest : (has_repeat same xs ≡ false) × (has_repeat same ys ≡ false) = repeat-append xs ys parts.1 in
      (or_from (list_any (same x) xs) (has_repeat same xs) here.0 rest.0, rest.1)

pub all-permutation : {A : Type 0} (p : A → Bool) (xs ys : List A) → IsPermutation xs ys → list_all p xs ≡ true → list_all p ys ≡ true
all-permutation p xs ys order h = list_all-from_AllPass p ys (All-permutation (λ x. p x ≡ true) xs ys order (AllPass-from_list_all p xs h))

exchanged : {A : Type 0} (a b : A) (xs : List A) → IsPermutation (a ∷ b ∷ xs) (b ∷ a ∷ xs)
exchanged a b xs = IsPermutation-middle (a ∷ []) b xs

-- ---- sets

module _ {K : Type 0} (cmp : K → K → Ordering) where
  insert_key-permutation : (k : K) (ks : List K) → list_any (eq_by_cmp cmp k) ks ≡ false → IsPermutation (k ∷ ks) (insert_key cmp ks k)
  insert_key-permutation k [] h = IsPermutation-refl (k ∷ [])
  insert_key-permutation k (x ∷ xs) h =
      let parts = or_parts (eq_by_cmp cmp k x) (list_any (eq_by_cmp cmp k) xs) h in
      cases (cmp k x) parts.0 (insert_key-permutation k xs parts.1)
    where
      cases : (o : Ordering) → is_eq o ≡ false → IsPermutation (k ∷ xs) (insert_key cmp xs k) → IsPermutation (k ∷ x ∷ xs) (match_ordering o (k ∷ x ∷ xs) (x ∷ xs) (x ∷ insert_key cmp xs k))
      cases Less ne rest = IsPermutation-refl (k ∷ x ∷ xs)
      cases Equal ne rest = absurd (true≢false ne)
      cases Greater ne rest = IsPermutation-trans _ _ _ (exchanged k x xs) (IsPermutation-cons x _ _ rest)

made_keys : (keys ids : List ℕ) → has_repeat same_number (ids ++ keys) ≡ false → IsPermutation (ids ++ keys) (with_keys keys ids)
made_keys keys [] h = IsPermutation-refl keys
made_keys keys (k ∷ ks) h =
    let parts = or_parts (list_any (same_number k) (ks ++ keys)) (has_repeat same_number (ks ++ keys)) h in
    let here = or_parts (list_any (same_number k) ks) (list_any (same_number k) keys) (sym (list_any-append (same_number k) ks keys) ∙ parts.0) in
    let inserted = insert_key-permutation nat_cmp k keys here.1 in
    let moved = IsPermutation-trans (k ∷ (ks ++ keys)) (ks ++ k ∷ keys) (ks ++ insert_key nat_cmp keys k) (IsPermutation-sym (ks ++ k ∷ keys) (k ∷ (ks ++ keys)) (IsPermutation-middle ks k keys)) (IsPermutation-append_right ks (k ∷ keys) (insert_key nat_cmp keys k) inserted) in
    IsPermutation-trans _ _ _ moved (made_keys (insert_key nat_cmp keys k) ks (repeat-permutation same_number (eq_by_cmp_equiv nat_cmp_total) _ _ moved h))

pub set-permutation : (ids : List ℕ) → has_repeat same_number ids ≡ false → IsPermutation ids (set_of ids)
set-permutation ids h =
    subst (λ t. IsPermutation t (set_of ids)) (append-nil ids) (made_keys [] ids (subst (λ t. has_repeat same_number t ≡ false) (sym (append-nil ids)) h))

-- ---- maps

module _ {K X : Type 0} (cmp : K → K → Ordering) where
  insert_entry-permutation : (k : K) (v : X) (es : List (K × X)) → list_any (eq_by_cmp cmp k) (map (λ e. e.0) es) ≡ false → IsPermutation ((k, v) ∷ es) (insert_entry cmp es k v)
  insert_entry-permutation k v [] h = IsPermutation-refl ((k, v) ∷ [])
  insert_entry-permutation k v (e ∷ es) h =
      let parts = or_parts (eq_by_cmp cmp k e.0) (list_any (eq_by_cmp cmp k) (map (λ (e : K × X). e.0) es)) h in
      cases (cmp k e.0) parts.0 (insert_entry-permutation k v es parts.1)
    where
      cases : (o : Ordering) → is_eq o ≡ false → IsPermutation ((k, v) ∷ es) (insert_entry cmp es k v) → IsPermutation ((k, v) ∷ e ∷ es) (match_ordering o ((k, v) ∷ e ∷ es) ((e.0, v) ∷ es) (e ∷ insert_entry cmp es k v))
      cases Less ne rest = IsPermutation-refl ((k, v) ∷ e ∷ es)
      cases Equal ne rest = absurd (true≢false ne)
      cases Greater ne rest = IsPermutation-trans _ _ _ (exchanged (k, v) e es) (IsPermutation-cons e _ _ rest)

  any_later : (k : K) (es entries : List (K × X)) → list_any (eq_by_cmp cmp k) (map (λ e. e.0) (es ++ entries)) ≡ false → list_any (eq_by_cmp cmp k) (map (λ e. e.0) entries) ≡ false
  any_later k [] entries h = h
  any_later k (e ∷ es) entries h = any_later k es entries (or_parts (eq_by_cmp cmp k e.0) (list_any (eq_by_cmp cmp k) (map (λ (e : K × X). e.0) (es ++ entries))) h).1

  made_entries : IsTotalOrder cmp → (entries es : List (K × X)) → has_repeat (eq_by_cmp cmp) (map (λ e. e.0) (es ++ entries)) ≡ false → IsPermutation (es ++ entries) (with_entries cmp entries es)
  made_entries total entries [] h = IsPermutation-refl entries
  made_entries total entries (e ∷ es) h =
      let parts = or_parts (list_any (eq_by_cmp cmp e.0) (map (λ (e : K × X). e.0) (es ++ entries))) (has_repeat (eq_by_cmp cmp) (map (λ (e : K × X). e.0) (es ++ entries))) h in
      let inserted = insert_entry-permutation e.0 e.1 entries (any_later e.0 es entries parts.0) in
      let moved = IsPermutation-trans (e ∷ (es ++ entries)) (es ++ e ∷ entries) (es ++ insert_entry cmp entries e.0 e.1) (IsPermutation-sym (es ++ e ∷ entries) (e ∷ (es ++ entries)) (IsPermutation-middle es e entries)) (IsPermutation-append_right es (e ∷ entries) (insert_entry cmp entries e.0 e.1) inserted) in
      IsPermutation-trans _ _ _ moved (made_entries total (insert_entry cmp entries e.0 e.1) es
      (repeat-permutation (eq_by_cmp cmp) (eq_by_cmp_equiv total) _ _ (IsPermutation-map (λ (e : K × X). e.0) _ _ moved) h))

  pub map-permutation : IsTotalOrder cmp → (es : List (K × X)) → has_repeat (eq_by_cmp cmp) (map (λ e. e.0) es) ≡ false → IsPermutation es (with_entries cmp [] es)
  map-permutation total es h =
      subst (λ t. IsPermutation t (with_entries cmp [] es)) (append-nil es) (made_entries total [] es (subst (λ (t : List (K × X)). has_repeat (eq_by_cmp cmp) (map (λ (e : K × X). e.0) t) ≡ false) (sym (append-nil es)) h))
