-- The entries of a map under the keys of a list.
use Rattle.std.proofs.Common.{◌≡◌, ℕ, ◌+◌, ◌<◌, ◌≤◌, Bool, true, false, not, cond, ◌||◌, ◌&&◌, filter, List, drop, length, [], ◌∷◌, ◌++◌, map, Option, None, Some, refl, ap, sym, subst, ◌∙◌}
use Rattle.std.specs.Option.{option_map, option_to_list, is_some, option_map_or}
use Rattle.std.specs.List.{AllByRecursion, list_any}
use Rattle.std.specs.List.Sorted.{IsStrictlySortedBy}
use Rattle.std.specs.declared.cmp.Ordering.{Ordering}
use Rattle.std.specs.declared.cmp.Ordering.TheVariants.{Less, Equal, Greater}
use Rattle.std.specs.Ordering.{eq_by_cmp, is_eq, is_lt, ordering_reverse}
use Rattle.std.specs.Cmp.{IsTotalOrder, eq_by_cmp_equiv}
use Rattle.std.specs.FinMap.{FinMap, IsAntisymmetric, find, get, insert, get-insert, keys, contains_key-keys, remove, retain_keys, entries, get-remove, get-retain_keys, get-from_sorted, entries-from_sorted, from_sorted, same_map}
use Rattle.std.specs.FinMap.Entries.{below_all, is_sorted}
use Rattle.std.proofs.lemmas.Bool.{and_from}
use lib.Dec.{T}
use Rattle.someip_tables.specs.declared.deadline.Deadline.{Deadline}
use Rattle.someip_tables.specs.Retained.{kept_if, retain}
use Rattle.someip_tables.specs.Changed.{each_changed}
use Rattle.someip_tables.proofs.ChangedLemmas.{get-changed}
use Rattle.someip_tables.proofs.Entries.{get-retain, own_test, same_by_test}
use Rattle.std.proofs.Math.ListN.{get_or}
use Rattle.std.proofs.lemmas.List.{append-nil, append_assoc, drop_all, drop_more}
use Rattle.audit_services.specs.Stays.{HasJust, IsBegun, Stay, entries_at, entry_before, lasting_until, without_keys}

abbrev pub AllAfter : {K : Type 0} → (K → K → Ordering) → K → List K → Type 0
AllAfter R key keys = AllByRecursion (λ k. R key k ≡ Less) keys

pub rest_sorted : {K : Type 0} (R : K → K → Ordering) (key : K) (keys : List K) → IsStrictlySortedBy R (key ∷ keys) → AllAfter R key keys × IsStrictlySortedBy R keys
unfolding IsStrictlySortedBy
rest_sorted R key keys sorted = sorted

none_either : {X : Type 0} (b : Bool) (v : Option X) → v ≡ None → cond b v None ≡ None
none_either true v is = is
none_either false v is = refl

module _ {K : Type 0} {R : K → K → Ordering} (o : IsTotalOrder R) where
  after_differs : (a b : K) → R a b ≡ Less → eq_by_cmp R b a ≡ false
  after_differs a b less = let turn : R b a ≡ ordering_reverse (R a b) = o.antisymm b a in rw (turn, less) refl

module _ {K X : Type 0} {R : K → K → Ordering} (o : IsTotalOrder R) (exact : IsAntisymmetric R) where
  -- a key that is taken out is missed by no other
  pub entries_beside : (m : FinMap R X) (key : K) (keys : List K) → AllAfter R key keys → entries_at (remove m key) keys ≡ entries_at m keys
  entries_beside m key [] all = refl
  entries_beside m key (k ∷ keys) all =
      ap (λ v. entry_before k v (entries_at (remove m key) keys)) (get-remove o m key k ∙ rw (after_differs o key k all.0) refl)
      ∙ ap (entry_before k (get m k)) (entries_beside m key keys all.1)

  get-without : (m : FinMap R X) (keys : List K) (q : K) → get (without_keys m keys) q ≡ cond (not (list_any (eq_by_cmp R q) keys)) (get m q) None
  get-without m keys q =
      get-retain_keys m (λ k. not (list_any (eq_by_cmp R k) keys)) q (λ x tie. ap (λ k. not (list_any (eq_by_cmp R k) keys)) (sym (exact q x tie)))

  -- a map without a key, and then without others
  pub without_beside : (m : FinMap R X) (key : K) (keys : List K) → without_keys (remove m key) keys ≡ without_keys m (key ∷ keys)
  without_beside m key keys =
      same_map o exact _ _ (λ q.
      get-without (remove m key) keys q ∙ ap (λ v. cond (not (list_any (eq_by_cmp R q) keys)) v None) (get-remove o m key q)
      ∙ cases (eq_by_cmp R q key) (list_any (eq_by_cmp R q) keys) (get m q) ∙ sym (get-without m (key ∷ keys) q))
    where
      cases : (a b : Bool) (v : Option X) → cond (not b) (cond a None v) None ≡ cond (not (a || b)) v None
      cases true true v = refl
      cases true false v = refl
      cases false true v = refl
      cases false false v = refl

  pub without_none : (m : FinMap R X) → without_keys m [] ≡ m
  without_none m = same_map o exact _ _ (λ q. get-without m [] q)

  -- ---- where the list has just the keys that pass a test

  below_at : (m : FinMap R X) (key : K) (keys : List K) → AllAfter R key keys → below_all R key (entries_at m keys) ≡ true
  below_at m key [] all = refl
  below_at m key (k ∷ keys) all = cases (get m k) (below_at m key keys all.1)
    where
      cases : (v : Option X) → below_all R key (entries_at m keys) ≡ true → below_all R key (entry_before k v (entries_at m keys)) ≡ true
      cases None rest = rest
      cases (Some x) rest = and_from _ _ (ap is_lt all.0) rest

  sorted_at : (m : FinMap R X) (keys : List K) → IsStrictlySortedBy R keys → is_sorted R (entries_at m keys) ≡ true
  sorted_at m [] sorted = refl
  sorted_at m (k ∷ keys) sorted = let parts = rest_sorted R k keys sorted in cases (get m k) (below_at m k keys parts.0) (sorted_at m keys parts.1)
    where
      cases : (v : Option X) → below_all R k (entries_at m keys) ≡ true → is_sorted R (entries_at m keys) ≡ true → is_sorted R (entry_before k v (entries_at m keys)) ≡ true
      cases None below rest = rest
      cases (Some x) below rest = and_from _ _ below rest

  find_at : (m : FinMap R X) (keys : List K) (q : K) → find R q (entries_at m keys) ≡ cond (list_any (eq_by_cmp R q) keys) (get m q) None
  find_at m [] q = refl
  find_at m (k ∷ keys) q = cases (eq_by_cmp R q k) refl (get m k) refl (find_at m keys q)
    where
      cases : (t : Bool) → eq_by_cmp R q k ≡ t → (v : Option X) → get m k ≡ v → find R q (entries_at m keys) ≡ cond (list_any (eq_by_cmp R q) keys) (get m q) None
          → find R q (entry_before k v (entries_at m keys)) ≡ cond (t || list_any (eq_by_cmp R q) keys) (get m q) None
      cases true is None found rest =
          let none : get m q ≡ None = ap (get m) (same_by_test exact q k is) ∙ found in
          rest ∙ none_either (list_any (eq_by_cmp R q) keys) (get m q) none ∙ sym none
      cases true is (Some x) found rest = let some : get m q ≡ Some x = ap (get m) (same_by_test exact q k is) ∙ found in rw (is, some) refl
      cases false is None found rest = rest
      cases false is (Some x) found rest = rw is rest

  pub entries_passing : (m : FinMap R X) (p : K → X → Bool) (keys : List K) → IsStrictlySortedBy R keys → HasJust m p keys → entries_at m keys ≡ entries (retain m p)
  entries_passing m p keys sorted just =
      let rises : T (is_sorted R (entries_at m keys)) = subst T (sym (sorted_at m keys sorted)) tt in
      sym (entries-from_sorted R (entries_at m keys) rises)
      ∙ ap entries (same_map o exact (from_sorted (entries_at m keys)) (retain m p) (λ q. get-from_sorted R (entries_at m keys) q rises ∙ find_at m keys q ∙ just q ∙ sym (get-retain o exact m p q)))

  pub rest_passing : (m : FinMap R X) (p : K → X → Bool) (keys : List K) → HasJust m p keys → without_keys m keys ≡ retain m (λ k x. not (p k x))
  rest_passing m p keys just =
      same_map o exact _ _ (λ q. get-without m keys q ∙ cases q (list_any (eq_by_cmp R q) keys) (get m q) (just q) ∙ sym (get-retain o exact m (λ k x. not (p k x)) q))
    where
      cases : (q : K) (b : Bool) (v : Option X) → cond b v None ≡ kept_if (p q) v → cond (not b) v None ≡ kept_if (λ x. not (p q x)) v
      cases q true None is = refl
      cases q false None is = refl
      cases q true (Some x) is = by (p q x) is
        where
          by : (t : Bool) → Some x ≡ cond t (Some x) None → None ≡ cond (not t) (Some x) None
          by true e = refl
          by false e = absurd (cc)
      cases q false (Some x) is = by (p q x) is
        where
          by : (t : Bool) → None ≡ cond t (Some x) None → Some x ≡ cond (not t) (Some x) None
          by true e = absurd (cc)
          by false e = refl

-- ---- what is told one after the other

-- a beginning of all was told since, and the rest is left to tell
abbrev pub IsToldSoFar : {X : Type 0} → List X → List X → List X → List X → Type 0
IsToldSoFar {X} before now all rest = (first : List X) × (now ≡ before ++ first) × (all ≡ first ++ rest)

pub none_told : {X : Type 0} (before all : List X) → IsToldSoFar before before all all
none_told before all = ([], sym (append-nil before), refl)

-- some more is told
pub more_told : {X : Type 0} (before now next all some rest : List X) → IsToldSoFar before now all (some ++ rest) → next ≡ now ++ some → IsToldSoFar before next all rest
more_told before now next all some rest so is =
    (so.0 ++ some, is ∙ ap (λ xs. xs ++ some) so.1 ∙ append_assoc before so.0 some, so.2 ∙ sym (append_assoc so.0 some rest))

pub all_told : {X : Type 0} (before now all : List X) → IsToldSoFar before now all [] → now ≡ before ++ all
all_told before now all so = so.1 ∙ ap (λ xs. before ++ xs) (sym (so.2 ∙ append-nil so.0))

pub begun_so_far : {X : Type 0} (before now all rest : List X) → IsToldSoFar before now all rest → IsBegun before now all
begun_so_far before now all rest so = (so.0, rest, so.1, so.2)

-- an entry that may be there, before others
pub told_before : {K X Y : Type 0} (f : K × X → Y) (key : K) (value : Option X) (rest : List (K × X))
    → map f (entry_before key value rest) ≡ option_to_list (option_map (λ x. f (key, x)) value) ++ map f rest
told_before f key None rest = refl
told_before f key (Some x) rest = refl

-- the first key of what is left
pub next_left : {X : Type 0} (xs : List X) (i : ℕ) (x : X) → i < length xs → x ≡ get_or xs i x → drop i xs ≡ x ∷ drop (i + 1) xs
next_left xs i x lt is = drop_more xs i x lt ∙ ap (λ y. y ∷ drop (i + 1) xs) (sym is)

pub none_left : {X : Type 0} (xs : List X) (i : ℕ) → length xs ≤ i → drop i xs ≡ []
none_left xs i le = drop_all i xs le

-- ---- those at a place

module _ {K : Type 0} {R : K → K → Ordering} (exact : IsAntisymmetric R) where
  -- a key is among those that pass a test where it passes, and is among all
  pub any_filter : (p : K → Bool) (q : K) (keys : List K) → list_any (eq_by_cmp R q) (filter p keys) ≡ (p q && list_any (eq_by_cmp R q) keys)
  any_filter p q [] = none (p q)
    where
      none : (b : Bool) → false ≡ (b && false)
      none true = refl
      none false = refl
  any_filter p q (k ∷ keys) = cases (p k) refl (eq_by_cmp R q k) refl (any_filter p q keys)
    where
      cases : (b : Bool) → p k ≡ b → (t : Bool) → eq_by_cmp R q k ≡ t → list_any (eq_by_cmp R q) (filter p keys) ≡ (p q && list_any (eq_by_cmp R q) keys)
          → list_any (eq_by_cmp R q) (cond b (k ∷ filter p keys) (filter p keys)) ≡ (p q && (t || list_any (eq_by_cmp R q) keys))
      cases true is true same rest = let yes : p q ≡ true = ap p (same_by_test exact q k same) ∙ is in rw (same, yes) refl
      cases true is false same rest = rw same rest
      cases false is true same rest = let no : p q ≡ false = ap p (same_by_test exact q k same) ∙ is in rest ∙ rw no refl
      cases false is false same rest = rest

-- ---- a deadline that is set

abbrev pub set_if : {K V : Type 0} (R : K → K → Ordering) → Deadline → K → List K → Option (Stay V) → Option (Stay V)
set_if R until q keys stood = cond (list_any (eq_by_cmp R q) keys) (option_map (lasting_until until) stood) stood

-- it is set for one key more
pub set_more : {V : Type 0} (until : Deadline) (t any : Bool) (stood after : Option (Stay V)) → after ≡ cond t (option_map (lasting_until until) stood) stood
    → cond any (option_map (lasting_until until) after) after ≡ cond (t || any) (option_map (lasting_until until) stood) stood
set_more until true true None after is = rw is refl
set_more until true true (Some stay) after is = rw is refl
set_more until true false stood after is = is
set_more until false any stood after is = rw is refl

pub begun_none : {X : Type 0} (before told : List X) → IsBegun before before told
begun_none before told = ([], told, sym (append-nil before), refl)

-- a key before others is kept where it passes
pub filter_first : {K : Type 0} (p : K → Bool) (k : K) (keys : List K) → filter p (k ∷ keys) ≡ cond (p k) (k ∷ []) [] ++ filter p keys
filter_first p k keys = cases (p k)
  where
    cases : (b : Bool) → cond b (k ∷ filter p keys) (filter p keys) ≡ cond b (k ∷ []) [] ++ filter p keys
    cases true = refl
    cases false = refl

module _ {K X : Type 0} {R : K → K → Ordering} (o : IsTotalOrder R) (exact : IsAntisymmetric R) where
  -- the keys of what passes are just those
  pub just_keys : (m : FinMap R X) (p : K → X → Bool) (ks : List K) → ks ≡ keys (retain m p) → HasJust m p ks
  just_keys m p ks is q =
      ap (λ l. cond (list_any (eq_by_cmp R q) l) (get m q) None) is ∙ ap (λ b. cond b (get m q) None) (sym (contains_key-keys (retain m p) q))
      ∙ ap (λ v. cond (is_some v) (get m q) None) (get-retain o exact m p q) ∙ cases (get m q)
    where
      cases : (v : Option X) → cond (is_some (kept_if (p q) v)) v None ≡ kept_if (p q) v
      cases None = refl
      cases (Some x) = by (p q x)
        where
          by : (b : Bool) → cond (is_some (cond b (Some x) None)) (Some x) None ≡ cond b (Some x) None
          by true = refl
          by false = refl

-- a deadline is set for just what is at a place
module _ {K V : Type 0} {R : K → K → Ordering} (o : IsTotalOrder R) (exact : IsAntisymmetric R) where
  pub set_at : (until : Deadline) (at : K → Bool) (m n : FinMap R (Stay V)) (ks : List K) → HasJust m (λ key _. at key) ks → ((q : K) → get n q ≡ set_if R until q ks (get m q))
      → n ≡ each_changed (λ key stay. cond (at key) (lasting_until until stay) stay) m
  set_at until at m n ks just set =
      same_map o exact _ _ (λ q. set q ∙ cases q (list_any (eq_by_cmp R q) ks) (get m q) (just q) ∙ sym (get-changed o exact (λ key stay. cond (at key) (lasting_until until stay) stay) m q))
    where
      cases : (q : K) (b : Bool) (v : Option (Stay V)) → cond b v None ≡ kept_if (λ _. at q) v
          → cond b (option_map (lasting_until until) v) v ≡ option_map (λ stay. cond (at q) (lasting_until until stay) stay) v
      cases q true None is = refl
      cases q false None is = refl
      cases q b (Some stay) is = by b (at q) is
        where
          by : (b t : Bool) → cond b (Some stay) None ≡ cond t (Some stay) None → cond b (Some (lasting_until until stay)) (Some stay) ≡ Some (cond t (lasting_until until stay) stay)
          by true true e = refl
          by false false e = refl
          by true false e = absurd (cc)
          by false true e = absurd (cc)

  -- a deadline is set under one key
  pub set_one : (m n : FinMap R (Stay V)) (key : K) (until : Deadline) (stay : Stay V) → get m key ≡ Some stay → n ≡ insert m key (lasting_until until stay)
      → (other : K) → get n other ≡ cond (eq_by_cmp R other key) (option_map (lasting_until until) (get m other)) (get m other)
  set_one m n key until stay found put other = ap (λ k. get k other) put ∙ get-insert o m key (lasting_until until stay) other ∙ cases (eq_by_cmp R other key) refl
    where
      cases : (t : Bool) → eq_by_cmp R other key ≡ t → cond t (Some (lasting_until until stay)) (get m other) ≡ cond t (option_map (lasting_until until) (get m other)) (get m other)
      cases true is = sym (ap (option_map (lasting_until until)) (ap (get m) (same_by_test exact other key is) ∙ found))
      cases false is = refl
