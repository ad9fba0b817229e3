-- What a table with a limit holds of changes under keys: where a key is held, each change of it was counted.
use Rattle.std.proofs.Common.{◌≡◌, ◌⊎◌, inl, inr, ℕ, ◌+◌, ◌<◌, ◌≤◌, nat_lt, Bool, true, false, cond, ◌||◌, List, [], ◌∷◌, Option, None, Some, refl, ap, subst, sym, ◌∙◌, arith}
use Rattle.std.specs.Option.{is_some, unwrap_or}
use Rattle.std.specs.declared.cmp.Ordering.{Ordering}
use Rattle.std.specs.Ordering.{eq_by_cmp}
use Rattle.std.specs.Cmp.{IsTotalOrder}
use Rattle.std.specs.FinMap.{FinMap, IsAntisymmetric, get, insert, len, get-empty, get-insert, len-insert}
use Rattle.std.proofs.lemmas.Bool.{ltb-true}
use Rattle.someip_tables.proofs.Entries.{same_by_test}
use Rattle.audit_stats.specs.Tables.{Held, after_change, counted, empty_held, full_told, has_room}
use Rattle.audit_stats.proofs.BucketLemmas.{not_below}

-- a key without room is not held, and the table is full
pub no_room : {K V : Type 0} {R : K → K → Ordering} (key : K) (t : Held R V) → has_room key t ≡ false → (get t.values key ≡ None) × (t.limit ≤ len t.values)
no_room {V = V} key t none = cases (get t.values key) none
  where
    cases : (o : Option V) → (is_some o || nat_lt (len t.values) t.limit) ≡ false → (o ≡ None) × (t.limit ≤ len t.values)
    cases None is = (refl, not_below (len t.values) t.limit is)
    cases (Some v) is = absurd (cc)

-- a key with room that is not held has it because the table is not full
pub room_left : {K V : Type 0} {R : K → K → Ordering} (key : K) (t : Held R V) → has_room key t ≡ true → get t.values key ≡ None → len t.values < t.limit
room_left key t room none = ltb-true (len t.values) t.limit (subst (λ o. (is_some o || nat_lt (len t.values) t.limit) ≡ true) none room)

module _ {K V : Type 0} {R : K → K → Ordering} (o : IsTotalOrder R) where
  pub len_grows : (m : FinMap R V) (key : K) (value : V) → len m ≤ len (insert m key value)
  len_grows m key value = cases (is_some (get m key)) (len-insert o m key value)
    where
      cases : (b : Bool) → len (insert m key value) ≡ cond b (len m) (len m + 1) → len m ≤ len (insert m key value)
      cases true is = omega (arith, is)
      cases false is = omega (arith, is)

module _ {K V C : Type 0} {R : K → K → Ordering} (o : IsTotalOrder R) (exact : IsAntisymmetric R) (none : V) (after : C → V → V) where
  -- the table, the figures of a key, and whether a key came, once there was a change
  abbrev pub by_change : Option (K × C) → Held R V → Held R V
  by_change None t = t
  by_change (Some c) t = after_change none after c.0 c.1 t

  abbrev pub figures_by : K → Option (K × C) → V → V
  figures_by key None v = v
  figures_by key (Some c) v = cond (eq_by_cmp R key c.0) (after c.1 v) v

  abbrev pub came_by : K → Option (K × C) → Bool → Bool
  came_by key None b = b
  came_by key (Some c) b = cond (eq_by_cmp R key c.0) true b

  -- what is held of a key that has these figures, and came or not: they, or nothing where it never came or found the table full
  abbrev pub IsKept : Held R V → V → Bool → Option V → Type 0
  IsKept t v b None = (b ≡ false) ⊎ ((t.limit ≤ len t.values) × (t.told_full ≡ true))
  IsKept t v b (Some held) = held ≡ v

  full_kept : (t : Held R V) (v : V) (b : Bool) (held : Option V) → IsKept t v b held → IsKept (full_told t) v b held
  full_kept t v b None (inl never) = inl never
  full_kept t v b None (inr full) = inr (full.0, refl)
  full_kept t v b (Some held) kept = kept

  grown_kept : (t : Held R V) (key : K) (value : V) (v : V) (b : Bool) (held : Option V) → IsKept t v b held → IsKept (record t { values = insert t.values key value }) v b held
  grown_kept t key value v b None (inl never) = inl never
  grown_kept t key value v b None (inr full) = inr (let grows : len t.values ≤ len (insert t.values key value) = len_grows o t.values key value in omega (arith, full.0, grows), full.1)
  grown_kept t key value v b (Some held) kept = kept

  -- what was counted before is what is held, or nothing
  was : (t : Held R V) (v : V) (b : Bool) (held : Option V) → (b ≡ false → v ≡ none) → (held ≡ None → len t.values < t.limit) → IsKept t v b held → unwrap_or held none ≡ v
  was t v b None never room (inl is) = sym (never is)
  was t v b None never room (inr full) = let left : len t.values < t.limit = room refl in absurd (omega (arith, left, full.0))
  was t v b (Some held) never room kept = kept

  pub kept_on : (key : K) (c : Option (K × C)) (t : Held R V) (v : V) (b : Bool) → (b ≡ false → v ≡ none) → IsKept t v b (get t.values key)
      → IsKept (by_change c t) (figures_by key c v) (came_by key c b) (get (by_change c t).values key)
  kept_on key None t v b never kept = kept
  kept_on key (Some c) t v b never kept = cases (has_room c.0 t) refl
    where
      held : (s : Bool) → eq_by_cmp R key c.0 ≡ s → has_room c.0 t ≡ true → IsKept (record t { values = insert t.values c.0 (after c.1 (unwrap_or (get t.values c.0) none)) }) (cond s (after c.1 v) v) (cond s true b) (cond s (Some (after c.1 (unwrap_or (get t.values c.0) none))) (get t.values key))
      held true tie room =
          let same : key ≡ c.0 = same_by_test exact key c.0 tie in
          let before : IsKept t v b (get t.values c.0) = subst (λ k. IsKept t v b (get t.values k)) same kept in
          ap (after c.1) (was t v b (get t.values c.0) never (room_left c.0 t room) before)
      held false tie room = grown_kept t c.0 (after c.1 (unwrap_or (get t.values c.0) none)) v b (get t.values key) kept

      left_out : (s : Bool) → eq_by_cmp R key c.0 ≡ s → has_room c.0 t ≡ false → IsKept (full_told t) (cond s (after c.1 v) v) (cond s true b) (get t.values key)
      left_out true tie full =
          let out = no_room c.0 t full in
          let gone : get t.values key ≡ None = ap (get t.values) (same_by_test exact key c.0 tie) ∙ out.0 in
          rw gone (inr (out.1, refl))
      left_out false tie full = full_kept t v b (get t.values key) kept

      cases : (r : Bool) → has_room c.0 t ≡ r
          → IsKept (cond r (counted none after c.0 c.1 t) (full_told t)) (figures_by key (Some c) v) (came_by key (Some c) b) (get (cond r (counted none after c.0 c.1 t) (full_told t)).values key)
      cases true room = rw (get-insert o t.values c.0 (after c.1 (unwrap_or (get t.values c.0) none)) key) (held (eq_by_cmp R key c.0) refl room)
      cases false full = left_out (eq_by_cmp R key c.0) refl full

  module _ {A : Type 0} (change : List A → A → Option (K × C)) where
    abbrev pub table_of : ℕ → List A → Held R V
    table_of limit [] = empty_held limit
    table_of limit (x ∷ xs) = by_change (change xs x) (table_of limit xs)

    abbrev pub figures_of : K → List A → V
    figures_of key [] = none
    figures_of key (x ∷ xs) = figures_by key (change xs x) (figures_of key xs)

    abbrev pub came_of : K → List A → Bool
    came_of key [] = false
    came_of key (x ∷ xs) = came_by key (change xs x) (came_of key xs)

    never_came : (key : K) (xs : List A) → came_of key xs ≡ false → figures_of key xs ≡ none
    never_came key [] is = refl
    never_came key (x ∷ xs) is = cases (change xs x) is (never_came key xs)
      where
        other : (c : K × C) (s : Bool) → cond s true (came_of key xs) ≡ false → (came_of key xs ≡ false → figures_of key xs ≡ none) → cond s (after c.1 (figures_of key xs)) (figures_of key xs) ≡ none
        other c true is rest = absurd (cc)
        other c false is rest = rest is

        cases : (c : Option (K × C)) → came_by key c (came_of key xs) ≡ false → (came_of key xs ≡ false → figures_of key xs ≡ none) → figures_by key c (figures_of key xs) ≡ none
        cases None is rest = rest is
        cases (Some c) is rest = other c (eq_by_cmp R key c.0) is rest

    pub kept : (limit : ℕ) (key : K) (xs : List A) → IsKept (table_of limit xs) (figures_of key xs) (came_of key xs) (get (table_of limit xs).values key)
    kept limit key [] = rw (get-empty R key) (inl refl)
    kept limit key (x ∷ xs) = kept_on key (change xs x) (table_of limit xs) (figures_of key xs) (came_of key xs) (never_came key xs) (kept limit key xs)

    -- where a key is held, its figures are those of all its changes
    pub held_is : (limit : ℕ) (key : K) (xs : List A) (v : V) → get (table_of limit xs).values key ≡ Some v → v ≡ figures_of key xs
    held_is limit key xs v is = subst (IsKept (table_of limit xs) (figures_of key xs) (came_of key xs)) is (kept limit key xs)

    -- and where it is not, it never came, or found the table full
    pub none_held : (limit : ℕ) (key : K) (xs : List A) → get (table_of limit xs).values key ≡ None → (came_of key xs ≡ false) ⊎ (((table_of limit xs).limit ≤ len (table_of limit xs).values) × ((table_of limit xs).told_full ≡ true))
    none_held limit key xs is = subst (IsKept (table_of limit xs) (figures_of key xs) (came_of key xs)) is (kept limit key xs)

    -- so in a table that never told that it is full there is nothing to count of a key that is not held
    pub none_is : (limit : ℕ) (key : K) (xs : List A) → (table_of limit xs).told_full ≡ false → get (table_of limit xs).values key ≡ None → figures_of key xs ≡ none
    none_is limit key xs fits is = cases (none_held limit key xs is)
      where
        cases : (came_of key xs ≡ false) ⊎ (((table_of limit xs).limit ≤ len (table_of limit xs).values) × ((table_of limit xs).told_full ≡ true)) → figures_of key xs ≡ none
        cases (inl never) = never_came key xs never
        cases (inr full) = let told : (table_of limit xs).told_full ≡ true = full.1 in absurd (cc)
