-- Instances of which no two have one port.
use Rattle.std.proofs.Common.{◌≡◌, ℕ, suc, ◌+◌, ◌==◌, ◌≤◌, Bool, true, false, cond, not, ◌&&◌, ◌||◌, List, [], ◌∷◌, map, filter, length, refl, ap, sym, ◌∙◌, arith}
use Rattle.std.specs.List.{list_all, list_any}
use Rattle.std.specs.Ordering.{eq_by_cmp, nat_cmp}
use Rattle.std.specs.Option.{is_some}
use Rattle.std.specs.Cmp.{eq_by_cmp_equiv, nat_cmp_total}
use Rattle.std.specs.FinMap.{FinMap, contains_key, get-from_entries, len, len-empty, len-insert}
use Rattle.std.specs.FinMap.Entries.{is_some-find}
use Rattle.std.proofs.lemmas.Bool.{eqb-false, eqb-true, or_parts}
use Rattle.someip_tables.specs.Tables.{map_of}

abbrev same : ℕ → ℕ → Bool
same = eq_by_cmp nat_cmp

same_sym : (a b : ℕ) → same a b ≡ same b a
same_sym = (eq_by_cmp_equiv nat_cmp_total).symm

same_refl : (a : ℕ) → same a a ≡ true
same_refl = (eq_by_cmp_equiv nat_cmp_total).refl

differ : (n m : ℕ) → (n ≡ m → ⊥) → (n == m) ≡ false
differ n m not = cases (n == m) refl
  where
    cases : (b : Bool) → (n == m) ≡ b → b ≡ false
    cases true is = absurd (not (eqb-true n m is))
    cases false is = refl

one_more : (n m : ℕ) → (n == m) ≡ (n + 1 == suc m)
one_more n m = cases (n == m) (n + 1 == suc m) refl refl
  where
    cases : (b c : Bool) → (n == m) ≡ b → (n + 1 == suc m) ≡ c → b ≡ c
    cases true true is more = refl
    cases true false is more = let same : n ≡ m = eqb-true n m is in absurd (eqb-false (n + 1) (suc m) more (omega (arith, same)))
    cases false true is more = let next : n + 1 ≡ suc m = eqb-true (n + 1) (suc m) more in absurd (eqb-false n m is (omega (arith, next)))
    cases false false is more = refl

none_counted : {A : Type 0} (p : A → Bool) (es : List A) → (length (filter p es) == 0) ≡ not (list_any p es)
none_counted p [] = refl
none_counted p (e ∷ es) = cases (p e) (none_counted p es)
  where
    cases : (b : Bool) → (length (filter p es) == 0) ≡ not (list_any p es) → (length (cond b (e ∷ filter p es) (filter p es)) == 0) ≡ not (b || list_any p es)
    cases true rest = differ (suc (length (filter p es))) 0 (λ is. omega (arith, is))
    cases false rest = rest

only_one : {A : Type 0} (p : A → Bool) (es : List A) → (suc (length (filter p es)) == 1) ≡ not (list_any p es)
only_one p es = let next : suc (length (filter p es)) ≡ length (filter p es) + 1 = omega arith in ap (λ n. n == 1) next ∙ sym (one_more (length (filter p es)) 0) ∙ none_counted p es

module _ {A B : Type 0} (f : A → ℕ) (g : A → B) where
  -- those that have a port
  abbrev at : ℕ → List A → List A
  at port es = filter (λ e. same port (f e)) es

  abbrev is_at : ℕ → List A → Bool
  is_at port es = list_any (λ e. same port (f e)) es

  -- each is the only one that has its port
  abbrev have_own : List A → Bool
  have_own es = list_all (λ e. length (at (f e) es) == 1) es

  abbrev index : List A → FinMap nat_cmp B
  index es = map_of nat_cmp (map (λ e. (f e, g e)) es)

  -- one more at another port changes nothing for these
  others_own : (x : A) (all es : List A) → is_at (f x) es ≡ false
      → list_all (λ e. length (at (f e) (x ∷ all)) == 1) es ≡ list_all (λ e. length (at (f e) all) == 1) es
  others_own x all [] absent = refl
  others_own x all (e ∷ es) absent =
      let parts = or_parts (same (f x) (f e)) (is_at (f x) es) absent in
      rw (same_sym (f e) (f x) ∙ parts.0) (ap (λ b. (length (at (f e) all) == 1) && b) (others_own x all es parts.1))

  has-index : (port : ℕ) (es : List A) → contains_key (index es) port ≡ is_at port es
  has-index port es =
      ap is_some (get-from_entries nat_cmp_total (map (λ e. (f e, g e)) es) port)
      ∙ is_some-find nat_cmp port (map (λ e. (f e, g e)) es) ∙ keys es
    where
      keys : (es : List A) → list_any (eq_by_cmp nat_cmp port) (map (λ (e : ℕ × B). e.0) (map (λ e. (f e, g e)) es)) ≡ is_at port es
      keys [] = refl
      keys (e ∷ es) = ap (λ b. same port (f e) || b) (keys es)

  len-index : (es : List A) → len (index es) ≤ length es
  len-index [] = rw (len-empty nat_cmp B) (omega arith)
  len-index (e ∷ es) = rw (len-insert nat_cmp_total (index es) (f e) (g e)) (cases (contains_key (index es) (f e)) (len-index es))
    where
      cases : (b : Bool) → len (index es) ≤ length es → cond b (len (index es)) (len (index es) + 1) ≤ length (e ∷ es)
      cases true rest = omega (arith, rest)
      cases false rest = omega (arith, rest)

  pub own_ports : (es : List A) → have_own es ≡ (len (index es) == length es)
  own_ports [] = rw (len-empty nat_cmp B) refl
  own_ports (x ∷ es) =
      rw (same_refl (f x), len-insert nat_cmp_total (index es) (f x) (g x), has-index (f x) es, only_one (λ e. same (f x) (f e)) es)
      (cases (is_at (f x) es) refl (own_ports es))
    where
      cases : (b : Bool) → is_at (f x) es ≡ b → have_own es ≡ (len (index es) == length es)
          → (not b && list_all (λ e. length (at (f e) (x ∷ es)) == 1) es) ≡ (cond b (len (index es)) (len (index es) + 1) == length (x ∷ es))
      cases true found rest = let bound : len (index es) ≤ length es = len-index es in sym (differ (len (index es)) (suc (length es)) (λ is. omega (arith, bound, is)))
      cases false absent rest = others_own x es es absent ∙ rest ∙ one_more (len (index es)) (length es)
