-- Lists in which something stands twice, met one after the other.
use Rattle.std.proofs.Common.{◌≡◌, ℕ, ◌+◌, ◌<◌, ◌≤◌, Bool, true, false, cond, ◌||◌, List, [], ◌∷◌, length, map, get_or, drop, Ordering, refl, sym, ◌∙◌}
use Rattle.std.specs.List.{list_any}
use Rattle.std.specs.Ordering.{eq_by_cmp}
use Rattle.std.specs.BTreeSet.{BTreeSet, contains}
use Rattle.std.proofs.lemmas.List.{drop_all, drop_more}
use Rattle.someip_world_setup_keys.specs.Clashes.{has_repeat}
use Rattle.someip_texts.proofs.FoundLemmas.{list_any-map}

module _ {K : Type 0} (cmp : K → K → Ordering) where
  -- one of the keys was met, or stands twice
  abbrev pub meets : BTreeSet K → List K → Bool
  meets met keys = list_any (contains cmp met) keys || has_repeat (eq_by_cmp cmp) keys

  abbrev pub HasMet : BTreeSet K → ℕ → List K → Type 0
  HasMet met i keys = meets met (drop i keys) ≡ has_repeat (eq_by_cmp cmp) keys

  nothing_met : (met : BTreeSet K) (keys : List K) → met.keys ≡ [] → list_any (contains cmp met) keys ≡ false
  nothing_met met [] empty = refl
  nothing_met met (k ∷ ks) empty = rw empty (nothing_met met ks empty)

  pub at_first : (met : BTreeSet K) (keys : List K) → met.keys ≡ [] → HasMet met 0 keys
  at_first met keys empty = rw (nothing_met met keys empty) refl

  pub met_again : (met : BTreeSet K) (i : ℕ) (keys : List K) (d : K) → i < length keys → contains cmp met (get_or keys i d) ≡ true → HasMet met i keys → true ≡ has_repeat (eq_by_cmp cmp) keys
  met_again met i keys d lt found h =
      let one : meets met (drop i keys) ≡ true = rw (drop_more keys i d lt, found) refl in
      sym one ∙ h

  -- one more was met
  found_later : (met more : BTreeSet K) (k : K) (keys : List K) → ((q : K) → contains cmp more q ≡ cond (eq_by_cmp cmp k q) true (contains cmp met q))
      → list_any (contains cmp more) keys ≡ (list_any (contains cmp met) keys || list_any (eq_by_cmp cmp k) keys)
  found_later met more k [] grows = refl
  found_later met more k (x ∷ xs) grows = rw (grows x, found_later met more k xs grows) (cases (eq_by_cmp cmp k x) (contains cmp met x) (list_any (contains cmp met) xs) (list_any (eq_by_cmp cmp k) xs))
    where
      cases : (a b c d : Bool) → (cond a true b || (c || d)) ≡ ((b || c) || (a || d))
      cases true true c d = refl
      cases true false true d = refl
      cases true false false d = refl
      cases false true c d = refl
      cases false false c d = refl

  pub met_first : (met more : BTreeSet K) (i : ℕ) (keys : List K) (k : K) → i < length keys → k ≡ get_or keys i k → contains cmp met k ≡ false
      → ((q : K) → contains cmp more q ≡ cond (eq_by_cmp cmp k q) true (contains cmp met q)) → HasMet met i keys → HasMet more (i + 1) keys
  met_first met more i keys k lt is absent grows h =
      let one : meets met (drop i keys) ≡ meets more (drop (i + 1) keys) =
      rw (drop_more keys i k lt, sym is, absent, found_later met more k (drop (i + 1) keys) grows)
      (regroup (list_any (contains cmp met) (drop (i + 1) keys)) (list_any (eq_by_cmp cmp k) (drop (i + 1) keys)) (has_repeat (eq_by_cmp cmp) (drop (i + 1) keys))) in
      sym one ∙ h
    where
      regroup : (a b c : Bool) → (a || (b || c)) ≡ ((a || b) || c)
      regroup true b c = refl
      regroup false b c = refl

  pub all_met : (met : BTreeSet K) (i : ℕ) (keys : List K) → length keys ≤ i → HasMet met i keys → false ≡ has_repeat (eq_by_cmp cmp) keys
  all_met met i keys le h =
      let one : meets met (drop i keys) ≡ false = rw (drop_all i keys le) refl in
      sym one ∙ h

-- ---- each beside the later ones

module _ {A B : Type 0} (same : B → B → Bool) (f : A → B) where
  -- the rest repeat where all do
  abbrev pub RepeatsLater : ℕ → List A → Type 0
  RepeatsLater i xs = has_repeat same (map f (drop i xs)) ≡ has_repeat same (map f xs)

  pub stands_again : (i : ℕ) (xs : List A) (d : A) → i < length xs → list_any (λ x. same (f (get_or xs i d)) (f x)) (drop (i + 1) xs) ≡ true → RepeatsLater i xs → true ≡ has_repeat same (map f xs)
  stands_again i xs d lt found h =
      let one : has_repeat same (map f (drop i xs)) ≡ true = rw (drop_more xs i d lt, list_any-map (same (f (get_or xs i d))) f (drop (i + 1) xs), found) refl in
      sym one ∙ h

  pub stands_alone : (i : ℕ) (xs : List A) (d : A) → i < length xs → list_any (λ x. same (f (get_or xs i d)) (f x)) (drop (i + 1) xs) ≡ false → RepeatsLater i xs → RepeatsLater (i + 1) xs
  stands_alone i xs d lt absent h =
      let one : has_repeat same (map f (drop i xs)) ≡ has_repeat same (map f (drop (i + 1) xs)) =
      rw (drop_more xs i d lt, list_any-map (same (f (get_or xs i d))) f (drop (i + 1) xs), absent) refl in
      sym one ∙ h

  pub none_again : (i : ℕ) (xs : List A) → length xs ≤ i → RepeatsLater i xs → false ≡ has_repeat same (map f xs)
  none_again i xs le h =
      let one : has_repeat same (map f (drop i xs)) ≡ false = rw (drop_all i xs le) refl in
      sym one ∙ h
