-- Whether one of a list passes a test, asked of one after the other.
use Rattle.std.proofs.Common.{◌≡◌, ℕ, ◌≤◌, Bool, true, false, ◌||◌, List, [], ◌∷◌, length, map, drop, refl, sym, ap, ◌∙◌}
use Rattle.std.specs.List.{list_any}
use Rattle.std.proofs.lemmas.List.{drop_all}

-- whether one of the images passes
pub list_any-map : {A B : Type 0} (p : B → Bool) (f : A → B) (xs : List A) → list_any p (map f xs) ≡ list_any (λ x. p (f x)) xs
list_any-map p f [] = refl
list_any-map p f (x ∷ xs) = ap (λ b. p (f x) || b) (list_any-map p f xs)

module _ {A B : Type 0} (p : B → Bool) (f : A → B) where
  -- what was found, or is found in the rest, is found in all
  abbrev pub HasFound : Bool → ℕ → List A → Type 0
  HasFound found i xs = (found || list_any p (map f (drop i xs))) ≡ list_any p (map f xs)

  -- where no rest is left, what was found is what is found in all
  pub all_asked : (found : Bool) (i : ℕ) (xs : List A) → length xs ≤ i → HasFound found i xs → found ≡ list_any p (map f xs)
  all_asked found i xs le h =
      let same : (found || list_any p (map f (drop i xs))) ≡ found = rw (drop_all i xs le) (last found) in
      sym same ∙ h
    where
      last : (a : Bool) → (a || false) ≡ a
      last true = refl
      last false = refl
