-- Lists that are gathered one after the other.
use Rattle.std.proofs.Common.{◌≡◌, ℕ, ◌+◌, ◌<◌, ◌≤◌, List, [], ◌∷◌, ◌++◌, length, map, get_or, drop, sym, ap, ◌∙◌, append_assoc, append-nil}
use Rattle.std.specs.List.{flat_map}
use Rattle.std.proofs.lemmas.List.{drop_all, drop_more}

module _ {A B : Type 0} (f : A → B) where
  -- what was gathered, and what the rest gives, are the whole
  abbrev pub HasGathered : List B → ℕ → List A → List B → Type 0
  HasGathered front i xs whole = front ++ map f (drop i xs) ≡ whole

  pub one_gathered : (front : List B) (i : ℕ) (xs : List A) (whole : List B) (d : A) (y : B) → i < length xs → y ≡ f (get_or xs i d) → HasGathered front i xs whole → HasGathered (front ++ y ∷ []) (i + 1) xs whole
  one_gathered front i xs whole d y lt is h =
      append_assoc front (y ∷ []) (map f (drop (i + 1) xs))
      ∙ ap (λ (t : B). front ++ t ∷ map f (drop (i + 1) xs)) is
      ∙ sym (ap (λ (t : List A). front ++ map f t) (drop_more xs i d lt)) ∙ h

  pub all_gathered : (front : List B) (i : ℕ) (xs : List A) (whole : List B) → length xs ≤ i → HasGathered front i xs whole → front ≡ whole
  all_gathered front i xs whole le h = sym (append-nil front) ∙ sym (ap (λ (t : List A). front ++ map f t) (drop_all i xs le)) ∙ h

module _ {A B : Type 0} (f : A → List B) where
  -- the same, where each gives a list
  abbrev pub HasGatheredLists : List B → ℕ → List A → List B → Type 0
  HasGatheredLists front i xs whole = front ++ flat_map f (drop i xs) ≡ whole

  pub lists_gathered : (front : List B) (i : ℕ) (xs : List A) (whole : List B) → length xs ≤ i → HasGatheredLists front i xs whole → front ≡ whole
  lists_gathered front i xs whole le h = sym (append-nil front) ∙ sym (ap (λ (t : List A). front ++ flat_map f t) (drop_all i xs le)) ∙ h
