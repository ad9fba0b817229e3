-- Reading the elements of a list one after the other.
use Rattle.std.proofs.Common.{◌≡◌, ℕ, ◌+◌, ◌<◌, ◌≤◌, List, [], ◌∷◌, ◌++◌, length, map, get_or, drop, Option, Some, None, option_map, refl, sym, ap, ◌∙◌, append_assoc, append-nil}
use Rattle.std.specs.Option.{option_and_then}
use Rattle.std.proofs.lemmas.List.{drop_all, drop_more}
use Rattle.toml.specs.Data.{Data}
use Rattle.toml.specs.View.{view, items_of}
use Rattle.toml.specs.declared.value.Value.{Value}
use Rattle.someip_world_setup_keys.specs.declared.error.SetupError.{SetupError}
use Rattle.someip_world_setup_keys.specs.Keys.{TellsNotFound}
use Rattle.someip_world_setup_keys.specs.Lists.{found_at_each, elements}
use Rattle.someip_world_setup_keys.proofs.AskingLemmas.{fails_too}

module _ {B : Type 0} (f : Data → Option B) where
  -- what was read so far, and then what is read of the rest
  abbrev pub with_front : List B → Option (List B) → Option (List B)
  with_front front rest = option_map (λ ys. front ++ ys) rest

  abbrev pub HasRead : List B → ℕ → List Value → Type 0
  HasRead front i values = with_front front (found_at_each f (map view (drop i values))) ≡ found_at_each f (map view values)

  regroup : (front : List B) (y : B) (rest : Option (List B)) → with_front front (option_and_then (λ ys. Some (y ∷ ys)) rest) ≡ with_front (front ++ y ∷ []) rest
  regroup front y None = refl
  regroup front y (Some ys) = ap (λ (t : List B). Some t) (sym (append_assoc front (y ∷ []) ys))

  pub after_one : (front : List B) (i : ℕ) (values : List Value) (d : Value) (y : B) → i < length values → f (view (get_or values i d)) ≡ Some y → HasRead front i values → HasRead (front ++ y ∷ []) (i + 1) values
  unfolding found_at_each
  after_one front i values d y lt is h =
      let one : with_front front (found_at_each f (map view (drop i values))) ≡ with_front (front ++ y ∷ []) (found_at_each f (map view (drop (i + 1) values))) =
      rw (drop_more values i d lt, is) (regroup front y (found_at_each f (map view (drop (i + 1) values)))) in
      sym one ∙ h

  pub at_fault : (front : List B) (i : ℕ) (values : List Value) (d : Value) (e : SetupError) → i < length values → TellsNotFound e (f (view (get_or values i d))) → HasRead front i values → TellsNotFound e (found_at_each f (map view values))
  unfolding found_at_each
  at_fault front i values d e lt fails h =
      fails_too e _ _ (λ none.
      let one : with_front front (found_at_each f (map view (drop i values))) ≡ None = rw (drop_more values i d lt, none) refl in
      sym h ∙ one) fails

  pub at_end : (front : List B) (i : ℕ) (values : List Value) → length values ≤ i → HasRead front i values → found_at_each f (map view values) ≡ Some front
  unfolding found_at_each
  at_end front i values le h =
      let one : with_front front (found_at_each f (map view (drop i values))) ≡ Some front = rw (drop_all i values le) (ap (λ (t : List B). Some t) (append-nil front)) in
      sym h ∙ one

-- the elements of an array
pub elements-items_of : (ds : List Data) → elements (items_of ds) ≡ ds
elements-items_of [] = refl
elements-items_of (d ∷ ds) = ap (λ (t : List Data). d ∷ t) (elements-items_of ds)
