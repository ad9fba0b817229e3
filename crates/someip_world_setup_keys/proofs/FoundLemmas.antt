-- Whether one of the lists that stand in lists has one that passes a test.
use Rattle.std.proofs.Common.{◌≡◌, Bool, ◌||◌, List, [], ◌∷◌, refl, ap, ◌∙◌}
use Rattle.std.specs.List.{list_any, flat_map}
use Rattle.std.proofs.lemmas.List.Concat.{flat_map-append}
use Rattle.std.proofs.lemmas.List.Folds.{list_any-append}

pub list_any-flat_map : {A B : Type 0} (p : B → Bool) (f : A → List B) (xs : List A) → list_any p (flat_map f xs) ≡ list_any (λ x. list_any p (f x)) xs
list_any-flat_map p f [] = refl
list_any-flat_map p f (x ∷ xs) = list_any-append p (f x) (flat_map f xs) ∙ ap (λ b. list_any p (f x) || b) (list_any-flat_map p f xs)

pub list_any-below : {A B C : Type 0} (p : C → Bool) (g : B → List C) (f : A → List B) (xs : List A) → list_any p (flat_map g (flat_map f xs)) ≡ list_any (λ x. list_any p (flat_map g (f x))) xs
list_any-below p g f [] = refl
list_any-below p g f (x ∷ xs) =
    ap (list_any p) (flat_map-append g (f x) (flat_map f xs))
    ∙ list_any-append p (flat_map g (f x)) (flat_map g (flat_map f xs))
    ∙ ap (λ b. list_any p (flat_map g (f x)) || b) (list_any-below p g f xs)
