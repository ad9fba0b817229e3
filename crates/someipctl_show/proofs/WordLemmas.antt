-- Words that are read one after the other, and what holds of one element of a list.
use Rattle.std.proofs.Common.{◌≡◌, ℕ, Bool, ◌||◌, true, false, List, [], ◌∷◌, ◌++◌, Option, Some, None, map, refl, sym, ap, ◌∙◌}
use Rattle.std.specs.Prelude.{is_none, filter}
use Rattle.std.specs.List.{list_any}

any_bad : {X : Type 0} (xs ys : List (Option X)) → list_any is_none (xs ++ None ∷ ys) ≡ true
any_bad [] ys = refl
any_bad (Some x ∷ xs) ys = any_bad xs ys
any_bad (None ∷ xs) ys = refl

any_read : {X : Type 0} (read : List ℕ → Option X) (words : List (List ℕ)) → list_any is_none (map read words) ≡ list_any (λ w. is_none (read w)) words
any_read read [] = refl
any_read read (w ∷ words) = ap (λ b. is_none (read w) || b) (any_read read words)

-- a word that says nothing is among the words, of which those in front were read
pub bad_word : {X : Type 0} (read : List ℕ → Option X) (done : List X) (words left rest : List (List ℕ)) (w : List ℕ) → map (λ x. Some x) done ++ map read left ≡ map read words → left ≡ w ∷ rest → read w ≡ None
    → list_any (λ w. is_none (read w)) words ≡ true
bad_word {X} read done words left rest w all is bad =
    let here : map read left ≡ None ∷ map read rest = ap (map read) is ∙ ap (λ (o : Option X). o ∷ map read rest) bad in
    let whole : map (λ x. Some x) done ++ None ∷ map read rest ≡ map read words = ap (λ (t : List (Option X)). map (λ x. Some x) done ++ t) (sym here) ∙ all in
    sym (any_read read words) ∙ ap (list_any is_none) (sym whole) ∙ any_bad (map (λ x. Some x) done) (map read rest)

-- ---- one element of a list

pub any_first : {X : Type 0} (p : X → Bool) (xs rest : List X) (x : X) → xs ≡ x ∷ rest → p x ≡ true → list_any p xs ≡ true
any_first p xs rest x is found = ap (list_any p) is ∙ ap (λ b. b || list_any p rest) found

pub any_next : {X : Type 0} (p : X → Bool) (xs rest : List X) (x : X) → xs ≡ x ∷ rest → p x ≡ false → list_any p xs ≡ list_any p rest
any_next p xs rest x is none = ap (list_any p) is ∙ ap (λ b. b || list_any p rest) none

filter_cons : {X Y : Type 0} (f : X → Y) (p : Y → Bool) (x : X) (xs : List X) (b : Bool) → map f (filter (λ z. p (f z)) xs) ≡ filter p (map f xs) → p (f x) ≡ b
    → map f (filter (λ z. p (f z)) (x ∷ xs)) ≡ filter p (map f (x ∷ xs))
filter_cons f p x xs true h is = rw is (ap (λ t. f x ∷ t) h)
filter_cons f p x xs false h is = rw is h

-- what is kept by what is seen of it
pub filter-map : {X Y : Type 0} (f : X → Y) (p : Y → Bool) (xs : List X) → map f (filter (λ z. p (f z)) xs) ≡ filter p (map f xs)
filter-map f p [] = refl
filter-map f p (x ∷ xs) = filter_cons f p x xs (p (f x)) (filter-map f p xs) refl
