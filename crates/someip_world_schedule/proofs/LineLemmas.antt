-- The words of a line.
use Rattle.std.proofs.Common.{◌≡◌, ◌==◌, ◌||◌, ℕ, Bool, true, false, List, [], ◌∷◌, ◌++◌, refl, sym, ap, ◌∙◌}
use Rattle.std.specs.List.{list_any, AllByRecursion, onto_first}
use Rattle.std.proofs.lemmas.Bool.{eqb-true}
use Rattle.someip_world_schedule.specs.Steps.{IsUnparted, joined_by_blanks, words_in}

abbrev is_blank : ℕ → Bool
is_blank b = b == 0x20

-- a list that is not empty
abbrev IsSome : List (List ℕ) → Type 0
IsSome [] = ⊥
IsSome (word ∷ words) = Unit {0}

onto_some : (b : ℕ) (words : List (List ℕ)) → IsSome (onto_first b words)
onto_some b [] = tt
onto_some b (word ∷ words) = tt

words_some : (line : List ℕ) → IsSome (words_in line)
words_some [] = tt
words_some (b ∷ line) = by_blank (is_blank b) refl
  where
    by_blank : (blank : Bool) → is_blank b ≡ blank → IsSome (words_in (b ∷ line))
    by_blank true is = rw is tt
    by_blank false is = rw is (onto_some b (words_in line))

-- a byte before the first word, and an empty word before others
joined_onto : (b : ℕ) (words : List (List ℕ)) → joined_by_blanks (onto_first b words) ≡ b ∷ joined_by_blanks words
joined_onto b [] = refl
joined_onto b (word ∷ []) = refl
joined_onto b (word ∷ next ∷ others) = refl

joined_after : (words : List (List ℕ)) → IsSome words → joined_by_blanks ([] ∷ words) ≡ 0x20 ∷ joined_by_blanks words
joined_after [] some = absurd some
joined_after (word ∷ words) some = refl

joined_step : (b : ℕ) (line : List ℕ) (blank : Bool) → is_blank b ≡ blank → joined_by_blanks (words_in line) ≡ line
    → joined_by_blanks (words_in (b ∷ line)) ≡ b ∷ line
joined_step b line true is h =
    let same : b ≡ 0x20 = eqb-true b 0x20 is in
    rw is (joined_after (words_in line) (words_some line) ∙ ap (λ t. 0x20 ∷ t) h ∙ ap (λ c. c ∷ line) (sym same))
joined_step b line false is h = rw is (joined_onto b (words_in line) ∙ ap (λ t. b ∷ t) h)

-- a line is its words, joined
pub line_joined : (line : List ℕ) → joined_by_blanks (words_in line) ≡ line
line_joined [] = refl
line_joined (b ∷ line) = joined_step b line (is_blank b) refl (line_joined line)

unparted_onto : (b : ℕ) (words : List (List ℕ)) → is_blank b ≡ false → AllByRecursion IsUnparted words
    → AllByRecursion IsUnparted (onto_first b words)
unparted_onto b [] is h = (rw is refl, tt)
unparted_onto b (word ∷ words) is h = (rw is h.0, h.1)

unparted_step : (b : ℕ) (line : List ℕ) (blank : Bool) → is_blank b ≡ blank → AllByRecursion IsUnparted (words_in line)
    → AllByRecursion IsUnparted (words_in (b ∷ line))
unparted_step b line true is h = rw is (refl, h)
unparted_step b line false is h = rw is (unparted_onto b (words_in line) is h)

-- which have no spaces
pub words_unparted : (line : List ℕ) → AllByRecursion IsUnparted (words_in line)
words_unparted [] = (refl, tt)
words_unparted (b ∷ line) = unparted_step b line (is_blank b) refl (words_unparted line)

parts : (b : ℕ) (word : List ℕ) (blank : Bool) → is_blank b ≡ blank → IsUnparted (b ∷ word) → (is_blank b ≡ false) × IsUnparted word
parts b word true is h = absurd (let none : (is_blank b || list_any is_blank word) ≡ false = h in cc (rw is at none))
parts b word false is h = (is, (let none : (is_blank b || list_any is_blank word) ≡ false = h in rw is at none))

last_word : (word : List ℕ) → IsUnparted word → words_in word ≡ word ∷ []
last_word [] h = refl
last_word (b ∷ word) h =
    let p = parts b word (is_blank b) refl h in
    rw p.0 (ap (onto_first b) (last_word word p.1))

first_word : (word rest : List ℕ) → IsUnparted word → words_in (word ++ 0x20 ∷ rest) ≡ word ∷ words_in rest
first_word [] rest h = refl
first_word (b ∷ word) rest h =
    let p = parts b word (is_blank b) refl h in
    rw p.0 (ap (onto_first b) (first_word word rest p.1))

-- and no other words without spaces are joined to it
pub only_words : (word : List ℕ) (others : List (List ℕ)) → AllByRecursion IsUnparted (word ∷ others)
    → words_in (joined_by_blanks (word ∷ others)) ≡ word ∷ others
only_words word [] h = last_word word h.0
only_words word (next ∷ others) h =
    first_word word (joined_by_blanks (next ∷ others)) h.0 ∙ ap (λ (ws : List (List ℕ)). word ∷ ws) (only_words next others h.1)
