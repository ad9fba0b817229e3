-- Words at the front of a text: the longest front that it has in common with one of them.
use Rattle.std.proofs.Common.{◌≡◌, ℕ, ◌+◌, ◌<◌, ◌≤◌, ◌==◌, max, Bool, true, false, ◌&&◌, ◌||◌, ◌⊎◌, inl, inr, ⊎_elim, Bor, List, [], ◌∷◌, ◌++◌, length, get_or, take, map, refl, sym, ap, ◌∙◌, arith}
use Rattle.std.specs.Prelude.{if◌then◌else◌}
use Rattle.std.specs.List.{list_all}
use Rattle.std.specs.Str.{bytes_eq}
use Rattle.std.proofs.lemmas.Bool.{false≢true}
use Rattle.std.proofs.lemmas.Bool.Decides.{nat_tests, Decides-eqb}
use Rattle.std.proofs.lemmas.List.{take_more, take_at, map-append}
use Rattle.std.proofs.lemmas.Slice.Eq.{bytes_eq-Decides}
use Rattle.someip_payload_values.specs.Check.{is_later}
use Rattle.someip_payload.specs.Fronts.{common, longest, longest_front, is_word}
use Rattle.someip_payload.specs.ShapeText.{EndsWord}

-- an empty text has nothing in common
pub common-nothing : (a : List ℕ) → common a [] ≡ 0
common-nothing [] = refl
common-nothing (x ∷ xs) = refl

-- one word more
longest-append : (ws : List (List ℕ)) (w text : List ℕ) → longest (ws ++ w ∷ []) text ≡ max (longest ws text) (common w text)
longest-append [] w text = omega arith
longest-append (v ∷ vs) w text = let rest = longest-append vs w text in omega arith

pub longest_more : {X : Type 0} (words : List (Bor (List ℕ) × X)) (i : ℕ) (word : Bor (List ℕ) × X) (text : List ℕ) → i < length words → word ≡ get_or words i word
    → longest (map (λ w. w.0.now) (take (i + 1) words)) text ≡ max (longest (map (λ w. w.0.now) (take i words)) text) (common word.0.now text)
longest_more {X} words i word text lt is =
    let now : Bor (List ℕ) × X → List ℕ = λ w. w.0.now in
    ap (λ (ws : List (Bor (List ℕ) × X)). longest (map now ws) text) (take_more words i word lt)
    ∙ ap (λ (ws : List (List ℕ)). longest ws text) (map-append now (take i words) (get_or words i word ∷ []))
    ∙ longest-append (map now (take i words)) (get_or words i word).0.now text
    ∙ ap (λ (w : Bor (List ℕ) × X). max (longest (map now (take i words)) text) (common w.0.now text)) (sym is)

-- ---- a word at the front of a text, after which no letter, digit or underscore stands

-- it has all of the word in common
common-own : (w rest : List ℕ) → common w (w ++ rest) ≡ length w
common-own [] rest = refl
common-own (x ∷ xs) rest = let more = common-own xs rest in grind (arith, nat_tests)

-- both of two tests
pub both : (a b : Bool) → (a && b) ≡ true → (a ≡ true) × (b ≡ true)
both true b h = (refl, h)
both false b h = cc

no_more : (b : Bool) (n : ℕ) → b ≡ false → (if b then n else 0) ≡ 0
no_more b n never = rw never

not_true : (b : Bool) → (b ≡ true → ⊥) → b ≡ false
not_true b never = elim b as (λ v. (v ≡ true → ⊥) → v ≡ false) [ true ↦ λ h. absurd (h refl) | false ↦ λ h. refl ] never

one_more : (b : Bool) (n m : ℕ) → n ≤ m → (if b then n + 1 else 0) ≤ m + 1
one_more true n m le = omega arith
one_more false n m le = omega arith

either : (a b : Bool) → (a || b) ≡ true → (a ≡ true) ⊎ (b ≡ true)
either true b h = inl refl
either false b h = inr h

-- nothing of a word goes on there
common-end : (v rest : List ℕ) → list_all is_later v ≡ true → EndsWord rest → common v rest ≡ 0
common-end [] rest letters ends = refl
common-end (x ∷ xs) [] letters ends = refl
common-end (x ∷ xs) (y ∷ ys) letters ends = no_more (x == y) (common xs ys + 1) (not_true (x == y) (λ same.
    let first = (both (is_later x) (list_all is_later xs) letters).0 in
    false≢true (sym ends.0 ∙ ap is_later (sym ((Decides-eqb x y).0 same)) ∙ first)))

-- it has no more in common with another word
common-other : (v w rest : List ℕ) → list_all is_later v ≡ true → EndsWord rest → common v (w ++ rest) ≤ length w
common-other v [] rest letters ends = omega (arith, common-end v rest letters ends)
common-other [] (y ∷ ys) rest letters ends = omega arith
common-other (x ∷ xs) (y ∷ ys) rest letters ends =
    let more = common-other xs ys rest (both (is_later x) (list_all is_later xs) letters).1 ends in
    let step = one_more (x == y) (common xs (ys ++ rest)) (length ys) more in
    omega (arith, step)

-- it is the longest front, if it is one of the words
longest-other : (ws : List (List ℕ)) (w rest : List ℕ) → list_all (λ v. list_all is_later v) ws ≡ true → EndsWord rest → longest ws (w ++ rest) ≤ length w
longest-other [] w rest letters ends = omega arith
longest-other (v ∷ ws) w rest letters ends =
    let parts = both (list_all is_later v) (list_all (λ u. list_all is_later u) ws) letters in
    let own = common-other v w rest parts.0 ends in
    let more = longest-other ws w rest parts.1 ends in
    omega arith

longest-own : (ws : List (List ℕ)) (w rest : List ℕ) → is_word ws w ≡ true → length w ≤ longest ws (w ++ rest)
longest-own [] w rest among = cc
longest-own (v ∷ ws) w rest among = ⊎_elim here (λ is. there (longest-own ws w rest is)) (either (bytes_eq v w) (is_word ws w) among)
  where
    here : bytes_eq v w ≡ true → length w ≤ longest (v ∷ ws) (w ++ rest)
    here is =
        let same : v ≡ w = (bytes_eq-Decides v w).0 is in
        let own : common v (w ++ rest) ≡ length w = ap (λ u. common u (w ++ rest)) same ∙ common-own w rest in
        omega arith

    there : length w ≤ longest ws (w ++ rest) → length w ≤ longest (v ∷ ws) (w ++ rest)
    there more = omega arith

pub longest_is : (ws : List (List ℕ)) (w rest : List ℕ) → list_all (λ v. list_all is_later v) ws ≡ true → is_word ws w ≡ true → EndsWord rest → longest_front ws (w ++ rest) ≡ w
longest_is ws w rest letters among ends =
    let le = longest-other ws w rest letters ends in
    let ge = longest-own ws w rest among in
    let len : length w ≡ longest ws (w ++ rest) = omega arith in
    take_at w rest (longest ws (w ++ rest)) len
