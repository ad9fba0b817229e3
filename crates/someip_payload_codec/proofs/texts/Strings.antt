-- Texts, as they are read.
use Rattle.std.proofs.Common.{◌≡◌, ℕ, ◌+◌, ◌<◌, Bool, true, false, List, [], ◌∷◌, length, drop, get_or, refl, ap, ◌∙◌, arith}
use Rattle.std.specs.Str.{IsUtf8, is_utf8}
use Rattle.std.proofs.lemmas.Str.{is_utf8-from_IsUtf8, IsUtf8-from_is_utf8}
use Rattle.std.proofs.lemmas.List.{drop_more}
use Rattle.someip_payload_codec.specs.Reading.{unit_of, units_of}

pub is_utf8_true : (bs : List ℕ) → IsUtf8 bs → is_utf8 bs ≡ true
is_utf8_true bs h = is_utf8-from_IsUtf8 bs h

test_false : (b : Bool) → (b ≡ true → ⊥) → b ≡ false
test_false true never = absurd (never refl)
test_false false never = refl

pub is_utf8_false : (bs : List ℕ) → (IsUtf8 bs → ⊥) → is_utf8 bs ≡ false
is_utf8_false bs never = test_false (is_utf8 bs) (λ h. never (IsUtf8-from_is_utf8 bs h))

units_two : (big : Bool) (bytes : List ℕ) (a b : ℕ) (rest : List ℕ) → bytes ≡ a ∷ b ∷ rest → units_of big bytes ≡ unit_of big a b ∷ units_of big rest
unfolding units_of
units_two big bytes a b rest e = ap (units_of big) e

-- one more unit
pub units_more : (big : Bool) (bytes : List ℕ) (i : ℕ) → i + 1 < length bytes
    → units_of big (drop i bytes) ≡ unit_of big (get_or bytes i 0) (get_or bytes (i + 1) 0) ∷ units_of big (drop (i + 2) bytes)
units_more big bytes i h =
    let same : i + 1 + 1 ≡ i + 2 = omega arith in
    let second : drop (i + 1) bytes ≡ get_or bytes (i + 1) 0 ∷ drop (i + 2) bytes = rw (← same) (drop_more bytes (i + 1) 0 h) in
    units_two big (drop i bytes) (get_or bytes i 0) (get_or bytes (i + 1) 0) (drop (i + 2) bytes)
    (drop_more bytes i 0 (omega arith) ∙ ap (λ (x : List ℕ). get_or bytes i 0 ∷ x) second)

units_short : (big : Bool) (bytes : List ℕ) → length bytes < 2 → units_of big bytes ≡ []
unfolding units_of
units_short big [] h = refl
units_short big (a ∷ []) h = refl
units_short big (a ∷ b ∷ bytes) h = absurd (omega arith)

-- no more units
pub units_none : (big : Bool) (bytes : List ℕ) (i : ℕ) → length (drop i bytes) < 2 → units_of big (drop i bytes) ≡ []
units_none big bytes i h = units_short big (drop i bytes) h
