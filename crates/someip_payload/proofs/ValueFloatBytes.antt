-- A text that is read as a float has bytes of words and numbers alone.
use Rattle.std.proofs.Common.{◌≡◌, ℕ, ◌⊎◌, inl, inr, Bool, true, false, ◌&&◌, ◌||◌, cond, eqb, List, [], ◌∷◌, drop, codes, Some, is_some, refl, sym, ap, ◌∙◌, arith}
use Rattle.std.specs.Prelude.{nat_le}
use Rattle.std.specs.Char.{is_ascii_digit, to_ascii_lowercase}
use Rattle.std.specs.List.{list_all}
use Rattle.std.specs.Float.Ieee.{Float, Format}
use Rattle.std.specs.Float.Parse.{float_scan_step, completes_number, lowercases_to, without_sign, is_infinity_text, is_nan_text, is_float_text}
use Rattle.std.proofs.lemmas.Bool.{false≢true}
use Rattle.std.proofs.lemmas.Bool.Decides.{nat_tests}
use Rattle.std.proofs.lemmas.Float.Parse.{is_some-parse_float}
use Rattle.fast_float.specs.Parse.{parse_float}
use Rattle.someip_payload.specs.ValueReading.{is_plain}
use Rattle.someip_payload.proofs.Fronts.{both}

dead_step : (c : ℕ) → float_scan_step 7 c ≡ 7
dead_step c = by (is_ascii_digit c) (eqb c 46) (eqb c 101 || eqb c 69) (eqb c 43 || eqb c 45)
  where
    by : (d p e s : Bool) → ◌≡◌ {A = ℕ} (cond d 7 (cond p 7 (cond e 7 (cond (s && false) 5 7)))) 7
    by true p e s = refl
    by false true e s = refl
    by false false true s = refl
    by false false false true = refl
    by false false false false = refl

dead : (cs : List ℕ) → completes_number 7 cs ≡ false
dead [] = refl
dead (c ∷ cs) = ap (λ s. completes_number s cs) (dead_step c) ∙ dead cs

other_byte : (c : ℕ) → is_plain c ≡ false → (is_ascii_digit c ≡ false) × (eqb c 46 ≡ false) × ((eqb c 101 || eqb c 69) ≡ false) × ((eqb c 43 || eqb c 45) ≡ false)
other_byte c is = (grind (arith, nat_tests, is), grind (arith, nat_tests, is), grind (arith, nat_tests, is), grind (arith, nat_tests, is))

step_dead : (s c : ℕ) → is_plain c ≡ false → float_scan_step s c ≡ 7
step_dead s c is = let o = other_byte c is in rw (o.0, o.1, o.2, o.3) refl

number_plain : (cs : List ℕ) (s : ℕ) → completes_number s cs ≡ true → list_all is_plain cs ≡ true
number_plain [] s is = refl
number_plain (c ∷ cs) s is = by (is_plain c) refl (number_plain cs (float_scan_step s c) is)
  where
    by : (b : Bool) → is_plain c ≡ b → list_all is_plain cs ≡ true → list_all is_plain (c ∷ cs) ≡ true
    by true plain rest = rw (plain, rest) refl
    by false plain rest = absurd (false≢true (sym (dead cs) ∙ ap (λ k. completes_number k cs) (sym (step_dead s c plain)) ∙ is))

abbrev is_lower : ℕ → Bool
is_lower b = nat_le 97 b && nat_le b 122

letter_plain : (c w : ℕ) → is_lower w ≡ true → eqb (to_ascii_lowercase c) w ≡ true → is_plain c ≡ true
letter_plain c w low is = grind (arith, nat_tests, low, is)

word_plain : (cs ws : List ℕ) → list_all is_lower ws ≡ true → lowercases_to cs ws ≡ true → list_all is_plain cs ≡ true
word_plain [] ws low is = refl
word_plain (c ∷ cs) [] low is = absurd (false≢true is)
word_plain (c ∷ cs) (w ∷ ws) low is =
    let parts = both (eqb (to_ascii_lowercase c) w) (lowercases_to cs ws) is in
    let lows = both (is_lower w) (list_all is_lower ws) low in
    rw (letter_plain c w lows.0 parts.0, word_plain cs ws lows.1 parts.1) refl

either : (a b : Bool) → (a || b) ≡ true → (a ≡ true) ⊎ (b ≡ true)
either true b is = inl refl
either false b is = inr is

body_plain : (t : List ℕ) → (completes_number 0 t || (is_infinity_text t || is_nan_text t)) ≡ true → list_all is_plain t ≡ true
body_plain t is = elim (either (completes_number 0 t) _ is) [
  | inl number_ ↦ number_plain t 0 number_
  | inr word ↦ elim (either (is_infinity_text t) (is_nan_text t) word) [
    | inl infinity ↦ elim (either _ _ infinity) [
      | inl short ↦ word_plain t (codes "inf") refl short
      | inr long ↦ word_plain t (codes "infinity") refl long
    ]
    | inr nan_ ↦ word_plain t (codes "nan") refl nan_
  ]
]

sign_plain : (b : ℕ) → (eqb b 43 || eqb b 45) ≡ true → is_plain b ≡ true
sign_plain b is = grind (arith, nat_tests, is)

text_plain : (t : List ℕ) → is_float_text t ≡ true → list_all is_plain t ≡ true
text_plain [] is = refl
text_plain (b ∷ bs) is = by (eqb b 43 || eqb b 45) refl (body_plain (without_sign (b ∷ bs)) is)
  where
    by : (s : Bool) → (eqb b 43 || eqb b 45) ≡ s → list_all is_plain (drop (cond s 1 0) (b ∷ bs)) ≡ true → list_all is_plain (b ∷ bs) ≡ true
    by true sign rest = rw (sign_plain b sign, rest) refl
    by false sign rest = rest

pub float_plain : (f : Format) (t : List ℕ) (x : Float) → parse_float f t ≡ Some x → list_all is_plain t ≡ true
float_plain f t x is = text_plain t (sym (is_some-parse_float f t) ∙ ap is_some is)
