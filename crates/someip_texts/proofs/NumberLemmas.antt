-- What digits write.
use Rattle.std.proofs.lemmas.Fmt.{decimal_digit, decimal-digits_value, decimal_is_IsNumeral, digits_decimal, digits_value-decimal, first_decimal}
use Rattle.std.proofs.Common.{◌≡◌, ◌==◌, ◌&&◌, not, zero, suc, decimal, ltb-true, ne_eqb, ℕ, ◌<◌, ◌≤◌, ◌^◌, Bool, true, false, cond, nat_lt, List, [], ◌∷◌, length, get_or, Option, Some, None, Result, Ok, Err, refl, sym, ap, ◌∙◌, arith, lt-ltb, le-ltb, le-leb, leb-true}
use Rattle.std.specs.List.{list_all}
use Rattle.std.specs.Option.{option_and_then}
use Rattle.std.specs.Result.{OkIff, result_ok}
use Rattle.std.specs.Str.Parse.{ParsesUnsigned, digits_value}
use Rattle.std.proofs.lemmas.Bool.{and_parts, eqb-false}
use Rattle.std.proofs.lemmas.Str.Parse.{IsDigitsTest, IsNumeralModel, numerals_by_value, parse_digits}
use Rattle.someip_texts.specs.Numbers.{is_digit, begins_plain, is_plain, number_in, unless_zero, positive_in}

-- a text of digits
abbrev pub AreDigits : List ℕ → Type 0
AreDigits word = list_all is_digit word ≡ true

tells : IsDigitsTest AreDigits
tells = record {
  empty = refl;
  parts = λ c cs e.
      let k = and_parts (is_digit c) (list_all is_digit cs) e in
      let m = and_parts _ _ k.0 in ((leb-true 48 c m.0, leb-true c 57 m.1), k.1);
  more = λ c cs k e. rw (le-leb 48 c k.0, le-leb c 57 k.1) e;
}

own : IsNumeralModel AreDigits (digits_value 10)
own = numerals_by_value AreDigits tells

nonempty : (word : List ℕ) → begins_plain word ≡ true → 0 < length word
nonempty [] h = cc h
nonempty (c ∷ word) h = omega arith

fitting : {E : Type 0} (r : Result ℕ E) (some : Type 0) (n limit : ℕ) → some → OkIff r (some × (n < limit)) n
    → result_ok r ≡ cond (nat_lt n limit) (Some n) None
fitting (Ok x) some n limit s h = rw (lt-ltb n limit h.0.1, h.1) refl
fitting (Err e) some n limit s h =
    let past : n < limit → ⊥ = λ l. h (s, l) in
    rw (le-ltb n limit (omega (arith, past))) refl

-- what `parse` reads in plain digits is the number that they write
pub parsed : {E : Type 0} (k : ℕ) (word : List ℕ) (r : Result ℕ E) → ParsesUnsigned k 10 word r → is_plain word ≡ true
    → result_ok r ≡ number_in (2 ^ k) word
parsed k word r h plain =
    let parts = and_parts (begins_plain word) (list_all is_digit word) plain in
    rw plain
    (fitting r (0 < length word) (digits_value 10 word) (2 ^ k) (nonempty word parts.0) (parse_digits own k word r h parts.1))

-- ---- decimal texts

parts_of : (plain fits : Bool) (v n : ℕ) → cond (plain && fits) (Some v) None ≡ Some n → (plain ≡ true) × (fits ≡ true) × (v ≡ n)
parts_of true true v n h = (refl, refl, cc h)
parts_of true false v n h = absurd (cc h)
parts_of false fits v n h = absurd (cc h)

leads : (word : List ℕ) → begins_plain word ≡ true → get_or word 0 0 ≡ 48 → length word ≡ 1
leads [] h nought = absurd (cc h)
leads (c ∷ []) h nought = refl
leads (c ∷ d ∷ word) h nought = absurd (let same : not (48 == 48) ≡ true = ap (λ b. not (b == 48)) (sym nought) ∙ h in cc same)

-- a number is told only of its decimal text
pub only_decimal : (limit n : ℕ) (word : List ℕ) → limit ≤ 2 ^ 64 → number_in limit word ≡ Some n → (word ≡ decimal n) × (n < limit)
only_decimal limit n word small h =
    let parts = parts_of (is_plain word) (nat_lt (digits_value 10 word) limit) (digits_value 10 word) n h in
    let both = and_parts (begins_plain word) (list_all is_digit word) parts.0 in
    let fits : digits_value 10 word < limit = ltb-true (digits_value 10 word) limit parts.1 in
    let is = decimal-digits_value own word both.1 (nonempty word both.0) (leads word both.0) (omega (arith, fits, small)) in
    (sym is ∙ ap decimal parts.2, omega (arith, fits, parts.2))

begins : (word : List ℕ) → 0 < length word → (get_or word 0 0 ≡ 48 → length word ≡ 1) → begins_plain word ≡ true
begins [] some lead = absurd (omega (arith, some))
begins (c ∷ []) some lead = refl
begins (c ∷ d ∷ word) some lead = rw (ne_eqb c 48 (λ z. omega (arith, lead z))) refl

first_of_decimal : (n : ℕ) → n < 2 ^ 64 → get_or (decimal n) 0 0 ≡ 48 → length (decimal n) ≡ 1
first_of_decimal zero small nought = ap length (decimal_digit 0 (omega arith))
first_of_decimal (suc n) small nought = absurd (omega (arith, nought, first_decimal (suc n) (omega arith) small))

-- and of each below the limit
pub each_decimal : (limit n : ℕ) → n < limit → limit ≤ 2 ^ 64 → number_in limit (decimal n) ≡ Some n
each_decimal limit n fits small =
    let below : n < 2 ^ 64 = omega (arith, fits, small) in
    let numeral = decimal_is_IsNumeral n below in
    let starts = begins (decimal n) numeral.0.0 (first_of_decimal n below) in
    let all : list_all is_digit (decimal n) ≡ true = digits_decimal own n below in
    let value : digits_value 10 (decimal n) ≡ n = digits_value-decimal own n below in
    rw (starts, all, value, lt-ltb n limit fits) refl

-- which is digits
pub decimal_digits : (n : ℕ) → n < 2 ^ 64 → list_all is_digit (decimal n) ≡ true
decimal_digits n small = digits_decimal own n small

-- ---- numbers that are no zero

unless_zero_is : (m n : ℕ) (zero_is : Bool) → (m == 0) ≡ zero_is → cond zero_is None (Some m) ≡ Some n → (Some m ≡ Some n) × (0 < n)
unless_zero_is m n true is h = absurd (cc h)
unless_zero_is m n false is h =
    let same : m ≡ n = cc h in
    let other : m ≡ 0 → ⊥ = eqb-false m 0 is in
    (h, omega (arith, same, other))

some_positive : (o : Option ℕ) (n : ℕ) → option_and_then unless_zero o ≡ Some n → (o ≡ Some n) × (0 < n)
some_positive None n h = absurd (cc h)
some_positive (Some m) n h = unless_zero_is m n (m == 0) refl h

-- a number that is no zero is told only of its decimal text
pub only_positive : (limit n : ℕ) (word : List ℕ) → limit ≤ 2 ^ 64 → positive_in limit word ≡ Some n → (word ≡ decimal n) × (0 < n) × (n < limit)
only_positive limit n word small h =
    let told = some_positive (number_in limit word) n h in
    let text = only_decimal limit n word small told.0 in
    (text.0, told.1, text.1)

-- and of each below the limit
pub each_positive : (limit n : ℕ) → 0 < n → n < limit → limit ≤ 2 ^ 64 → positive_in limit (decimal n) ≡ Some n
each_positive limit n some fits small =
    let other : n ≡ 0 → ⊥ = λ z. omega (arith, some, z) in
    let kept : unless_zero n ≡ Some n = rw (ne_eqb n 0 other) refl in
    ap (option_and_then unless_zero) (each_decimal limit n fits small) ∙ kept
