-- What decimals of a second write.
use Rattle.std.proofs.Common.{◌≡◌, ◌&&◌, ℕ, zero, suc, ◌+◌, ◌-◌, ◌*◌, ◌^◌, ◌<◌, ◌≤◌, true, nat_le, List, [], ◌∷◌, length, Some, Result, Ok, Err, refl, sym, ap, subst, ◌∙◌, arith, le-leb, leb-true}
use Rattle.std.specs.List.{list_all}
use Rattle.std.specs.Result.{OkIff, result_ok}
use Rattle.std.specs.Str.Parse.{AllDigits, ParsesUnsigned, digits_value}
use Rattle.std.proofs.lemmas.Bool.{and_parts}
use Rattle.std.proofs.lemmas.Int.Digits.{digits_value-lt}
use Rattle.std.proofs.lemmas.Nat.{pow-add}
use Rattle.std.proofs.Math.Nat.{le-mul_of_pos_right, mul-le-mul_right}
use Rattle.std.proofs.lemmas.Str.Parse.{IsDigitsTest, IsNumeralModel, numerals_by_value, parse_digits, tells_digits}
use Rattle.someip_texts.specs.Numbers.{is_digit}
use Rattle.someipctl_recordings.specs.Choice.{are_decimals}

-- a text of digits
abbrev AreDigits : List ℕ → Type 0
AreDigits word = list_all is_digit word ≡ true

tells : IsDigitsTest AreDigits
tells = record {
  empty = refl;
  parts = λ c cs e.
      let k = and_parts (is_digit c) (list_all is_digit cs) e in
      let m = and_parts _ _ k.0 in ((leb-true 48 c m.0, leb-true c 57 m.1), k.1);
  more = λ c cs k e. rw (le-leb 48 c k.0, le-leb c 57 k.1) e;
}

own : IsNumeralModel AreDigits (digits_value 10)
own = numerals_by_value AreDigits tells

to_all : (word : List ℕ) → AreDigits word → AllDigits 10 word
to_all [] e = IsDigitsTest.empty tells_digits
to_all (c ∷ cs) e = let k = IsDigitsTest.parts tells c cs e in IsDigitsTest.more tells_digits c cs k.0 (to_all cs k.1)

-- one to nine digits
record Decimals (word : List ℕ) : Type 0 where
  some : 1 ≤ length word
  few : length word ≤ 9
  digits : AreDigits word

decimals : (word : List ℕ) → are_decimals word ≡ true → Decimals word
decimals word is =
    let both = and_parts (nat_le 1 (length word) && nat_le (length word) 9) (list_all is_digit word) is in
    let ends = and_parts (nat_le 1 (length word)) (nat_le (length word) 9) both.0 in
    record { some = leb-true 1 (length word) ends.0; few = leb-true (length word) 9 ends.1; digits = both.1 }

below : (n v : ℕ) → n ≤ 9 → v < 10 ^ n → v * 10 ^ (9 - n) ≤ 10 ^ 9
below n v few lt =
    let all : n + (9 - n) ≡ 9 = omega (arith, few) in
    let most : v ≤ 10 ^ n = omega (arith, lt) in
    subst (λ p. v * 10 ^ (9 - n) ≤ p) (sym (pow-add 10 n (9 - n)) ∙ ap (λ e. 10 ^ e) all) (mul-le-mul_right (10 ^ (9 - n)) most)

-- their nanoseconds fit
pub decimals_fit : (word : List ℕ) → are_decimals word ≡ true → digits_value 10 word * 10 ^ (9 - length word) < 2 ^ 32
decimals_fit word is =
    let d = decimals word is in
    let most = below (length word) (digits_value 10 word) d.few (digits_value-lt 10 word (to_all word d.digits)) in
    omega (arith, most)

some_power : (k : ℕ) → 0 < 10 ^ k
some_power zero = omega arith
some_power (suc k) = let before = some_power k in let next : 10 ^ suc k ≡ 10 ^ k * 10 = pow_next k in omega (arith, before, next)
  where
    one_more : (k : ℕ) → suc k ≡ k + 1
    one_more k = omega arith

    pow_next : (k : ℕ) → 10 ^ suc k ≡ 10 ^ k * 10
    pow_next k = ap (λ e. 10 ^ e) (one_more k) ∙ pow-add 10 k 1

fits : (word : List ℕ) → Decimals word → digits_value 10 word < 2 ^ 32
fits word d = below_all (length word) (digits_value 10 word) d.few (digits_value-lt 10 word (to_all word d.digits))
  where
    below_all : (n v : ℕ) → n ≤ 9 → v < 10 ^ n → v < 2 ^ 32
    below_all n v few lt =
        let least : v ≤ v * 10 ^ (9 - n) = le-mul_of_pos_right v (some_power (9 - n)) in
        let most = below n v few lt in
        omega (arith, least, most)

-- they are read as the number that they write
pub decimals_read : {E : Type 0} (word : List ℕ) (r : Result ℕ E) → ParsesUnsigned 32 10 word r → are_decimals word ≡ true → result_ok r ≡ Some (digits_value 10 word)
decimals_read word r parses is =
    let d = decimals word is in
    told r (parse_digits own 32 word r parses d.digits) d
  where
    told : {E : Type 0} (r : Result ℕ E) → OkIff r ((0 < length word) × (digits_value 10 word < 2 ^ 32)) (digits_value 10 word) → Decimals word → result_ok r ≡ Some (digits_value 10 word)
    told (Ok x) given d = ap Some given.1
    told (Err e) given d = absurd (given (omega (arith, d.some), fits word d))
