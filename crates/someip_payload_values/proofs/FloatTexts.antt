-- Each float has a text that says it: a finite one its exact decimal, which is a whole number of the smallest floats.
use Rattle.std.proofs.Common.{◌≡◌, ℕ, zero, suc, ◌+◌, ◌-◌, ◌*◌, ◌/◌, ◌%◌, ◌^◌, ◌<◌, ◌≤◌, Bool, true, false, not, ◌&&◌, cond, eqb, leb, T, List, [], ◌∷◌, ◌++◌, length, codes, Some, inl, inr, ◌⊎◌, refl, sym, ap, subst, ◌∙◌, arith, append-nil, length-append, le_refl, mul-one, mul_assoc, mul-div_cancel, mod-lt, div-lt_iff_lt-mul, mul_comm, mul-pos, zero-lt-suc, lt_of_lt_of_le, le_of_suc-le-suc, eq-or-lt_of_le, pow_pos, pow_mono, shl_lt, lit<, eq-eqb, eqb-true, false-eqb, ne_eqb}
use Rattle.std.specs.Prelude.{from_bits, ⊤}
use Rattle.std.specs.Char.{digit_value}
use Rattle.std.specs.Fmt.{sign_text}
use Rattle.std.specs.Float.Numeral.{Parts, exponent_text, text_of, IsWellFormed, nearest_float}
use Rattle.std.specs.Str.Parse.{AllDigits, digits_value}
use Rattle.std.proofs.lemmas.Bool.{cases_lt}
use Rattle.std.proofs.lemmas.Float.Parse.{parse_float-text_of, parse_float_on_literals}
use Rattle.fast_float.specs.Parse.{parse_float}
use Rattle.fast_float.proofs.DigitsLemmas.{digits_value-append, is_digit}
use Rattle.fast_float.proofs.Rows.{AllDigits-append}
use Rattle.fast_float.proofs.Patterns.{shape, field_units}
use lib.Ieee.{Float, Format, binary32, binary64, nan, inf, fin, prec, emax, low, up, down, size, odd, round, hid, ones, top, fits, of_bits, of_fields, to_bits, nan_bits}
use lib.Ieee.Bits.{of_bits-fits, of_bits-to_bits}
use lib.Ieee.Exact.{HasValue, odd_sign, round_exact}
use lib.Ieee.Fits.{round-fits, down_pos}
use lib.Ieee.Scale.{round_same}
use Rattle.someip_payload_values.specs.Floats.{Precision, single, double, format_of, nan_text, SaysBits}

-- ---- each number has digits

abbrev Digits : ℕ → Type 0
Digits n = (ds : List ℕ) × (0 < length ds) × AllDigits 10 ds × (digits_value 10 ds ≡ n)

digit_is : (d : ℕ) → d < 10 → digit_value (48 + d) ≡ d
digit_is d small = omega (arith, (is_digit (48 + d) (omega arith) (omega arith)).1)

one_is_digit : (d : ℕ) → d < 10 → AllDigits 10 ((48 + d) ∷ [])
one_is_digit d small = let is = digit_is d small in (omega arith, tt)

one_value : (d : ℕ) → d < 10 → digits_value 10 ((48 + d) ∷ []) ≡ d
one_value d small = let is = digit_is d small in omega arith

one_digit : (d : ℕ) → d < 10 → Digits d
one_digit d small = ((48 + d) ∷ [], omega arith, one_is_digit d small, one_value d small)

-- the digits of a number, of which the last one is told apart
with_last : (n : ℕ) (front last : List ℕ) → length last ≡ 1 → digits_value 10 front ≡ n / 10 → digits_value 10 last ≡ n % 10 → digits_value 10 (front ++ last) ≡ n
with_last n front last one is_front is_last = digits_value-append front last ∙ rw (one, is_front, is_last) (omega arith)

digits_up_to : (most n : ℕ) → n ≤ most → Digits n
digits_up_to zero n le = one_digit n (omega arith)
digits_up_to (suc most) n le = elim (cases_lt n 10) [
  | inl small ↦ one_digit n small
  | inr big ↦
      let front = digits_up_to most (n / 10) (omega arith) in
      let small : n % 10 < 10 = omega arith in
      let last = (48 + n % 10) ∷ [] in (
        front.0 ++ last,
        omega (arith, length-append front.0 last),
        AllDigits-append front.0 last front.2 (one_is_digit (n % 10) small),
        with_last n front.0 last refl front.3 (one_value (n % 10) small),
      )
]

-- ---- so many of the smallest floats, and their exact decimal

abbrev exponent_digits : Format → List ℕ
exponent_digits binary32 = codes "149"
exponent_digits binary64 = codes "1074"

abbrev exact_parts : Format → List ℕ → Parts
exact_parts f ds = record {
  whole = ds;
  point = false;
  fraction = [];
  exponent_negative = true;
  exponent = exponent_digits f;
  len = length (ds ++ exponent_text true (exponent_digits f));
}

all_exponent_digits : (f : Format) → AllDigits 10 (exponent_digits f)
all_exponent_digits binary32 = (omega arith, (omega arith, (omega arith, tt)))
all_exponent_digits binary64 = (omega arith, (omega arith, (omega arith, (omega arith, tt))))

some_exponent_digits : (f : Format) → exponent_digits f ≡ [] → ⊥
some_exponent_digits binary32 e = cc
some_exponent_digits binary64 e = cc

exact_well_formed : (f : Format) (ds : List ℕ) → AllDigits 10 ds → IsWellFormed (exact_parts f ds)
exact_well_formed f ds all = record {
  whole_digits = all;
  fraction_digits = tt;
  exponent_digits = all_exponent_digits f;
  no_point = λ e. refl;
  no_exponent = λ e. absurd (some_exponent_digits f e);
  len_is = refl;
}

tens_are : (f : Format) → 0 + digits_value 10 (exponent_digits f) ≡ low f
tens_are binary32 = refl
tens_are binary64 = refl

five_two_ten : (f : Format) → 5 ^ low f * 2 ^ low f ≡ 10 ^ low f
five_two_ten binary32 = refl
five_two_ten binary64 = refl

some_tens : (f : Format) → 0 < 10 ^ low f
some_tens binary32 = lit< tt
some_tens binary64 = lit< tt

-- the float nearest to that decimal is the one nearest to so many of the smallest floats
exact_is : (f : Format) (s : Bool) (n : ℕ) (ds : List ℕ) → digits_value 10 ds ≡ n * 5 ^ low f → nearest_float f s (exact_parts f ds) ≡ round f s n (2 ^ low f)
exact_is f s n ds is =
    let digits : digits_value 10 (ds ++ []) * 10 ^ 0 ≡ n * 5 ^ low f = mul-one (digits_value 10 (ds ++ [])) ∙ ap (digits_value 10) (append-nil ds) ∙ is in
    let same : n * 5 ^ low f * 2 ^ low f ≡ n * 10 ^ low f = mul_assoc n (5 ^ low f) (2 ^ low f) ∙ ap (λ (x : ℕ). n * x) (five_two_ten f) in
    ap (λ (x : ℕ). round f s x (10 ^ (0 + digits_value 10 (exponent_digits f)))) digits
    ∙ ap (λ (x : ℕ). round f s (n * 5 ^ low f) (10 ^ x)) (tens_are f)
    ∙ round_same f s (n * 5 ^ low f) (10 ^ low f) n (2 ^ low f) (some_tens f) (pow_pos (low f)) same

-- some text is read as so many of the smallest floats
some_exact : (f : Format) (s : Bool) (n : ℕ) → (text : List ℕ) × (parse_float f text ≡ Some (round f s n (2 ^ low f)))
some_exact f s n =
    let ds = digits_up_to (n * 5 ^ low f) (n * 5 ^ low f) (le_refl (n * 5 ^ low f)) in (
      sign_text s ++ text_of (exact_parts f ds.0),
      parse_float-text_of f s (exact_parts f ds.0) (exact_well_formed f ds.0 ds.2) ds.1 ∙ ap Some (exact_is f s n ds.0 ds.3),
    )

-- ---- a finite float is so many of the smallest floats

fields_value : (f : Format) (s : Bool) (x t : ℕ) → x < ones f → HasValue (of_fields f s x t) s (field_units f x t) (2 ^ low f)
unfolding of_fields
fields_value f s zero t below = odd_sign (prec f) s t 0 (low f)
fields_value f s (suc j) t below =
    let not_all : eqb (suc j) (ones f) ≡ false = ne_eqb (suc j) (ones f) (λ e. omega (arith, e)) in
    subst (λ (k : Bool). HasValue (cond k (cond (eqb t 0) (inf s) nan) (odd (prec f) s (hid f + t) j (low f))) s (field_units f (suc j) t) (2 ^ low f))
    (sym not_all) (odd_sign (prec f) s (hid f + t) j (low f))

rounded_value : (f : Format) (s : Bool) (x t : ℕ) → x < ones f → t < hid f → HasValue (round f s (field_units f x t) (2 ^ low f)) s (field_units f x t) (2 ^ low f)
rounded_value f s zero t below small =
    let own = shape f in
    let few : t < 2 ^ prec f = omega arith in
    let within : t * 2 ^ 0 < 2 ^ (low f + suc (emax f)) = lt_of_lt_of_le (shl_lt {a = t} (prec f) 0 few) (pow_mono (omega arith)) in
    round_exact f s (t * 2 ^ 0) (2 ^ low f) t 0 (pow_pos (low f)) few within refl
rounded_value f s (suc j) t below small =
    let own = shape f in
    let few : hid f + t < 2 ^ prec f = omega arith in
    let within : (hid f + t) * 2 ^ j < 2 ^ (low f + suc (emax f)) = lt_of_lt_of_le (shl_lt {a = hid f + t} (prec f) j few) (pow_mono (omega arith)) in
    round_exact f s ((hid f + t) * 2 ^ j) (2 ^ low f) (hid f + t) j (pow_pos (low f)) few within refl

bits_of_value : (f : Format) (x : Float) (s : Bool) (a : ℕ) → HasValue x s a (2 ^ low f)
    → to_bits f x ≡ cond s (top f) 0 + (size a - prec f) * hid f + a / 2 ^ (size a - prec f)
unfolding to_bits
bits_of_value f nan s a v = absurd v
bits_of_value f (inf t) s a v = absurd v
bits_of_value f (fin t m e) s a v =
    let n : m * up e * 2 ^ low f / down e ≡ a = ap (λ (k : ℕ). k / down e) v.1 ∙ mul-div_cancel a (down_pos e) in
    λ i. cond (v.0 i) (top f) 0 + (size (n i) - prec f) * hid f + n i / 2 ^ (size (n i) - prec f)

-- two floats of the format that have one value are one
same_value : (f : Format) (x y : Float) (s : Bool) (a : ℕ) → T (fits f x) → T (fits f y) → HasValue x s a (2 ^ low f) → HasValue y s a (2 ^ low f) → x ≡ y
same_value f x y s a p q v w = sym (of_bits-to_bits f x p) ∙ ap (of_bits f) (bits_of_value f x s a v ∙ sym (bits_of_value f y s a w)) ∙ of_bits-to_bits f y q

-- the fields of some bits
abbrev sign_in : Format → ℕ → Bool
sign_in f b = leb (top f) b

abbrev exponent_in : Format → ℕ → ℕ
exponent_in f b = b % top f / hid f

abbrev digits_in : Format → ℕ → ℕ
digits_in f b = b % hid f

of_fields_of : (f : Format) (b : ℕ) → of_bits f b ≡ of_fields f (sign_in f b) (exponent_in f b) (digits_in f b)
unfolding of_bits
of_fields_of f b = refl

digits_below : (f : Format) (b : ℕ) → digits_in f b < hid f
digits_below f b = mod-lt b (pow_pos (prec f - 1))

exponent_up_to : (f : Format) (b : ℕ) → exponent_in f b < suc (ones f)
exponent_up_to f b =
    (div-lt_iff_lt-mul (pow_pos (prec f - 1))).1
    (subst (λ (a : ℕ). b % top f < a) (mul_comm (hid f) (suc (ones f))) (mod-lt b (mul-pos (pow_pos (prec f - 1)) (zero-lt-suc (ones f)))))

finite_is : (f : Format) (b : ℕ) → exponent_in f b < ones f
    → round f (sign_in f b) (field_units f (exponent_in f b) (digits_in f b)) (2 ^ low f) ≡ of_bits f b
finite_is f b below =
    let s = sign_in f b in
    let x = exponent_in f b in
    let t = digits_in f b in
    let n = field_units f x t in
    same_value f (round f s n (2 ^ low f)) (of_bits f b) s n (round-fits f s n (2 ^ low f)) (of_bits-fits f b)
    (rounded_value f s x t below (digits_below f b))
    (subst (λ (y : Float). HasValue y s n (2 ^ low f)) (sym (of_fields_of f b)) (fields_value f s x t below))

-- ---- infinities

infinity_read : (f : Format) (s : Bool) → parse_float f (sign_text s ++ codes "inf") ≡ Some (inf s)
unfolding parse_float_on_literals
infinity_read f true = refl
infinity_read f false = refl

at_ones : (f : Format) (s : Bool) (x t : ℕ) → x ≡ ones f → eqb t 0 ≡ true → inf s ≡ of_fields f s x t
unfolding of_fields
at_ones f s zero t e none = absurd (omega (arith, e))
at_ones f s (suc x) t e none = rw (eq-eqb (suc x) (ones f) e, none) refl

infinity_is : (f : Format) (b : ℕ) → exponent_in f b ≡ ones f → eqb (digits_in f b) 0 ≡ true → inf (sign_in f b) ≡ of_bits f b
infinity_is f b all none = at_ones f (sign_in f b) (exponent_in f b) (digits_in f b) all none ∙ sym (of_fields_of f b)

-- ---- each float

nan_by : (f : Format) (b : ℕ) (all none : Bool) → eqb (exponent_in f b) (ones f) ≡ all → eqb (digits_in f b) 0 ≡ none → nan_bits f b ≡ (all && not none)
unfolding nan_bits
nan_by f b all none is_all is_none = rw (is_all, is_none) refl

below_ones : (x most : ℕ) → x < suc most → eqb x most ≡ false → x < most
below_ones x most le other = elim (eq-or-lt_of_le (le_of_suc-le-suc le)) [ inl same ↦ absurd (false-eqb x most (sym other) same) | inr lt ↦ lt ]

text_by : (p : Precision) (b : ℕ) (all none : Bool) → eqb (exponent_in (format_of p) b) (ones (format_of p)) ≡ all → eqb (digits_in (format_of p) b) 0 ≡ none
    → (text : List ℕ) × SaysBits p b text
text_by p b true false is_all is_none = (nan_text p b, rw (nan_by (format_of p) b true false is_all is_none) refl)
text_by p b true true is_all is_none =
    let f = format_of p in
    let all : exponent_in f b ≡ ones f = eqb-true (exponent_in f b) (ones f) is_all in (
      sign_text (sign_in f b) ++ codes "inf",
      rw (nan_by f b true true is_all is_none) (infinity_read f (sign_in f b) ∙ ap Some (infinity_is f b all is_none)),
    )
text_by p b false none is_all is_none =
    let f = format_of p in
    let below : exponent_in f b < ones f = below_ones (exponent_in f b) (ones f) (exponent_up_to f b) is_all in
    let exact = some_exact f (sign_in f b) (field_units f (exponent_in f b) (digits_in f b)) in
    (exact.0, rw (nan_by f b false none is_all is_none) (exact.1 ∙ ap Some (finite_is f b below)))

pub some_text : (p : Precision) (bits : ℕ) → (text : List ℕ) × SaysBits p bits text
some_text p bits = text_by p bits (eqb (exponent_in (format_of p) bits) (ones (format_of p))) (eqb (digits_in (format_of p) bits) 0) refl refl
