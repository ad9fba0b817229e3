-- A decimal number at the front of a text is the one that is read there.
use Rattle.std.proofs.Common.{◌≡◌, ℕ, zero, suc, ◌+◌, ◌-◌, ◌*◌, ◌/◌, ◌%◌, ◌<◌, ◌≤◌, ◌^◌, List, [], ◌∷◌, ◌++◌, length, get_or, take, drop, slice_range, false, refl, sym, ap, subst, ◌∙◌, ⊎_elim, arith}
use Rattle.std.specs.Fmt.{decimal}
use Rattle.std.proofs.lemmas.Bool.{cases_lt}
use Rattle.std.proofs.lemmas.Bool.Decides.{nat_tests}
use Rattle.std.proofs.lemmas.Fmt.{decimal_digit, decimal_step, decimal_by_steps, decimal_nonempty, first_decimal, decimal_injective}
use Rattle.std.proofs.lemmas.List.{length-append, length-take, length-drop, get_or_append_left, get_or_at, get_or-drop, get_or-take, take-append-le, take_at, take_all, take_more}
use Rattle.someip_payload_values.specs.Check.{is_first}
use Rattle.someip_payload.specs.ShapeText.{IsDigit, BeginsNoName}

-- what is known of the digits of a number: all are digits, and each front is a number that is not larger
record DecimalParts (n : ℕ) (ds : List ℕ) : Type 0 where
  pub is : ds ≡ decimal n
  pub digits : (i : ℕ) → i < length ds → IsDigit (get_or ds i 0)
  pub fronts : (k : ℕ) → 0 < k → k ≤ length ds → (m : ℕ) × (m ≤ n) × (take k ds ≡ decimal m)

one_digit : (n : ℕ) → n < 10 → DecimalParts n ((48 + n) ∷ [])
one_digit n lt = record { is = sym (decimal_digit n lt); digits = digits; fronts = fronts }
  where
    digits : (i : ℕ) → i < 1 → IsDigit (get_or ((48 + n) ∷ []) i 0)
    digits zero le = (omega arith, omega arith)
    digits (suc i) le = absurd (omega (arith, le))

    fronts : (k : ℕ) → 0 < k → k ≤ 1 → (m : ℕ) × (m ≤ n) × (take k ((48 + n) ∷ []) ≡ decimal m)
    fronts k some le = let all : 1 ≤ k = omega (arith, some) in (n, omega arith, take_all k ((48 + n) ∷ []) all ∙ sym (decimal_digit n lt))

more_digits : (n : ℕ) (ds : List ℕ) → 10 ≤ n → n < 2 ^ 64 → DecimalParts (n / 10) ds → DecimalParts n (ds ++ (48 + n % 10) ∷ [])
more_digits n ds le small h = record { is = is; digits = digits; fronts = fronts }
  where
    is : ds ++ (48 + n % 10) ∷ [] ≡ decimal n
    is = ap (λ (t : List ℕ). t ++ (48 + n % 10) ∷ []) h.is ∙ sym (decimal_step n le small)

    len : length (ds ++ (48 + n % 10) ∷ []) ≡ length ds + 1
    len = length-append ds ((48 + n % 10) ∷ [])

    digits : (i : ℕ) → i < length (ds ++ (48 + n % 10) ∷ []) → IsDigit (get_or (ds ++ (48 + n % 10) ∷ []) i 0)
    digits i lt = ⊎_elim (λ inside. rw (get_or_append_left ds ((48 + n % 10) ∷ []) 0 i inside) (h.digits i inside)) (λ last. at_end (omega (arith, lt, last, len))) (cases_lt i (length ds))
      where
        at_end : length ds ≡ i → IsDigit (get_or (ds ++ (48 + n % 10) ∷ []) i 0)
        at_end end = rw (get_or_at ds (48 + n % 10) [] 0 i end) (omega arith, omega arith)

    fronts : (k : ℕ) → 0 < k → k ≤ length (ds ++ (48 + n % 10) ∷ []) → (m : ℕ) × (m ≤ n) × (take k (ds ++ (48 + n % 10) ∷ []) ≡ decimal m)
    fronts k some within = ⊎_elim shorter whole (cases_lt (length ds) k)
      where
        shorter : length ds < k → (m : ℕ) × (m ≤ n) × (take k (ds ++ (48 + n % 10) ∷ []) ≡ decimal m)
        shorter lt = (n, omega arith, take_all k (ds ++ (48 + n % 10) ∷ []) (omega (arith, len, lt)) ∙ is)

        whole : k ≤ length ds → (m : ℕ) × (m ≤ n) × (take k (ds ++ (48 + n % 10) ∷ []) ≡ decimal m)
        whole inside =
            let front = h.fronts k some inside in
            (front.0, omega (arith, front.1), take-append-le k ds ((48 + n % 10) ∷ []) inside ∙ front.2)

decimal_parts : (n : ℕ) → n < 2 ^ 64 → DecimalParts n (decimal n)
decimal_parts n small = decimal_by_steps (λ k ds. k < 2 ^ 64 → DecimalParts k ds) (λ k lt fits. one_digit k lt) (λ k ds le rest fits. more_digits k ds le fits (rest (omega arith))) n small small

-- a digit begins no name
no_first : (b : ℕ) → IsDigit b → is_first b ≡ false
no_first b digit = grind (arith, nat_tests)

digit_first : (ds tail rest : List ℕ) → 0 < length ds → IsDigit (get_or ds 0 0) → BeginsNoName ((ds ++ tail) ++ rest)
digit_first [] tail rest some digit = absurd (omega arith)
digit_first (d ∷ ds) tail rest some digit = no_first d digit

pub number_first : (n : ℕ) (tail rest : List ℕ) → n < 2 ^ 64 → BeginsNoName ((decimal n ++ tail) ++ rest)
number_first n tail rest small = digit_first (decimal n) tail rest (decimal_nonempty n small) ((decimal_parts n small).digits 0 (decimal_nonempty n small))

-- a number whose digits are those of another one and one more
same_snoc : (xs ys : List ℕ) (a b : ℕ) → xs ++ a ∷ [] ≡ ys ++ b ∷ [] → (xs ≡ ys) × (a ≡ b)
same_snoc [] [] a b is = (refl, cc)
same_snoc [] (y ∷ ys) a b is = absurd (omega (arith, ap length is, length-append ys (b ∷ [])))
same_snoc (x ∷ xs) [] a b is = absurd (omega (arith, ap length is, length-append xs (a ∷ [])))
same_snoc (x ∷ xs) (y ∷ ys) a b is =
    let tail : xs ++ a ∷ [] ≡ ys ++ b ∷ [] = cc in
    let head : x ≡ y = cc in
    let rest = same_snoc xs ys a b tail in
    (λ i. head i ∷ rest.0 i, rest.1)

value_of_digits : (n m d : ℕ) → n < 2 ^ 64 → m < 2 ^ 64 → d < 10 → decimal n ≡ decimal m ++ (48 + d) ∷ [] → n ≡ m * 10 + d
value_of_digits n m d small less small_digit is = ⊎_elim short long (cases_lt n 10)
  where
    short : n < 10 → n ≡ m * 10 + d
    short lt = absurd (omega (arith, ap length (decimal_digit n lt), ap length is, length-append (decimal m) ((48 + d) ∷ []), decimal_nonempty m less))

    long : 10 ≤ n → n ≡ m * 10 + d
    long le =
        let parts = same_snoc (decimal (n / 10)) (decimal m) (48 + n % 10) (48 + d) (sym (decimal_step n le small) ∙ is) in
        let high : n / 10 ≡ m = decimal_injective (n / 10) m (omega (arith, small)) less parts.0 in
        let low : n % 10 ≡ d = omega (arith, parts.1) in
        omega (arith, high, low)

-- ---- a number n at the front of the bytes, after which no digit stands

module _ (n b : ℕ) (rest bytes : List ℕ) (small : n < 2 ^ 64) (stop : IsDigit b → ⊥) (is : bytes ≡ decimal n ++ b ∷ rest) where
  fits : n < 2 ^ 64
  fits = omega (arith, small)

  behind : get_or bytes (length (decimal n)) 0 ≡ b
  behind = ap (λ (t : List ℕ). get_or t (length (decimal n)) 0) is ∙ get_or_at (decimal n) b rest 0 (length (decimal n)) refl

  inside : (i : ℕ) → i < length (decimal n) → get_or bytes i 0 ≡ get_or (decimal n) i 0
  inside i lt = ap (λ (t : List ℕ). get_or t i 0) is ∙ get_or_append_left (decimal n) (b ∷ rest) 0 i lt

  -- digits at the front end where the number does, or before
  within : (m k : ℕ) → m < 2 ^ 64 → length (decimal m) ≡ k → take k bytes ≡ decimal m → k ≤ length (decimal n)
  within m k less len front = ⊎_elim (λ past. absurd (beyond past)) (λ le. le) (cases_lt (length (decimal n)) k)
    where
      beyond : length (decimal n) < k → ⊥
      beyond past =
          let i : ℕ = length (decimal n) in
          let digit : IsDigit (get_or (decimal m) i 0) = (decimal_parts m (omega (arith, less))).digits i (omega (arith, past, len)) in
          let same : get_or (decimal m) i 0 ≡ b = ap (λ (t : List ℕ). get_or t i 0) (sym front) ∙ get_or-take k bytes i 0 past ∙ behind in
          stop (subst IsDigit same digit)

  -- no digit follows: it is the number
  pub is_number : (m k : ℕ) → m < 2 ^ 64 → length (decimal m) ≡ k → take k bytes ≡ decimal m → (k < length bytes → IsDigit (get_or bytes k 0) → ⊥) → (m ≡ n) × (k ≡ length (decimal n))
  is_number m k less len front last = ⊎_elim (λ short. absurd (before short)) (λ le. whole (omega (arith, within m k less len front, le))) (cases_lt k (length (decimal n)))
    where
      before : k < length (decimal n) → ⊥
      before short =
          let digit : IsDigit (get_or (decimal n) k 0) = (decimal_parts n fits).digits k short in
          last (omega (arith, short, ap length is, length-append (decimal n) (b ∷ rest))) (subst IsDigit (sym (inside k short)) digit)

      whole : k ≡ length (decimal n) → (m ≡ n) × (k ≡ length (decimal n))
      whole same =
          let text : decimal m ≡ decimal n = sym front ∙ ap (take k) is ∙ take_at (decimal n) (b ∷ rest) k (sym same) in
          (decimal_injective m n (omega (arith, less)) fits text, same)

  -- a first byte that is no digit
  pub has_digit : (0 < length bytes → IsDigit (get_or bytes 0 0) → ⊥) → ⊥
  has_digit last =
      let some = decimal_nonempty n fits in
      let digit : IsDigit (get_or (decimal n) 0 0) = (decimal_parts n fits).digits 0 some in
      last (omega (arith, some, ap length is, length-append (decimal n) (b ∷ rest))) (subst IsDigit (sym (inside 0 some)) digit)

  -- a zero with a digit after it
  pub no_leading_zero : (k : ℕ) → 0 < k → length (decimal 0) ≡ k → take k bytes ≡ decimal 0 → IsDigit (get_or bytes k 0) → ⊥
  no_leading_zero k some len front digit = ⊎_elim above none (cases_lt 0 n)
    where
      above : 0 < n → ⊥
      above positive =
          let high = first_decimal n positive fits in
          let first : get_or bytes 0 0 ≡ get_or (decimal n) 0 0 = inside 0 (decimal_nonempty n fits) in
          let zero_first : get_or bytes 0 0 ≡ get_or (decimal 0) 0 0 = sym (get_or-take k bytes 0 0 some) ∙ ap (λ (t : List ℕ). get_or t 0 0) front in
          let is_48 : get_or (decimal 0) 0 0 ≡ 48 = ap (λ (t : List ℕ). get_or t 0 0) (decimal_digit 0 (omega arith)) in
          omega (arith, high, first, zero_first, is_48)

      none : n ≤ 0 → ⊥
      none le =
          let no : n ≡ 0 = omega (arith, le) in
          let same : k ≡ length (decimal n) = sym len ∙ ap (λ j. length (decimal j)) (sym no) in
          stop (subst IsDigit (ap (λ j. get_or bytes j 0) same ∙ behind) digit)

  -- a digit that makes the number too large
  pub not_too_large : (m k d : ℕ) → 0 < m → m < 2 ^ 64 → d < 10 → n < m * 10 + d → length (decimal m) ≡ k → take k bytes ≡ decimal m → k < length bytes → get_or bytes k 0 ≡ 48 + d → ⊥
  not_too_large m k d some less small_digit large len front lt digit = ⊎_elim inner (λ le. ends (omega (arith, within m k less len front, le))) (cases_lt k (length (decimal n)))
    where
      is_digit : IsDigit (get_or bytes k 0)
      is_digit = (omega (arith, digit), omega (arith, digit, small_digit))

      ends : k ≡ length (decimal n) → ⊥
      ends same = stop (subst IsDigit (ap (λ j. get_or bytes j 0) same ∙ behind) is_digit)

      inner : k < length (decimal n) → ⊥
      inner short =
          let parts = (decimal_parts n fits).fronts (k + 1) (omega arith) (omega (arith, short)) in
          let longer : take (k + 1) bytes ≡ decimal m ++ (48 + d) ∷ [] = rw (take_more bytes k 0 lt, front, digit) refl in
          let of_n : take (k + 1) bytes ≡ take (k + 1) (decimal n) = ap (take (k + 1)) is ∙ take-append-le (k + 1) (decimal n) (b ∷ rest) (omega (arith, short)) in
          let same : decimal parts.0 ≡ decimal m ++ (48 + d) ∷ [] = sym parts.2 ∙ sym of_n ∙ longer in
          let value = value_of_digits parts.0 m d (omega (arith, parts.1, small)) less small_digit same in
          omega (arith, value, parts.1, large)

-- ---- the same between two places of a text

module _ (text : List ℕ) (at end n b : ℕ) (rest : List ℕ) (small : n < 2 ^ 64) (stop : IsDigit b → ⊥) (is : drop at text ≡ decimal n ++ b ∷ rest) (le : at ≤ end) (bound : end ≤ length text) where
  same_place : at + (end - at) ≡ end
  same_place = omega (arith, le)

  here : get_or (drop at text) (end - at) 0 ≡ get_or text end 0
  here = get_or-drop at text (end - at) 0 ∙ ap (λ i. get_or text i 0) same_place

  digits_len : (m : ℕ) → slice_range text at end ≡ decimal m → length (decimal m) ≡ end - at
  digits_len m front = omega (arith, ap length front, length-take (end - at) (drop at text), length-drop at text, le, bound)

  pub leading_zero_at : (m d : ℕ) → at < end → m ≡ 0 → slice_range text at end ≡ decimal m → d < 10 → get_or text end 0 ≡ 48 + d → ⊥
  leading_zero_at m d lt none front small_digit digit =
      let zero_front : slice_range text at end ≡ decimal 0 = front ∙ ap (λ k. decimal k) none in
      let is_digit : IsDigit (get_or (drop at text) (end - at) 0) = (omega (arith, here, digit), omega (arith, here, digit, small_digit)) in
      no_leading_zero n b rest (drop at text) small stop is (end - at) (omega (arith, lt)) (digits_len 0 zero_front) zero_front is_digit

  pub too_large_at : (m d : ℕ) → 0 < m → m < 2 ^ 64 → slice_range text at end ≡ decimal m → d < 10 → get_or text end 0 ≡ 48 + d → end < length text → n < m * 10 + d → ⊥
  too_large_at m d some less front small_digit digit inside_text large =
      not_too_large n b rest (drop at text) small stop is m (end - at) d some less small_digit large (digits_len m front) front (omega (arith, le, inside_text, length-drop at text)) (here ∙ digit)

  pub no_number_at : end ≡ at → (at < length text → IsDigit (get_or text at 0) → ⊥) → ⊥
  no_number_at same last =
      let first : get_or (drop at text) 0 0 ≡ get_or text at 0 = get_or-drop at text 0 0 ∙ ap (λ i. get_or text i 0) (omega arith) in
      has_digit n b rest (drop at text) small stop is (λ lt d. last (omega (arith, lt, length-drop at text)) (subst IsDigit first d))

  pub number_is : (m : ℕ) → m < 2 ^ 64 → slice_range text at end ≡ decimal m → (end < length text → IsDigit (get_or text end 0) → ⊥) → (m ≡ n) × (end ≡ at + length (decimal n))
  number_is m less front last =
      let read = is_number n b rest (drop at text) small stop is m (end - at) less (digits_len m front) front (λ lt d. last (omega (arith, lt, le, length-drop at text)) (subst IsDigit here d)) in
      (read.0, omega (arith, le, read.1))

-- ---- what a number begins with

-- its first digit, where it stands in a text
first_there : (text tail : List ℕ) (at n : ℕ) → n < 2 ^ 64 → drop at text ≡ decimal n ++ tail → get_or text at 0 ≡ get_or (decimal n) 0 0
first_there text tail at n small is =
    let here : get_or (drop at text) 0 0 ≡ get_or text at 0 = get_or-drop at text 0 0 ∙ ap (λ i. get_or text i 0) (omega arith) in
    sym here ∙ ap (λ (t : List ℕ). get_or t 0 0) is ∙ get_or_append_left (decimal n) tail 0 0 (decimal_nonempty n small)

-- a zero, of a number above it
pub no_zero_first : (text tail : List ℕ) (at n : ℕ) → 0 < n → n < 2 ^ 64 → drop at text ≡ decimal n ++ tail → get_or text at 0 ≡ 48 → ⊥
no_zero_first text tail at n some small is zero_first = let high = first_decimal n some small in omega (arith, high, first_there text tail at n small is, zero_first)

-- no minus sign
pub no_minus_first : (text tail : List ℕ) (at n : ℕ) → n < 2 ^ 64 → drop at text ≡ decimal n ++ tail → get_or text at 0 ≡ 45 → ⊥
no_minus_first text tail at n small is minus =
    let digit = (decimal_parts n small).digits 0 (decimal_nonempty n small) in
    omega (arith, digit.0, first_there text tail at n small is, minus)
