-- Numbers in fields.
use Rattle.std.proofs.Common.{◌≡◌, ℕ, zero, suc, ◌+◌, ◌-◌, ◌*◌, ◌/◌, ◌%◌, ◌^◌, ◌<◌, ◌≤◌, Bool, true, ltb, List, [], ◌∷◌, ◌++◌, length, get_or, take, drop, refl, sym, ap, ◌∙◌, arith, inl, inr}
use Rattle.std.specs.Prelude.{slice_range, ◌&&◌}
use borrow.Author.Tests.{ltb-true}
use Rattle.std.specs.Int.{w32, to_be_bytes, from_be_bytes}
use Rattle.std.specs.Net.Addr.{segments_of, octets_of}
use Rattle.std.proofs.lemmas.Bool.{cases_lt}
use Rattle.std.proofs.lemmas.List.{drop_more, length-take, length-drop, get_or-drop, get_or-take, get_or_past}
use Rattle.std.proofs.lemmas.List.Folds.{drop_split}
use Rattle.std.proofs.lemmas.Nat.{be_bytes_2, be_bytes_4, from_be_bytes-to_be_bytes_4}
use Rattle.sd_wire.specs.layout.Fields.{IsBytes, number16, number24, number32, field16, field24, field32}

pub IsBytes-drop : (n : ℕ) (bytes : List ℕ) → IsBytes bytes → IsBytes (drop n bytes)
IsBytes-drop n bytes h i = rw get_or-drop (h (n + i))

pub IsBytes-take : (n : ℕ) (bytes : List ℕ) → IsBytes bytes → IsBytes (take n bytes)
IsBytes-take n bytes h i =
    elim (cases_lt i n) [
      | inl lt ↦ rw (get_or-take n bytes i 0 lt) (h i)
      | inr le ↦ rw (get_or_past (take n bytes) i 0 (omega (arith, length-take n bytes))) (omega arith)
    ]

pub IsBytes-range : (bytes : List ℕ) (i n : ℕ) → IsBytes bytes → IsBytes (take n (drop i bytes))
IsBytes-range bytes i n fits = IsBytes-take n (drop i bytes) (IsBytes-drop i bytes fits)

pub length-range : (bytes : List ℕ) (i n : ℕ) → i + n ≤ length bytes → length (take n (drop i bytes)) ≡ n
length-range bytes i n le = omega (arith, length-take n (drop i bytes), length-drop i bytes)

pub length-slice : (bytes : List ℕ) (i j : ℕ) → i ≤ j → j ≤ length bytes → length (slice_range bytes i j) ≡ j - i
length-slice bytes i j le le' = omega (arith, length-take (j - i) (drop i bytes), length-drop i bytes)

-- ---- a field is spelled by its bytes, in front of what stands after them

pub spells2 : (bytes xs : List ℕ) (i n : ℕ) → IsBytes bytes → i + 2 ≤ length bytes → n ≡ field16 bytes i → xs ≡ drop (i + 2) bytes → number16 n ++ xs ≡ drop i bytes
spells2 bytes xs i n fits le is e =
    let two : (i + 2) - i ≡ 2 = omega arith in
    let same : number16 n ≡ slice_range bytes i (i + 2) = be_bytes_2 (slice_range bytes i (i + 2)) n (rw two (length-range bytes i 2 le)) (IsBytes-range bytes i _ fits) is in
    ap (λ (t : List ℕ). number16 n ++ t) e ∙ ap (λ (t : List ℕ). t ++ drop (i + 2) bytes) same ∙ sym (drop_split bytes i (i + 2) (omega arith))

pub spells4 : (bytes xs : List ℕ) (i n : ℕ) → IsBytes bytes → i + 4 ≤ length bytes → n ≡ field32 bytes i → xs ≡ drop (i + 4) bytes → number32 n ++ xs ≡ drop i bytes
spells4 bytes xs i n fits le is e =
    let four : (i + 4) - i ≡ 4 = omega arith in
    let same : number32 n ≡ slice_range bytes i (i + 4) = be_bytes_4 (slice_range bytes i (i + 4)) n (rw four (length-range bytes i 4 le)) (IsBytes-range bytes i _ fits) is in
    ap (λ (t : List ℕ). number32 n ++ t) e ∙ ap (λ (t : List ℕ). t ++ drop (i + 4) bytes) same ∙ sym (drop_split bytes i (i + 4) (omega arith))

pub spells1 : (bytes xs : List ℕ) (i b : ℕ) → i < length bytes → b ≡ get_or bytes i 0 → xs ≡ drop (i + 1) bytes → b ∷ xs ≡ drop i bytes
spells1 bytes xs i b lt is e = ap (λ t. b ∷ t) e ∙ ap (λ x. x ∷ drop (i + 1) bytes) is ∙ sym (drop_more bytes i 0 lt)

-- ---- a number in a field fits it

pub field16_fits : (bytes : List ℕ) (i : ℕ) → IsBytes bytes → field16 bytes i < 2 ^ 16
field16_fits bytes i fits = let r = IsBytes-range bytes i ((i + 2) - i) fits in omega (arith, r 0, r 1)

pub field24_fits : (bytes : List ℕ) (i : ℕ) → IsBytes bytes → field24 bytes i < 2 ^ 24
field24_fits bytes i fits = let r = IsBytes-range bytes i ((i + 3) - i) fits in omega (arith, r 0, r 1, r 2)

pub field32_fits : (bytes : List ℕ) (i : ℕ) → IsBytes bytes → field32 bytes i < 2 ^ 32
field32_fits bytes i fits = let r = IsBytes-range bytes i ((i + 4) - i) fits in omega (arith, r 0, r 1, r 2, r 3)

IsBytes-cons : (b : ℕ) (bytes : List ℕ) → b < 256 → IsBytes bytes → IsBytes (b ∷ bytes)
IsBytes-cons b bytes lt fits zero = lt
IsBytes-cons b bytes lt fits (suc i) = fits i

pub spells3 : (bytes xs : List ℕ) (i n : ℕ) → IsBytes bytes → i + 3 ≤ length bytes → n ≡ field24 bytes i → xs ≡ drop (i + 3) bytes → number24 n ++ xs ≡ drop i bytes
spells3 bytes xs i n fits le is e =
    let three : (i + 3) - i ≡ 3 = omega arith in
    let part : List ℕ = slice_range bytes i (i + 3) in
    let len : length part ≡ 3 = rw three (length-range bytes i 3 le) in
    let whole : to_be_bytes w32 n ≡ 0 ∷ part = be_bytes_4 (0 ∷ part) n (omega (arith, len)) (IsBytes-cons 0 part (omega arith) (IsBytes-range bytes i _ fits)) is in
    let same : number24 n ≡ part = ap (drop 1) whole in
    ap (λ (t : List ℕ). number24 n ++ t) e ∙ ap (λ (t : List ℕ). t ++ drop (i + 3) bytes) same ∙ sym (drop_split bytes i (i + 3) (omega arith))

-- ---- a number is read from its bytes

pub field24-spelled : (n : ℕ) → n < 2 ^ 24 → from_be_bytes w32 (0 ∷ number24 n) ≡ n
field24-spelled n lt =
    let zero_first : to_be_bytes w32 n ≡ 0 ∷ number24 n = let none : n / 16777216 % 256 ≡ 0 = omega (arith, lt) in ap (λ (b : ℕ). b ∷ number24 n) none in
    ap (from_be_bytes w32) (sym zero_first) ∙ from_be_bytes-to_be_bytes_4 n (omega (arith, lt))

-- ---- the segments of an IPv6 address and their octets

pub segments_of-octets_of : (segments : List ℕ) → segments_of (octets_of segments) ≡ segments
segments_of-octets_of [] = refl
segments_of-octets_of (s ∷ segments) =
    let one : s / 256 * 256 + s % 256 ≡ s = omega arith in
    ap (λ (x : ℕ). x ∷ segments_of (octets_of segments)) one ∙ ap (λ (t : List ℕ). s ∷ t) (segments_of-octets_of segments)

pub length-octets_of : (segments : List ℕ) → length (octets_of segments) ≡ 2 * length segments
length-octets_of [] = refl
length-octets_of (s ∷ segments) = omega (arith, length-octets_of segments)

-- n segments of 16 bits, whose octets are these
pub record AreSegments (n : ℕ) (octets : List ℕ) : Type 0 where
  pub length : length (segments_of octets) ≡ n
  pub fits : (i : ℕ) → get_or (segments_of octets) i 0 < 2 ^ 16
  pub back : octets_of (segments_of octets) ≡ octets

fits_segment : (a b : ℕ) (segments : List ℕ) → a < 256 → b < 256 → ((i : ℕ) → get_or segments i 0 < 2 ^ 16) → (i : ℕ) → get_or ((a * 256 + b) ∷ segments) i 0 < 2 ^ 16
fits_segment a b segments la lb rest zero = omega (arith, la, lb)
fits_segment a b segments la lb rest (suc i) = rest i

pub are_segments : (n : ℕ) (octets : List ℕ) → length octets ≡ 2 * n → IsBytes octets → AreSegments n octets
are_segments zero [] is fits = record { length = refl; fits = λ i. omega arith; back = refl }
are_segments zero (a ∷ octets) is fits = absurd (omega (arith, is))
are_segments (suc n) [] is fits = absurd (omega (arith, is))
are_segments (suc n) (a ∷ []) is fits = absurd (omega (arith, is))
are_segments (suc n) (a ∷ b ∷ octets) is fits =
    let rest = are_segments n octets (omega (arith, is)) (λ i. fits (suc (suc i))) in
    let la : a < 256 = fits 0 in
    let lb : b < 256 = fits 1 in
    let high : (a * 256 + b) / 256 ≡ a = omega (arith, la, lb) in
    let low : (a * 256 + b) % 256 ≡ b = omega (arith, la, lb) in
    record {
      length = omega (arith, rest.length);
      fits = fits_segment a b (segments_of octets) la lb rest.fits;
      back = rw (high, low) (ap (λ (t : List ℕ). a ∷ b ∷ t) rest.back);
    }

-- ---- numbers that are written out

abbrev pub are_bytes : List ℕ → Bool
are_bytes [] = true
are_bytes (b ∷ bytes) = ltb b 256 && are_bytes bytes

pub IsBytes-literal : (bytes : List ℕ) → are_bytes bytes ≡ true → IsBytes bytes
IsBytes-literal [] is i = omega arith
IsBytes-literal (b ∷ bytes) is zero = ltb-true b 256 (grind arith)
IsBytes-literal (b ∷ bytes) is (suc i) = IsBytes-literal bytes (grind arith) i
