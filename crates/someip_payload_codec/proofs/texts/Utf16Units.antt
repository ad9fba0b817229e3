-- Units of UTF-16: as bytes, and as characters.
use Rattle.std.proofs.Common.{◌≡◌, ◌⊎◌, inl, inr, ℕ, zero, suc, ◌+◌, ◌-◌, ◌*◌, ◌/◌, ◌%◌, ◌^◌, ◌<◌, ◌≤◌, Bool, true, false, cond, ltb, leb, ◌&&◌, not, List, [], ◌∷◌, ◌++◌, length, map, get_or, Option, Some, None, refl, ap, append_assoc, arith}
use Rattle.std.specs.Prelude.{flat_map, is_some, unwrap_or}
use Rattle.std.specs.List.{list_any}
use Rattle.std.specs.Char.Escape.{encode_utf16}
use Rattle.std.specs.Char.Utf16.{utf16_chars, has_unpaired_surrogate, utf16_lossy_chars, lone_unit_char, surrogate_pair_char, is_high_surrogate, is_low_surrogate}
use lib.Utf8.{scalar, scalars, scalar_cases, scalar_fits, low_scalar}
use Rattle.std.proofs.lemmas.Str.{utf16_chars-nil, utf16_chars_lone, utf16_chars_pair}
use Rattle.std.proofs.lemmas.Bool.{cases_lt, and_parts, leb-true, ltb-true, lt-ltb, le-ltb, le-leb, lt-leb}
use Rattle.someip_payload_values.specs.Texts.{utf16_mark, unit_bytes, units_of_text}
use Rattle.someip_payload_codec.specs.Reading.{unit_of, units_of}
use Rattle.someip_payload_codec.proofs.parts.Parts.{IsBytes}

-- ---- bytes of units

pub record IsUnits (us : List ℕ) : Type 0 where
  pub each : (i : ℕ) → get_or us i 0 < 2 ^ 16

pub tail_units : (u : ℕ) (us : List ℕ) → IsUnits (u ∷ us) → IsUnits us
tail_units u us h = record { each = λ i. h.each (suc i) }

tail_bytes : (a b : ℕ) (bytes : List ℕ) → IsBytes (a ∷ b ∷ bytes) → IsBytes bytes
tail_bytes a b bytes h = record { each = λ i. h.each (suc (suc i)) }

units_one : (big : Bool) (u : ℕ) (rest : List ℕ) → u < 2 ^ 16 → units_of big (unit_bytes big u ++ rest) ≡ u ∷ units_of big rest
unfolding units_of
units_one true u rest lt = ap (λ (x : ℕ). x ∷ units_of true rest) (omega arith)
units_one false u rest lt = ap (λ (x : ℕ). x ∷ units_of false rest) (omega arith)

pub units_short : (big : Bool) (bytes : List ℕ) → length bytes ≤ 1 → units_of big bytes ≡ []
unfolding units_of
units_short big [] h = refl
units_short big (a ∷ []) h = refl
units_short big (a ∷ b ∷ bytes) h = absurd (omega arith)

-- units as bytes, and as units again
pub units_again : (big : Bool) (us extra : List ℕ) → IsUnits us → length extra ≤ 1 → units_of big (flat_map (unit_bytes big) us ++ extra) ≡ us
units_again big [] extra fits short = units_short big extra short
units_again big (u ∷ us) extra fits short =
    let parts : (unit_bytes big u ++ flat_map (unit_bytes big) us) ++ extra ≡ unit_bytes big u ++ (flat_map (unit_bytes big) us ++ extra) = append_assoc (unit_bytes big u) (flat_map (unit_bytes big) us) extra in
    rw (parts, units_one big u (flat_map (unit_bytes big) us ++ extra) (fits.each 0)) (ap (λ (x : List ℕ). u ∷ x) (units_again big us extra (tail_units u us fits) short))

bytes_one : (big : Bool) (a b : ℕ) → a < 256 → b < 256 → unit_bytes big (unit_of big a b) ≡ a ∷ b ∷ []
bytes_one true a b p q =
    let high : (a * 256 + b) / 256 % 256 ≡ a = omega arith in
    let low : (a * 256 + b) % 256 ≡ b = omega arith in
    rw (high, low) refl
bytes_one false a b p q =
    let high : (b * 256 + a) / 256 % 256 ≡ b = omega arith in
    let low : (b * 256 + a) % 256 ≡ a = omega arith in
    rw (high, low) refl

-- bytes as units, and as bytes again
pub units_split : (big : Bool) (bytes : List ℕ) → IsBytes bytes → (extra : List ℕ) × (length extra ≤ 1) × (bytes ≡ flat_map (unit_bytes big) (units_of big bytes) ++ extra)
unfolding units_of
units_split big [] fits = ([], omega arith, refl)
units_split big (a ∷ []) fits = (a ∷ [], omega arith, refl)
units_split big (a ∷ b ∷ bytes) fits =
    let (extra, short, e) = units_split big bytes (tail_bytes a b bytes fits) in
    let two : unit_bytes big (unit_of big a b) ≡ a ∷ b ∷ [] = bytes_one big a b (fits.each 0) (fits.each 1) in
    (extra, short, rw two (ap (λ (x : List ℕ). a ∷ b ∷ x) e))

unit_below : (big : Bool) (a b : ℕ) → a < 256 → b < 256 → unit_of big a b < 2 ^ 16
unit_below true a b p q = omega arith
unit_below false a b p q = omega arith

each_below : (u : ℕ) (us : List ℕ) → u < 2 ^ 16 → IsUnits us → (i : ℕ) → get_or (u ∷ us) i 0 < 2 ^ 16
each_below u us lt fits zero = lt
each_below u us lt fits (suc i) = fits.each i

pub units_fit : (big : Bool) (bytes : List ℕ) → IsBytes bytes → IsUnits (units_of big bytes)
unfolding units_of
units_fit big [] fits = record { each = λ i. omega arith }
units_fit big (a ∷ []) fits = record { each = λ i. omega arith }
units_fit big (a ∷ b ∷ bytes) fits =
    record { each = each_below (unit_of big a b) (units_of big bytes) (unit_below big a b (fits.each 0) (fits.each 1)) (units_fit big bytes (tail_bytes a b bytes fits)) }

-- the units of an even number of bytes come first
pub units_append : (big : Bool) (front rest : List ℕ) → length front % 2 ≡ 0 → units_of big (front ++ rest) ≡ units_of big front ++ units_of big rest
unfolding units_of
units_append big [] rest even = refl
units_append big (a ∷ []) rest even = absurd (omega arith)
units_append big (a ∷ b ∷ front) rest even = ap (λ (x : List ℕ). unit_of big a b ∷ x) (units_append big front rest (omega arith))

pub bytes_even : (big : Bool) (us : List ℕ) → length (flat_map (unit_bytes big) us) % 2 ≡ 0
bytes_even big [] = refl
bytes_even true (u ∷ us) = omega (arith, bytes_even true us)
bytes_even false (u ∷ us) = omega (arith, bytes_even false us)

-- ---- characters of units

pub one_unit : (c : ℕ) → c < 0x1_0000 → encode_utf16 c ≡ c ∷ []
one_unit c h = rw (lt-ltb c 0x1_0000 h)

pub two_units : (c : ℕ) → 0x1_0000 ≤ c → encode_utf16 c ≡ (0xD800 + (c - 0x1_0000) / 0x400) ∷ (0xDC00 + (c - 0x1_0000) % 0x400) ∷ []
two_units c h = rw (le-ltb c 0x1_0000 h)

lone_low : (u : ℕ) → u < 0xD800 → lone_unit_char u ≡ Some u
lone_low u below = rw (lt-leb 0xD800 u below)

lone_high : (u : ℕ) → 0xE000 ≤ u → lone_unit_char u ≡ Some u
lone_high u from = rw (le-leb 0xD800 u (omega arith), le-ltb u 0xE000 from)

high_char : (c : ℕ) (rest : List ℕ) → 0x1_0000 ≤ c → c < 1114112 → utf16_chars (encode_utf16 c ++ rest) ≡ Some c ∷ utf16_chars rest
high_char c rest from below =
    let h = 0xD800 + (c - 0x1_0000) / 0x400 in
    let l = 0xDC00 + (c - 0x1_0000) % 0x400 in
    let made : surrogate_pair_char h l ≡ c = omega arith in
    let first : utf16_chars (h ∷ l ∷ rest) ≡ Some (surrogate_pair_char h l) ∷ utf16_chars rest = utf16_chars_pair h l rest (omega arith, omega arith, omega arith, omega arith) in
    rw (two_units c from, first, made) refl

lone_char : (c : ℕ) (rest : List ℕ) → c < 0x1_0000 → ((c < 0xD800) ⊎ (0xE000 ≤ c)) → utf16_chars (encode_utf16 c ++ rest) ≡ Some c ∷ utf16_chars rest
lone_char c rest below (inl low) =
    let apart = λ (h : (0xD800 ≤ c) × (c < 0xDC00) × (0xDC00 ≤ get_or rest 0 0) × (get_or rest 0 0 < 0xE000)). let x : 0xD800 ≤ c = h.0 in absurd (omega (arith, low, x)) in
    rw (one_unit c below, utf16_chars_lone c rest apart, lone_low c low) refl
lone_char c rest below (inr high) =
    let apart = λ (h : (0xD800 ≤ c) × (c < 0xDC00) × (0xDC00 ≤ get_or rest 0 0) × (get_or rest 0 0 < 0xE000)). let x : c < 0xDC00 = h.1 in absurd (omega (arith, high, x)) in
    rw (one_unit c below, utf16_chars_lone c rest apart, lone_high c high) refl

char_first : (c : ℕ) (rest : List ℕ) → scalar c ≡ true → utf16_chars (encode_utf16 c ++ rest) ≡ Some c ∷ utf16_chars rest
char_first c rest good =
    elim (scalar_cases c good) [
      | inl low ↦ lone_char c rest (omega arith) (inl low)
      | inr (from, below) ↦ elim (cases_lt c 0x1_0000) [
        | inl small ↦ lone_char c rest small (inr from)
        | inr large ↦ high_char c rest large below
      ]
    ]

-- the units of these characters are read as them
pub chars_again : (cs : List ℕ) → scalars cs ≡ true → utf16_chars (flat_map encode_utf16 cs) ≡ map (λ c. Some c) cs
chars_again [] good = utf16_chars-nil
chars_again (c ∷ cs) good =
    let p = and_parts (scalar c) (scalars cs) good in
    rw (char_first c (flat_map encode_utf16 cs) p.0, chars_again cs p.1) refl

paired_all : (cs : List ℕ) → list_any (λ o. not (is_some o)) (map (λ c. Some c) cs) ≡ false
paired_all [] = refl
paired_all (c ∷ cs) = paired_all cs

lossy_all : (cs : List ℕ) → map (λ o. unwrap_or o 0xFFFD) (map (λ c. Some c) cs) ≡ cs
lossy_all [] = refl
lossy_all (c ∷ cs) = ap (λ (x : List ℕ). c ∷ x) (lossy_all cs)

pub none_unpaired : (cs : List ℕ) → scalars cs ≡ true → has_unpaired_surrogate (flat_map encode_utf16 cs) ≡ false
none_unpaired cs good = rw (chars_again cs good) (paired_all cs)

pub lossy_again : (cs : List ℕ) → scalars cs ≡ true → utf16_lossy_chars (flat_map encode_utf16 cs) ≡ cs
lossy_again cs good = rw (chars_again cs good) (lossy_all cs)

no_units : IsUnits []
no_units = record { each = λ i. omega arith }

unit_then : (u : ℕ) (us : List ℕ) → u < 2 ^ 16 → IsUnits us → IsUnits (u ∷ us)
unit_then u us lt fits = record { each = each_below u us lt fits }

pub units_joined : (us vs : List ℕ) → IsUnits us → IsUnits vs → IsUnits (us ++ vs)
units_joined [] vs a b = b
units_joined (u ∷ us) vs a b = unit_then u (us ++ vs) (a.each 0) (units_joined us vs (tail_units u us a) b)

pub front_units : (us vs : List ℕ) → IsUnits (us ++ vs) → IsUnits us
front_units [] vs h = no_units
front_units (u ∷ us) vs h = unit_then u us (h.each 0) (front_units us vs (tail_units u (us ++ vs) h))

char_units : (c : ℕ) → scalar c ≡ true → IsUnits (encode_utf16 c)
char_units c good =
    elim (cases_lt c 0x1_0000) [
      | inl small ↦ rw (one_unit c small) (unit_then c [] (omega arith) no_units)
      | inr large ↦
          let fits : c < 2 ^ 32 = scalar_fits c good in
          let top : c < 1114112 = elim (scalar_cases c good) [ inl low ↦ omega arith | inr (from, below) ↦ below ] in
          rw (two_units c large) (unit_then _ _ (omega arith) (unit_then _ [] (omega arith) no_units))
    ]

text_units : (cs : List ℕ) → scalars cs ≡ true → IsUnits (flat_map encode_utf16 cs)
text_units [] good = no_units
text_units (c ∷ cs) good =
    let p = and_parts (scalar c) (scalars cs) good in
    units_joined (encode_utf16 c) (flat_map encode_utf16 cs) (char_units c p.0) (text_units cs p.1)

pub marked_units : (cs : List ℕ) → scalars cs ≡ true → IsUnits (units_of_text cs)
marked_units cs good = unit_then utf16_mark (flat_map encode_utf16 cs ++ 0 ∷ []) (omega arith) (units_joined (flat_map encode_utf16 cs) (0 ∷ []) (text_units cs good) (unit_then 0 [] (omega arith) no_units))

-- ---- characters that were read

high_scalar : (c : ℕ) → 0xE000 ≤ c → c < 1114112 → scalar c ≡ true
high_scalar c from below = rw (le-ltb c 55296 (omega arith), le-leb 57344 c from, lt-ltb c 1114112 below) refl

abbrev char_of : Option ℕ → ℕ
char_of o = unwrap_or o 0xFFFD

-- these characters have these units
record Spells (us : List ℕ) (os : List (Option ℕ)) : Type 0 where
  pub units : flat_map encode_utf16 (map char_of os) ≡ us
  pub good : scalars (map char_of os) ≡ true

abbrev some_lone : List (Option ℕ) → Bool
some_lone os = list_any (λ o. not (is_some o)) os

first_spells : (c : ℕ) (front us : List ℕ) (os : List (Option ℕ)) → encode_utf16 c ≡ front → scalar c ≡ true → Spells us os → Spells (front ++ us) (Some c ∷ os)
first_spells c front us os e good rest = record { units = rw (e, rest.units) refl; good = rw (good, rest.good) refl }

lone_spells : (u : ℕ) (us : List ℕ) (os : List (Option ℕ)) → u < 2 ^ 16 → some_lone (lone_unit_char u ∷ os) ≡ false → (some_lone os ≡ false → Spells us os) → Spells (u ∷ us) (lone_unit_char u ∷ os)
lone_spells u us os lt h rest =
    elim (cases_lt u 0xD800) [
      | inl low ↦ let g = rw (lone_low u low) at h in rw (lone_low u low) (first_spells u (u ∷ []) us os (one_unit u (omega arith)) (low_scalar u low) (rest g))
      | inr from ↦ elim (cases_lt u 0xE000) [
        | inl below ↦ let none : lone_unit_char u ≡ None = rw (le-leb 0xD800 u from, lt-ltb u 0xE000 below) refl in let g = rw none at h in absurd cc
        | inr high ↦ let g = rw (lone_high u high) at h in rw (lone_high u high) (first_spells u (u ∷ []) us os (one_unit u (omega arith)) (high_scalar u high (omega arith)) (rest g))
      ]
    ]

pair_spells : (u v : ℕ) (us : List ℕ) (os : List (Option ℕ)) → (is_high_surrogate u && is_low_surrogate v) ≡ true → Spells us os → Spells (u ∷ v ∷ us) (Some (surrogate_pair_char u v) ∷ os)
pair_spells u v us os is rest =
    let p = and_parts (is_high_surrogate u) (is_low_surrogate v) is in
    let h = and_parts (leb 0xD800 u) (ltb u 0xDC00) p.0 in
    let l = and_parts (leb 0xDC00 v) (ltb v 0xE000) p.1 in
    let a : 0xD800 ≤ u = leb-true _ _ h.0 in
    let b : u < 0xDC00 = ltb-true _ _ h.1 in
    let c : 0xDC00 ≤ v = leb-true _ _ l.0 in
    let d : v < 0xE000 = ltb-true _ _ l.1 in
    let p = surrogate_pair_char u v in
    let high : 0xD800 + (p - 0x1_0000) / 0x400 ≡ u = omega arith in
    let low : 0xDC00 + (p - 0x1_0000) % 0x400 ≡ v = omega arith in
    let e : encode_utf16 p ≡ u ∷ v ∷ [] = rw (two_units p (omega arith), high, low) refl in
    first_spells p (u ∷ v ∷ []) us os e (high_scalar p (omega arith) (omega arith)) rest

pair_or_lone : (t : Bool) (u v : ℕ) (us : List ℕ) → (is_high_surrogate u && is_low_surrogate v) ≡ t → u < 2 ^ 16
    → some_lone (cond t (Some (surrogate_pair_char u v) ∷ utf16_chars us) (lone_unit_char u ∷ utf16_chars (v ∷ us))) ≡ false
    → (some_lone (utf16_chars us) ≡ false → Spells us (utf16_chars us)) → (some_lone (utf16_chars (v ∷ us)) ≡ false → Spells (v ∷ us) (utf16_chars (v ∷ us)))
    → Spells (u ∷ v ∷ us) (cond t (Some (surrogate_pair_char u v) ∷ utf16_chars us) (lone_unit_char u ∷ utf16_chars (v ∷ us)))
pair_or_lone true u v us is lt h after next = pair_spells u v us (utf16_chars us) is (after h)
pair_or_lone false u v us is lt h after next = lone_spells u (v ∷ us) (utf16_chars (v ∷ us)) lt h next

all_spelled : (us : List ℕ) → IsUnits us → some_lone (utf16_chars us) ≡ false → Spells us (utf16_chars us)
unfolding utf16_chars
all_spelled [] fits h = record { units = refl; good = refl }
all_spelled (u ∷ []) fits h = lone_spells u [] [] (fits.each 0) h (λ x. record { units = refl; good = refl })
all_spelled (u ∷ v ∷ us) fits h =
    let t = is_high_surrogate u && is_low_surrogate v in
    pair_or_lone t u v us refl (fits.each 0) h (all_spelled us (tail_units v us (tail_units u (v ∷ us) fits))) (all_spelled (v ∷ us) (tail_units u (v ∷ us) fits))

pub lossy_spells : (us : List ℕ) → IsUnits us → has_unpaired_surrogate us ≡ false → (flat_map encode_utf16 (utf16_lossy_chars us) ≡ us) × (scalars (utf16_lossy_chars us) ≡ true)
lossy_spells us fits h = let s = all_spelled us fits h in (s.units, s.good)
