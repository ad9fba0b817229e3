-- What is printed of a text and of a float is a text of it.
use Rattle.std.proofs.Common.{◌≡◌, ℕ, ◌+◌, ◌/◌, ◌%◌, ◌<◌, ◌≤◌, ◌||◌, inl, inr, Bool, true, false, not, cond, eqb, ltb, T, List, [], ◌∷◌, ◌++◌, codes, Some, refl, sym, ap, ◌∙◌, append-nil, arith}
use Rattle.std.specs.Prelude.{nat_lt, from_bits, is_nan}
use Rattle.std.specs.Bool.{MatchBool}
use Rattle.std.specs.List.{flat_map}
use Rattle.std.specs.Str.{chars, is_utf8, encode_utf8_all}
use Rattle.std.specs.Fmt.{digits}
use Rattle.std.specs.Float.{binary32, binary64}
use Rattle.std.specs.Float.Ieee.{to_bits, nan_bits}
use Rattle.std.proofs.lemmas.Bool.Decides.{nat_tests}
use Rattle.std.proofs.lemmas.Str.{encodes-chars, IsUtf8-from_is_utf8}
use Rattle.std.proofs.lemmas.Fmt.{hex_one_digit, hex_two_digits}
use lib.Utf8.{encode, next}
use lib.Ieee.Bits.{to_bits-of_bits, nan_bits_is}
use Rattle.fast_float.specs.Parse.{parse_float}
use Rattle.someip_payload_values.specs.Floats.{Precision, single, double, format_of, bits_size, nan_text, SaysBits}
use Rattle.someip_payload_values.specs.Numbers.{limit_of}
use Rattle.someip_payload_values.specs.ValueText.{escaped, quoted}
use Rattle.someip_payload_values.proofs.Strings.{flat_map-append}
use Rattle.someip_payload.specs.ValueReading.{hex_digit, hex_text, escaped_byte, IsTextOfBits, is_control}
use Rattle.someip_payload.proofs.ValueTokens.{true_lt}

-- ---- a text between quotes, byte by byte

hex_is : (c : ℕ) → c < 256 → digits 16 false c ≡ hex_text c
hex_is c small = by (nat_lt c 16) refl
  where
    by : (b : Bool) → nat_lt c 16 ≡ b → digits 16 false c ≡ cond b (hex_digit c ∷ []) (hex_digit (c / 16) ∷ hex_digit (c % 16) ∷ [])
    by true lt = hex_one_digit false c (true_lt c 16 lt)
    by false ge = let le : 16 ≤ c = grind (arith, nat_tests, ge) in hex_two_digits false c le small

high_byte : (b : ℕ) → 128 ≤ b → escaped_byte b ≡ b ∷ []
high_byte b le =
    let quote : (eqb b 34 || eqb b 92) ≡ false = grind (arith, nat_tests, le) in
    let control : is_control b ≡ false = grind (arith, nat_tests, le) in
    rw (quote, control) refl

high_bytes : (c : ℕ) → 128 ≤ c → flat_map escaped_byte (encode c) ≡ encode c
unfolding encode
high_bytes c le = by (ltb c 128) (ltb c 2048) (ltb c 65536)
  where
    two : List ℕ
    two = (192 + c / 64) ∷ next c ∷ []

    three : List ℕ
    three = (224 + c / 4096) ∷ next (c / 64) ∷ next c ∷ []

    four : List ℕ
    four = (240 + c / 262144) ∷ next (c / 4096) ∷ next (c / 64) ∷ next c ∷ []

    by : (x y z : Bool) → flat_map escaped_byte (cond x (c ∷ []) (cond y two (cond z three four))) ≡ cond x (c ∷ []) (cond y two (cond z three four))
    by true y z = rw (high_byte c le) refl
    by false true z = rw (high_byte (192 + c / 64) (omega arith), high_byte (next c) (omega arith)) refl
    by false false true = rw (high_byte (224 + c / 4096) (omega arith), high_byte (next (c / 64)) (omega arith), high_byte (next c) (omega arith)) refl
    by false false false = rw (high_byte (240 + c / 262144) (omega arith), high_byte (next (c / 4096)) (omega arith), high_byte (next (c / 64)) (omega arith), high_byte (next c) (omega arith)) refl

low_is : (c : ℕ) → ltb c 128 ≡ true → encode c ≡ c ∷ []
unfolding encode
low_is c low = rw low refl

char_bytes : (c : ℕ) → flat_map escaped_byte (encode c) ≡ escaped c
char_bytes c = by (ltb c 128) refl
  where
    by : (b : Bool) → ltb c 128 ≡ b → flat_map escaped_byte (encode c) ≡ escaped c
    by true low =
        let small : c < 256 = grind (arith, nat_tests, low) in
        rw (low_is c low, hex_is c small) (append-nil (escaped_byte c))
    by false high =
        let le : 128 ≤ c = grind (arith, nat_tests, high) in
        let quote : (eqb c 34 || eqb c 92) ≡ false = grind (arith, nat_tests, le) in
        let control : is_control c ≡ false = grind (arith, nat_tests, le) in
        high_bytes c le ∙ rw (quote, control) refl

chars_bytes : (cs : List ℕ) → flat_map escaped_byte (encode_utf8_all cs) ≡ flat_map escaped cs
chars_bytes [] = refl
chars_bytes (c ∷ cs) = flat_map-append escaped_byte (encode c) (encode_utf8_all cs) ∙ rw (char_bytes c, chars_bytes cs) refl

pub quoted_bytes : (s : List ℕ) → is_utf8 s ≡ true → quoted s ≡ codes "\"" ++ (flat_map escaped_byte s ++ codes "\"")
quoted_bytes s is =
    let same : flat_map escaped (chars s) ≡ flat_map escaped_byte s = sym (chars_bytes (chars s)) ∙ ap (flat_map escaped_byte) (encodes-chars s (IsUtf8-from_is_utf8 s is)) in
    ap (λ (x : List ℕ). codes "\"" ++ (x ++ codes "\"")) same

-- ---- the text of a float

holds : (b : Bool) → b ≡ false → T (not b)
holds b is = rw is tt

no_nan : (p : Precision) (bits : ℕ) → nan_bits (format_of p) bits ≡ false → is_nan (from_bits (format_of p) bits) ≡ false
no_nan p bits is = sym (nan_bits_is (format_of p) bits) ∙ is

bits_again : (p : Precision) (bits : ℕ) → bits < limit_of (bits_size p) → is_nan (from_bits (format_of p) bits) ≡ false → bits ≡ to_bits (format_of p) (from_bits (format_of p) bits)
bits_again single bits small is = sym (to_bits-of_bits binary32 bits small (holds (is_nan (from_bits binary32 bits)) is))
bits_again double bits small is = sym (to_bits-of_bits binary64 bits small (holds (is_nan (from_bits binary64 bits)) is))

pub bits_said : (p : Precision) (bits : ℕ) (text : List ℕ) → bits < limit_of (bits_size p) → SaysBits p bits text → IsTextOfBits p bits text
bits_said p bits text small says = by (nan_bits (format_of p) bits) refl says
  where
    by : (b : Bool) → nan_bits (format_of p) bits ≡ b → MatchBool b (text ≡ nan_text p bits) (parse_float (format_of p) text ≡ Some (from_bits (format_of p) bits)) → IsTextOfBits p bits text
    by true is own = inl (is, small, own)
    by false is own = let plain = no_nan p bits is in inr (from_bits (format_of p) bits, own, plain, bits_again p bits small plain)
