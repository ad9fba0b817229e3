-- A text says one float at most.
use Rattle.std.proofs.Common.{◌≡◌, ℕ, zero, suc, ◌+◌, ◌/◌, ◌%◌, ◌<◌, ◌^◌, Bool, true, false, not, List, ◌∷◌, ◌++◌, length, drop, codes, Option, Some, None, Result, Ok, T, ltb, refl, sym, ap, ◌∙◌, arith, ne_eqb}
use Rattle.std.specs.Prelude.{from_bits, to_bits, is_nan}
use Rattle.std.specs.Bool.{MatchBool}
use Rattle.std.specs.Float.{binary32, binary64}
use Rattle.std.specs.Float.Ieee.{Float, nan_bits}
use Rattle.std.specs.Float.Parse.{read_float}
use Rattle.std.specs.Float.Numeral.{scan_numeral}
use Rattle.std.specs.Int.{w32, w64, to_be_bytes, from_be_bytes}
use Rattle.std.proofs.lemmas.Nat.{from_be_bytes-to_be_bytes_4, from_be_bytes-to_be_bytes_8}
use Rattle.std.proofs.lemmas.List.{append_cancel_right}
use lib.Ieee.Bits.{to_bits-of_bits, nan_bits_is, nan_bits_above}
use Rattle.fast_float.specs.Parse.{parse_float}
use Rattle.hex.specs.Hex.{encode_lower, decode_of, IsBytes}
use Rattle.hex.specs.declared.error.FromHexError.{FromHexError}
use Rattle.hex.proofs.HexLemmas.{decode_of-encode_lower}
use Rattle.someip_payload_values.specs.Numbers.{number, limit_of}
use Rattle.someip_payload_values.specs.Floats.{Precision, single, double, format_of, bits_size, nan_text, SaysBits}

-- the test for a NaN by one comparison
pub single_nan_test : (bits : ℕ) → nan_bits binary32 bits ≡ ltb 0x7f800000 (bits % 0x80000000)
single_nan_test bits = nan_bits_above binary32 bits

pub double_nan_test : (bits : ℕ) → nan_bits binary64 bits ≡ ltb 0x7ff0000000000000 (bits % 0x8000000000000000)
double_nan_test bits = nan_bits_above binary64 bits

-- what a text says that is read as the number with the bits, or is the text of a NaN
pub says_number : (p : Precision) (bits : ℕ) (text : List ℕ) → nan_bits (format_of p) bits ≡ false → parse_float (format_of p) text ≡ Some (from_bits (format_of p) bits) → SaysBits p bits text
says_number p bits text none is = rw none is

pub says_nan : (p : Precision) (bits : ℕ) (text : List ℕ) → nan_bits (format_of p) bits ≡ true → text ≡ nan_text p bits → SaysBits p bits text
says_nan p bits text is_nan_ is = rw is_nan_ is

-- the text of a NaN is not read as a number
nan_unread : (p : Precision) (bits : ℕ) → parse_float (format_of p) (nan_text p bits) ≡ None
unfolding read_float scan_numeral
nan_unread p bits =
    let long : 3 ≡ length (nan_text p bits) → ⊥ = λ e. omega (arith, e) in
    rw (ne_eqb 3 (length (nan_text p bits)) long) refl

bytes_of_single : (n : ℕ) → IsBytes (to_be_bytes w32 n)
bytes_of_single n zero = omega arith
bytes_of_single n (suc zero) = omega arith
bytes_of_single n (suc (suc zero)) = omega arith
bytes_of_single n (suc (suc (suc zero))) = omega arith
bytes_of_single n (suc (suc (suc (suc i)))) = omega arith

bytes_of_double : (n : ℕ) → IsBytes (to_be_bytes w64 n)
bytes_of_double n zero = omega arith
bytes_of_double n (suc zero) = omega arith
bytes_of_double n (suc (suc zero)) = omega arith
bytes_of_double n (suc (suc (suc zero))) = omega arith
bytes_of_double n (suc (suc (suc (suc zero)))) = omega arith
bytes_of_double n (suc (suc (suc (suc (suc zero))))) = omega arith
bytes_of_double n (suc (suc (suc (suc (suc (suc zero)))))) = omega arith
bytes_of_double n (suc (suc (suc (suc (suc (suc (suc zero))))))) = omega arith
bytes_of_double n (suc (suc (suc (suc (suc (suc (suc (suc i)))))))) = omega arith

bytes_of : (p : Precision) (n : ℕ) → IsBytes (number (bits_size p) n)
bytes_of single n = bytes_of_single n
bytes_of double n = bytes_of_double n

same_number : (p : Precision) (a b : ℕ) → a < limit_of (bits_size p) → b < limit_of (bits_size p) → number (bits_size p) a ≡ number (bits_size p) b → a ≡ b
same_number single a b ha hb e = sym (from_be_bytes-to_be_bytes_4 a ha) ∙ ap (from_be_bytes w32) e ∙ from_be_bytes-to_be_bytes_4 b hb
same_number double a b ha hb e = sym (from_be_bytes-to_be_bytes_8 a ha) ∙ ap (from_be_bytes w64) e ∙ from_be_bytes-to_be_bytes_8 b hb

abbrev OkOf : List ℕ → Result (List ℕ) FromHexError
OkOf xs = Ok xs

ok_same : (xs ys : List ℕ) → OkOf xs ≡ OkOf ys → xs ≡ ys
ok_same xs ys e = cc

-- the bits stand in the text of a NaN
same_nan : (p : Precision) (a b : ℕ) → a < limit_of (bits_size p) → b < limit_of (bits_size p) → nan_text p a ≡ nan_text p b → a ≡ b
same_nan p a b ha hb e =
    let xs = number (bits_size p) a in
    let ys = number (bits_size p) b in
    let digits : encode_lower xs ++ codes ")" ≡ encode_lower ys ++ codes ")" = ap (drop 4) e in
    let texts : encode_lower xs ≡ encode_lower ys = append_cancel_right (encode_lower xs) (encode_lower ys) (codes ")") digits in
    same_number p a b ha hb (ok_same _ _ (sym (decode_of-encode_lower xs (bytes_of p a)) ∙ ap decode_of texts ∙ decode_of-encode_lower ys (bytes_of p b)))

T_of_false : (b : Bool) → b ≡ false → T (not b)
T_of_false b e = rw e tt

-- the bits of the number with some bits
bits_again : (p : Precision) (bits : ℕ) → bits < limit_of (bits_size p) → nan_bits (format_of p) bits ≡ false → to_bits (format_of p) (from_bits (format_of p) bits) ≡ bits
bits_again single bits small e = to_bits-of_bits binary32 bits small (T_of_false (is_nan (from_bits binary32 bits)) (sym (nan_bits_is binary32 bits) ∙ e))
bits_again double bits small e = to_bits-of_bits binary64 bits small (T_of_false (is_nan (from_bits binary64 bits)) (sym (nan_bits_is binary64 bits) ∙ e))

some_same : (x y : Float) → Some x ≡ Some y → x ≡ y
some_same x y e = cc

says_by : (p : Precision) (a b : ℕ) (text : List ℕ) (na nb : Bool) → nan_bits (format_of p) a ≡ na → nan_bits (format_of p) b ≡ nb → a < limit_of (bits_size p) → b < limit_of (bits_size p)
    → MatchBool na (text ≡ nan_text p a) (parse_float (format_of p) text ≡ Some (from_bits (format_of p) a))
    → MatchBool nb (text ≡ nan_text p b) (parse_float (format_of p) text ≡ Some (from_bits (format_of p) b)) → a ≡ b
says_by p a b text true true ea eb ha hb x y = same_nan p a b ha hb (sym x ∙ y)
says_by p a b text true false ea eb ha hb x y = let none = sym (nan_unread p a) ∙ ap (parse_float (format_of p)) (sym x) ∙ y in cc
says_by p a b text false true ea eb ha hb x y = let none = sym (nan_unread p b) ∙ ap (parse_float (format_of p)) (sym y) ∙ x in cc
says_by p a b text false false ea eb ha hb x y =
    sym (bits_again p a ha ea) ∙ ap (to_bits (format_of p)) (some_same _ _ (sym x ∙ y)) ∙ bits_again p b hb eb

pub says_one : (p : Precision) (a b : ℕ) (text : List ℕ) → a < limit_of (bits_size p) → b < limit_of (bits_size p) → SaysBits p a text → SaysBits p b text → a ≡ b
says_one p a b text ha hb x y = says_by p a b text (nan_bits (format_of p) a) (nan_bits (format_of p) b) refl refl ha hb x y
