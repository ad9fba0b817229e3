-- Each text of a value is read as it: floats.
use Rattle.std.proofs.Common.{◌≡◌, ℕ, zero, suc, ◌*◌, ◌/◌, ◌%◌, ◌<◌, inl, inr, Bool, true, false, List, [], ◌∷◌, ◌++◌, length, get_or, codes, Some, None, refl, sym, ap, subst, ◌∙◌, append_assoc, arith}
use Rattle.std.specs.Prelude.{is_nan, Ok}
use Rattle.std.specs.Int.{w32, w64, byte_len, from_be_bytes, to_be_bytes}
use Rattle.std.specs.List.{list_all}
use Rattle.std.specs.Str.{bytes_eq}
use Rattle.std.specs.Float.Ieee.{Float, to_bits, nan_bits}
use lib.Ieee.{nan}
use Rattle.std.proofs.lemmas.Bool.{false≢true}
use Rattle.std.proofs.lemmas.Float.Parse.{parse_float_on_literals}
use Rattle.std.proofs.lemmas.Nat.{from_be_bytes-to_be_bytes_4, from_be_bytes-to_be_bytes_8}
use Rattle.std.proofs.lemmas.Slice.Eq.{bytes_eq-Decides}
use Rattle.fast_float.specs.Parse.{parse_float}
use Rattle.hex.specs.Hex.{lower_digits, encode_with, encode_lower, decode_sized, IsBytes}
use Rattle.hex.proofs.HexLemmas.{length-encode_with, decode_of-encode_lower, decode_sized-twice}
use Rattle.someip_payload_values.specs.Data.{Data, real}
use Rattle.someip_payload_values.specs.Floats.{Precision, single, double, format_of, bits_size, nan_text}
use Rattle.someip_payload_values.specs.Numbers.{width_of, number, limit_of}
use Rattle.someip_payload.specs.ReadValues.{token, past_token, after, bits_of, float_of, nan_with, nan_from, nan_of, nan_in, float_in}
use Rattle.someip_payload.specs.ValueReading.{IsTextOfFloat, is_plain}
use Rattle.someip_payload.proofs.Fronts.{both}
use Rattle.someip_payload.proofs.ValueFloatBytes.{float_plain}
use Rattle.someip_payload.proofs.ValueSteps.{some_is, none_some}
use Rattle.someip_payload.proofs.ValueTokens.{lt_true, same_bytes}
use Rattle.someip_payload.proofs.ValueAgain.{Ends, Again, token_again, past_token_again, atom_again}

-- ---- floats

test_false : (b : Bool) → (b ≡ true → ⊥) → b ≡ false
test_false true never = absurd (never refl)
test_false false never = refl

nan_word : (p : Precision) → parse_float (format_of p) (codes "nan") ≡ Some nan
unfolding parse_float_on_literals
nan_word single = refl
nan_word double = refl

dash_word : (p : Precision) → parse_float (format_of p) (codes "-") ≡ None
unfolding parse_float_on_literals
dash_word single = refl
dash_word double = refl

empty_word : (p : Precision) → parse_float (format_of p) [] ≡ None
unfolding parse_float_on_literals
empty_word single = refl
empty_word double = refl

no_nan : (p : Precision) (t : List ℕ) (x : Float) → parse_float (format_of p) t ≡ Some x → is_nan x ≡ false → bytes_eq t (codes "nan") ≡ false
unfolding lib.Ieee.is_nan
no_nan p t x is number_ = test_false (bytes_eq t (codes "nan")) (λ h.
    let same : t ≡ codes "nan" = (bytes_eq-Decides t (codes "nan")).0 h in
    let own : nan ≡ x = some_is nan x (sym (nan_word p) ∙ ap (parse_float (format_of p)) (sym same) ∙ is) in
    false≢true (sym number_ ∙ ap is_nan (sym own)))

no_dash : (p : Precision) (t : List ℕ) (x : Float) → parse_float (format_of p) t ≡ Some x → bytes_eq t (codes "-") ≡ false
no_dash p t x is = test_false (bytes_eq t (codes "-")) (λ h.
    let same : t ≡ codes "-" = (bytes_eq-Decides t (codes "-")).0 h in
    none_some x (sym (dash_word p) ∙ ap (parse_float (format_of p)) (sym same) ∙ is))

some_bytes : (p : Precision) (t : List ℕ) (x : Float) → parse_float (format_of p) t ≡ Some x → 0 < length t
some_bytes p [] x is = absurd (none_some x (sym (empty_word p) ∙ is))
some_bytes p (b ∷ bs) x is = omega arith

decimal_again : (p : Precision) (t rest : List ℕ) (x : Float) → list_all is_plain t ≡ true → parse_float (format_of p) t ≡ Some x → is_nan x ≡ false → Ends rest → Again (float_in p) (real p (to_bits (format_of p) x)) t rest
unfolding float_in float_of bits_of
decimal_again p t rest x plain is number_ ends =
    let bits : ℕ = to_bits (format_of p) x in
    let read : float_of p t ≡ Some (real p bits) = rw (is, number_) refl in
    let a = atom_again (float_of p) t (real p bits) rest plain read (no_dash p t x is) (some_bytes p t x is) ends in
    record { value = rw (token_again t rest plain ends.0, no_nan p t x is number_) a.value; no_name = a.no_name; no_dash = a.no_dash; no_bracket = a.no_bracket }

all_at : (xs : List ℕ) (i : ℕ) → list_all is_plain xs ≡ true → i < length xs → is_plain (get_or xs i 0) ≡ true
all_at [] i all lt = absurd (omega arith)
all_at (x ∷ xs) zero all lt = (both (is_plain x) (list_all is_plain xs) all).0
all_at (x ∷ xs) (suc i) all lt = all_at xs i (both (is_plain x) (list_all is_plain xs) all).1 (omega arith)

hex_plain : (bs : List ℕ) → IsBytes bs → list_all is_plain (encode_lower bs) ≡ true
unfolding encode_with
hex_plain [] small = refl
hex_plain (b ∷ bs) small =
    let byte : b < 256 = small 0 in
    let high = all_at lower_digits (b / 16) refl (omega (arith, byte)) in
    let low = all_at lower_digits (b % 16) refl (omega (arith, byte)) in
    rw (high, low, hex_plain bs (λ i. small (suc i))) refl

bytes_of_single : (n : ℕ) → IsBytes (to_be_bytes w32 n)
bytes_of_single n zero = omega arith
bytes_of_single n (suc zero) = omega arith
bytes_of_single n (suc (suc zero)) = omega arith
bytes_of_single n (suc (suc (suc zero))) = omega arith
bytes_of_single n (suc (suc (suc (suc i)))) = omega arith

bytes_of_double : (n : ℕ) → IsBytes (to_be_bytes w64 n)
bytes_of_double n zero = omega arith
bytes_of_double n (suc zero) = omega arith
bytes_of_double n (suc (suc zero)) = omega arith
bytes_of_double n (suc (suc (suc zero))) = omega arith
bytes_of_double n (suc (suc (suc (suc zero)))) = omega arith
bytes_of_double n (suc (suc (suc (suc (suc zero))))) = omega arith
bytes_of_double n (suc (suc (suc (suc (suc (suc zero)))))) = omega arith
bytes_of_double n (suc (suc (suc (suc (suc (suc (suc zero))))))) = omega arith
bytes_of_double n (suc (suc (suc (suc (suc (suc (suc (suc i)))))))) = omega arith

bytes_of : (p : Precision) (n : ℕ) → IsBytes (number (bits_size p) n)
bytes_of single n = bytes_of_single n
bytes_of double n = bytes_of_double n

bytes_len : (p : Precision) (n : ℕ) → length (number (bits_size p) n) ≡ byte_len (width_of (bits_size p))
bytes_len single n = refl
bytes_len double n = refl

bits_back : (p : Precision) (n : ℕ) → n < limit_of (bits_size p) → from_be_bytes (width_of (bits_size p)) (number (bits_size p) n) ≡ n
bits_back single n small = from_be_bytes-to_be_bytes_4 n small
bits_back double n small = from_be_bytes-to_be_bytes_8 n small

nan_of_again : (p : Precision) (bits : ℕ) → nan_bits (format_of p) bits ≡ true → bits < limit_of (bits_size p) → nan_of p (encode_lower (number (bits_size p) bits)) ≡ Some bits
unfolding nan_of
nan_of_again p bits nan_ small =
    let bs : List ℕ = number (bits_size p) bits in
    let len : length (encode_lower bs) ≡ 2 * byte_len (width_of (bits_size p)) = length-encode_with lower_digits bs ∙ ap (λ (n : ℕ). 2 * n) (bytes_len p bits) in
    let decoded : decode_sized (encode_lower bs) (byte_len (width_of (bits_size p))) ≡ Ok bs = decode_sized-twice (encode_lower bs) (byte_len (width_of (bits_size p))) len ∙ decode_of-encode_lower bs (bytes_of p bits) in
    ap (nan_from p (encode_lower bs)) decoded ∙ ap (nan_with p (encode_lower bs)) (bits_back p bits small) ∙ with_again (same_bytes (encode_lower bs))
  where
    with_again : bytes_eq (encode_lower (number (bits_size p) bits)) (encode_lower (number (bits_size p) bits)) ≡ true → nan_with p (encode_lower (number (bits_size p) bits)) bits ≡ Some bits
    with_again same = rw (same, nan_, lt_true bits (limit_of (bits_size p)) small) refl

nan_again : (p : Precision) (bits : ℕ) (rest : List ℕ) → nan_bits (format_of p) bits ≡ true → bits < limit_of (bits_size p) → Ends rest → Again (float_in p) (real p bits) (nan_text p bits) rest
unfolding float_in nan_in token past_token after
nan_again p bits rest nan_ small ends =
    let hex : List ℕ = encode_lower (number (bits_size p) bits) in
    let plain : list_all is_plain hex ≡ true = hex_plain (number (bits_size p) bits) (bytes_of p bits) in
    let parts : (hex ++ codes ")") ++ rest ≡ hex ++ (41 ∷ rest) = append_assoc hex (codes ")") rest in
    record {
      value = rw (parts, token_again hex (41 ∷ rest) plain refl, nan_of_again p bits nan_ small, past_token_again hex (41 ∷ rest) plain refl) refl;
      no_name = refl;
      no_dash = refl;
      no_bracket = refl;
    }

pub float_again : (p : Precision) (d : Data) (t rest : List ℕ) → IsTextOfFloat p d t → Ends rest → Again (float_in p) d t rest
float_again p d t rest own ends = subst (λ (x : Data). Again (float_in p) x t rest) (sym own.1) (elim own.2 [
  | inl nan_ ↦ subst (λ (x : List ℕ). Again (float_in p) (real p own.0) x rest) (sym nan_.2) (nan_again p own.0 rest nan_.0 nan_.1 ends)
  | inr number_ ↦ subst (λ (n : ℕ). Again (float_in p) (real p n) t rest) (sym number_.3) (decimal_again p t rest number_.0 (float_plain (format_of p) t number_.0 number_.1) number_.1 number_.2 ends)
])
