-- Tokens, and the numbers and names that they are.
use Rattle.std.proofs.Common.{◌≡◌, ℕ, suc, ◌+◌, ◌-◌, ◌<◌, ◌≤◌, ◌^◌, ◌⊎◌, inl, inr, Bool, true, false, cond, ◌&&◌, List, [], ◌∷◌, ◌++◌, length, get_or, take, drop, Option, Some, None, Bor, String, Global, string_bytes, map, refl, sym, ap, ◌∙◌, append_assoc, append-nil, arith, drop-cons}
use Rattle.std.specs.Prelude.{ℤ, nat_lt, Result, Ok}
use Rattle.std.specs.Fmt.{decimal}
use Rattle.std.specs.Str.{bytes_eq, IsUtf8, is_utf8}
use Rattle.std.proofs.lemmas.Bool.{eq-eqb, ne_eqb}
use Rattle.std.proofs.lemmas.Str.{is_utf8-from_IsUtf8, IsUtf8-from_is_utf8}
use Rattle.std.specs.Str.Parse.{digits_value, ParsesUnsigned}
use Rattle.std.proofs.lemmas.Bool.Decides.{nat_tests}
use Rattle.std.proofs.lemmas.Fmt.{decimal_is_IsNumeral, parse-decimal}
use Rattle.std.proofs.lemmas.List.{drop_all, take_more}
use Rattle.std.proofs.lemmas.Slice.Eq.{bytes_eq-Decides}
use Rattle.someip_payload_values.specs.View.{labels_of}
use Rattle.someip_payload.specs.ReadValues.{Read, ◌>>=◌, token, past_token, after, number_of, byte_of, byte_in, unquoted}
use Rattle.someip_payload.specs.ValueReading.{is_plain, labelled}
use Rattle.someip_payload.specs.Fronts.{common}
use Rattle.someip_payload.proofs.Fronts.{both}

pub lt_true : (m n : ℕ) → m < n → nat_lt m n ≡ true
lt_true m n lt = grind (arith, nat_tests)

pub true_lt : (m n : ℕ) → nat_lt m n ≡ true → m < n
true_lt m n is = grind (arith, nat_tests)

-- the rest of a list, from its first one on
pub drop_is : {X : Type 0} (xs : List X) (i : ℕ) (d : X) → i < length xs → drop i xs ≡ get_or xs i d ∷ drop (i + 1) xs
drop_is xs i d lt = let next : suc i ≡ i + 1 = omega arith in drop-cons xs i d lt ∙ ap (λ n. get_or xs i d ∷ drop n xs) next

-- ---- the token at the front, byte by byte

pub token_more : (text : List ℕ) (len : ℕ) → len < length text → is_plain (get_or text len 0) ≡ true → take (len + 1) text ++ token (drop (len + 1) text) ≡ take len text ++ token (drop len text)
unfolding token
token_more text len lt plain = rw (take_more text len 0 lt, drop_is text len 0 lt, plain, append_assoc (take len text) (get_or text len 0 ∷ []) (token (drop (len + 1) text))) refl

pub past_token_more : (text : List ℕ) (len : ℕ) → len < length text → is_plain (get_or text len 0) ≡ true → past_token (drop (len + 1) text) ≡ past_token (drop len text)
unfolding past_token
past_token_more text len lt plain = rw (drop_is text len 0 lt, plain) refl

pub token_ends : (text : List ℕ) (len : ℕ) → len < length text → is_plain (get_or text len 0) ≡ false → take len text ++ token (drop len text) ≡ take len text
unfolding token
token_ends text len lt plain = rw (drop_is text len 0 lt, plain) (append-nil (take len text))

pub past_token_ends : (text : List ℕ) (len : ℕ) → len < length text → is_plain (get_or text len 0) ≡ false → past_token (drop len text) ≡ drop len text
unfolding past_token
past_token_ends text len lt plain = rw (drop_is text len 0 lt, plain) refl

pub token_all : (text : List ℕ) (len : ℕ) → length text ≤ len → take len text ++ token (drop len text) ≡ take len text
unfolding token
token_all text len le = rw (drop_all len text le) (append-nil (take len text))

pub past_token_all : (text : List ℕ) (len : ℕ) → length text ≤ len → past_token (drop len text) ≡ drop len text
unfolding past_token
past_token_all text len le = rw (drop_all len text le) refl

-- ---- numbers

pub same_bytes : (a : List ℕ) → bytes_eq a a ≡ true
same_bytes a = (bytes_eq-Decides a a).1 refl

pub number_of_decimal : (n : ℕ) → n < 2 ^ 64 → number_of (decimal n) ≡ Some n
unfolding number_of
number_of_decimal n small = rw ((decimal_is_IsNumeral n small).1, lt_true n (2 ^ 64) small, same_bytes (decimal n)) refl

number_by : (v : ℕ) (t : List ℕ) (b : Bool) → (nat_lt v (2 ^ 64) && bytes_eq (decimal v) t) ≡ b
    → (cond b (Some v) None ≡ None) ⊎ ((n : ℕ) × (cond b (Some v) None ≡ Some n) × (n < 2 ^ 64) × (t ≡ decimal n))
number_by v t false is = inl refl
number_by v t true is =
    let parts = both (nat_lt v (2 ^ 64)) (bytes_eq (decimal v) t) is in
    inr (v, refl, true_lt v (2 ^ 64) parts.0, sym ((bytes_eq-Decides (decimal v) t).0 parts.1))

-- a token is no number, or the decimal of one
pub number_or : (t : List ℕ) → (number_of t ≡ None) ⊎ ((n : ℕ) × (number_of t ≡ Some n) × (n < 2 ^ 64) × (t ≡ decimal n))
unfolding number_of
number_or t = number_by (digits_value 10 t) t (nat_lt (digits_value 10 t) (2 ^ 64) && bytes_eq (decimal (digits_value 10 t)) t) refl

-- what is parsed of a token that is a number
pub parsed : {E : Type 0} (t : List ℕ) (r : Result ℕ E) → ParsesUnsigned 64 10 t r → (n : ℕ) → n < 2 ^ 64 → t ≡ decimal n → r ≡ Ok n
parsed t r parses n small is = parse-decimal 64 n t r small small is parses

-- ---- names

labels_at : (labels : List (ℤ × String Global)) (i : ℕ) (l : ℤ × String Global) → i < length labels → l ≡ get_or labels i l → labels_of (drop i labels) ≡ (l.0, string_bytes l.1) ∷ labels_of (drop (i + 1) labels)
labels_at labels i l lt at =
    ap labels_of (drop_is labels i l lt) ∙ ap (λ (x : ℤ × String Global). (x.0, string_bytes x.1) ∷ labels_of (drop (i + 1) labels)) (sym at)

pub labelled_hit : (labels : List (ℤ × String Global)) (i : ℕ) (l : ℤ × String Global) (t : List ℕ) (total : Option ℤ) → i < length labels → l ≡ get_or labels i l → bytes_eq (string_bytes l.1) t ≡ true
    → labelled (labels_of (drop i labels)) t ≡ total → Some l.0 ≡ total
unfolding labelled
labelled_hit labels i l t total lt at same so_far =
    let step : labelled (labels_of (drop i labels)) t ≡ Some l.0 = rw (labels_at labels i l lt at, same) refl in
    sym step ∙ so_far

pub labelled_miss : (labels : List (ℤ × String Global)) (i : ℕ) (l : ℤ × String Global) (t : List ℕ) (total : Option ℤ) → i < length labels → l ≡ get_or labels i l → bytes_eq (string_bytes l.1) t ≡ false
    → labelled (labels_of (drop i labels)) t ≡ total → labelled (labels_of (drop (i + 1) labels)) t ≡ total
unfolding labelled
labelled_miss labels i l t total lt at other so_far =
    let step : labelled (labels_of (drop i labels)) t ≡ labelled (labels_of (drop (i + 1) labels)) t = rw (labels_at labels i l lt at, other) refl in
    sym step ∙ so_far

-- ---- texts

pub is_utf8_true : (bs : List ℕ) → IsUtf8 bs → is_utf8 bs ≡ true
is_utf8_true bs h = is_utf8-from_IsUtf8 bs h

test_false : (b : Bool) → (b ≡ true → ⊥) → b ≡ false
test_false true never = absurd (never refl)
test_false false never = refl

pub is_utf8_false : (bs : List ℕ) → (IsUtf8 bs → ⊥) → is_utf8 bs ≡ false
is_utf8_false bs never = test_false (is_utf8 bs) (λ h. never (IsUtf8-from_is_utf8 bs h))

-- ---- escapes

abbrev pub as_words : List (Bor (List ℕ) × ℕ) → List (List ℕ × ℕ)
as_words words = map (λ v. (v.0.now, v.1)) words

words_at : (words : List (Bor (List ℕ) × ℕ)) (i : ℕ) (w : Bor (List ℕ) × ℕ) → i < length words → w ≡ get_or words i w → as_words (drop i words) ≡ (w.0.now, w.1) ∷ as_words (drop (i + 1) words)
words_at words i w lt at = ap as_words (drop_is words i w lt) ∙ ap (λ (x : Bor (List ℕ) × ℕ). (x.0.now, x.1) ∷ as_words (drop (i + 1) words)) (sym at)

pub byte_of_hit : (words : List (Bor (List ℕ) × ℕ)) (i : ℕ) (w : Bor (List ℕ) × ℕ) (text : List ℕ) (total : Read ℕ) → i < length words → w ≡ get_or words i w → common w.0.now text ≡ length w.0.now
    → byte_of (as_words (drop i words)) text ≡ total → total ≡ Some (w.1, drop (length w.0.now) text)
unfolding byte_of
byte_of_hit words i w text total lt at same so_far =
    let parts = words_at words i w lt at in
    let step : byte_of (as_words (drop i words)) text ≡ Some (w.1, drop (length w.0.now) text) = rw (parts, eq-eqb (common w.0.now text) (length w.0.now) same) refl in
    sym so_far ∙ step

pub byte_of_miss : (words : List (Bor (List ℕ) × ℕ)) (i : ℕ) (w : Bor (List ℕ) × ℕ) (text : List ℕ) (total : Read ℕ) → i < length words → w ≡ get_or words i w → (common w.0.now text ≡ length w.0.now → ⊥)
    → byte_of (as_words (drop i words)) text ≡ total → byte_of (as_words (drop (i + 1) words)) text ≡ total
unfolding byte_of
byte_of_miss words i w text total lt at other so_far =
    let parts = words_at words i w lt at in
    let step : byte_of (as_words (drop i words)) text ≡ byte_of (as_words (drop (i + 1) words)) text = rw (parts, ne_eqb (common w.0.now text) (length w.0.now) other) refl in
    sym step ∙ so_far

-- ---- bytes between quotes

abbrev pub bytes_after : List ℕ → Read (List ℕ) → Read (List ℕ)
bytes_after front read = read >>= λ others. Some (front ++ others.0, others.1)

bytes_regroup : (front : List ℕ) (b : ℕ) (read : Read (List ℕ)) → bytes_after front (read >>= λ others. Some (b ∷ others.0, others.1)) ≡ bytes_after (front ++ b ∷ []) read
bytes_regroup front b (Some others) = ap (λ (x : List ℕ). Some (x, others.1)) (sym (append_assoc front (b ∷ []) others.0))
bytes_regroup front b None = refl

module _ (front : List ℕ) (count k : ℕ) (text : List ℕ) (total : Read (List ℕ)) (lt : k < count) (so_far : bytes_after front (unquoted (count - k) text) ≡ total) where
  is_next : count - k ≡ suc (count - (k + 1))
  is_next = omega (arith, lt)

  pub bytes_go_on : (b : ℕ) (behind : List ℕ) → after 34 text ≡ None → byte_in text ≡ Some (b, behind) → bytes_after (front ++ b ∷ []) (unquoted (count - (k + 1)) behind) ≡ total
  unfolding unquoted
  bytes_go_on b behind none read =
      let step : bytes_after front (unquoted (suc (count - (k + 1))) text) ≡ bytes_after (front ++ b ∷ []) (unquoted (count - (k + 1)) behind) = rw (none, read) (bytes_regroup front b (unquoted (count - (k + 1)) behind)) in
      sym step ∙ ap (λ n. bytes_after front (unquoted n text)) (sym is_next) ∙ so_far

  pub bytes_end : (rest : List ℕ) → after 34 text ≡ Some rest → total ≡ Some (front, rest)
  unfolding unquoted
  bytes_end rest quote =
      let step : bytes_after front (unquoted (suc (count - (k + 1))) text) ≡ Some (front ++ [], rest) = rw quote refl in
      sym so_far ∙ ap (λ n. bytes_after front (unquoted n text)) is_next ∙ step ∙ ap (λ (x : List ℕ). Some (x, rest)) (append-nil front)

  pub bytes_fail : after 34 text ≡ None → byte_in text ≡ None → total ≡ None
  unfolding unquoted
  bytes_fail none bad =
      let step : bytes_after front (unquoted (suc (count - (k + 1))) text) ≡ None = rw (none, bad) refl in
      sym so_far ∙ ap (λ n. bytes_after front (unquoted n text)) is_next ∙ step

pub bytes_done : (front : List ℕ) (count k : ℕ) (text : List ℕ) (total : Read (List ℕ)) → count ≤ k → bytes_after front (unquoted (count - k) text) ≡ total → total ≡ None
unfolding unquoted
bytes_done front count k text total le so_far =
    let none : count - k ≡ 0 = omega (arith, le) in
    sym so_far ∙ ap (λ n. bytes_after front (unquoted n text)) none
