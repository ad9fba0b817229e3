-- Each text of a value is read as it: tokens, numbers, floats and texts.
use Rattle.std.proofs.Common.{◌≡◌, ℕ, suc, ◌+◌, ◌-◌, ◌%◌, ◌<◌, ◌^◌, inl, inr, Bool, true, false, ◌&&◌, cond, eqb, List, [], ◌∷◌, ◌++◌, length, codes, Option, Some, None, refl, sym, ap, subst, ◌∙◌, arith}
use Rattle.std.specs.Prelude.{ℤ, pos, negsuc, nat_lt, nat_le}
use Rattle.std.specs.List.{list_all}
use Rattle.std.specs.Fmt.{decimal, signed_decimal}
use Rattle.std.specs.Str.{bytes_eq}
use Rattle.std.proofs.lemmas.Bool.{false≢true}
use Rattle.std.proofs.lemmas.Bool.Decides.{nat_tests}
use Rattle.std.proofs.lemmas.Fmt.{decimal_by_steps, decimal_nonempty}
use Rattle.std.proofs.lemmas.List.Folds.{list_all-append}
use Rattle.someip_payload_values.specs.Data.{Data, truth, uint, int}
use Rattle.someip_payload.specs.ReadValues.{Read, token, past_token, after, atom_in, truth_of, long_of, below_zero, signed_of, unsigned_by, signed_by, unsigned_of, integer_of, skip_name, or_text}
use Rattle.someip_payload.specs.ValueReading.{IsLong, IsTextOfUnsigned, IsTextOfSigned, truth_text, is_plain, begins_word}
use Rattle.someip_payload.proofs.Fronts.{both}
use Rattle.someip_payload.proofs.ValueTokens.{lt_true, number_of_decimal, same_bytes}

-- nothing goes on here: no word or number, and no sign after a name
abbrev pub Ends : List ℕ → Type 0
Ends rest = (token rest ≡ []) × (past_token rest ≡ rest) × (after 61 rest ≡ None)

pub ends-byte : (b : ℕ) (rest : List ℕ) → is_plain b ≡ false → eqb b 61 ≡ false → Ends (b ∷ rest)
unfolding token past_token after
ends-byte b rest plain sign = (rw plain refl, rw plain refl, rw sign refl)

pub ends-nothing : Ends []
unfolding token past_token after
ends-nothing = (refl, refl, refl)

pub token_again : (t rest : List ℕ) → list_all is_plain t ≡ true → token rest ≡ [] → token (t ++ rest) ≡ t
unfolding token
token_again [] rest plain stops = stops
token_again (b ∷ bs) rest plain stops = let parts = both (is_plain b) (list_all is_plain bs) plain in rw parts.0 (ap (λ (x : List ℕ). b ∷ x) (token_again bs rest parts.1 stops))

pub past_token_again : (t rest : List ℕ) → list_all is_plain t ≡ true → past_token rest ≡ rest → past_token (t ++ rest) ≡ rest
unfolding past_token
past_token_again [] rest plain stops = stops
past_token_again (b ∷ bs) rest plain stops = let parts = both (is_plain b) (list_all is_plain bs) plain in rw parts.0 (past_token_again bs rest parts.1 stops)

plain_other : (b : ℕ) → is_plain b ≡ true → eqb b 93 ≡ false
plain_other b is = grind (arith, nat_tests)

-- a text is read as this, whatever stands after it; it begins with no name of a member, and is no dash
pub record Again (read : List ℕ → Read Data) (d : Data) (text rest : List ℕ) : Type 0 where
  pub value : read (text ++ rest) ≡ Some (d, rest)
  pub no_name : after 61 (past_token (text ++ rest)) ≡ None
  pub no_dash : bytes_eq (token (text ++ rest)) (codes "-") ≡ false
  pub no_bracket : after 93 (text ++ rest) ≡ None

pub plain_first : (t rest : List ℕ) → list_all is_plain t ≡ true → 0 < length t → after 93 (t ++ rest) ≡ None
unfolding after
plain_first [] rest plain some = absurd (omega arith)
plain_first (b ∷ bs) rest plain some = let other = plain_other b (both (is_plain b) (list_all is_plain bs) plain).0 in rw other refl

pub atom_again : (atom : List ℕ → Option Data) (t : List ℕ) (d : Data) (rest : List ℕ) → list_all is_plain t ≡ true → atom t ≡ Some d → bytes_eq t (codes "-") ≡ false → 0 < length t → Ends rest → Again (atom_in atom) d t rest
unfolding atom_in
atom_again atom t d rest plain is other some ends = record {
  value = rw (token_again t rest plain ends.0, is, past_token_again t rest plain ends.1) refl;
  no_name = rw (past_token_again t rest plain ends.1) ends.2;
  no_dash = rw (token_again t rest plain ends.0) other;
  no_bracket = plain_first t rest plain some;
}

pub truth_again : (b : Bool) (rest : List ℕ) → Ends rest → Again (atom_in truth_of) (truth b) (truth_text b) rest
unfolding truth_of
truth_again true rest ends = atom_again truth_of (codes "true") (truth true) rest refl refl refl (omega arith) ends
truth_again false rest ends = atom_again truth_of (codes "false") (truth false) rest refl refl refl (omega arith) ends

-- ---- numbers

abbrev is_digit : ℕ → Bool
is_digit b = nat_le 48 b && nat_lt b 58

digit_is : (d : ℕ) → d < 10 → is_digit (48 + d) ≡ true
digit_is d small = grind (arith, nat_tests)

one_digit : (d : ℕ) → d < 10 → list_all is_digit ((48 + d) ∷ []) ≡ true
one_digit d small = rw (digit_is d small) refl

digits_all : (n : ℕ) → n < 2 ^ 64 → list_all is_digit (decimal n) ≡ true
digits_all n small = decimal_by_steps (λ k ds. list_all is_digit ds ≡ true) (λ k lt. one_digit k lt) (λ k ds le rest. list_all-append is_digit ds ((48 + k % 10) ∷ []) ∙ rw (rest, one_digit (k % 10) (omega arith)) refl) n small

digit_plain : (b : ℕ) → is_digit b ≡ true → is_plain b ≡ true
digit_plain b is = grind (arith, nat_tests)

digits_plain : (ds : List ℕ) → list_all is_digit ds ≡ true → list_all is_plain ds ≡ true
digits_plain [] all = refl
digits_plain (b ∷ bs) all = let parts = both (is_digit b) (list_all is_digit bs) all in rw (digit_plain b parts.0, digits_plain bs parts.1) refl

digit_first : (b : ℕ) → is_digit b ≡ true → (begins_word (b ∷ []) ≡ false) × (eqb b 45 ≡ false)
digit_first b is = (grind (arith, nat_tests), grind (arith, nat_tests))

pub decimal_plain : (n : ℕ) → n < 2 ^ 64 → list_all is_plain (decimal n) ≡ true
decimal_plain n small = digits_plain (decimal n) (digits_all n small)

digits_first : (ds : List ℕ) → list_all is_digit ds ≡ true → (begins_word ds ≡ false) × (after 45 ds ≡ None) × (bytes_eq ds (codes "-") ≡ false)
unfolding after
digits_first [] all = (refl, refl, refl)
digits_first (b ∷ bs) all =
    let parts = both (is_digit b) (list_all is_digit bs) all in
    let first = digit_first b parts.0 in
    (first.0, rw first.1 refl, rw first.1 refl)

pub decimal_first : (n : ℕ) → n < 2 ^ 64 → (begins_word (decimal n) ≡ false) × (after 45 (decimal n) ≡ None) × (bytes_eq (decimal n) (codes "-") ≡ false)
decimal_first n small = digits_first (decimal n) (digits_all n small)

word_no_dash : (t : List ℕ) → begins_word t ≡ true → bytes_eq t (codes "-") ≡ false
word_no_dash [] word = refl
word_no_dash (b ∷ bs) word = let other : eqb b 45 ≡ false = grind (arith, nat_tests, word) in rw other refl

word_some : (t : List ℕ) → begins_word t ≡ true → 0 < length t
word_some [] word = absurd (false≢true word)
word_some (b ∷ bs) word = omega arith

pub unsigned_again : (ls : List (ℤ × List ℕ)) (d : Data) (t rest : List ℕ) → IsTextOfUnsigned ls d t → Ends rest → Again (atom_in (unsigned_of ls)) d t rest
unfolding unsigned_of unsigned_by
unsigned_again ls d t rest own ends = subst (λ (x : Data). Again (atom_in (unsigned_of ls)) x t rest) (sym own.1) (elim own.3 [
  | inl is ↦
      let first = decimal_first own.0 own.2 in
      let read : unsigned_of ls (decimal own.0) ≡ Some (uint own.0) = rw (first.0, number_of_decimal own.0 own.2) refl in
      subst (λ (x : List ℕ). Again (atom_in (unsigned_of ls)) (uint own.0) x rest) (sym is) (atom_again (unsigned_of ls) (decimal own.0) (uint own.0) rest (decimal_plain own.0 own.2) read first.2 (decimal_nonempty own.0 own.2) ends)
  | inr word ↦
      let read : unsigned_of ls t ≡ Some (uint own.0) = rw (word.0.0, word.1, lt_true own.0 (2 ^ 64) own.2) refl in
      atom_again (unsigned_of ls) t (uint own.0) rest word.0.1 read (word_no_dash t word.0.0) (word_some t word.0.0) ends
])

minus_no_dash : (ds : List ℕ) → 0 < length ds → bytes_eq (45 ∷ ds) (codes "-") ≡ false
minus_no_dash [] some = absurd (omega arith)
minus_no_dash (b ∷ bs) some = refl

below_again : (n : ℕ) → n < 2 ^ 63 → below_zero (suc n) ≡ Some (negsuc n)
below_again n small =
    let some : nat_lt 0 (suc n) ≡ true = grind (arith, nat_tests) in
    let fits : nat_le (suc n) (2 ^ 63) ≡ true = grind (arith, nat_tests, small) in
    let same : suc n - 1 ≡ n = omega arith in
    rw (some, fits) (ap (λ k. Some (negsuc k)) same)

number_again : (z : ℤ) → IsLong z → (begins_word (signed_decimal z) ≡ false) × (signed_of (signed_decimal z) ≡ Some z) × (list_all is_plain (signed_decimal z) ≡ true)
    × (bytes_eq (signed_decimal z) (codes "-") ≡ false) × (0 < length (signed_decimal z))
unfolding signed_of after
number_again (pos n) small =
    let wide : n < 2 ^ 64 = omega (arith, small) in
    let first = decimal_first n wide in
    (first.0, rw (first.1, number_of_decimal n wide, lt_true n (2 ^ 63) small) refl, decimal_plain n wide, first.2, decimal_nonempty n wide)
number_again (negsuc n) small =
    let wide : suc n < 2 ^ 64 = omega (arith, small) in
    (refl, rw (number_of_decimal (suc n) wide) (below_again n small), rw (decimal_plain (suc n) wide) refl, minus_no_dash (decimal (suc n)) (decimal_nonempty (suc n) wide), omega arith)

long_again : (z : ℤ) → IsLong z → long_of z ≡ Some z
long_again (pos n) small = rw (lt_true n (2 ^ 63) small) refl
long_again (negsuc n) small = rw (lt_true n (2 ^ 63) small) refl

pub signed_again : (ls : List (ℤ × List ℕ)) (d : Data) (t rest : List ℕ) → IsTextOfSigned ls d t → Ends rest → Again (atom_in (integer_of ls)) d t rest
unfolding integer_of signed_by
signed_again ls d t rest own ends = subst (λ (x : Data). Again (atom_in (integer_of ls)) x t rest) (sym own.1) (elim own.3 [
  | inl is ↦
      let n = number_again own.0 own.2 in
      let read : integer_of ls (signed_decimal own.0) ≡ Some (int own.0) = rw (n.0, n.1) refl in
      subst (λ (x : List ℕ). Again (atom_in (integer_of ls)) (int own.0) x rest) (sym is) (atom_again (integer_of ls) (signed_decimal own.0) (int own.0) rest n.2 read n.3 n.4 ends)
  | inr word ↦
      let read : integer_of ls t ≡ Some (int own.0) = rw (word.0.0, word.1, long_again own.0 own.2) refl in
      atom_again (integer_of ls) t (int own.0) rest word.0.1 read (word_no_dash t word.0.0) (word_some t word.0.0) ends
])

-- ---- names of members

pub skip_none : (names : List (List ℕ)) (text : List ℕ) → after 61 (past_token text) ≡ None → skip_name names text ≡ text
unfolding skip_name
skip_none [] text none = refl
skip_none (n ∷ ns) text none = by (bytes_eq (token text) n)
  where
    by : (b : Bool) → cond b (or_text (after 61 (past_token text)) text) text ≡ text
    by true = rw none refl
    by false = refl

pub skip_own : (n : List ℕ) (ns : List (List ℕ)) (own : List ℕ) → list_all is_plain n ≡ true → skip_name (n ∷ ns) (n ++ (61 ∷ own)) ≡ own
unfolding skip_name token past_token after
skip_own n ns own plain = rw (token_again n (61 ∷ own) plain refl, same_bytes n, past_token_again n (61 ∷ own) plain refl) refl
