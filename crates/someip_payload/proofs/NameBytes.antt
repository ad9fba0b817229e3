-- Names between two places of a text.
use Rattle.std.proofs.Common.{◌≡◌, ℕ, zero, suc, ◌+◌, ◌-◌, ◌<◌, ◌≤◌, Bool, true, false, ◌&&◌, ⊎_elim, List, [], ◌∷◌, ◌++◌, length, get_or, drop, slice_range, codes, Option, Some, None, append_assoc, refl, sym, ap, subst, ◌∙◌, arith}
use Rattle.std.specs.Prelude.{nat_lt}
use Rattle.std.specs.List.{list_all}
use Rattle.std.specs.Str.{IsUtf8}
use Rattle.std.proofs.lemmas.Bool.{cases_lt, false≢true}
use Rattle.std.proofs.lemmas.Bool.Decides.{nat_tests}
use Rattle.std.proofs.lemmas.Str.{IsUtf8-from_ascii}
use Rattle.std.proofs.lemmas.List.{length-append, length-take, length-drop, get_or_append_left, get_or_at, get_or-drop, get_or-take}
use Rattle.std.proofs.lemmas.List.Folds.{list_all-append}
use Rattle.someip_payload_values.specs.Check.{is_first, is_later, is_name}
use Rattle.someip_payload.specs.ShapeText.{EndsName, BeginsNoName, IsNameIfAny, begins_name, name_text}
use Rattle.someip_payload.proofs.Fronts.{both}
use Rattle.someip_payload.proofs.Places.{behind_piece}
use Rattle.someip_payload.proofs.Pieces.{slice_range-byte, slice_range-append}

-- ---- what bytes a name has

and_true : (a b : Bool) → a ≡ true → b ≡ true → (a && b) ≡ true
and_true a b h k = rw (h, k) refl

lt_true : (m n : ℕ) → m < n → nat_lt m n ≡ true
lt_true m n lt = grind (arith, nat_tests)

true_lt : (m n : ℕ) → nat_lt m n ≡ true → m < n
true_lt m n is = grind (arith, nat_tests)

all_at : (bytes : List ℕ) (i : ℕ) → list_all is_later bytes ≡ true → i < length bytes → is_later (get_or bytes i 0) ≡ true
all_at [] i all lt = absurd (omega arith)
all_at (b ∷ bs) zero all lt = (both (is_later b) (list_all is_later bs) all).0
all_at (b ∷ bs) (suc i) all lt = all_at bs i (both (is_later b) (list_all is_later bs) all).1 (omega arith)

pub name_len : (n : List ℕ) → is_name n ≡ true → (0 < length n) × (length n ≤ 64)
name_len [] is = absurd (false≢true is)
name_len (b ∷ bs) is =
    let rest = (both (is_first b) (list_all is_later bs && nat_lt (length bs) 64) is).1 in
    let small = true_lt (length bs) 64 (both (list_all is_later bs) (nat_lt (length bs) 64) rest).1 in
    (omega arith, omega (arith, small))

later_in : (n : List ℕ) (i : ℕ) → is_name n ≡ true → 0 < i → i < length n → is_later (get_or n i 0) ≡ true
later_in [] i is some lt = absurd (omega arith)
later_in (b ∷ bs) zero is some lt = absurd (omega arith)
later_in (b ∷ bs) (suc i) is some lt =
    let rest = (both (is_first b) (list_all is_later bs && nat_lt (length bs) 64) is).1 in
    all_at bs i (both (list_all is_later bs) (nat_lt (length bs) 64) rest).0 (omega arith)

one_byte : (b : ℕ) → is_first b ≡ true → is_name (b ∷ []) ≡ true
one_byte b is = and_true (is_first b) true is refl

more_bytes : (n : List ℕ) (b : ℕ) → is_name n ≡ true → is_later b ≡ true → length n < 64 → is_name (n ++ b ∷ []) ≡ true
more_bytes [] b is later short = absurd (false≢true is)
more_bytes (c ∷ cs) b is later short =
    let parts = both (is_first c) (list_all is_later cs && nat_lt (length cs) 64) is in
    let all = (both (list_all is_later cs) (nat_lt (length cs) 64) parts.1).0 in
    let rest : list_all is_later (cs ++ b ∷ []) ≡ true = list_all-append is_later cs (b ∷ []) ∙ and_true (list_all is_later cs) (is_later b && true) all (and_true (is_later b) true later refl) in
    let small : nat_lt (length (cs ++ b ∷ [])) 64 ≡ true = lt_true (length (cs ++ b ∷ [])) 64 (omega (arith, short, length-append cs (b ∷ []))) in
    and_true (is_first c) (list_all is_later (cs ++ b ∷ []) && nat_lt (length (cs ++ b ∷ [])) 64) parts.0 (and_true (list_all is_later (cs ++ b ∷ [])) (nat_lt (length (cs ++ b ∷ [])) 64) rest small)

-- ---- the bytes that are read as one

first_of : (bytes : List ℕ) → begins_name bytes ≡ true → (0 < length bytes) × (is_first (get_or bytes 0 0) ≡ true)
first_of [] is = absurd (false≢true is)
first_of (b ∷ bs) is = (omega arith, is)

pub begun : (text : List ℕ) (at : ℕ) → begins_name (drop at text) ≡ true → (at < length text) × (is_name (slice_range text at (at + 1)) ≡ true)
begun text at is =
    let first = first_of (drop at text) is in
    let lt : at < length text = omega (arith, first.0, length-drop at text) in
    let here : get_or (drop at text) 0 0 ≡ get_or text at 0 = get_or-drop at text 0 0 ∙ ap (λ i. get_or text i 0) (omega arith) in
    (lt, rw (slice_range-byte text at lt) (one_byte (get_or text at 0) (sym (ap is_first here) ∙ first.1)))

pub goes_on : (text : List ℕ) (at end : ℕ) → at < end → end < length text → end - at < 64 → is_name (slice_range text at end) ≡ true → is_later (get_or text end 0) ≡ true
    → is_name (slice_range text at (end + 1)) ≡ true
goes_on text at end lt inside short is later =
    let le : at ≤ end = omega arith in
    let len : length (slice_range text at end) ≡ end - at = omega (arith, length-take (end - at) (drop at text), length-drop at text, lt, inside) in
    rw (← slice_range-append text at end (end + 1) le (omega arith), slice_range-byte text end inside) (more_bytes (slice_range text at end) (get_or text end 0) is later (omega (arith, len, short)))

-- the byte behind a name is of no name
ends_there : (rest : List ℕ) → EndsName rest → 0 < length rest → is_later (get_or rest 0 0) ≡ false
ends_there [] ends some = absurd (omega arith)
ends_there (b ∷ bs) ends some = ends

-- where a name stands, it is the one that is read there
module _ (text n rest : List ℕ) (at end : ℕ) (is : drop at text ≡ n ++ rest) (name : is_name n ≡ true) (lt : at < end) (inside : end ≤ length text) where
  whole : length text ≡ at + length n + length rest
  whole = omega (arith, lt, inside, ap length is, length-drop at text, length-append n rest)

  too_short : (end < length text → end < at + 64 → is_later (get_or text end 0) ≡ false) → end < at + length n → ⊥
  too_short stop short =
      let k : ℕ = end - at in
      let inner : k < length n = omega (arith, lt, short) in
      let same : at + k ≡ end = omega (arith, lt) in
      let here : get_or text end 0 ≡ get_or n k 0 =
      ap (λ i. get_or text i 0) (sym same) ∙ sym (get_or-drop at text k 0) ∙ ap (λ (t : List ℕ). get_or t k 0) is ∙ get_or_append_left n rest 0 k inner in
      let later = later_in n k name (omega (arith, lt)) inner in
      let no_more = stop (omega (arith, whole, short)) (omega (arith, short, (name_len n name).1)) in
      false≢true (sym no_more ∙ ap is_later here ∙ later)

  too_long : EndsName rest → is_name (slice_range text at end) ≡ true → at + length n < end → ⊥
  too_long ends read long =
      let i : ℕ = length n in
      let inner : i < end - at = omega (arith, long) in
      let len : length (slice_range text at end) ≡ end - at = omega (arith, length-take (end - at) (drop at text), length-drop at text, lt, inside) in
      let later = later_in (slice_range text at end) i read (name_len n name).0 (omega (arith, len, inner)) in
      let more : 0 < length rest = omega (arith, long, whole, inside) in
      let here : get_or (slice_range text at end) i 0 ≡ get_or rest 0 0 = get_or-take (end - at) (drop at text) i 0 inner ∙ ap (λ (t : List ℕ). get_or t i 0) is ∙ behind rest more in
      false≢true (sym (ends_there rest ends more) ∙ ap is_later (sym here) ∙ later)
    where
      behind : (tail : List ℕ) → 0 < length tail → get_or (n ++ tail) (length n) 0 ≡ get_or tail 0 0
      behind [] some = absurd (omega arith)
      behind (b ∷ bs) some = get_or_at n b bs 0 (length n) refl

  pub name_is : EndsName rest → is_name (slice_range text at end) ≡ true → (end < length text → end < at + 64 → is_later (get_or text end 0) ≡ false) → end ≡ at + length n
  name_is ends read stop =
      ⊎_elim (λ short. absurd (too_short stop short)) (λ le. ⊎_elim (λ long. absurd (too_long ends read long)) (λ ge. omega (arith, le, ge)) (cases_lt (at + length n) end)) (cases_lt end (at + length n))

  -- no name that stands there is longer
  pub no_longer : (end < length text → end < at + 64 → is_later (get_or text end 0) ≡ false) → at + length n ≤ end
  no_longer stop = ⊎_elim (λ short. absurd (too_short stop short)) (λ le. le) (cases_lt end (at + length n))

-- a name begins as one
pub name_begins : (n rest : List ℕ) → is_name n ≡ true → begins_name (n ++ rest) ≡ true
name_begins [] rest is = absurd (false≢true is)
name_begins (b ∷ bs) rest is = (both (is_first b) (list_all is_later bs && nat_lt (length bs) 64) is).0

-- what the end of a name that was read says of each name that stands there
abbrev pub EndOnly : List ℕ → ℕ → ℕ → Type 0
EndOnly text at end = (n rest : List ℕ) → drop at text ≡ n ++ rest → is_name n ≡ true → EndsName rest → end ≡ at + length n

-- where a name was read, a colon stands behind it
pub colon_behind : (text : List ℕ) (at end : ℕ) → (end ≡ at → ⊥) → EndOnly text at end → (BeginsNoName (drop at text) → end ≡ at) → (n : Option (List ℕ)) (rest : List ℕ) → drop at text ≡ name_text n ++ rest → IsNameIfAny n → BeginsNoName rest
    → (tail : List ℕ) × (drop end text ≡ 58 ∷ tail)
colon_behind text at end some only none None rest is name stops = absurd (some (none (subst BeginsNoName (sym is) stops)))
colon_behind text at end some only none (Some n) rest is name stops =
    let there : drop at text ≡ n ++ (58 ∷ rest) = is ∙ append_assoc n (codes ":") rest in
    (rest, behind_piece text n (58 ∷ rest) at end there (only n (58 ∷ rest) there name refl))

-- ---- a name is a text

later_low : (b : ℕ) → is_later b ≡ true → b < 128
later_low b is = grind (arith, nat_tests)

ascii_at : (bs : List ℕ) → list_all is_later bs ≡ true → (i : ℕ) → get_or bs i 0 < 128
ascii_at [] all i = omega arith
ascii_at (b ∷ bs) all zero = later_low b (both (is_later b) (list_all is_later bs) all).0
ascii_at (b ∷ bs) all (suc i) = ascii_at bs (both (is_later b) (list_all is_later bs) all).1 i

pub name_utf8 : (n : List ℕ) → is_name n ≡ true → IsUtf8 n
name_utf8 [] is = absurd (false≢true is)
name_utf8 (b ∷ bs) is =
    let parts = both (is_first b) (list_all is_later bs && nat_lt (length bs) 64) is in
    let rest = (both (list_all is_later bs) (nat_lt (length bs) 64) parts.1).0 in
    let first : is_later b ≡ true = rw parts.0 refl in
    IsUtf8-from_ascii (b ∷ bs) (ascii_at (b ∷ bs) (and_true (is_later b) (list_all is_later bs) first rest))
