-- A whole part, and its message.
use Rattle.std.proofs.Common.{◌≡◌, ℕ, ◌<◌, ◌≤◌, Bool, true, false, not, nat_lt, nat_le, if◌then◌else◌, List, map, length, slice_get, Option, None, Some, refl, sym, ap, ◌∙◌, arith}
use Rattle.std.specs.Option.{is_some, unwrap_or, option_and_then}
use Rattle.std.specs.List.{list_any, list_all, range_with_len}
use Rattle.std.proofs.lemmas.Bool.{and_parts, eq-eqb}
use Rattle.std.proofs.lemmas.Bool.Decides.{nat_tests}
use Rattle.std.proofs.lemmas.List.FromFn.{length-map-range_with_len, get_or-map-range_with_len}
use Rattle.std.proofs.lemmas.Option.{slice_get_past, slice_get_within, slice_get-get_or}
use Rattle.std.specs.Ordering.{nat_cmp}
use Rattle.std.specs.FinMap.{FinMap, get, keys, contains_key}
use Rattle.someip_reassembly.specs.Parts.{Part}
use Rattle.someip_reassembly.specs.SegmentOffers.{message_of, are_exactly_below}
use Rattle.someip_reassembly.specs.Slices.{AreFront}
use Rattle.someip_tp.specs.Wholes.{IsWhole}
use Rattle.someip_reassembly.proofs.PartialLemmas.{not_all_in_range, a_place_passes, whole_is, message_is, front_length}

in_range : (test : ℕ → Bool) (n q : ℕ) → list_all test (range_with_len 0 n) ≡ true → q < n → test q ≡ true
in_range test n q all lt = cases (test q) refl
  where
    cases : (b : Bool) → test q ≡ b → b ≡ true
    cases true is = refl
    cases false is =
        let none = not_all_in_range test 0 n q (omega arith) (omega (arith, lt)) is in
        cc

-- the bytes below a total, in order
abbrev bytes_below : FinMap nat_cmp ℕ → ℕ → List ℕ
bytes_below bytes total = map (λ place. unwrap_or (get bytes place) 0) (range_with_len 0 total)

held_is : (o : Option ℕ) → is_some o ≡ true → o ≡ Some (unwrap_or o 0)
held_is None h = cc
held_is (Some b) h = refl

bytes_at : (bytes : FinMap nat_cmp ℕ) (total : ℕ) → are_exactly_below total bytes ≡ true → (place : ℕ) → get bytes place ≡ slice_get (bytes_below bytes total) place
bytes_at bytes total exactly place = cases (nat_lt place total) refl
  where
    all : list_all (contains_key bytes) (range_with_len 0 total) ≡ true
    all = (and_parts (list_all (contains_key bytes) (range_with_len 0 total)) (not (list_any (nat_le total) (keys bytes))) exactly).0

    none : not (list_any (nat_le total) (keys bytes)) ≡ true
    none = (and_parts (list_all (contains_key bytes) (range_with_len 0 total)) (not (list_any (nat_le total) (keys bytes))) exactly).1

    unheld : nat_le total place ≡ true → (o : Option ℕ) → get bytes place ≡ o → o ≡ None
    unheld past None is = refl
    unheld past (Some b) is =
        let any : list_any (nat_le total) (keys bytes) ≡ true = a_place_passes (nat_le total) bytes place (ap is_some is) past in
        let turned : not true ≡ true = ap not (sym any) ∙ none in
        cc

    cases : (b : Bool) → nat_lt place total ≡ b → get bytes place ≡ slice_get (bytes_below bytes total) place
    cases true test =
        let lt : place < total = grind (arith, nat_tests) in
        let long : place < length (bytes_below bytes total) = omega (arith, lt, length-map-range_with_len (λ p. unwrap_or (get bytes p) 0) 0 total) in
        held_is (get bytes place) (in_range (contains_key bytes) total place all lt)
        ∙ sym (slice_get-get_or (bytes_below bytes total) place 0 long ∙ ap Some (get_or-map-range_with_len (λ p. unwrap_or (get bytes p) 0) 0 total place place 0 lt (omega arith)))
    cases false test =
        let past : nat_le total place ≡ true = grind (arith, nat_tests) in
        let short : length (bytes_below bytes total) ≤ place = grind (arith, nat_tests, length-map-range_with_len (λ p. unwrap_or (get bytes p) 0) 0 total) in
        unheld past (get bytes place) refl ∙ sym (slice_get_past (bytes_below bytes total) place short)

told : (b : Bool) (found message : List ℕ) → (if b then Some found else None) ≡ Some message → (b ≡ true) × (found ≡ message)
told true found message is = (refl, cc)
told false found message is = cc

pub whole_from_message : (part : Part) (message : List ℕ) → message_of part ≡ Some message → IsWhole part message
whole_from_message part message is = cases part.total refl is
  where
    cases : (o : Option ℕ) → part.total ≡ o → option_and_then (λ t. if are_exactly_below t part.bytes then Some (bytes_below part.bytes t) else None) o ≡ Some message → IsWhole part message
    cases None known is = cc
    cases (Some total) known is =
        let both = told (are_exactly_below total part.bytes) (bytes_below part.bytes total) message is in
        let long : length message ≡ total = ap length (sym both.1) ∙ length-map-range_with_len (λ p. unwrap_or (get part.bytes p) 0) 0 total in
        (known ∙ ap Some (sym long), (λ place. bytes_at part.bytes total both.0 place ∙ ap (λ m. slice_get m place) both.1))

pub message_from_whole : (part : Part) (message : List ℕ) → IsWhole part message → message_of part ≡ Some message
message_from_whole part message whole =
    let front : AreFront part.bytes message = ((λ place below. whole.1 place), whole.1 (length message) ∙ slice_get_past message (length message) (omega arith)) in
    message_is part message
    (sym (whole_is part (length message) (length message) whole.0 (front_length part.bytes message front) below) ∙ eq-eqb (length message) (length message) refl)
    front below
  where
    within : (t place : ℕ) → part.total ≡ Some t → (o : Option ℕ) → get part.bytes place ≡ o → is_some o ≡ true → place < t
    within t place known None is held = cc
    within t place known (Some b) is held =
        let short = slice_get_within message place b (sym (whole.1 place) ∙ is) in
        let same : length message ≡ t = let both = sym whole.0 ∙ known in cc in
        omega (arith, short, same)

    below : (t place : ℕ) → part.total ≡ Some t → is_some (get part.bytes place) ≡ true → place < t
    below t place known held = within t place known (get part.bytes place) refl held
