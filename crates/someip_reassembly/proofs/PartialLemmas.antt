-- What a list of accepted slices says of a part: whether a segment contradicts it, and whether it is whole.
use Rattle.std.proofs.Common.{◌≡◌, ℕ, zero, suc, ◌+◌, ◌-◌, ◌<◌, ◌≤◌, ◌==◌, Bool, true, false, ◌&&◌, ◌||◌, nat_lt, nat_le, if◌then◌else◌, List, [], ◌∷◌, ◌++◌, map, length, get_or, Option, None, Some, refl, sym, ap, subst, ◌∙◌, arith}
use Rattle.std.specs.Option.{is_some, unwrap_or, option_and_then}
use Rattle.std.proofs.lemmas.Bool.{eqb-true}
use Rattle.std.proofs.lemmas.Grind.{same_number_lists}
use Rattle.std.proofs.lemmas.List.FromFn.{length-map-range_with_len, get_or-map-range_with_len}
use Rattle.std.specs.List.{list_any, list_all, range_with_len}
use Rattle.std.proofs.lemmas.Bool.Decides.{nat_tests}
use Rattle.std.proofs.lemmas.Grind.{common_steps}
use Rattle.std.specs.Ordering.{nat_cmp, eq_by_cmp}
use Rattle.std.specs.Cmp.{nat_cmp_total}
use Rattle.std.specs.FinMap.{FinMap, get, keys, contains_key, contains_key-keys, nat_cmp-IsAntisymmetric}
use Rattle.std.proofs.lemmas.Bool.{or_left, or_right}
use Rattle.std.proofs.Math.Bool.{and-false}
use Rattle.std.proofs.lemmas.Option.{slice_get_within, slice_get-get_or, unwrap_or-slice_get}
use Rattle.someip_tables.proofs.Entries.{same_by_test, own_test}
use Rattle.someip_reassembly.specs.Parts.{Part}
use Rattle.someip_reassembly.specs.SegmentOffers.{SegmentOffer, placed, added, passes, differ, total_of, conflicts, message_of, are_exactly_below}
use Rattle.someip_reassembly.specs.declared.slices.Slice.{Slice}
use Rattle.someip_reassembly.specs.Slices.{byte_at, bytes_in, end_of, AreOneText, IsFront, AreFront, AppendsFront}
use Rattle.someip_reassembly.proofs.Placed.{or_false, over, get-added}
use Rattle.someip_reassembly.proofs.SliceLemmas.{slice_with, get-bytes_in, byte_within, byte_from}

-- the places of a slice that pass a total
pub any_place : (total offset : ℕ) (bs : List ℕ) → list_any (nat_le total) (map (λ (e : ℕ × ℕ). e.0) (placed offset bs)) ≡ (nat_lt 0 (length bs) && nat_lt total (offset + length bs))
any_place total offset [] = refl
any_place total offset (b ∷ bs) = ap (λ t. nat_le total offset || t) (any_place total (offset + 1) bs) ∙ tests (length bs)
  where
    tests : (n : ℕ) → (nat_le total offset || (nat_lt 0 n && nat_lt total (offset + 1 + n))) ≡ (nat_lt 0 (suc n) && nat_lt total (offset + suc n))
    tests n = grind (arith, nat_tests, common_steps)

pub passes_is : (total offset : ℕ) (bs : List ℕ) → (length bs == 0) ≡ false → nat_lt total (offset + length bs) ≡ passes (Some total) (map (λ (e : ℕ × ℕ). e.0) (placed offset bs))
passes_is total offset [] filled = cc
passes_is total offset (b ∷ bs) filled =
    let filled : nat_lt 0 (suc (length bs)) ≡ true = grind (arith, nat_tests) in
    sym (any_place total offset (b ∷ bs) ∙ rw filled refl)

-- ---- a test of the held places

at_key : (test : ℕ → Bool) (q : ℕ) (ks : List ℕ) → list_any (eq_by_cmp nat_cmp q) ks ≡ true → test q ≡ true → list_any test ks ≡ true
at_key test q [] found passes = cc
at_key test q (k ∷ ks) found passes = cases (eq_by_cmp nat_cmp q k) refl found (λ h. at_key test q ks h passes)
  where
    cases : (b : Bool) → eq_by_cmp nat_cmp q k ≡ b → (b || list_any (eq_by_cmp nat_cmp q) ks) ≡ true → (list_any (eq_by_cmp nat_cmp q) ks ≡ true → list_any test ks ≡ true) → (test k || list_any test ks) ≡ true
    cases true same found rest = or_left (test k) _ (ap test (sym (same_by_test nat_cmp-IsAntisymmetric q k same)) ∙ passes)
    cases false other found rest = or_right (test k) _ (rest found)

no_key_of : (test : ℕ → Bool) (ks : List ℕ) → ((q : ℕ) → list_any (eq_by_cmp nat_cmp q) ks ≡ true → test q ≡ false) → list_any test ks ≡ false
no_key_of test [] none = refl
no_key_of test (k ∷ ks) none =
    rw (none k (or_left _ _ (own_test nat_cmp_total k)))
    (no_key_of test ks (λ q found. none q (or_right (eq_by_cmp nat_cmp q k) _ found)))

pub a_place_passes : (test : ℕ → Bool) (bytes : FinMap nat_cmp ℕ) (place : ℕ) → is_some (get bytes place) ≡ true → test place ≡ true → list_any test (keys bytes) ≡ true
a_place_passes test bytes place held passes = at_key test place (keys bytes) (sym (contains_key-keys bytes place) ∙ held) passes

pub no_place_passes : (test : ℕ → Bool) (bytes : FinMap nat_cmp ℕ) → ((place : ℕ) → is_some (get bytes place) ≡ true → test place ≡ false) → list_any test (keys bytes) ≡ false
no_place_passes test bytes none = no_key_of test (keys bytes) (λ q found. none q (contains_key-keys bytes q ∙ found))

-- ---- a total at or below a held place

both_hold : (a b : Bool) → (a && b) ≡ true → (a ≡ true) × (b ≡ true)
both_hold true b h = (refl, h)
both_hold false b h = cc

pub reached_by : (slices : List Slice) (i : ℕ) (p : Slice) (total : ℕ) → i < length slices → p ≡ get_or slices i p → AreOneText slices
    → (nat_lt 0 (length p.bytes.items) && nat_lt total (end_of p)) ≡ true → list_any (nat_le total) (keys (bytes_in slices)) ≡ true
reached_by slices i p total lt is one reaches =
    let tests = both_hold (nat_lt 0 (length p.bytes.items)) (nat_lt total (end_of p)) reaches in
    let filled : 0 < length p.bytes.items = grind (arith, nat_tests, tests.0) in
    let past : total < end_of p = grind (arith, nat_tests, tests.1) in
    let place : ℕ = end_of p - 1 in
    let there : p.offset ≤ place = omega (arith, filled) in
    let inside : place < end_of p = omega (arith, filled) in
    let this = slice_get-get_or p.bytes.items (place - p.offset) 0 (omega (arith, filled)) in
    let held : get (bytes_in slices) place ≡ Some (get_or p.bytes.items (place - p.offset) 0) =
    one i p lt place _ (ap (λ (x : Slice). byte_at x.offset x.bytes.items place) (sym is) ∙ byte_from p.offset p.bytes.items place _ there this) in
    a_place_passes (nat_le total) (bytes_in slices) place (ap is_some held) (grind (arith, nat_tests, past))

pub not_reached : (slices : List Slice) (total : ℕ) → ((k : ℕ) (d : Slice) → k < length slices → (nat_lt 0 (length (get_or slices k d).bytes.items) && nat_lt total (end_of (get_or slices k d))) ≡ false)
    → list_any (nat_le total) (keys (bytes_in slices)) ≡ false
not_reached slices total none = no_place_passes (nat_le total) (bytes_in slices) (λ place held. cases place (get (bytes_in slices) place) refl held)
  where
    cases : (place : ℕ) (o : Option ℕ) → get (bytes_in slices) place ≡ o → is_some o ≡ true → nat_le total place ≡ false
    cases place None is held = cc
    cases place (Some a) is held =
        slice_with slices place a (sym (get-bytes_in slices place) ∙ is) (λ k p lt at this.
        let inside = byte_within p.offset p.bytes.items place a this in
        let short = slice_get_within p.bytes.items (place - p.offset) a inside.1 in
        let test = ap (λ (x : Slice). nat_lt 0 (length x.bytes.items) && nat_lt total (end_of x)) (sym at) ∙ none k p lt in
        let filled : nat_lt 0 (length p.bytes.items) ≡ true = grind (arith, nat_tests, short) in
        let not_past : nat_lt total (end_of p) ≡ false = rw filled at test in
        grind (arith, nat_tests, not_past, short, inside.0))

-- ---- a segment that contradicts nothing

-- the four ways in which a segment may contradict a part, none of which is so
pub no_conflict : (part : Part) (o : SegmentOffer) → conflicts part o ≡ false
    → (list_any (λ e. differ (get part.bytes e.0) (Some e.1)) (placed o.offset o.bytes) ≡ false)
    × (passes part.total (map (λ (e : ℕ × ℕ). e.0) (placed o.offset o.bytes)) ≡ false)
    × (differ part.total (total_of o) ≡ false)
    × (passes (total_of o) (keys part.bytes) ≡ false)
no_conflict part o h =
    let fourth = or_false _ _ h in
    let third = or_false _ _ fourth.0 in
    let first = or_false _ _ third.0 in
    (first.0, first.1, third.1, fourth.1)

not_past : (total place : ℕ) (ks : FinMap nat_cmp ℕ) → list_any (nat_le total) (keys ks) ≡ false → is_some (get ks place) ≡ true → place < total
not_past total place ks none held = cases (nat_le total place) refl
  where
    cases : (b : Bool) → nat_le total place ≡ b → place < total
    cases true test = absurd (let h = a_place_passes (nat_le total) ks place held test in cc)
    cases false test = grind (arith, nat_tests)

in_slice : (total offset : ℕ) (bs : List ℕ) (place b : ℕ) → list_any (nat_le total) (map (λ (e : ℕ × ℕ). e.0) (placed offset bs)) ≡ false → byte_at offset bs place ≡ Some b → place < total
in_slice total offset bs place b none this =
    let inside = byte_within offset bs place b this in
    let short = slice_get_within bs (place - offset) b inside.1 in
    let tests : (nat_lt 0 (length bs) && nat_lt total (offset + length bs)) ≡ false = sym (any_place total offset bs) ∙ none in
    let filled : nat_lt 0 (length bs) ≡ true = grind (arith, nat_tests, short) in
    let not_past : nat_lt total (offset + length bs) ≡ false = rw filled at tests in
    grind (arith, nat_tests, not_past, short, inside.0)

new_byte_below : (known : Option ℕ) (offset : ℕ) (more : Bool) (bs : List ℕ) (total place b : ℕ) → passes known (map (λ (e : ℕ × ℕ). e.0) (placed offset bs)) ≡ false
    → byte_at offset bs place ≡ Some b → (if more then known else Some (offset + length bs)) ≡ Some total → place < total
new_byte_below known offset true bs total place b none this is =
    let at : passes (Some total) (map (λ (e : ℕ × ℕ). e.0) (placed offset bs)) ≡ false = ap (λ t. passes t (map (λ (e : ℕ × ℕ). e.0) (placed offset bs))) (sym is) ∙ none in
    in_slice total offset bs place b at this
new_byte_below known offset false bs total place b none this is =
    let same : offset + length bs ≡ total = cc in
    let inside = byte_within offset bs place b this in
    let short = slice_get_within bs (place - offset) b inside.1 in
    omega (arith, same, short, inside.0)

old_byte_below : (known : Option ℕ) (offset : ℕ) (more : Bool) (bs : List ℕ) (bytes : FinMap nat_cmp ℕ) (total place : ℕ) → passes (if more then None else Some (offset + length bs)) (keys bytes) ≡ false
    → ((t q : ℕ) → known ≡ Some t → is_some (get bytes q) ≡ true → q < t) → is_some (get bytes place) ≡ true → (if more then known else Some (offset + length bs)) ≡ Some total → place < total
old_byte_below known offset true bs bytes total place none below held is = below total place is held
old_byte_below known offset false bs bytes total place none below held is =
    let same : offset + length bs ≡ total = cc in
    let lt = not_past (offset + length bs) place bytes none held in
    omega (arith, same, lt)

pub below_still : (part : Part) (o : SegmentOffer) (bytes : FinMap nat_cmp ℕ) → bytes ≡ added part.bytes (placed o.offset o.bytes) → conflicts part o ≡ false
    → ((total place : ℕ) → part.total ≡ Some total → is_some (get part.bytes place) ≡ true → place < total)
    → (total place : ℕ) → (if o.more then part.total else Some (o.offset + length o.bytes)) ≡ Some total → is_some (get bytes place) ≡ true → place < total
below_still part o bytes is h below total place known held =
    let none = no_conflict part o h in
    let split : get bytes place ≡ over (byte_at o.offset o.bytes place) (get part.bytes place) = ap (λ m. get m place) is ∙ get-added part.bytes o.offset o.bytes place in
    cases (byte_at o.offset o.bytes place) refl (ap is_some (sym split) ∙ held) known none.1 none.3
  where
    cases : (b : Option ℕ) → byte_at o.offset o.bytes place ≡ b → is_some (over b (get part.bytes place)) ≡ true → (if o.more then part.total else Some (o.offset + length o.bytes)) ≡ Some total
        → passes part.total (map (λ (e : ℕ × ℕ). e.0) (placed o.offset o.bytes)) ≡ false → passes (total_of o) (keys part.bytes) ≡ false → place < total
    cases None this held known new old = old_byte_below part.total o.offset o.more o.bytes part.bytes total place old below held known
    cases (Some b) this held known new old = new_byte_below part.total o.offset o.more o.bytes total place b new this known

-- ---- a whole part

all_in_range : (test : ℕ → Bool) (a n : ℕ) → ((q : ℕ) → a ≤ q → q < a + n → test q ≡ true) → list_all test (range_with_len a n) ≡ true
all_in_range test a zero each = refl
all_in_range test a (suc n) each =
    rw (each a (omega arith) (omega arith))
    (all_in_range test (a + 1) n (λ q from to. each q (omega (arith, from)) (omega (arith, to))))

pub not_all_in_range : (test : ℕ → Bool) (a n q : ℕ) → a ≤ q → q < a + n → test q ≡ false → list_all test (range_with_len a n) ≡ false
not_all_in_range test a zero q from to none = absurd (omega (arith, from, to))
not_all_in_range test a (suc n) q from to none =
    cases (nat_le (a + 1) q) refl (λ later. not_all_in_range test (a + 1) n q later (omega (arith, to)) none)
  where
    cases : (b : Bool) → nat_le (a + 1) q ≡ b → (a + 1 ≤ q → list_all test (range_with_len (a + 1) n) ≡ false) → (test a && list_all test (range_with_len (a + 1) n)) ≡ false
    cases true later rest = rw (rest (grind (arith, nat_tests))) (and-false (test a))
    cases false later rest =
        let same : a ≡ q = grind (arith, nat_tests) in
        rw (ap test same ∙ none) refl

-- with a front of n places and none at or past the total, the part is whole exactly where n is the total
pub exactly_below_is : (bytes : FinMap nat_cmp ℕ) (n total : ℕ) → IsFront bytes n → ((place : ℕ) → is_some (get bytes place) ≡ true → place < total) → are_exactly_below total bytes ≡ (n == total)
exactly_below_is bytes n total front below = cases (nat_lt n total) refl
  where
    within : nat_lt n total ≡ false → n ≡ total
    within test = one (nat_lt total n) refl
      where
        one : (b : Bool) → nat_lt total n ≡ b → n ≡ total
        one true past = absurd (let h = below total (front.0 total (grind (arith, nat_tests))) in omega (arith, h))
        one false past = grind (arith, nat_tests)

    cases : (b : Bool) → nat_lt n total ≡ b → are_exactly_below total bytes ≡ (n == total)
    cases true short =
        let lt : n < total = grind (arith, nat_tests) in
        let other : (n == total) ≡ false = grind (arith, nat_tests) in
        let gap : contains_key bytes n ≡ false = ap is_some front.1 in
        rw (not_all_in_range (contains_key bytes) 0 total n (omega arith) (omega (arith, lt)) gap, other) refl
    cases false short =
        let same : n ≡ total = within short in
        let test : (n == total) ≡ true = grind (arith, nat_tests) in
        let all : list_all (contains_key bytes) (range_with_len 0 total) ≡ true = all_in_range (contains_key bytes) 0 total (λ q from to. front.0 q (omega (arith, same, to))) in
        let none : list_any (nat_le total) (keys bytes) ≡ false = no_place_passes (nat_le total) bytes (λ place held. let lt = below place held in grind (arith, nat_tests, lt)) in
        rw (all, none, test) refl

told_message : (b : Bool) (message : List ℕ) → is_some (if b then Some message else None) ≡ b
told_message true message = refl
told_message false message = refl

pub whole_is : (part : Part) (n total : ℕ) → part.total ≡ Some total → IsFront part.bytes n → ((t place : ℕ) → part.total ≡ Some t → is_some (get part.bytes place) ≡ true → place < t)
    → (n == total) ≡ is_some (message_of part)
whole_is part n total known front below =
    sym (exactly_below_is part.bytes n total front (λ place held. below total place known held))
    ∙ (sym (told_message (are_exactly_below total part.bytes) _) ∙ ap (λ o. is_some (option_and_then (λ t. if are_exactly_below t part.bytes then Some (map (λ place. unwrap_or (get part.bytes place) 0) (range_with_len 0 t)) else None) o)) (sym known))

pub front_length : (bytes : FinMap nat_cmp ℕ) (front : List ℕ) → AreFront bytes front → IsFront bytes (length front)
front_length bytes front is = ((λ place below. ap is_some (is.0 place below ∙ slice_get-get_or front place 0 below)), is.1)

message_from : (bytes : FinMap nat_cmp ℕ) (front : List ℕ) → AreFront bytes front → map (λ place. unwrap_or (get bytes place) 0) (range_with_len 0 (length front)) ≡ front
message_from bytes front is =
    same_number_lists _ _ (length-map-range_with_len (λ place. unwrap_or (get bytes place) 0) 0 (length front)) (λ k lt.
    let below : k < length front = omega (arith, lt, length-map-range_with_len (λ place. unwrap_or (get bytes place) 0) 0 (length front)) in
    get_or-map-range_with_len (λ place. unwrap_or (get bytes place) 0) 0 (length front) k k 0 below (omega arith)
    ∙ (ap (λ o. unwrap_or o 0) (is.0 k below) ∙ unwrap_or-slice_get front k 0))

pub message_is : (part : Part) (front : List ℕ) → is_some (message_of part) ≡ true → AreFront part.bytes front → ((t place : ℕ) → part.total ≡ Some t → is_some (get part.bytes place) ≡ true → place < t)
    → message_of part ≡ Some front
message_is part front whole is below = cases part.total refl whole
  where
    cases : (o : Option ℕ) → part.total ≡ o → is_some (option_and_then (λ t. if are_exactly_below t part.bytes then Some (map (λ place. unwrap_or (get part.bytes place) 0) (range_with_len 0 t)) else None) o) ≡ true
        → option_and_then (λ t. if are_exactly_below t part.bytes then Some (map (λ place. unwrap_or (get part.bytes place) 0) (range_with_len 0 t)) else None) part.total ≡ Some front
    cases None known whole = cc
    cases (Some total) known whole =
        let exactly : are_exactly_below total part.bytes ≡ true = sym (told_message (are_exactly_below total part.bytes) _) ∙ whole in
        let same : (length front == total) ≡ true = sym (exactly_below_is part.bytes (length front) total (front_length part.bytes front is) (λ place held. below total place known held)) ∙ exactly in
        let long : length front ≡ total = eqb-true (length front) total same in
        rw (known, exactly) (ap Some (ap (λ t. map (λ place. unwrap_or (get part.bytes place) 0) (range_with_len 0 t)) (sym long) ∙ message_from part.bytes front is))

pub message_appended : (part : Part) (bytes : FinMap nat_cmp ℕ) (old new : List ℕ) → bytes ≡ part.bytes → is_some (message_of part) ≡ true → ((t place : ℕ) → part.total ≡ Some t → is_some (get part.bytes place) ≡ true → place < t)
    → AppendsFront bytes old new → new ≡ old ++ unwrap_or (message_of part) []
message_appended part bytes old new same whole below appended =
    let front : AreFront part.bytes appended.0 = subst (λ m. AreFront m appended.0) same appended.2 in
    appended.1 ∙ ap (λ o. old ++ unwrap_or o []) (sym (message_is part appended.0 whole front below))
