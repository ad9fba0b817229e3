-- The segments of a message, one after the other, and each at its number.
use Rattle.std.proofs.Common.{◌≡◌, ℕ, zero, suc, ◌+◌, ◌-◌, ◌*◌, ◌<◌, ◌≤◌, true, false, cond, ltb, List, [], ◌∷◌, ◌++◌, length, min, take, drop, Some, None, inl, inr, refl, sym, ap, ◌∙◌, arith}
use Rattle.std.specs.Prelude.{slice_get, nat_lt}
use Rattle.std.specs.List.{flat_map}
use Rattle.std.proofs.lemmas.Bool.{le-ltb, lt-ltb, cases_lt}
use Rattle.std.proofs.lemmas.List.{take-append-drop, take_all, drop_all, drop-drop, length-drop}
use Rattle.std.proofs.Math.Nat.{min-eq_left, min-eq_right}
use Rattle.someip_wire.specs.declared.Header.{Header}
use Rattle.someip_wire.specs.Spelling.{MessageValue}
use Rattle.someip_reassembly.specs.Segments.{SegmentValue, segment_at, segment_header, segments_within, segments_from, AreSegments}

-- more steps than bytes change nothing
segments_within-enough : (k n : ℕ) (h : Header) (o : ℕ) (rest : List ℕ) → length rest ≤ k → length rest ≤ n → segments_within k h o rest ≡ segments_within n h o rest
unfolding segments_within
segments_within-enough zero zero h o [] le le' = refl
segments_within-enough zero (suc n) h o [] le le' = refl
segments_within-enough (suc k) zero h o [] le le' = refl
segments_within-enough (suc k) (suc n) h o [] le le' = refl
segments_within-enough zero n h o (b ∷ rest) le le' = absurd (omega (arith, le))
segments_within-enough (suc k) zero h o (b ∷ rest) le le' = absurd (omega (arith, le'))
segments_within-enough (suc k) (suc n) h o (b ∷ rest) le le' =
    let shorter = length-drop 1392 (b ∷ rest) in
    ap (λ (others : List SegmentValue). segment_at h o (b ∷ rest) ∷ others)
    (segments_within-enough k n h (o + 1392) (drop 1392 (b ∷ rest)) (omega (arith, shorter)) (omega (arith, shorter)))

pub segments_from-nil : (h : Header) (o : ℕ) → segments_from h o [] ≡ []
unfolding segments_within
segments_from-nil h o = refl

segments_from-cons : (h : Header) (o : ℕ) (rest : List ℕ) → 0 < length rest → segments_from h o rest ≡ segment_at h o rest ∷ segments_from h (o + 1392) (drop 1392 rest)
unfolding segments_within
segments_from-cons h o [] some = absurd (omega (arith, some))
segments_from-cons h o (b ∷ rest) some =
    let shorter = length-drop 1392 (b ∷ rest) in
    ap (λ (others : List SegmentValue). segment_at h o (b ∷ rest) ∷ others)
    (segments_within-enough (length rest) _ h (o + 1392) (drop 1392 (b ∷ rest)) (omega (arith, shorter)) (omega arith))

-- nothing is left at the end
pub left_none : (h : Header) (o place : ℕ) (payload : List ℕ) → length payload ≤ place → segments_from h o (drop place payload) ≡ []
left_none h o place payload le = ap (segments_from h o) (drop_all place payload le) ∙ segments_from-nil h o

-- the segment at a place, and those after it
pub left_more : (h : Header) (place end : ℕ) (payload : List ℕ) → place < length payload → end ≡ place + 1392
    → segments_from h place (drop place payload) ≡ segment_at h place (drop place payload) ∷ segments_from h end (drop end payload)
left_more h place end payload lt is_end =
    let some : 0 < length (drop place payload) = omega (arith, length-drop place payload) in
    rw (is_end, ← drop-drop 1392 place payload) (segments_from-cons h place (drop place payload) some)

pub left_last : (h : Header) (place end : ℕ) (payload : List ℕ) → place < length payload → length payload ≤ place + 1392 → end ≡ length payload
    → segments_from h place (drop place payload) ≡ segment_at h place (drop place payload) ∷ segments_from h end (drop end payload)
left_last h place end payload lt last is_end =
    let some : 0 < length (drop place payload) = omega (arith, length-drop place payload) in
    segments_from-cons h place (drop place payload) some
    ∙ ap (λ (others : List SegmentValue). segment_at h place (drop place payload) ∷ others)
    (left_none h (place + 1392) 1392 (drop place payload) (omega (arith, length-drop place payload)) ∙ sym (left_none h end end payload (omega (arith, is_end))))

-- the same, however many bytes the slice has
pub left_next : (h : Header) (place end : ℕ) (payload : List ℕ) → place < length payload → end ≡ place + min (length (drop place payload)) 1392
    → segments_from h place (drop place payload) ≡ segment_at h place (drop place payload) ∷ segments_from h end (drop end payload)
left_next h place end payload lt is_end =
    let len = length-drop place payload in
    elim (cases_lt (length (drop place payload)) 1392) [
      | inl less ↦ let below : length (drop place payload) ≤ 1392 = omega (arith, less) in left_last h place end payload lt (omega (arith, len, less)) (omega (arith, len, is_end, min-eq_left below))
      | inr more ↦ left_more h place end payload lt (omega (arith, is_end, min-eq_right more))
    ]

-- a slice is all that is left, or its first 1392 bytes
pub slice_is : (rest : List ℕ) (n : ℕ) → n ≡ min (length rest) 1392 → take n rest ≡ take 1392 rest
slice_is rest n is =
    elim (cases_lt (length rest) 1392) [
      | inl less ↦
          let below : length rest ≤ 1392 = omega (arith, less) in
          take_all n rest (omega (arith, is, min-eq_left below)) ∙ sym (take_all 1392 rest below)
      | inr more ↦ ap (λ k. take k rest) (is ∙ min-eq_right more)
    ]

-- ---- each at its number

-- below what is left, counted from either place
same_lt : (a n m : ℕ) → m ≡ n - 1392 → ltb (1392 + a) n ≡ ltb a m
same_lt a n m is =
    elim (cases_lt a m) [
      | inl lt ↦ lt-ltb _ _ (omega (arith, lt, is)) ∙ sym (lt-ltb _ _ lt)
      | inr le ↦ le-ltb _ _ (omega (arith, le, is)) ∙ sym (le-ltb _ _ le)
    ]

at_within : (n : ℕ) (h : Header) (o : ℕ) (rest : List ℕ) (k : ℕ) → length rest ≤ n
    → slice_get (segments_within n h o rest) k ≡ cond (nat_lt (1392 * k) (length rest)) (Some (segment_at h (o + 1392 * k) (drop (1392 * k) rest))) None
unfolding segments_within
at_within zero h o [] k le = let past : ltb (1392 * k) 0 ≡ false = le-ltb _ _ (omega arith) in rw past refl
at_within (suc n) h o [] k le = let past : ltb (1392 * k) 0 ≡ false = le-ltb _ _ (omega arith) in rw past refl
at_within zero h o (b ∷ rest) k le = absurd (omega (arith, le))
at_within (suc n) h o (b ∷ rest) zero le =
    let same : o + 0 ≡ o = omega arith in
    let some : ltb 0 (length (b ∷ rest)) ≡ true = lt-ltb _ _ (omega arith) in
    rw (same, some) refl
at_within (suc n) h o (b ∷ rest) (suc k) le =
    let bytes = b ∷ rest in
    let shorter = length-drop 1392 bytes in
    let place : 1392 * suc k ≡ 1392 + 1392 * k = omega arith in
    let offset : o + (1392 + 1392 * k) ≡ o + 1392 + 1392 * k = omega arith in
    let same : ltb (1392 + 1392 * k) (length bytes) ≡ ltb (1392 * k) (length (drop 1392 bytes)) = same_lt (1392 * k) (length bytes) (length (drop 1392 bytes)) shorter in
    rw (place, offset, same, ← drop-drop (1392 * k) 1392 bytes) (at_within n h (o + 1392) (drop 1392 bytes) k (omega (arith, shorter)))

pub are_segments : (m : MessageValue) → AreSegments m (segments_from (segment_header m.header) 0 m.payload)
are_segments m k =
    let offset : 0 + 1392 * k ≡ 1392 * k = omega arith in
    at_within (length m.payload) (segment_header m.header) 0 m.payload k (omega arith)
    ∙ ap (λ o. cond (nat_lt (1392 * k) (length m.payload)) (Some (segment_at (segment_header m.header) o (drop (1392 * k) m.payload))) None) offset

-- ---- the slices side by side

slices_within : (n : ℕ) (h : Header) (o : ℕ) (rest : List ℕ) → length rest ≤ n → flat_map (λ s. s.slice) (segments_within n h o rest) ≡ rest
unfolding segments_within
slices_within zero h o [] le = refl
slices_within (suc n) h o [] le = refl
slices_within zero h o (b ∷ rest) le = absurd (omega (arith, le))
slices_within (suc n) h o (b ∷ rest) le =
    let shorter = length-drop 1392 (b ∷ rest) in
    ap (λ (t : List ℕ). take 1392 (b ∷ rest) ++ t) (slices_within n h (o + 1392) (drop 1392 (b ∷ rest)) (omega (arith, shorter))) ∙ take-append-drop 1392 (b ∷ rest)

pub slices_whole : (h : Header) (payload : List ℕ) → flat_map (λ s. s.slice) (segments_from h 0 payload) ≡ payload
slices_whole h payload = slices_within (length payload) h 0 payload (omega arith)

-- ---- no other list

same_at : {X : Type 0} (xs ys : List X) → ((k : ℕ) → slice_get xs k ≡ slice_get ys k) → xs ≡ ys
same_at [] [] same = refl
same_at [] (y ∷ ys) same = let first = same 0 in absurd (cc)
same_at (x ∷ xs) [] same = let first = same 0 in absurd (cc)
same_at {X} (x ∷ xs) (y ∷ ys) same =
    let first : Some x ≡ Some y = same 0 in
    let head : x ≡ y = cc in
    ap (λ z. z ∷ xs) head ∙ ap (λ (t : List X). y ∷ t) (same_at xs ys (λ k. same (suc k)))

pub segments_same : (m : MessageValue) (segments others : List SegmentValue) → AreSegments m segments → AreSegments m others → segments ≡ others
segments_same m segments others one other = same_at segments others (λ k. one k ∙ sym (other k))
