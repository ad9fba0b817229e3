-- Queues of turns.
use Rattle.std.proofs.Common.{◌≡◌, ◌≢◌, ℕ, zero, suc, nat_lt, ◌+◌, ◌<◌, ◌≤◌, Bool, true, false, cond, List, [], ◌∷◌, ◌++◌, drop, filter, length, Option, None, Some, refl, ap, sym, ◌∙◌, arith}
use Rattle.std.specs.Prelude.{slice_index_or, slice_set}
use Rattle.std.specs.List.Sorted.{IsPartitionPoint, IsPartitionedBy}
use Rattle.std.specs.Option.{is_none, is_some}
use Rattle.std.specs.Map.{lookup, remove_entry}
use Rattle.std.specs.BTreeMap.{is_at}
use Rattle.std.specs.Ordering.{nat_cmp, is_eq}
use Rattle.std.proofs.lemmas.Bool.Decides.{nat_tests}
use Rattle.recording_packets.specs.copies.Queues.{AreAbove, AreBelow, IsRising, Row, StandsAt, entries_in, starts_with_gap, with_turn_of}
use Rattle.recording_packets.specs.declared.copies.sightings.Sighting.{Sighting}
use Rattle.recording_packets.specs.declared.copies.sightings.Turn.{Turn}
use Rattle.recording_packets.proofs.about_copies.Turns.{own_turn}

-- the next turn, and the sightings by turn
abbrev pub row : ℕ → List (ℕ × Sighting) → Row
row n es = record { next = n; entries = es }

-- a gap in place of a turn
abbrev pub gap : ℕ → Turn
gap n = record { number = n; sighting = None }

apart : (n m : ℕ) → n < m → is_eq (nat_cmp n m) ≡ false
apart n m h = grind (arith, nat_tests, h)

past : (n m : ℕ) → m < n → is_eq (nat_cmp n m) ≡ false
past n m h = grind (arith, nat_tests, h)

-- ---- at the end

pub entries_last : (ts : List Turn) (n : ℕ) (s : Sighting) → entries_in (ts ++ record { number = n; sighting = Some s } ∷ []) ≡ entries_in ts ++ (n, s) ∷ []
entries_last [] n s = refl
entries_last (t ∷ ts) n s = ap (with_turn_of t.number t.sighting) (entries_last ts n s) ∙ joined t.sighting
  where
    joined : (x : Option Sighting) → with_turn_of t.number x (entries_in ts ++ (n, s) ∷ []) ≡ with_turn_of t.number x (entries_in ts) ++ (n, s) ∷ []
    joined None = refl
    joined (Some y) = refl

above_last : (m next : ℕ) (ts : List Turn) (x : Option Sighting) → m < next → AreAbove m ts → AreAbove m (ts ++ record { number = next; sighting = x } ∷ [])
above_last m next [] x lt h = (lt, tt)
above_last m next (t ∷ ts) x lt h = (h.0, above_last m next ts x lt h.1)

pub rising_last : (next : ℕ) (ts : List Turn) (x : Option Sighting) → AreBelow next ts → IsRising ts → IsRising (ts ++ record { number = next; sighting = x } ∷ [])
rising_last next [] x below h = (tt, tt)
rising_last next (t ∷ ts) x below h = (above_last t.number next ts x below.0 h.0, rising_last next ts x below.1 h.1)

pub below_last : (next : ℕ) (ts : List Turn) (x : Option Sighting) → AreBelow next ts → AreBelow (next + 1) (ts ++ record { number = next; sighting = x } ∷ [])
below_last next [] x below = (omega arith, tt)
below_last next (t ∷ ts) x below = (omega (arith, below.0), below_last next ts x below.1)

pub front_last : (ts : List Turn) (n : ℕ) (s : Sighting) → starts_with_gap ts ≡ false → starts_with_gap (ts ++ record { number = n; sighting = Some s } ∷ []) ≡ false
front_last [] n s h = refl
front_last (t ∷ ts) n s h = h

-- ---- without gaps

abbrev pub full : List Turn → List Turn
full ts = filter (λ t. is_some t.sighting) ts

pub entries_full : (ts : List Turn) → entries_in (full ts) ≡ entries_in ts
entries_full [] = refl
entries_full (t ∷ ts) = cases t.sighting refl (entries_full ts)
  where
    cases : (x : Option Sighting) → t.sighting ≡ x → entries_in (full ts) ≡ entries_in ts → entries_in (cond (is_some t.sighting) (t ∷ full ts) (full ts)) ≡ with_turn_of t.number t.sighting (entries_in ts)
    cases None is rest = ap (λ y. entries_in (cond (is_some y) (t ∷ full ts) (full ts))) is ∙ rest ∙ ap (λ y. with_turn_of t.number y (entries_in ts)) (sym is)
    cases (Some s) is rest = ap (λ y. entries_in (cond (is_some y) (t ∷ full ts) (full ts))) is ∙ ap (with_turn_of t.number t.sighting) rest

above_full : (m : ℕ) (ts : List Turn) → AreAbove m ts → AreAbove m (full ts)
above_full m [] h = tt
above_full m (t ∷ ts) h = cases (is_some t.sighting) (above_full m ts h.1)
  where
    cases : (b : Bool) → AreAbove m (full ts) → AreAbove m (cond b (t ∷ full ts) (full ts))
    cases true rest = (h.0, rest)
    cases false rest = rest

pub rising_full : (ts : List Turn) → IsRising ts → IsRising (full ts)
rising_full [] h = tt
rising_full (t ∷ ts) h = cases (is_some t.sighting) (rising_full ts h.1)
  where
    cases : (b : Bool) → IsRising (full ts) → IsRising (cond b (t ∷ full ts) (full ts))
    cases true rest = (above_full t.number ts h.0, rest)
    cases false rest = rest

pub below_full : (next : ℕ) (ts : List Turn) → AreBelow next ts → AreBelow next (full ts)
below_full next [] h = tt
below_full next (t ∷ ts) h = cases (is_some t.sighting) (below_full next ts h.1)
  where
    cases : (b : Bool) → AreBelow next (full ts) → AreBelow next (cond b (t ∷ full ts) (full ts))
    cases true rest = (h.0, rest)
    cases false rest = rest

pub front_full : (ts : List Turn) → starts_with_gap (full ts) ≡ false
front_full [] = refl
front_full (t ∷ ts) = cases (is_some t.sighting) refl (front_full ts)
  where
    held : (x : Option Sighting) → is_some x ≡ true → is_none x ≡ false
    held None h = cc
    held (Some s) h = refl

    cases : (b : Bool) → is_some t.sighting ≡ b → starts_with_gap (full ts) ≡ false → starts_with_gap (cond b (t ∷ full ts) (full ts)) ≡ false
    cases true is rest = held t.sighting is
    cases false is rest = rest

-- ---- a turn is looked for

lookup_other : (n m : ℕ) (x : Option Sighting) (es : List (ℕ × Sighting)) → is_eq (nat_cmp n m) ≡ false → lookup (is_at (nat_cmp n)) (with_turn_of m x es) ≡ lookup (is_at (nat_cmp n)) es
lookup_other n m None es h = refl
lookup_other n m (Some s) es h = ap (λ b. cond b (Some s) (lookup (is_at (nat_cmp n)) es)) h

none_above : (n m : ℕ) (ts : List Turn) → n ≤ m → AreAbove m ts → lookup (is_at (nat_cmp n)) (entries_in ts) ≡ None
none_above n m [] le h = refl
none_above n m (t ∷ ts) le h = lookup_other n t.number t.sighting (entries_in ts) (apart n t.number (omega (arith, le, h.0))) ∙ none_above n m ts le h.1

above_at : (m i n : ℕ) (ts : List Turn) → AreAbove m ts → StandsAt n i ts → m < n
above_at m i n [] h at = absurd (omega (arith, at.0))
above_at m zero n (t ∷ ts) h at = let is : t.number ≡ n = at.1 t in omega (arith, is, h.0)
above_at m (suc i) n (t ∷ ts) h at = above_at m i n ts h.1 (omega (arith, at.0), at.1)

pub looked_up : (n i : ℕ) (ts : List Turn) (d : Turn) → IsRising ts → StandsAt n i ts → lookup (is_at (nat_cmp n)) (entries_in ts) ≡ (slice_index_or ts i d).sighting
looked_up n i [] d h at = absurd (omega (arith, at.0))
looked_up n zero (t ∷ ts) d h at = cases t.sighting refl
  where
    is : t.number ≡ n
    is = at.1 t

    cases : (x : Option Sighting) → t.sighting ≡ x → lookup (is_at (nat_cmp n)) (with_turn_of t.number t.sighting (entries_in ts)) ≡ t.sighting
    cases None gone = ap (λ y. lookup (is_at (nat_cmp n)) (with_turn_of t.number y (entries_in ts))) gone ∙ none_above n t.number ts (omega (arith, is)) h.0 ∙ sym gone
    cases (Some s) held =
        ap (λ y. lookup (is_at (nat_cmp n)) (with_turn_of t.number y (entries_in ts))) held
        ∙ ap (λ b. cond b (Some s) (lookup (is_at (nat_cmp n)) (entries_in ts))) (ap (λ m. is_eq (nat_cmp n m)) is ∙ own_turn n) ∙ sym held
looked_up n (suc i) (t ∷ ts) d h at =
    lookup_other n t.number t.sighting (entries_in ts) (past n t.number (above_at t.number i n ts h.0 (omega (arith, at.0), at.1)))
    ∙ looked_up n i ts d h.1 (omega (arith, at.0), at.1)

-- those before a place are below a turn, and the one there is above it
pub absent : (n i : ℕ) (ts : List Turn) → IsRising ts → ((k : ℕ) (d : Turn) → k < i → k < length ts → (slice_index_or ts k d).number < n) → ((d : Turn) → i < length ts → n < (slice_index_or ts i d).number)
    → lookup (is_at (nat_cmp n)) (entries_in ts) ≡ None
absent n i [] h before there = refl
absent n zero (t ∷ ts) h before there =
    let above : n < t.number = there t (omega arith) in
    lookup_other n t.number t.sighting (entries_in ts) (apart n t.number above) ∙ none_above n t.number ts (omega (arith, above)) h.0
absent n (suc i) (t ∷ ts) h before there =
    let below : t.number < n = before 0 t (omega arith) (omega arith) in
    lookup_other n t.number t.sighting (entries_in ts) (past n t.number below)
    ∙ absent n i ts h.1 (λ k d lt short. before (suc k) d (omega (arith, lt)) (omega (arith, short))) (λ d short. there d (omega (arith, short)))

-- ---- a turn is made a gap

remove_none : (n : ℕ) (es : List (ℕ × Sighting)) → lookup (is_at (nat_cmp n)) es ≡ None → remove_entry (is_at (nat_cmp n)) es ≡ es
remove_none n [] h = refl
remove_none n (e ∷ es) h = cases (is_eq (nat_cmp n e.0)) refl (remove_none n es)
  where
    cases : (b : Bool) → is_eq (nat_cmp n e.0) ≡ b → (lookup (is_at (nat_cmp n)) es ≡ None → remove_entry (is_at (nat_cmp n)) es ≡ es) → remove_entry (is_at (nat_cmp n)) (e ∷ es) ≡ e ∷ es
    cases true here rest = let at : Some e.1 ≡ None = sym (ap (λ b. cond b (Some e.1) (lookup (is_at (nat_cmp n)) es)) here) ∙ h in cc
    cases false other rest =
        ap (λ b. cond b es (e ∷ remove_entry (is_at (nat_cmp n)) es)) other
        ∙ ap (λ t. e ∷ t) (rest (sym (ap (λ b. cond b (Some e.1) (lookup (is_at (nat_cmp n)) es)) other) ∙ h))

pub removed_none : (n : ℕ) (ts : List Turn) → lookup (is_at (nat_cmp n)) (entries_in ts) ≡ None → remove_entry (is_at (nat_cmp n)) (entries_in ts) ≡ entries_in ts
removed_none n ts h = remove_none n (entries_in ts) h

remove_other : (n m : ℕ) (x : Option Sighting) (es : List (ℕ × Sighting)) → is_eq (nat_cmp n m) ≡ false → remove_entry (is_at (nat_cmp n)) (with_turn_of m x es) ≡ with_turn_of m x (remove_entry (is_at (nat_cmp n)) es)
remove_other n m None es h = refl
remove_other n m (Some s) es h = ap (λ b. cond b es ((m, s) ∷ remove_entry (is_at (nat_cmp n)) es)) h

pub gap_made : (n i : ℕ) (ts : List Turn) → IsRising ts → StandsAt n i ts → entries_in (slice_set ts i (gap n)) ≡ remove_entry (is_at (nat_cmp n)) (entries_in ts)
gap_made n i [] h at = absurd (omega (arith, at.0))
gap_made n zero (t ∷ ts) h at = cases t.sighting refl
  where
    is : t.number ≡ n
    is = at.1 t

    cases : (x : Option Sighting) → t.sighting ≡ x → entries_in ts ≡ remove_entry (is_at (nat_cmp n)) (with_turn_of t.number t.sighting (entries_in ts))
    cases None gone = sym (ap (λ y. remove_entry (is_at (nat_cmp n)) (with_turn_of t.number y (entries_in ts))) gone ∙ remove_none n (entries_in ts) (none_above n t.number ts (omega (arith, is)) h.0))
    cases (Some s) held =
        sym (ap (λ y. remove_entry (is_at (nat_cmp n)) (with_turn_of t.number y (entries_in ts))) held
        ∙ ap (λ b. cond b (entries_in ts) ((t.number, s) ∷ remove_entry (is_at (nat_cmp n)) (entries_in ts))) (ap (λ m. is_eq (nat_cmp n m)) is ∙ own_turn n))
gap_made n (suc i) (t ∷ ts) h at =
    let rest : StandsAt n i ts = (omega (arith, at.0), at.1) in
    ap (with_turn_of t.number t.sighting) (gap_made n i ts h.1 rest)
    ∙ sym (remove_other n t.number t.sighting (entries_in ts) (past n t.number (above_at t.number i n ts h.0 rest)))

above_gap : (m n i : ℕ) (ts : List Turn) → AreAbove m ts → StandsAt n i ts → AreAbove m (slice_set ts i (gap n))
above_gap m n i [] h at = absurd (omega (arith, at.0))
above_gap m n zero (t ∷ ts) h at = let is : t.number ≡ n = at.1 t in (omega (arith, is, h.0), h.1)
above_gap m n (suc i) (t ∷ ts) h at = (h.0, above_gap m n i ts h.1 (omega (arith, at.0), at.1))

above_same : (m n : ℕ) (ts : List Turn) → m ≡ n → AreAbove m ts → AreAbove n ts
above_same m n ts is h = rw (sym is) h

pub rising_gap : (n i : ℕ) (ts : List Turn) → IsRising ts → StandsAt n i ts → IsRising (slice_set ts i (gap n))
rising_gap n i [] h at = absurd (omega (arith, at.0))
rising_gap n zero (t ∷ ts) h at = (above_same t.number n ts (at.1 t) h.0, h.1)
rising_gap n (suc i) (t ∷ ts) h at = (above_gap t.number n i ts h.0 (omega (arith, at.0), at.1), rising_gap n i ts h.1 (omega (arith, at.0), at.1))

pub below_gap : (next n i : ℕ) (ts : List Turn) → AreBelow next ts → StandsAt n i ts → AreBelow next (slice_set ts i (gap n))
below_gap next n i [] h at = absurd (omega (arith, at.0))
below_gap next n zero (t ∷ ts) h at = let is : t.number ≡ n = at.1 t in (omega (arith, is, h.0), h.1)
below_gap next n (suc i) (t ∷ ts) h at = (h.0, below_gap next n i ts h.1 (omega (arith, at.0), at.1))

-- ---- the first goes

pub entries_rest : (ts : List Turn) (t : Turn) (left : List Turn) → ts ≡ t ∷ left → is_none t.sighting ≡ true → entries_in left ≡ entries_in ts
entries_rest ts t left is h = cases t.sighting refl h ∙ ap entries_in (sym is)
  where
    cases : (x : Option Sighting) → t.sighting ≡ x → is_none t.sighting ≡ true → entries_in left ≡ with_turn_of t.number t.sighting (entries_in left)
    cases None gone h = ap (λ y. with_turn_of t.number y (entries_in left)) (sym gone)
    cases (Some s) held h = let never : false ≡ true = sym (ap is_none held) ∙ h in cc

pub dropped_entries : (ts : List Turn) → starts_with_gap ts ≡ true → entries_in (drop 1 ts) ≡ entries_in ts
dropped_entries [] h = refl
dropped_entries (t ∷ ts) h = entries_rest (t ∷ ts) t ts refl h

pub dropped_rising : (ts : List Turn) → IsRising ts → IsRising (drop 1 ts)
dropped_rising [] h = tt
dropped_rising (t ∷ ts) h = h.1

pub dropped_below : (next : ℕ) (ts : List Turn) → AreBelow next ts → AreBelow next (drop 1 ts)
dropped_below next [] h = tt
dropped_below next (t ∷ ts) h = h.1

-- ---- what a search finds

above_index : (m j : ℕ) (ts : List Turn) (d : Turn) → AreAbove m ts → j < length ts → m < (slice_index_or ts j d).number
above_index m j [] d h lt = absurd (omega (arith, lt))
above_index m zero (t ∷ ts) d h lt = h.0
above_index m (suc j) (t ∷ ts) d h lt = above_index m j ts d h.1 (omega (arith, lt))

rising_at : (ts : List Turn) (i j : ℕ) (d : Turn) → IsRising ts → i ≤ j → j < length ts → (slice_index_or ts i d).number ≤ (slice_index_or ts j d).number
rising_at [] i j d h le lt = absurd (omega (arith, lt))
rising_at (t ∷ ts) zero zero d h le lt = omega arith
rising_at (t ∷ ts) zero (suc j) d h le lt = let above : t.number < (slice_index_or ts j d).number = above_index t.number j ts d h.0 (omega (arith, lt)) in omega (arith, above)
rising_at (t ∷ ts) (suc i) zero d h le lt = absurd (omega (arith, le))
rising_at (t ∷ ts) (suc i) (suc j) d h le lt = rising_at ts i j d h.1 (omega (arith, le)) (omega (arith, lt))

less_first : (a b n : ℕ) → a ≤ b → nat_lt b n ≡ true → nat_lt a n ≡ true
less_first a b n le lt = grind (arith, nat_tests, le, lt)

pub parted : (ts : List Turn) (n : ℕ) → IsRising ts → IsPartitionedBy (λ (t : Turn). nat_lt t.number n) ts
parted ts n h i j d le lt below = less_first (slice_index_or ts i d).number (slice_index_or ts j d).number n (rising_at ts i j d h le lt) below

is_less : (a n : ℕ) → nat_lt a n ≡ true → a < n
is_less a n h = grind (arith, nat_tests, h)

is_more : (a n : ℕ) → nat_lt a n ≡ false → a ≢ n → n < a
is_more a n h other = grind (arith, nat_tests, h, other)

pub not_found : (n i : ℕ) (ts : List Turn) → IsRising ts → IsPartitionPoint (λ (t : Turn). nat_lt t.number n ≡ true) (λ (t : Turn). nat_lt t.number n ≡ false) ts i
    → ((d : Turn) → i < length ts → (slice_index_or ts i d).number ≢ n) → lookup (is_at (nat_cmp n)) (entries_in ts) ≡ None
not_found n i ts h point other =
    absent n i ts h (λ k d lt short. is_less (slice_index_or ts k d).number n (point.0 k d (omega arith) lt))
    (λ d short. is_more (slice_index_or ts i d).number n (point.1 i d (omega arith) short) (other d short))
