-- Tagged structures as the loops read them: where the members stand, and which of them were read.
use Rattle.std.proofs.Common.{◌≡◌, ◌⊎◌, inl, inr, ℕ, suc, zero, ◌+◌, ◌<◌, ◌≤◌, Bool, true, false, cond, eqb, List, [], ◌∷◌, ◌++◌, replicate, map, length, drop, get_or, set, Option, Some, None, Result, Ok, Err, rules, refl, sym, ap, ◌∙◌, arith}
use Rattle.std.specs.Option.{option_map, is_some}
use Rattle.std.specs.Ordering.{nat_cmp}
use Rattle.std.specs.BTreeMap as tree
use Rattle.std.specs.BTreeMap.{BTreeMap}
use native.Mathlib.Numerals.{unary_clauses}
use Rattle.std.proofs.lemmas.Bool.{lt-ltb}
use Rattle.std.proofs.lemmas.List.{drop_more}
use Rattle.someip_payload_values.specs.declared.error.PayloadError.{PayloadError}
use Rattle.someip_payload_values.specs.declared.error.PayloadError.TheVariants.{DuplicateMember}
use Rattle.someip_payload_values.specs.declared.shape.Shape.{the_lemmas}
use Rattle.someip_payload_values.specs.declared.shape.Member.{Member, out-Member}
use Rattle.someip_payload_values.specs.declared.tag.Tag.{Tag}
use Rattle.someip_payload_values.specs.declared.value.Value.{Value}
use Rattle.someip_payload_codec.specs.declared.window.Window.{Window}
use Rattle.someip_payload_values.specs.Data.{Form, Members, no_members, member_then, Data, Slots, no_slots, present, absent}
use Rattle.someip_payload_codec.specs.View.{View, seen}
use Rattle.someip_payload_values.specs.View.{one_member, all_members, data_of, slots_of}
use Rattle.someip_payload_codec.specs.Grammar.{has_required}
use Rattle.someip_payload_values.specs.Steps.{◌>>=◌, Fails, Gives}
use Rattle.someip_payload_codec.specs.Reading.{Filler, data_by, skip_at, member_at, slots_at, tagged_at, all_absent}
use Rattle.someip_payload_codec.specs.Indexes.{index_of, HasIndexes, Fills}
use Rattle.someip_payload_values.proofs.StepLemmas.{fails_too}

pub none_read : (ms : List Member) → slots_of (map (λ _. None) ms) ≡ all_absent (all_members ms)
none_read [] = refl
none_read (m ∷ ms) = ap absent (none_read ms)

optional_of : (m : Member) → (one_member m).optional ≡ (out-Member m).is_optional
optional_of m = search (rules, the_lemmas)

-- ---- whether a member is missing

required_first : (m : Member) (ms : List Member) (s : Option Value) (ss : List (Option Value)) → ((is_some s ≡ true) ⊎ ((out-Member m).is_optional ≡ true))
    → has_required (all_members (m ∷ ms)) (slots_of (s ∷ ss)) ≡ has_required (all_members ms) (slots_of ss)
required_first m ms None ss (inl some) = absurd cc
required_first m ms None ss (inr optional) = rw (optional_of m ∙ optional) refl
required_first m ms (Some v) ss either = refl

pub required_next : (ms : List Member) (ss : List (Option Value)) (i : ℕ) (m : Member) → i < length ms → i < length ss
    → ((is_some (get_or ss i None) ≡ true) ⊎ ((out-Member (get_or ms i m)).is_optional ≡ true))
    → has_required (all_members (drop i ms)) (slots_of (drop i ss)) ≡ has_required (all_members (drop (i + 1) ms)) (slots_of (drop (i + 1) ss))
required_next ms ss i m in_members in_slots either =
    rw (drop_more ms i m in_members, drop_more ss i None in_slots) (required_first (get_or ms i m) (drop (i + 1) ms) (get_or ss i None) (drop (i + 1) ss) either)

-- ---- where the members stand

-- the map has the indexes of the members from that one on
abbrev pub HasIndexesFrom : ℕ → List Member → BTreeMap ℕ ℕ → Type 0
HasIndexesFrom i ms indexes = (id : ℕ) → tree.get nat_cmp indexes id ≡ option_map (λ k. k + i) (index_of id (all_members (drop i ms)))

some_is : (j k : ℕ) → Some j ≡ Some k → j ≡ k
some_is j k e = cc

not_placed : (t : Bool) (o : Option ℕ) → cond t (Some 0) (option_map (λ k. k + 1) o) ≡ None → (t ≡ false) × (o ≡ None)
not_placed true o e = absurd cc
not_placed false None e = (refl, refl)
not_placed false (Some k) e = absurd cc

placed : (t : Bool) (o : Option ℕ) (k : ℕ) → cond t (Some 0) (option_map (λ k. k + 1) o) ≡ Some k
    → ((t ≡ true) × (k ≡ zero)) ⊎ ((t ≡ false) × (j : ℕ) × (o ≡ Some j) × (k ≡ suc j))
placed true o k e = inl (refl, sym (some_is 0 k e))
placed false None k e = absurd cc
placed false (Some j) k e = inr (refl, j, refl, omega (arith, some_is (j + 1) k e))

index_in : (ms : List Member) (id k : ℕ) → index_of id (all_members ms) ≡ Some k → k < length ms
index_in [] id k e = absurd cc
index_in (m ∷ ms) id k e =
    elim (placed (eqb (one_member m).id id) (index_of id (all_members ms)) k e) [
      | inl (t, z) ↦ omega (arith, z)
      | inr (t, j, at, s) ↦ omega (arith, s, index_in ms id j at)
    ]

-- what the map finds is the place of a member
pub found_in : (ms : List Member) (indexes : BTreeMap ℕ ℕ) (id k : ℕ) → HasIndexes (all_members ms) indexes → Some k ≡ tree.get nat_cmp indexes id → k < length ms
found_in ms indexes id k has found = index_in ms id k (sym (has id) ∙ sym found)

-- ---- an item that no member has

abbrev skipped : Slots → Result View PayloadError → Result (Slots × View) PayloadError
skipped ss read = read >>= λ v. Ok (ss, v)

skipped_present : (d : Data) (ss : Slots) (read : Result View PayloadError) → (skipped ss read >>= λ x. Ok (present d x.0, x.1)) ≡ skipped (present d ss) read
skipped_present d ss (Ok v) = refl
skipped_present d ss (Err e) = refl

skipped_absent : (ss : Slots) (read : Result View PayloadError) → (skipped ss read >>= λ x. Ok (absent x.0, x.1)) ≡ skipped (absent ss) read
skipped_absent ss (Ok v) = refl
skipped_absent ss (Err e) = refl

slots_skip : (ms : Members) (ss : Slots) (tag : Tag) (place : ℕ) (w : View) → index_of tag.id ms ≡ None → slots_at ms ss tag place w ≡ skipped ss (skip_at tag.wire_type w)
unfolding slots_at
slots_skip no_members no_slots tag place w none = refl
slots_skip no_members (present d ss) tag place w none = refl
slots_skip no_members (absent ss) tag place w none = refl
slots_skip (member_then id optional f ms) no_slots tag place w none = refl
slots_skip (member_then id optional f ms) (present d ss) tag place w none =
    let p = not_placed (eqb id tag.id) (index_of tag.id ms) none in
    rw (p.0, slots_skip ms ss tag place w p.1) (skipped_present d ss (skip_at tag.wire_type w))
slots_skip (member_then id optional f ms) (absent ss) tag place w none =
    let p = not_placed (eqb id tag.id) (index_of tag.id ms) none in
    rw (p.0, slots_skip ms ss tag place w p.1) (skipped_absent ss (skip_at tag.wire_type w))

pub skip_fills : (ms : Members) (indexes : BTreeMap ℕ ℕ) (slots : List (Option Value)) (tag : Tag) (place : ℕ) (w : View) (r : Result Window PayloadError)
    → HasIndexes ms indexes → None ≡ tree.get nat_cmp indexes tag.id → Gives seen r (skip_at tag.wire_type w) → Fills slots r (slots_at ms (slots_of slots) tag place w)
skip_fills ms indexes slots tag place w (Ok v) has none gives = rw (slots_skip ms (slots_of slots) tag place w (sym (has tag.id) ∙ sym none), gives) refl
skip_fills ms indexes slots tag place w (Err e) has none gives =
    fails_too e (skip_at tag.wire_type w) (slots_at ms (slots_of slots) tag place w) (λ bad. rw (slots_skip ms (slots_of slots) tag place w (sym (has tag.id) ∙ sym none), bad) refl) gives

-- ---- an item of a member

-- the slots with the value at the place
abbrev with_slot : ℕ → Data → Slots → Slots
with_slot k d no_slots = no_slots
with_slot zero d (present c ss) = present d ss
with_slot zero d (absent ss) = present d ss
with_slot (suc k) d (present c ss) = present c (with_slot k d ss)
with_slot (suc k) d (absent ss) = absent (with_slot k d ss)

pub slots_set : (ss : List (Option Value)) (k : ℕ) (v : Value) → slots_of (set ss k (Some v)) ≡ with_slot k (data_of v) (slots_of ss)
slots_set [] k v = refl
slots_set (None ∷ ss) zero v = refl
slots_set (Some x ∷ ss) zero v = refl
slots_set (None ∷ ss) (suc k) v = ap absent (slots_set ss k v)
slots_set (Some x ∷ ss) (suc k) v = ap (present (data_of x)) (slots_set ss k v)

-- the slots that a value gives
abbrev placing : (Data → Slots) → Result (Data × View) PayloadError → Result (Slots × View) PayloadError
placing put read = read >>= λ x. Ok (put x.0, x.1)

placed_present : (c : Data) (ss : Slots) (k : ℕ) (read : Result (Data × View) PayloadError)
    → (placing (λ d. with_slot k d ss) read >>= λ x. Ok (present c x.0, x.1)) ≡ placing (λ d. with_slot (suc k) d (present c ss)) read
placed_present c ss k (Ok x) = refl
placed_present c ss k (Err e) = refl

placed_absent : (ss : Slots) (k : ℕ) (read : Result (Data × View) PayloadError)
    → (placing (λ d. with_slot k d ss) read >>= λ x. Ok (absent x.0, x.1)) ≡ placing (λ d. with_slot (suc k) d (absent ss)) read
placed_absent ss k (Ok x) = refl
placed_absent ss k (Err e) = refl

module _ (tag : Tag) (place : ℕ) (w : View) where
  -- the value of a member of the form, which was there before or not
  abbrev once_at : Form → Option Value → Result (Data × View) PayloadError
  once_at f (Some v) = Err (DuplicateMember place)
  once_at f None = member_at (λ width v. data_by width f v) f tag place w

  slots_place : (ms : List Member) (ss : List (Option Value)) (k : ℕ) (m : Member) (s : Option Value) → index_of tag.id (all_members ms) ≡ Some k → length ss ≡ length ms
      → slots_at (all_members ms) (slots_of ss) tag place w ≡ placing (λ d. with_slot k d (slots_of ss)) (once_at (one_member (get_or ms k m)).form (get_or ss k s))
  unfolding slots_at
  slots_place [] ss k m s at lens = absurd cc
  slots_place (x ∷ ms) [] k m s at lens = absurd (omega (arith, lens))
  slots_place (x ∷ ms) (None ∷ ss) k m s at lens =
      elim (placed (eqb (one_member x).id tag.id) (index_of tag.id (all_members ms)) k at) [
        | inl (t, z) ↦ rw (t, z) refl
        | inr (t, j, later, is) ↦ rw (t, is, slots_place ms ss j m s later (omega (arith, lens))) (placed_absent (slots_of ss) j (once_at (one_member (get_or ms j m)).form (get_or ss j s)))
      ]
  slots_place (x ∷ ms) (Some d ∷ ss) k m s at lens =
      elim (placed (eqb (one_member x).id tag.id) (index_of tag.id (all_members ms)) k at) [
        | inl (t, z) ↦ rw (t, z) refl
        | inr (t, j, later, is) ↦ rw (t, is, slots_place ms ss j m s later (omega (arith, lens))) (placed_present (data_of d) (slots_of ss) j (once_at (one_member (get_or ms j m)).form (get_or ss j s)))
      ]

  once_there : (f : Form) (s : Option Value) → is_some s ≡ true → once_at f s ≡ Err (DuplicateMember place)
  once_there f None some = absurd cc
  once_there f (Some v) some = refl

  once_first : (f : Form) (s : Option Value) → is_some s ≡ false → once_at f s ≡ member_at (λ width v. data_by width f v) f tag place w
  once_first f None none = refl
  once_first f (Some v) none = absurd cc

  module _ (ms : List Member) (indexes : BTreeMap ℕ ℕ) (ss : List (Option Value)) (k : ℕ) (m : Member) (s : Option Value)
      (has : HasIndexes (all_members ms) indexes) (found : Some k ≡ tree.get nat_cmp indexes tag.id) (lens : length ss ≡ length ms) (member : m ≡ get_or ms k m) (slot : s ≡ get_or ss k s) where
    abbrev value_at : Result (Data × View) PayloadError
    value_at = member_at (λ width v. data_by width (one_member m).form v) (one_member m).form tag place w

    slots_here : slots_at (all_members ms) (slots_of ss) tag place w ≡ placing (λ d. with_slot k d (slots_of ss)) (once_at (one_member m).form s)
    slots_here = rw (slots_place ms ss k m s (sym (has tag.id) ∙ sym found) lens, ← member, ← slot) refl

    pub slots_duplicate : is_some s ≡ true → slots_at (all_members ms) (slots_of ss) tag place w ≡ Err (DuplicateMember place)
    slots_duplicate some = rw (slots_here, once_there (one_member m).form s some) refl

    slots_first : is_some s ≡ false → slots_at (all_members ms) (slots_of ss) tag place w ≡ placing (λ d. with_slot k d (slots_of ss)) value_at
    slots_first none = rw (slots_here, once_first (one_member m).form s none) refl

    pub slots_fault : (e : PayloadError) → is_some s ≡ false → Fails e value_at → Fails e (slots_at (all_members ms) (slots_of ss) tag place w)
    slots_fault e none fails = fails_too e value_at (slots_at (all_members ms) (slots_of ss) tag place w) (λ bad. rw (slots_first none, bad) refl) fails

    pub slots_value : (v : Value) (after : View) → is_some s ≡ false → value_at ≡ Ok (data_of v, after) → slots_at (all_members ms) (slots_of ss) tag place w ≡ Ok (slots_of (set ss k (Some v)), after)
    slots_value v after none reads = rw (slots_first none, reads, slots_set ss k v) refl

-- ---- items until the bytes are used up

pub tagged_go_on : (one : Filler) (left : ℕ) (ss after : Slots) (w v : View) (total : Result Slots PayloadError) → 0 < length w.bytes → length w.bytes ≤ left → one ss w ≡ Ok (after, v) → length v.bytes < length w.bytes
    → tagged_at one left ss w ≡ total → (fewer : ℕ) × (length v.bytes ≤ fewer) × (tagged_at one fewer after v ≡ total)
unfolding tagged_at
tagged_go_on one zero ss after w v total some le h shorter so_far = absurd (omega arith)
tagged_go_on one (suc left) ss after w v total some le h shorter so_far =
    let step : tagged_at one (suc left) ss w ≡ tagged_at one left after v = rw (lt-ltb 0 (length w.bytes) some, h) refl in
    (left, omega arith, sym step ∙ so_far)

pub tagged_fail : (e : PayloadError) (one : Filler) (left : ℕ) (ss : Slots) (w : View) (total : Result Slots PayloadError) → 0 < length w.bytes → length w.bytes ≤ left → Fails e (one ss w)
    → tagged_at one left ss w ≡ total → Fails e total
unfolding tagged_at
tagged_fail e one zero ss w total some le bad so_far = absurd (omega arith)
tagged_fail e one (suc left) ss w total some le bad so_far =
    fails_too e (one ss w) total (λ h. let step : tagged_at one (suc left) ss w ≡ Err e = rw (lt-ltb 0 (length w.bytes) some, h) refl in sym so_far ∙ step) bad

pub tagged_done : (one : Filler) (left : ℕ) (ss : Slots) (w : View) (total : Result Slots PayloadError) → length w.bytes ≡ 0 → tagged_at one left ss w ≡ total → total ≡ Ok ss
unfolding tagged_at
tagged_done one zero ss w total empty so_far = sym so_far
tagged_done one (suc left) ss w total empty so_far =
    let step : tagged_at one (suc left) ss w ≡ Ok ss = rw empty refl in
    sym so_far ∙ step

-- so many that are absent
one_none : (n : ℕ) → replicate {A = Option Value} n None ++ None ∷ [] ≡ replicate (suc n) None
one_none zero = refl
one_none (suc n) = ap (λ (x : List (Option Value)). None ∷ x) (one_none n)

pub one_none_more : (n : ℕ) → replicate {A = Option Value} n None ++ None ∷ [] ≡ replicate (n + 1) None
one_none_more n = simp unary_clauses (one_none n)

pub all_none : (ms : List Member) (n : ℕ) → n ≡ length ms → replicate {A = Option Value} n None ≡ map (λ _. None) ms
all_none ms n same = rw same (each ms)
  where
    each : (ms : List Member) → replicate {A = Option Value} (length ms) None ≡ map (λ _. None) ms
    each [] = refl
    each (m ∷ ms) = ap (λ (x : List (Option Value)). None ∷ x) (each ms)
