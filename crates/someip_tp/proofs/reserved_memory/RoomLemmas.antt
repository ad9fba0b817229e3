-- What a room holds, place by place.
use Rattle.std.proofs.Common.{◌≡◌, ◌≢◌, ℕ, zero, suc, ◌+◌, ◌-◌, ◌*◌, ◌/◌, ◌%◌, ◌<◌, ◌≤◌, ◌==◌, Bool, true, false, cond, ◌&&◌, ◌||◌, nat_lt, nat_le, List, [], ◌∷◌, ◌++◌, length, take, drop, get_or, if◌then◌else◌, Option, None, Some, Result, Ok, Err, refl, sym, ap, subst, ◌∙◌, arith}
use Rattle.std.specs.List.{slice_get, list_any}
use Rattle.std.specs.Option.{is_some, IsSome}
use Rattle.std.specs.Result.{is_ok, OnOk}
use Rattle.std.specs.Cmp.{nat_cmp_total}
use Rattle.std.specs.Ordering.{nat_cmp}
use Rattle.std.specs.FinMap.{get, keys, empty, get-empty, get-retain_keys, same_map, nat_cmp-IsAntisymmetric}
use Rattle.std.proofs.lemmas.Bool.{eqb-true, eq-eqb, and_parts}
use Rattle.std.proofs.lemmas.Bool.Decides.{nat_tests}
use Rattle.std.proofs.lemmas.List.{length-take-le}
use Rattle.std.proofs.lemmas.Option.{slice_get_within, slice_get-get_or}
use Rattle.someip_reassembly.specs.SegmentOffers.{differ, placed, added}
use Rattle.someip_reassembly.specs.Slices.{byte_at, Agree, IsFront, AppendsFront}
use Rattle.someip_tp.specs.declared.pool.block.Block.{Block}
use Rattle.someip_tp.specs.declared.pool.room.Room.{Room}
use Rattle.someip_tp.specs.Blocks.{is_held, other_end, IsInterval}
use Rattle.someip_tp.specs.Rooms.{held_bytes, Continues, IsConsistent}
use Rattle.someip_reassembly.proofs.Placed.{over, get-added, agree_where_none_differs}
use Rattle.someip_reassembly.proofs.SliceLemmas.{byte_within, byte_from, byte_past, byte_before}
use Rattle.someip_reassembly.proofs.PartialLemmas.{a_place_passes, no_place_passes}
use Rattle.someip_tp.proofs.reserved_memory.Intervals.{from_start}
use Rattle.someip_tp.proofs.reserved_memory.BlockLemmas.{held_within}

-- ---- what is held at a place

pub slice_get-take : {X : Type 0} (n : ℕ) (xs : List X) (i : ℕ) → slice_get (take n xs) i ≡ cond (nat_lt i n) (slice_get xs i) None
slice_get-take zero xs i = let test : nat_lt i 0 ≡ false = grind (arith, nat_tests) in rw test refl
slice_get-take (suc n) [] i = none (nat_lt i (suc n))
  where
    none : {X : Type 0} (b : Bool) → slice_get {X = X} [] i ≡ cond b (slice_get {X = X} [] i) None
    none true = refl
    none false = refl
slice_get-take (suc n) (x ∷ xs) zero = let test : nat_lt 0 (suc n) ≡ true = grind (arith, nat_tests) in rw test refl
slice_get-take (suc n) (x ∷ xs) (suc i) =
    let same : nat_lt i n ≡ nat_lt (suc i) (suc n) = grind (arith, nat_tests) in
    slice_get-take n xs i ∙ ap (λ b. cond b (slice_get xs i) None) same

-- the byte at a place, if its block is held and it lies before the end
abbrev pub byte_in : ℕ → List Block → ℕ → List ℕ → ℕ → Option ℕ
byte_in message blocks end bytes place = cond (is_held message blocks (place / 16) && nat_lt place end) (slice_get bytes place) None

front_byte : (bytes : List ℕ) (place : ℕ) → byte_at 0 bytes place ≡ slice_get bytes place
front_byte bytes place =
    let test : nat_le 0 place ≡ true = grind (arith, nat_tests) in
    rw test (ap (slice_get bytes) (omega arith))

over_none : (o : Option ℕ) → over o None ≡ o
over_none None = refl
over_none (Some b) = refl

pub get-held_bytes : (room : Room) (place : ℕ) → get (held_bytes room) place ≡ byte_in room.message room.blocks.items room.end room.bytes.items place
get-held_bytes room place =
    get-retain_keys (added empty (placed 0 (take room.end room.bytes.items))) (λ q. is_held room.message room.blocks.items (q / 16)) place
    (λ x same. ap (λ q. is_held room.message room.blocks.items (q / 16)) (sym (nat_cmp-IsAntisymmetric place x same)))
    ∙ (ap (λ o. cond (is_held room.message room.blocks.items (place / 16)) o None) all ∙ joined (is_held room.message room.blocks.items (place / 16)) (nat_lt place room.end) (slice_get room.bytes.items place))
  where
    all : get (added empty (placed 0 (take room.end room.bytes.items))) place ≡ cond (nat_lt place room.end) (slice_get room.bytes.items place) None
    all = get-added empty 0 (take room.end room.bytes.items) place
        ∙ (ap (over (byte_at 0 (take room.end room.bytes.items) place)) (get-empty nat_cmp place)
        ∙ (over_none (byte_at 0 (take room.end room.bytes.items) place) ∙ (front_byte (take room.end room.bytes.items) place ∙ slice_get-take room.end room.bytes.items place)))

    joined : (h l : Bool) (o : Option ℕ) → cond h (cond l o None) None ≡ cond (h && l) o None
    joined true l o = refl
    joined false l o = refl

-- a byte that is held is that of its place, in a held block and before the end
pub held_byte : (room : Room) (place a : ℕ) → get (held_bytes room) place ≡ Some a → (is_held room.message room.blocks.items (place / 16) ≡ true) × (place < room.end) × (slice_get room.bytes.items place ≡ Some a)
held_byte room place a is = cases (is_held room.message room.blocks.items (place / 16)) (nat_lt place room.end) refl refl (sym (get-held_bytes room place) ∙ is)
  where
    cases : (h l : Bool) → is_held room.message room.blocks.items (place / 16) ≡ h → nat_lt place room.end ≡ l → cond (h && l) (slice_get room.bytes.items place) None ≡ Some a
        → (is_held room.message room.blocks.items (place / 16) ≡ true) × (place < room.end) × (slice_get room.bytes.items place ≡ Some a)
    cases true true block before is = (block, grind (arith, nat_tests, before), is)
    cases true false block before is = cc
    cases false l block before is = cc

-- and the other way round
pub byte_held : (room : Room) (place : ℕ) → is_held room.message room.blocks.items (place / 16) ≡ true → place < room.end → get (held_bytes room) place ≡ slice_get room.bytes.items place
byte_held room place block lt =
    let before : nat_lt place room.end ≡ true = grind (arith, nat_tests, lt) in
    get-held_bytes room place ∙ ap (λ b. cond b (slice_get room.bytes.items place) None) (ap (λ b. b && nat_lt place room.end) block ∙ before)

pub not_held : (room : Room) (place : ℕ) → is_held room.message room.blocks.items (place / 16) ≡ false → get (held_bytes room) place ≡ None
not_held room place block = get-held_bytes room place ∙ ap (λ b. cond b (slice_get room.bytes.items place) None) (ap (λ b. b && nat_lt place room.end) block)

pub past_end : (room : Room) (place : ℕ) → room.end ≤ place → get (held_bytes room) place ≡ None
past_end room place le =
    let after : nat_lt place room.end ≡ false = grind (arith, nat_tests, le) in
    get-held_bytes room place ∙ ap (λ b. cond b (slice_get room.bytes.items place) None) (ap (λ b. is_held room.message room.blocks.items (place / 16) && b) after ∙ never (is_held room.message room.blocks.items (place / 16)))
  where
    never : (h : Bool) → (h && false) ≡ false
    never true = refl
    never false = refl

pub inside_is : (room : Room) (place : ℕ) → IsConsistent room → is_held room.message room.blocks.items (place / 16) ≡ true → place < room.end → IsSome (get (held_bytes room) place)
inside_is room place ok block lt = ap is_some (byte_held room place block lt ∙ slice_get-get_or room.bytes.items place 0 (omega (arith, lt, ok.inside)))

-- ---- an empty room

pub nothing_before_0 : (room : Room) → room.end ≡ 0 → held_bytes room ≡ empty
nothing_before_0 room none = same_map nat_cmp_total nat_cmp-IsAntisymmetric _ _ (λ place. past_end room place (omega (arith, none)) ∙ sym (get-empty nat_cmp place))

-- ---- how far it is held from the first place on

pub front_is : (room : Room) (n : ℕ) → IsConsistent room → is_held room.message room.blocks.items 0 ≡ true → n ≤ room.end → n ≤ 16 * (other_end room.blocks.items 0 + 1)
    → (n ≢ room.end → n ≡ 16 * (other_end room.blocks.items 0 + 1)) → IsFront (held_bytes room) n
front_is room n ok first short low other =
    let this = from_start (is_held room.message room.blocks.items) (other_end room.blocks.items) _ (held_within room.message room.blocks.items) ok.tied first in (
      λ place lt. inside_is room place ok (this.within (place / 16) (omega arith) (omega (arith, lt, low))) (omega (arith, lt, short)),
      at_last this (n == room.end) refl,
    )
  where
    at_last : IsInterval (is_held room.message room.blocks.items) 0 (other_end room.blocks.items 0) → (b : Bool) → (n == room.end) ≡ b → get (held_bytes room) n ≡ None
    at_last this true same = past_end room n (let is : n ≡ room.end = eqb-true n room.end same in omega (arith, is))
    at_last this false apart =
        let is : n ≡ 16 * (other_end room.blocks.items 0 + 1) = other (λ e. (let t = eq-eqb n room.end e in absurd (cc))) in
        let block : n / 16 ≡ other_end room.blocks.items 0 + 1 = omega (arith, is) in
        not_held room n (ap (is_held room.message room.blocks.items) block ∙ this.after)

pub no_front : (room : Room) → is_held room.message room.blocks.items 0 ≡ false → IsFront (held_bytes room) 0
no_front room none = (λ place lt. absurd (omega (arith, lt)), not_held room 0 none)

pub front_within : (room : Room) (n : ℕ) → IsFront (held_bytes room) n → n ≤ room.end
front_within room n front = cases (nat_le n room.end) refl
  where
    cases : (b : Bool) → nat_le n room.end ≡ b → n ≤ room.end
    cases true test = grind (arith, nat_tests, test)
    cases false test =
        let lt : room.end < n = grind (arith, nat_tests, test) in
        let some = front.0 room.end lt in
        let none = past_end room room.end (omega arith) in
        absurd (let is = ap is_some none in cc)

-- its bytes are those from the first place on
pub front_bytes : (room : Room) (n : ℕ) (old : List ℕ) → IsConsistent room → IsFront (held_bytes room) n → AppendsFront (held_bytes room) old (old ++ take n room.bytes.items)
front_bytes room n old ok front =
    let short = front_within room n front in
    let long : length (take n room.bytes.items) ≡ n = length-take-le n room.bytes.items (omega (arith, short, ok.inside)) in (
      take n room.bytes.items,
      refl,
      (λ place lt. same place (omega (arith, lt, long)) (get (held_bytes room) place) refl (front.0 place (omega (arith, lt, long))), ap (get (held_bytes room)) long ∙ front.1),
    )
  where
    same : (place : ℕ) → place < n → (o : Option ℕ) → get (held_bytes room) place ≡ o → is_some (get (held_bytes room) place) ≡ true → get (held_bytes room) place ≡ slice_get (take n room.bytes.items) place
    same place lt None is some = absurd (let none = ap is_some is in cc)
    same place lt (Some a) is some =
        let before : nat_lt place n ≡ true = grind (arith, nat_tests, lt) in
        is ∙ sym (slice_get-take n room.bytes.items place ∙ (ap (λ b. cond b (slice_get room.bytes.items place) None) before ∙ (held_byte room place a is).2))

-- ---- a slice within one block

-- nothing is held there
pub agrees_with_none : (room : Room) (start : ℕ) (bytes : List ℕ) → start % 16 ≡ 0 → length bytes ≤ 16 → (is_held room.message room.blocks.items (start / 16) ≡ true → room.end ≤ start)
    → Agree (get (held_bytes room)) (byte_at start bytes)
agrees_with_none room start bytes aligned short none place a b held this =
    let found = held_byte room place a held in
    let inside = byte_within start bytes place b this in
    let within = slice_get_within bytes (place - start) b inside.1 in
    let block : place / 16 ≡ start / 16 = omega (arith, aligned, short, within, inside.0) in
    let past = none (ap (is_held room.message room.blocks.items) (sym block) ∙ found.0) in
    absurd (omega (arith, past, found.1, inside.0))

-- what is held there begins with this
pub agrees_with : (room : Room) (start : ℕ) (bytes behind : List ℕ) (same : Bool) → start % 16 ≡ 0 → length bytes ≤ 16 → is_held room.message room.blocks.items (start / 16) ≡ true
    → ((i : ℕ) → start + i < room.end → slice_get behind i ≡ slice_get room.bytes.items (start + i)) → ((i : ℕ) → room.end ≤ start + i → slice_get behind i ≡ None)
    → (same ≡ true → Agree (slice_get behind) (slice_get bytes)) → (Agree (slice_get behind) (slice_get bytes) → same ≡ true)
    → (same ≡ true → Agree (get (held_bytes room)) (byte_at start bytes)) × (Agree (get (held_bytes room)) (byte_at start bytes) → same ≡ true)
agrees_with room start bytes behind same aligned short block inside past to from = (
  λ is place a b held this.
      let found = held_byte room place a held in
      let at = byte_within start bytes place b this in
      let place_is : start + (place - start) ≡ place = omega (arith, at.0) in
      let there : slice_get behind (place - start) ≡ Some a =
      inside (place - start) (omega (arith, place_is, found.1)) ∙ (ap (slice_get room.bytes.items) place_is ∙ found.2) in
      to is (place - start) a b there at.1,
  λ agree. from (λ i a b held this.
      let within = slice_get_within bytes i b this in
      let before : start + i < room.end = lower i a held (nat_lt (start + i) room.end) refl in
      let here : (start + i) / 16 ≡ start / 16 = omega (arith, aligned, within, short) in
      let there : get (held_bytes room) (start + i) ≡ Some a =
      byte_held room (start + i) (ap (is_held room.message room.blocks.items) here ∙ block) before ∙ (sym (inside i before) ∙ held) in
      let mine : byte_at start bytes (start + i) ≡ Some b = byte_from start bytes (start + i) b (omega arith) (ap (slice_get bytes) (omega arith) ∙ this) in
      agree (start + i) a b there mine),
)
  where
    lower : (i a : ℕ) → slice_get behind i ≡ Some a → (b : Bool) → nat_lt (start + i) room.end ≡ b → start + i < room.end
    lower i a held true test = grind (arith, nat_tests, test)
    lower i a held false test =
        let none = past i (grind (arith, nat_tests, test)) in
        absurd (cc)

-- ---- a slice over several blocks

-- the parts of a slice agree one by one
pub agrees_so_far : (room : Room) (offset i : ℕ) (bytes part : List ℕ) → ((j : ℕ) → j < 16 → 16 * i + j < length bytes → slice_get part j ≡ slice_get bytes (16 * i + j))
    → ((place a b : ℕ) → place < offset + 16 * i → get (held_bytes room) place ≡ Some a → byte_at offset bytes place ≡ Some b → a ≡ b)
    → Agree (get (held_bytes room)) (byte_at (offset + 16 * i) part)
    → (place a b : ℕ) → place < offset + 16 * (i + 1) → get (held_bytes room) place ≡ Some a → byte_at offset bytes place ≡ Some b → a ≡ b
agrees_so_far room offset i bytes part is before here place a b lt held this = cases (nat_lt place (offset + 16 * i)) refl
  where
    cases : (t : Bool) → nat_lt place (offset + 16 * i) ≡ t → a ≡ b
    cases true test = before place a b (grind (arith, nat_tests, test)) held this
    cases false test =
        let past : offset + 16 * i ≤ place = grind (arith, nat_tests, test) in
        let at = byte_within offset bytes place b this in
        let within = slice_get_within bytes (place - offset) b at.1 in
        let j : ℕ = place - (offset + 16 * i) in
        let same : 16 * i + j ≡ place - offset = omega (arith, past) in
        let mine : byte_at (offset + 16 * i) part place ≡ Some b =
        byte_from (offset + 16 * i) part place b past (is j (omega (arith, past, lt)) (omega (arith, same, within)) ∙ (ap (slice_get bytes) same ∙ at.1)) in
        here place a b held mine

pub all_agree_so_far : (room : Room) (offset n : ℕ) (bytes : List ℕ) → length bytes ≤ 16 * n
    → ((place a b : ℕ) → place < offset + 16 * n → get (held_bytes room) place ≡ Some a → byte_at offset bytes place ≡ Some b → a ≡ b) → Agree (get (held_bytes room)) (byte_at offset bytes)
all_agree_so_far room offset n bytes le before place a b held this =
    let at = byte_within offset bytes place b this in
    let within = slice_get_within bytes (place - offset) b at.1 in
    before place a b (omega (arith, le, within, at.0)) held this

-- where one part does not agree, the slice does not
pub part_clashes : (room : Room) (offset i : ℕ) (bytes part : List ℕ) → ((j b : ℕ) → slice_get part j ≡ Some b → slice_get bytes (16 * i + j) ≡ Some b)
    → ¬ (Agree (get (held_bytes room)) (byte_at (offset + 16 * i) part)) → list_any (λ e. differ (get (held_bytes room) e.0) (Some e.1)) (placed offset bytes) ≡ true
part_clashes room offset i bytes part is apart = cases (list_any (λ e. differ (get (held_bytes room) e.0) (Some e.1)) (placed offset bytes)) refl
  where
    cases : (t : Bool) → list_any (λ e. differ (get (held_bytes room) e.0) (Some e.1)) (placed offset bytes) ≡ t → list_any (λ e. differ (get (held_bytes room) e.0) (Some e.1)) (placed offset bytes) ≡ true
    cases true test = test
    cases false test =
        let agree = agree_where_none_differs (get (held_bytes room)) offset bytes test in
        absurd (apart (λ place a b held this.
        let at = byte_within (offset + 16 * i) part place b this in
        let mine : byte_at offset bytes place ≡ Some b =
        byte_from offset bytes place b (omega (arith, at.0)) (ap (slice_get bytes) (omega (arith, at.0)) ∙ is (place - (offset + 16 * i)) b at.1) in
        agree place a b held mine))

-- ---- a slice is held

pub holds : (old new : Room) (offset : ℕ) (bytes : List ℕ) → IsConsistent old → offset % 16 ≡ 0 → 0 < length bytes → Agree (get (held_bytes old)) (byte_at offset bytes)
    → (length bytes % 16 ≢ 0 → old.end ≤ offset + length bytes) → (old.end % 16 ≢ 0 → offset + length bytes ≤ old.end)
    → ((j : ℕ) → is_held new.message new.blocks.items j ≡ ((nat_le (offset / 16) j && nat_lt j ((offset + length bytes + 15) / 16)) || is_held old.message old.blocks.items j))
    → ((i : ℕ) → i < length bytes → slice_get new.bytes.items (offset + i) ≡ slice_get bytes i)
    → ((i : ℕ) → i < offset → i < length old.bytes.items → slice_get new.bytes.items i ≡ slice_get old.bytes.items i)
    → ((i : ℕ) → offset + length bytes ≤ i → slice_get new.bytes.items i ≡ slice_get old.bytes.items i)
    → Continues old.end new.end offset (length bytes) → held_bytes new ≡ added (held_bytes old) (placed offset bytes)
holds old new offset bytes ok aligned some agree last before held written front behind goes_on =
    same_map nat_cmp_total nat_cmp-IsAntisymmetric _ _ (λ place. cases place (nat_lt place offset) (nat_lt place (offset + length bytes)) refl refl ∙ sym (get-added (held_bytes old) offset bytes place))
  where
    ends : (old.end ≤ new.end) × (offset + length bytes ≤ new.end) × (old.end ≤ offset + length bytes → new.end ≡ offset + length bytes) × (offset + length bytes ≤ old.end → new.end ≡ old.end)
    ends = goes_on.1 some

    -- a place of the slice
    mine : (place : ℕ) → offset ≤ place → place < offset + length bytes → get (held_bytes new) place ≡ over (byte_at offset bytes place) (get (held_bytes old) place)
    mine place low high =
        let i : ℕ = place - offset in
        let at : offset + i ≡ place = omega (arith, low) in
        let from : nat_le (offset / 16) (place / 16) ≡ true = grind (arith, nat_tests, from_block) in
        let to : nat_lt (place / 16) ((offset + length bytes + 15) / 16) ≡ true = grind (arith, nat_tests, to_block) in
        let block : is_held new.message new.blocks.items (place / 16) ≡ true = held (place / 16) ∙ rw (from, to) refl in
        let value = slice_get-get_or bytes i 0 (omega (arith, high, at)) in
        let this : byte_at offset bytes place ≡ Some (get_or bytes i 0) = byte_from offset bytes place _ low value in
        byte_held new place block (omega (arith, high, ends.1)) ∙ (ap (slice_get new.bytes.items) (sym at) ∙ (written i (omega (arith, high, at)) ∙ (value ∙ ap (λ o. over o (get (held_bytes old) place)) (sym this))))
      where
        from_block : offset / 16 ≤ place / 16
        from_block = omega (arith, low)

        to_block : place / 16 < (offset + length bytes + 15) / 16
        to_block = omega (arith, high)

    -- a place beside it
    beside : (place : ℕ) → (place < offset → place < offset + length bytes) → (offset ≤ place → offset + length bytes ≤ place) → byte_at offset bytes place ≡ None → get (held_bytes new) place ≡ over (byte_at offset bytes place) (get (held_bytes old) place)
    beside place low high none = by_end (nat_lt place old.end) refl ∙ ap (λ o. over o (get (held_bytes old) place)) (sym none)
      where
        -- the same bytes stand there
        bytes_same : place < old.end → slice_get new.bytes.items place ≡ slice_get old.bytes.items place
        bytes_same lt = by_side (nat_lt place offset) refl
          where
            by_side : (t : Bool) → nat_lt place offset ≡ t → slice_get new.bytes.items place ≡ slice_get old.bytes.items place
            by_side true test = front place (grind (arith, nat_tests, test)) (omega (arith, lt, ok.inside))
            by_side false test = behind place (high (grind (arith, nat_tests, test)))

        -- a block that the slice does not reach is as before
        block_same : (nat_le (offset / 16) (place / 16) && nat_lt (place / 16) ((offset + length bytes + 15) / 16)) ≡ false → is_held new.message new.blocks.items (place / 16) ≡ is_held old.message old.blocks.items (place / 16)
        block_same off = held (place / 16) ∙ ap (λ b. b || is_held old.message old.blocks.items (place / 16)) off

        reaches : Bool
        reaches = nat_le (offset / 16) (place / 16) && nat_lt (place / 16) ((offset + length bytes + 15) / 16)

        -- the slice ends in the block, and nothing is held after it
        reached : reaches ≡ true → (offset + length bytes ≤ place) × (old.end ≤ offset + length bytes)
        reached on =
            let tests = and_parts (nat_le (offset / 16) (place / 16)) (nat_lt (place / 16) ((offset + length bytes + 15) / 16)) on in
            let from : offset / 16 ≤ place / 16 = grind (arith, nat_tests, tests.0) in
            let to : place / 16 < (offset + length bytes + 15) / 16 = grind (arith, nat_tests, tests.1) in
            let past : offset + length bytes ≤ place = high (omega (arith, from, aligned)) in
            (past, last (λ whole. omega (arith, whole, aligned, past, to)))

        by_end : (t : Bool) → nat_lt place old.end ≡ t → get (held_bytes new) place ≡ get (held_bytes old) place
        by_end true test = by_block reaches refl (is_held old.message old.blocks.items (place / 16)) refl
          where
            lt : place < old.end
            lt = grind (arith, nat_tests, test)

            by_block : (r : Bool) → reaches ≡ r → (h : Bool) → is_held old.message old.blocks.items (place / 16) ≡ h → get (held_bytes new) place ≡ get (held_bytes old) place
            by_block true on h block = let far = reached on in absurd (omega (arith, far.0, far.1, lt))
            by_block false off true block =
                byte_held new place (block_same off ∙ block) (omega (arith, lt, ends.0)) ∙ (bytes_same lt ∙ sym (byte_held old place block lt))
            by_block false off false block = not_held new place (block_same off ∙ block) ∙ sym (not_held old place block)
        by_end false test = by_block reaches refl (is_held old.message old.blocks.items (place / 16)) refl ∙ sym (past_end old place ge)
          where
            ge : old.end ≤ place
            ge = grind (arith, nat_tests, test)

            by_block : (r : Bool) → reaches ≡ r → (h : Bool) → is_held old.message old.blocks.items (place / 16) ≡ h → get (held_bytes new) place ≡ None
            by_block true on h block =
                let far = reached on in
                let same = ends.2 far.1 in
                past_end new place (omega (arith, far.0, same))
            by_block false off false block = not_held new place (block_same off ∙ block)
            by_block false off true block =
                let start = ok.below (place / 16) block in
                let same = ends.3 (before (λ whole. omega (arith, whole, start, ge))) in
                past_end new place (omega (arith, same, ge))

    cases : (place : ℕ) (l h : Bool) → nat_lt place offset ≡ l → nat_lt place (offset + length bytes) ≡ h → get (held_bytes new) place ≡ over (byte_at offset bytes place) (get (held_bytes old) place)
    cases place true h before_it under = beside place (λ lt. omega (arith, lt)) (λ le. absurd (let lt : place < offset = grind (arith, nat_tests, before_it) in omega (arith, lt, le))) (byte_before offset bytes place (grind (arith, nat_tests, before_it)))
    cases place false true before_it under = mine place (grind (arith, nat_tests, before_it)) (grind (arith, nat_tests, under))
    cases place false false before_it under =
        let past : offset + length bytes ≤ place = grind (arith, nat_tests, under) in
        beside place (λ lt. absurd (omega (arith, lt, past))) (λ le. past) (byte_past offset bytes place past)

-- ---- a part of a list

slice_get-drop : {X : Type 0} (o : ℕ) (xs : List X) (i : ℕ) → slice_get (drop o xs) i ≡ slice_get xs (o + i)
slice_get-drop zero xs i = let same : i ≡ 0 + i = omega arith in ap (slice_get xs) same
slice_get-drop (suc o) [] i = refl
slice_get-drop (suc o) (x ∷ xs) i = let same : suc (o + i) ≡ suc o + i = omega arith in slice_get-drop o xs i ∙ ap (slice_get (x ∷ xs)) same

pub part_get : {X : Type 0} (n o : ℕ) (xs : List X) (i : ℕ) → i < n → slice_get (take n (drop o xs)) i ≡ slice_get xs (o + i)
part_get n o xs i lt =
    let test : nat_lt i n ≡ true = grind (arith, nat_tests, lt) in
    slice_get-take n (drop o xs) i ∙ (ap (λ b. cond b (slice_get (drop o xs) i) None) test ∙ slice_get-drop o xs i)

pub part_past : {X : Type 0} (n o : ℕ) (xs : List X) (i : ℕ) → n ≤ i → slice_get (take n (drop o xs)) i ≡ None
part_past n o xs i le =
    let test : nat_lt i n ≡ false = grind (arith, nat_tests, le) in
    slice_get-take n (drop o xs) i ∙ ap (λ b. cond b (slice_get (drop o xs) i) None) test

pub part_some : {X : Type 0} (n o : ℕ) (xs : List X) (i : ℕ) (x : X) → slice_get (take n (drop o xs)) i ≡ Some x → slice_get xs (o + i) ≡ Some x
part_some n o xs i x is = cases (nat_lt i n) refl
  where
    cases : (b : Bool) → nat_lt i n ≡ b → slice_get xs (o + i) ≡ Some x
    cases true test = sym (part_get n o xs i (grind (arith, nat_tests, test))) ∙ is
    cases false test = absurd (let none = part_past n o xs i (grind (arith, nat_tests, test)) in cc)

-- what was appended where there was memory
pub on_ok_appended : {E : Type 0} (P : List ℕ → Type 0) (r : Result (Unit {0}) E) (old more new : List ℕ) → new ≡ (if is_ok r then old ++ more else old) → P (old ++ more) → OnOk r (P new)
on_ok_appended P (Ok u) old more new is holds = subst P (sym is) holds
on_ok_appended P (Err e) old more new is holds = tt

-- ---- a total at or below a held place

pub reaches_as : (room : Room) (total : ℕ) → IsConsistent room → nat_lt total room.end ≡ list_any (nat_le total) (keys (held_bytes room))
reaches_as room total ok = cases (nat_lt total room.end) refl
  where
    cases : (b : Bool) → nat_lt total room.end ≡ b → b ≡ list_any (nat_le total) (keys (held_bytes room))
    cases true test =
        let past : total < room.end = grind (arith, nat_tests, test) in
        let place : ℕ = room.end - 1 in
        let at : place + 1 ≡ room.end = omega (arith, past) in
        sym (a_place_passes (nat_le total) (held_bytes room) place (inside_is room place ok (ok.top place at) (omega (arith, past))) (grind (arith, nat_tests, past)))
    cases false test =
        let short : room.end ≤ total = grind (arith, nat_tests, test) in
        sym (no_place_passes (nat_le total) (held_bytes room) (λ place held. beyond place (nat_le total place) refl held short))
      where
        beyond : (place : ℕ) (b : Bool) → nat_le total place ≡ b → is_some (get (held_bytes room) place) ≡ true → room.end ≤ total → nat_le total place ≡ false
        beyond place false is held short = is
        beyond place true is held short = absurd (let none = past_end room place (let le : total ≤ place = grind (arith, nat_tests, is) in omega (arith, le, short)) in let no = ap is_some none in cc)
