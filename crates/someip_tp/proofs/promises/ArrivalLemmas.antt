-- All segments of a message, in any order and any of them repeated, make it whole.
use Rattle.std.proofs.Common.{◌≡◌, ◌≢◌, ℕ, ◌+◌, ◌-◌, ◌*◌, ◌/◌, ◌%◌, ◌<◌, ◌≤◌, Bool, true, false, cond, not, ◌&&◌, ◌||◌, ◌==◌, nat_lt, nat_le, if◌then◌else◌, List, [], ◌∷◌, ◌++◌, map, length, slice_get, get_or, take, drop, Option, None, Some, refl, sym, ap, subst, ◌∙◌, append_assoc, ◌⊎◌, inl, inr, arith}
use Rattle.std.specs.Option.{is_some, is_none, unwrap_or, option_and_then}
use Rattle.std.specs.List.{Contains, AllByRecursion, list_any}
use Rattle.std.proofs.lemmas.Bool.{cases_lt}
use Rattle.std.proofs.lemmas.Bool.Decides.{nat_tests}
use Rattle.std.proofs.lemmas.List.{append-nil, length-take, length-drop, get_or-take, get_or-drop}
use Rattle.std.proofs.lemmas.List.Elements.{All-contains, All-from_recursion}
use Rattle.std.proofs.lemmas.Option.{slice_get-get_or, slice_get_within, slice_get_past, get_or_from_slice_get}
use Rattle.std.specs.FinMap.{get, insert, remove, keys, len, get-insert, get-remove}
use Rattle.someip_wire.specs.Spelling.{MessageValue}
use Rattle.someip_reassembly.specs.declared.key.ReassemblyKey.{ReassemblyKey}
use Rattle.someip_tp.specs.declared.calls.TpCall.{TpCall}
use Rattle.someip_tp.specs.declared.calls.TpCall.TheVariants as call
use Rattle.someip_reassembly.specs.Keys.{same_key}
use Rattle.someip_tables.specs.Retained.{kept_if as passed}
use Rattle.someip_reassembly.specs.Segments.{SegmentValue, segment_at, segment_header}
use Rattle.someip_reassembly.specs.Sent.{segments_of}
use Rattle.someip_reassembly.specs.Parts.{Limits, Part, Parts, is_gone, parts_at}
use Rattle.someip_reassembly.specs.SegmentOffers.{SegmentOffer, offer, placed, passes, differ, kept, parts_after, part_under, no_part, with_offer, total_of, is_unaligned, is_too_long, conflicts, message_of, message_at, parts_less}
use Rattle.someip_reassembly.specs.Slices.{byte_at}
use Rattle.someip_tp.specs.Wholes.{IsWhole}
use Rattle.someip_tp.specs.Calls.{parts_through}
use Rattle.someip_tp.specs.Accepted.{offered_segment, IsSegmentOf, HoldsOnly}
use Rattle.someip_tp.specs.Arrivals.{offered_under, StandsThrough, AllArrive}
use Rattle.someip_reassembly.proofs.Placed.{over, get-added, none_differs}
use Rattle.someip_reassembly.proofs.SliceLemmas.{byte_from}
use Rattle.someip_reassembly.proofs.PartialLemmas.{any_place, no_place_passes}
use Rattle.someip_reassembly.proofs.KeyOrder.{keys_total, exact_keys, same_from_test, test_from_same}
use Rattle.someip_tables.proofs.Entries.{get-retain}
use Rattle.someip_reassembly.proofs.SegmentsLemmas.{are_segments}
use Rattle.someip_tp.proofs.promises.WholeLemmas.{message_from_whole}
use Rattle.someip_reassembly.proofs.OfferLemmas.{judged_by}
use Rattle.someip_tp.proofs.promises.BoundLemmas.{fewer, left_same}
use Rattle.someip_tp.proofs.promises.AcceptedLemmas.{IsAt, segment_is, segment_byte, last_ends, begins, accepts}

-- ---- a segment of the message

unaligned_not : (rest : List ℕ) → (nat_lt 1392 (length rest) && not (length (take 1392 rest) % 16 == 0)) ≡ false
unaligned_not rest = cases (nat_lt 1392 (length rest)) refl
  where
    cases : (b : Bool) → nat_lt 1392 (length rest) ≡ b → (b && not (length (take 1392 rest) % 16 == 0)) ≡ false
    cases true test =
        let long : 1392 < length rest = grind (arith, nat_tests, test) in
        let full : length (take 1392 rest) ≡ 1392 = omega (arith, long, length-take 1392 rest) in
        ap (λ n. not (n % 16 == 0)) full
    cases false test = refl

-- what a segment is to its message
record IsOwn (m : MessageValue) (o : SegmentOffer) : Type 0 where
  aligned : is_unaligned o ≡ false
  within : o.offset + length o.bytes ≤ length m.payload
  byte : (place b : ℕ) → byte_at o.offset o.bytes place ≡ Some b → slice_get m.payload place ≡ Some b
  last : o.more ≡ false → o.offset + length o.bytes ≡ length m.payload

own_segment : (m : MessageValue) (key : ReassemblyKey) (s : SegmentValue) → IsAt m s → IsOwn m (offered_segment key s)
own_segment m key s at = record {
  aligned = ap (λ (x : SegmentValue). x.more && not (length x.slice % 16 == 0)) at.is ∙ unaligned_not (drop at.offset m.payload);
  within = omega (
    arith,
    at.inside,
    ap (λ (x : SegmentValue). x.offset) at.is,
    ap (λ (x : SegmentValue). length x.slice) at.is,
    length-take 1392 (drop at.offset m.payload),
    length-drop at.offset m.payload,
  );
  byte = segment_byte m s at;
  last = last_ends m s at;
}

is_own : (m : MessageValue) (o : SegmentOffer) → IsSegmentOf m o → IsOwn m o
is_own m o is = subst (IsOwn m) (sym is.2) (own_segment m o.key is.0 (segment_is m is.0 is.1))

-- ---- it contradicts nothing

none_of_four : (a b c d : Bool) → a ≡ false → b ≡ false → c ≡ false → d ≡ false → (((a || b) || c) || d) ≡ false
none_of_four a b c d p q r s = rw (p, q, r, s) refl

agrees : (m : MessageValue) (part : Part) (o : SegmentOffer) → HoldsOnly m.payload part → IsOwn m o → conflicts part o ≡ false
agrees m part o holds own = none_of_four _ _ _ _ same (inside part.total refl) (told part.total refl) (held o.more refl)
  where
    same : list_any (λ e. differ (get part.bytes e.0) (Some e.1)) (placed o.offset o.bytes) ≡ false
    same = none_differs (get part.bytes) o.offset o.bytes (λ place a b p q. let both = sym (holds.bytes place a p) ∙ own.byte place b q in cc)

    and_not : (a b : Bool) → b ≡ false → (a && b) ≡ false
    and_not true b p = p
    and_not false b p = refl

    inside : (t : Option ℕ) → part.total ≡ t → passes t (map (λ e. e.0) (placed o.offset o.bytes)) ≡ false
    inside None known = refl
    inside (Some total) known =
        let long : total ≡ length m.payload = holds.total total known in
        let short : nat_lt total (o.offset + length o.bytes) ≡ false = grind (arith, nat_tests, own.within, long) in
        any_place total o.offset o.bytes ∙ and_not (nat_lt 0 (length o.bytes)) (nat_lt total (o.offset + length o.bytes)) short

    told : (t : Option ℕ) → part.total ≡ t → differ t (total_of o) ≡ false
    told None known = refl
    told (Some total) known = ends o.more refl
      where
        ends : (more : Bool) → o.more ≡ more → differ (Some total) (cond more None (Some (o.offset + length o.bytes))) ≡ false
        ends true more = refl
        ends false last =
            let long : total ≡ o.offset + length o.bytes = holds.total total known ∙ sym (own.last last) in
            let test : (total == o.offset + length o.bytes) ≡ true = grind (arith, nat_tests, long) in
            ap not test

    below : o.more ≡ false → (place : ℕ) (x : Option ℕ) → get part.bytes place ≡ x → is_some x ≡ true → nat_le (o.offset + length o.bytes) place ≡ false
    below last place None none some = absurd cc
    below last place (Some b) there some =
        let short = slice_get_within m.payload place b (holds.bytes place b there) in
        let end = own.last last in
        grind (arith, nat_tests, short, end)

    held : (more : Bool) → o.more ≡ more → passes (cond more None (Some (o.offset + length o.bytes))) (keys part.bytes) ≡ false
    held true more = refl
    held false last = no_place_passes (nat_le (o.offset + length o.bytes)) part.bytes (λ place some. below last place (get part.bytes place) refl some)

by_tests : (unaligned long full clash : Bool) (now : ℕ) (o : SegmentOffer) (left : Parts) → unaligned ≡ false → long ≡ false → full ≡ false → clash ≡ false
    → kept (judged_by unaligned long full clash now o left) now o left ≡ insert left o.key (with_offer (part_under left o.key) now o)
by_tests true long full clash now o left p q r s = absurd cc
by_tests false true full clash now o left p q r s = absurd cc
by_tests false false true clash now o left p q r s = absurd cc
by_tests false false false true now o left p q r s = absurd cc
by_tests false false false false now o left p q r s = refl

-- so it is accepted
joins : (limits : Limits) (m : MessageValue) (now : ℕ) (o : SegmentOffer) (parts : Parts) → IsOwn m o → length m.payload ≤ limits.limit
    → (is_none (get (parts_at limits now parts) o.key) && nat_le limits.slots (len (parts_at limits now parts))) ≡ false → HoldsOnly m.payload (part_under (parts_at limits now parts) o.key)
    → get (parts_after limits now o parts) o.key ≡ Some (with_offer (part_under (parts_at limits now parts) o.key) now o)
unfolding parts_after
joins limits m now o parts own short room holds =
    let left = parts_at limits now parts in
    let fits : is_too_long limits.limit o ≡ false = grind (arith, nat_tests, own.within, short) in
    ap (λ next. get next o.key)
    (by_tests (is_unaligned o) (is_too_long limits.limit o) (is_none (get left o.key) && nat_le limits.slots (len left)) (conflicts (part_under left o.key) o) now o left own.aligned fits room (agrees m (part_under left o.key) o holds own))
    ∙ get-insert keys_total left o.key (with_offer (part_under left o.key) now o) o.key
    ∙ ap (λ t. cond t (Some (with_offer (part_under left o.key) now o)) (get left o.key)) (test_from_same o.key o.key refl)

-- ---- what a part has of the segments that were accepted

-- each byte of the segment, and the total, if it is the last one
abbrev Has : MessageValue → Part → SegmentOffer → Type 0
Has m part o = ((place b : ℕ) → byte_at o.offset o.bytes place ≡ Some b → get part.bytes place ≡ Some b) × (o.more ≡ false → part.total ≡ Some (length m.payload))

has_own : (m : MessageValue) (part : Part) (now : ℕ) (o : SegmentOffer) → IsOwn m o → Has m (with_offer part now o) o
has_own m part now o own = (
  (λ place b is. get-added part.bytes o.offset o.bytes place ∙ ap (λ x. over x (get part.bytes place)) is),
  (λ last. ap (λ more. cond more part.total (cond more None (Some (o.offset + length o.bytes)))) last ∙ ap Some (own.last last)),
)

has_older : (m : MessageValue) (part : Part) (now : ℕ) (o older : SegmentOffer) → HoldsOnly m.payload part → IsOwn m o → Has m part older → Has m (with_offer part now o) older
has_older m part now o older holds own has = (
  (λ place b is. get-added part.bytes o.offset o.bytes place ∙ pick place b (has.0 place b is) (byte_at o.offset o.bytes place) refl),
  (λ last. total (has.1 last) o.more refl),
)
  where
    pick : (place b : ℕ) → get part.bytes place ≡ Some b → (x : Option ℕ) → byte_at o.offset o.bytes place ≡ x → over x (get part.bytes place) ≡ Some b
    pick place b held None none = held
    pick place b held (Some c) some = sym (own.byte place c some) ∙ holds.bytes place b held

    total : part.total ≡ Some (length m.payload) → (more : Bool) → o.more ≡ more → cond more part.total (cond more None (Some (o.offset + length o.bytes))) ≡ Some (length m.payload)
    total known true more = known
    total known false last = ap Some (own.last last)

older_all : (m : MessageValue) (part : Part) (now : ℕ) (o : SegmentOffer) (seen : List SegmentOffer) → HoldsOnly m.payload part → IsOwn m o → AllByRecursion (Has m part) seen → AllByRecursion (Has m (with_offer part now o)) seen
older_all m part now o [] holds own has = tt
older_all m part now o (x ∷ seen) holds own has = (has_older m part now o x holds own has.0, older_all m part now o seen holds own has.1)

all_push : (P : SegmentOffer → Type 0) (xs : List SegmentOffer) (x : SegmentOffer) → AllByRecursion P xs → P x → AllByRecursion P (xs ++ x ∷ [])
all_push P [] x all one = (one, tt)
all_push P (y ∷ xs) x all one = (all.0, all_push P xs x all.1 one)

-- ---- a part that stands

-- the part under the key holds the payload's bytes alone, each of those of the segments seen, and its last one came at
-- the moment
record Holding (m : MessageValue) (key : ReassemblyKey) (last : ℕ) (seen : List SegmentOffer) (parts : Parts) : Type 0 where
  part : Part
  there : get parts key ≡ Some part
  holds : HoldsOnly m.payload part
  at : part.last ≡ last
  has : AllByRecursion (Has m part) seen

stays : (limits : Limits) (now : ℕ) (parts : Parts) (key : ReassemblyKey) (part : Part) → get parts key ≡ Some part → now < part.last + limits.timeout → get (parts_at limits now parts) key ≡ Some part
unfolding parts_at
stays limits now parts key part there young =
    let test : is_gone limits.timeout now part ≡ false = grind (arith, nat_tests, young) in
    get-retain keys_total exact_keys parts (λ key part. not (is_gone limits.timeout now part)) key
    ∙ ap (passed (λ part. not (is_gone limits.timeout now part))) there
    ∙ ap (λ t. cond (not t) (Some part) None) test

-- the same part where others change
unchanged : (m : MessageValue) (key : ReassemblyKey) (last : ℕ) (seen : List SegmentOffer) (parts next : Parts) (h : Holding m key last seen parts) → get next key ≡ Some h.part → Holding m key last seen next
unchanged m key last seen parts next h there = record { part = h.part; there = there; holds = h.holds; at = h.at; has = h.has }

-- a segment of the message more
one_more : (limits : Limits) (m : MessageValue) (now last : ℕ) (o : SegmentOffer) (seen : List SegmentOffer) (parts : Parts) → IsSegmentOf m o → length m.payload ≤ limits.limit → now < last + limits.timeout
    → Holding m o.key last seen parts → Holding m o.key now (seen ++ o ∷ []) (parts_after limits now o parts)
one_more limits m now last o seen parts is short young h =
    let left = parts_at limits now parts in
    let own = is_own m o is in
    let there : get left o.key ≡ Some h.part = stays limits now parts o.key h.part h.there (omega (arith, young, h.at)) in
    let under : part_under left o.key ≡ h.part = ap (λ v. unwrap_or v no_part) there in
    let room : (is_none (get left o.key) && nat_le limits.slots (len left)) ≡ false = ap (λ v. is_none v && nat_le limits.slots (len left)) there in
    let joined = joins limits m now o parts own short room (subst (HoldsOnly m.payload) (sym under) h.holds) in
    record {
      part = with_offer h.part now o;
      there = joined ∙ ap (λ p. Some (with_offer p now o)) under;
      holds = accepts m h.part now o h.holds is;
      at = refl;
      has = all_push (Has m (with_offer h.part now o)) seen o (older_all m h.part now o seen h.holds own h.has) (has_own m h.part now o own);
    }

-- the first segment
first_one : (limits : Limits) (m : MessageValue) (now : ℕ) (o : SegmentOffer) (parts : Parts) → IsSegmentOf m o → length m.payload ≤ limits.limit → get parts o.key ≡ None → len parts < limits.slots
    → Holding m o.key now (o ∷ []) (parts_after limits now o parts)
first_one limits m now o parts is short none free =
    let left = parts_at limits now parts in
    let own = is_own m o is in
    let under : part_under left o.key ≡ no_part = ap (λ v. unwrap_or v no_part) (gone (get left o.key) refl) in
    let count = fewer left parts (λ q held. some_same (get left q) (get parts q) (left_same limits now parts q) held) in
    let room : (is_none (get left o.key) && nat_le limits.slots (len left)) ≡ false =
    let few : nat_le limits.slots (len left) ≡ false = grind (arith, nat_tests, count, free) in
    and_not (is_none (get left o.key)) (nat_le limits.slots (len left)) few in
    let joined = joins limits m now o parts own short room (subst (HoldsOnly m.payload) (sym under) (begins m.payload)) in
    record {
      part = with_offer no_part now o;
      there = joined ∙ ap (λ p. Some (with_offer p now o)) under;
      holds = accepts m no_part now o (begins m.payload) is;
      at = refl;
      has = (has_own m no_part now o own, tt);
    }
  where
    gone : (v : Option Part) → get (parts_at limits now parts) o.key ≡ v → v ≡ None
    gone None e = refl
    gone (Some p) e = let there = left_same limits now parts o.key p e in absurd (clash there)
      where
        clash : {p : Part} → get parts o.key ≡ Some p → ⊥
        clash there = let both = sym none ∙ there in cc

    some_same : (x y : Option Part) → ((p : Part) → x ≡ Some p → y ≡ Some p) → is_some x ≡ true → is_some y ≡ true
    some_same None y same some = absurd cc
    some_same (Some p) y same some = ap is_some (same p refl)

    and_not : (a b : Bool) → b ≡ false → (a && b) ≡ false
    and_not true b p = p
    and_not false b p = refl

-- ---- the other calls

other_by_tests : (unaligned long full clash : Bool) (now : ℕ) (o : SegmentOffer) (left : Parts) (key : ReassemblyKey) (part : Part) → same_key key o.key ≡ false → get left key ≡ Some part
    → get (kept (judged_by unaligned long full clash now o left) now o left) key ≡ Some part
other_by_tests true long full clash now o left key part other there = there
other_by_tests false true full clash now o left key part other there = there
other_by_tests false false true clash now o left key part other there = there
other_by_tests false false false true now o left key part other there =
    get-remove keys_total left o.key key ∙ ap (λ t. cond t None (get left key)) other ∙ there
other_by_tests false false false false now o left key part other there =
    get-insert keys_total left o.key (with_offer (part_under left o.key) now o) key ∙ ap (λ t. cond t (Some (with_offer (part_under left o.key) now o)) (get left key)) other ∙ there

-- a segment of another key
other_offer : (limits : Limits) (now : ℕ) (o : SegmentOffer) (parts : Parts) (key : ReassemblyKey) (part : Part) → same_key key o.key ≡ false → get (parts_at limits now parts) key ≡ Some part
    → get (parts_after limits now o parts) key ≡ Some part
unfolding parts_after
other_offer limits now o parts key part other there =
    let left = parts_at limits now parts in
    other_by_tests (is_unaligned o) (is_too_long limits.limit o) (is_none (get left o.key) && nat_le limits.slots (len left)) (conflicts (part_under left o.key) o) now o left key part other there

-- a message of another key is taken
other_take : (parts : Parts) (k key : ReassemblyKey) (part : Part) → key ≢ k → get parts key ≡ Some part → get (parts_less parts k) key ≡ Some part
unfolding parts_less
other_take parts k key part other there = cases (is_some (message_at parts k))
  where
    differs : (b : Bool) → same_key key k ≡ b → b ≡ false
    differs true test = absurd (other (same_from_test key k test))
    differs false test = refl

    cases : (t : Bool) → get (cond t (remove parts k) parts) key ≡ Some part
    cases true = get-remove keys_total parts k key ∙ ap (λ t. cond t None (get parts key)) (differs (same_key key k) refl) ∙ there
    cases false = there

-- ---- all calls

abbrev Ends : MessageValue → ReassemblyKey → List SegmentOffer → Parts → Type 0
Ends m key seen parts = (last : ℕ) × Holding m key last seen parts

run : (limits : Limits) (m : MessageValue) (key : ReassemblyKey) (last : ℕ) (calls : List TpCall) (seen : List SegmentOffer) (parts : Parts) → length m.payload ≤ limits.limit
    → AllByRecursion (IsSegmentOf m) (offered_under key calls) → StandsThrough limits key last calls → Holding m key last seen parts
    → Ends m key (seen ++ offered_under key calls) (parts_through limits calls parts)
run limits m key last [] seen parts short own steady h = (last, subst (λ (t : List SegmentOffer). Holding m key last t parts) (sym (append-nil seen)) h)
run limits m key last (call.Offer k offset more bytes now ∷ calls) seen parts short own steady h =
    let o : SegmentOffer = offer k offset more bytes.now in
    let next = parts_after limits now o parts in
    let rest = offered_under key calls in
    let P : Bool → Type 0 = λ b. same_key key k ≡ b → AllByRecursion (IsSegmentOf m) (if b then o ∷ rest else rest) → StandsThrough limits key (if b then now else last) calls
    → Ends m key (seen ++ (if b then o ∷ rest else rest)) (parts_through limits calls next) in
    (elim (same_key key k) as P [
      | true ↦ λ test own steady_on.
          let one : key ≡ k = same_from_test key k test in
          let more_seen : Holding m k now (seen ++ o ∷ []) next = one_more limits m now last o seen parts own.0 short steady.0 (subst (λ q. Holding m q last seen parts) one h) in
          subst (λ (t : List SegmentOffer). Ends m key t (parts_through limits calls next)) (append_assoc seen (o ∷ []) rest)
          (run limits m key now calls (seen ++ o ∷ []) next short own.1 steady_on (subst (λ q. Holding m q now (seen ++ o ∷ []) next) (sym one) more_seen))
      | false ↦ λ test own steady_on.
          run limits m key last calls seen next short own steady_on
          (unchanged m key last seen parts next h (other_offer limits now o parts key h.part test (stays limits now parts key h.part h.there (omega (arith, steady.0, h.at)))))
    ]) refl own steady.1
run limits m key last (call.Take k ∷ calls) seen parts short own steady h =
    run limits m key last calls seen (parts_less parts k) short own steady.1 (unchanged m key last seen parts (parts_less parts k) h (other_take parts k key h.part steady.0 h.there))
run limits m key last (call.Expire now ∷ calls) seen parts short own steady h =
    run limits m key last calls seen (parts_at limits now parts) short own steady.1
    (unchanged m key last seen parts (parts_at limits now parts) h (stays limits now parts key h.part h.there (omega (arith, steady.0, h.at))))
run limits m key last (call.Clear ∷ calls) seen parts short own steady h = absurd steady

-- ---- whole

-- the k-th segment
abbrev nth : MessageValue → ℕ → SegmentValue
nth m k = segment_at (segment_header m.header) (1392 * k) (drop (1392 * k) m.payload)

nth_among : (m : MessageValue) (k : ℕ) → 1392 * k < length m.payload → Contains (segments_of m) (nth m k)
nth_among m k inside =
    let test : nat_lt (1392 * k) (length m.payload) ≡ true = grind (arith, nat_tests, inside) in
    let there : slice_get (segments_of m) k ≡ Some (nth m k) = are_segments m k ∙ ap (λ b. cond b (Some (nth m k)) None) test in
    (k, slice_get_within (segments_of m) k (nth m k) there, get_or_from_slice_get (segments_of m) k (nth m k) (nth m k) there)

slice_out : (xs : List ℕ) (n o i : ℕ) → i < n → o + i < length xs → slice_get (take n (drop o xs)) i ≡ Some (get_or xs (o + i) 0)
slice_out xs n o i below inside =
    let lt : i < length (take n (drop o xs)) = omega (arith, below, inside, length-take n (drop o xs), length-drop o xs) in
    slice_get-get_or (take n (drop o xs)) i 0 lt ∙ ap Some (rw (get_or-take n (drop o xs) i 0 below, get_or-drop) refl)

whole : (m : MessageValue) (key : ReassemblyKey) (last : ℕ) (seen : List SegmentOffer) (parts : Parts) (h : Holding m key last seen parts) → 0 < length m.payload
    → AllByRecursion (λ s. Contains seen (offered_segment key s)) (segments_of m) → IsWhole h.part m.payload
whole m key last seen parts h some all = (total, λ place. bytes place (cases_lt place (length m.payload)))
  where
    has : (k : ℕ) → 1392 * k < length m.payload → Has m h.part (offered_segment key (nth m k))
    has k inside =
        let came = All-contains (λ s. Contains seen (offered_segment key s)) (segments_of m) (nth m k) (All-from_recursion (λ s. Contains seen (offered_segment key s)) (segments_of m) all) (nth_among m k inside) in
        All-contains (Has m h.part) seen (offered_segment key (nth m k)) (All-from_recursion (Has m h.part) seen h.has) came

    total : h.part.total ≡ Some (length m.payload)
    total =
        let k : ℕ = (length m.payload - 1) / 1392 in
        let inside : 1392 * ((length m.payload - 1) / 1392) < length m.payload = omega (arith, some) in
        let few : length (drop (1392 * ((length m.payload - 1) / 1392)) m.payload) ≤ 1392 = omega (arith, some, length-drop (1392 * ((length m.payload - 1) / 1392)) m.payload) in
        let no_more : nat_lt 1392 (length (drop (1392 * ((length m.payload - 1) / 1392)) m.payload)) ≡ false = grind (arith, nat_tests, few) in
        (has k inside).1 no_more

    bytes : (place : ℕ) → (place < length m.payload) ⊎ (length m.payload ≤ place) → get h.part.bytes place ≡ slice_get m.payload place
    bytes place (inl inside) =
        let k : ℕ = place / 1392 in
        let below : 1392 * (place / 1392) ≤ place = omega arith in
        let first : 1392 * (place / 1392) < length m.payload = omega (arith, below, inside) in
        let near : place - 1392 * (place / 1392) < 1392 = omega arith in
        let sum : 1392 * (place / 1392) + (place - 1392 * (place / 1392)) ≡ place = omega (arith, below) in
        let byte : slice_get (take 1392 (drop (1392 * (place / 1392)) m.payload)) (place - 1392 * (place / 1392)) ≡ Some (get_or m.payload place 0) =
        slice_out m.payload 1392 (1392 * (place / 1392)) (place - 1392 * (place / 1392)) near (omega (arith, sum, inside)) ∙ ap (λ i. Some (get_or m.payload i 0)) sum in
        (has k first).0 place (get_or m.payload place 0) (byte_from (1392 * (place / 1392)) (take 1392 (drop (1392 * (place / 1392)) m.payload)) place (get_or m.payload place 0) below byte)
        ∙ sym (slice_get-get_or m.payload place 0 inside)
    bytes place (inr past) = none (get h.part.bytes place) refl ∙ sym (slice_get_past m.payload place past)
      where
        none : (x : Option ℕ) → get h.part.bytes place ≡ x → x ≡ None
        none None e = refl
        none (Some b) e = let short = slice_get_within m.payload place b (h.holds.bytes place b e) in absurd (omega (arith, short, past))

pub all_make_it_whole : (limits : Limits) (m : MessageValue) (parts : Parts) (now : ℕ) (first : SegmentOffer) (calls : List TpCall) → get parts first.key ≡ None → len parts < limits.slots
    → length m.payload ≤ limits.limit → AllArrive limits m now first calls → message_at (parts_through limits calls (parts_after limits now first parts)) first.key ≡ Some m.payload
unfolding message_at
all_make_it_whole limits m parts now first calls none free short arrive =
    let own = arrive.own.0 in
    let at = segment_is m own.0 own.1 in
    let some : 0 < length m.payload = omega (arith, at.inside) in
    let begun = first_one limits m now first parts own short none free in
    let end = run limits m first.key now calls (first ∷ []) (parts_after limits now first parts) short arrive.own.1 arrive.steady begun in
    ap (option_and_then message_of) end.1.there
    ∙ message_from_whole end.1.part m.payload (whole m first.key end.0 (first ∷ offered_under first.key calls) (parts_through limits calls (parts_after limits now first parts)) end.1 some arrive.all)
