-- A part that is made of one message's segments alone gives that message's payload.
use Rattle.std.proofs.Common.{◌≡◌, ℕ, ◌+◌, ◌-◌, ◌*◌, ◌%◌, ◌<◌, ◌≤◌, Bool, true, false, cond, ◌&&◌, nat_lt, nat_le, if◌then◌else◌, List, [], ◌∷◌, length, slice_get, get_or, take, drop, Option, None, Some, refl, sym, ap, subst, ◌∙◌, arith, Ok}
use Rattle.std.specs.Option.{is_some, is_none, unwrap_or, option_and_then}
use Rattle.std.specs.Result.{is_ok}
use Rattle.std.specs.List.{Contains, AllByRecursion}
use Rattle.std.proofs.lemmas.Bool.{ltb-false}
use Rattle.std.proofs.lemmas.Bool.Decides.{nat_tests}
use Rattle.std.proofs.lemmas.List.{ext_get_or, length-take, length-drop, get_or-take, get_or-drop}
use Rattle.std.proofs.lemmas.Option.{slice_get-get_or, slice_get_within, get_or_from_slice_get}
use Rattle.std.specs.Ordering.{nat_cmp}
use Rattle.std.specs.FinMap.{get, insert, remove, empty, len, get-insert, get-remove, get-empty}
use Rattle.someip_wire.specs.Spelling.{MessageValue, Fits}
use Rattle.someip_reassembly.specs.declared.key.ReassemblyKey.{ReassemblyKey}
use Rattle.someip_tp.specs.declared.calls.TpCall.{TpCall}
use Rattle.someip_tp.specs.declared.calls.TpCall.TheVariants as call
use Rattle.someip_reassembly.specs.Keys.{key_cmp, same_key}
use Rattle.someip_reassembly.specs.Segments.{SegmentValue, segment_at, segment_header, segment_message}
use Rattle.someip_reassembly.specs.TpHeader.{segment_in}
use Rattle.someip_reassembly.specs.Sent.{segments_of}
use Rattle.someip_reassembly.specs.Parts.{Limits, Part, Parts, parts_at}
use Rattle.someip_reassembly.specs.SegmentOffers.{SegmentOffer, offer, judgement, kept, parts_after, part_under, no_part, with_offer, is_unaligned, is_too_long, conflicts, message_of, message_at, parts_less}
use Rattle.someip_reassembly.specs.Slices.{byte_at}
use Rattle.someip_tp.specs.Calls.{parts_after_call, parts_through}
use Rattle.someip_tp.specs.Accepted.{IsSegmentOf, HoldsOnly, where_it_stands, accepted_after, accepted_through}
use Rattle.someip_reassembly.proofs.Placed.{over, get-added}
use Rattle.someip_reassembly.proofs.SliceLemmas.{byte_within}
use Rattle.someip_reassembly.proofs.KeyOrder.{keys_total, same_from_test}
use Rattle.someip_reassembly.proofs.SegmentsLemmas.{are_segments}
use Rattle.someip_reassembly.proofs.SegmentTexts.{read_as_sent}
use Rattle.someip_tp.proofs.promises.WholeLemmas.{whole_from_message}
use Rattle.someip_reassembly.proofs.OfferLemmas.{judged_by}
use Rattle.someip_tp.proofs.promises.BoundLemmas.{left_same, removed_same}

-- ---- the segments of a message

-- the segment is the k-th: its offset, and what is left of the payload there
pub record IsAt (m : MessageValue) (s : SegmentValue) : Type 0 where
  pub offset : ℕ
  pub aligned : offset % 16 ≡ 0
  pub inside : offset < length m.payload
  pub is : s ≡ segment_at (segment_header m.header) offset (drop offset m.payload)

pub segment_is : (m : MessageValue) (s : SegmentValue) → Contains (segments_of m) s → IsAt m s
segment_is m s among =
    let there : slice_get (segments_of m) among.0 ≡ Some s = slice_get-get_or (segments_of m) among.0 s among.1 ∙ ap Some among.2 in
    cases (nat_lt (1392 * among.0) (length m.payload)) refl (sym (are_segments m among.0) ∙ there)
  where
    cases : (b : Bool) → nat_lt (1392 * among.0) (length m.payload) ≡ b
        → cond b (Some (segment_at (segment_header m.header) (1392 * among.0) (drop (1392 * among.0) m.payload))) None ≡ Some s → IsAt m s
    cases true test is =
        let same : segment_at (segment_header m.header) (1392 * among.0) (drop (1392 * among.0) m.payload) ≡ s = cc in
        record { offset = 1392 * among.0; aligned = omega arith; inside = grind (arith, nat_tests, test); is = sym same }
    cases false test is = absurd cc

slice_in : (xs : List ℕ) (n o i b : ℕ) → slice_get (take n (drop o xs)) i ≡ Some b → slice_get xs (o + i) ≡ Some b
slice_in xs n o i b is =
    let inside = slice_get_within (take n (drop o xs)) i b is in
    let lt : o + i < length xs = omega (arith, inside, length-take n (drop o xs), length-drop o xs) in
    let below : i < n = omega (arith, inside, length-take n (drop o xs)) in
    let value : get_or xs (o + i) 0 ≡ b = rw (get_or-take n (drop o xs) i 0 below, get_or-drop) at (get_or_from_slice_get (take n (drop o xs)) i b 0 is) in
    slice_get-get_or xs (o + i) 0 lt ∙ ap Some value

-- a byte of a segment is the payload's at its place
pub segment_byte : (m : MessageValue) (s : SegmentValue) → IsAt m s → (place b : ℕ) → byte_at s.offset s.slice place ≡ Some b → slice_get m.payload place ≡ Some b
segment_byte m s at place b is =
    let inside = byte_within s.offset s.slice place b is in
    let offset_is : s.offset ≡ at.offset = ap (λ (x : SegmentValue). x.offset) at.is in
    let slice_is : s.slice ≡ take 1392 (drop at.offset m.payload) = ap (λ (x : SegmentValue). x.slice) at.is in
    let there : slice_get (take 1392 (drop at.offset m.payload)) (place - s.offset) ≡ Some b = ap (λ (t : List ℕ). slice_get t (place - s.offset)) (sym slice_is) ∙ inside.1 in
    let sum : at.offset + (place - s.offset) ≡ place = omega (arith, offset_is, inside.0) in
    ap (slice_get m.payload) (sym sum) ∙ slice_in m.payload 1392 at.offset (place - s.offset) b there

-- the last segment ends where the payload does
pub last_ends : (m : MessageValue) (s : SegmentValue) → IsAt m s → s.more ≡ false → s.offset + length s.slice ≡ length m.payload
last_ends m s at last =
    let offset_is : s.offset ≡ at.offset = ap (λ (x : SegmentValue). x.offset) at.is in
    let slice_is : length s.slice ≡ length (take 1392 (drop at.offset m.payload)) = ap (λ (x : SegmentValue). length x.slice) at.is in
    let few : length (drop at.offset m.payload) ≤ 1392 = ltb-false 1392 (length (drop at.offset m.payload)) (sym (ap (λ (x : SegmentValue). x.more) at.is) ∙ last) in
    omega (arith, offset_is, slice_is, few, at.inside, length-take 1392 (drop at.offset m.payload), length-drop at.offset m.payload)

-- a segment of a message is read as it was sent
pub own_read : (m : MessageValue) (s : SegmentValue) → Fits m → Contains (segments_of m) s → segment_in (segment_message s).payload ≡ Ok (s.offset, s.more, s.slice)
own_read m s fits among =
    let at = segment_is m s among in
    let offset_is : s.offset ≡ at.offset = ap (λ (x : SegmentValue). x.offset) at.is in
    read_as_sent s (ap (λ n. n % 16) offset_is ∙ at.aligned) (omega (arith, offset_is, at.inside, fits.length))

-- ---- one part

no_value : {X Q : Type 0} (o : Option X) (x : X) → o ≡ None → o ≡ Some x → Q
no_value o x none some = absurd (cc)

pub begins : (payload : List ℕ) → HoldsOnly payload no_part
begins payload = record {
  bytes = λ place b held. no_value (get empty place) b (get-empty nat_cmp place) held;
  total = λ total known. absurd (cc);
}

pub accepts : (m : MessageValue) (part : Part) (now : ℕ) (o : SegmentOffer) → HoldsOnly m.payload part → IsSegmentOf m o → HoldsOnly m.payload (with_offer part now o)
accepts m part now o holds is = record { bytes = bytes; total = λ total. known total o.more refl }
  where
    at : IsAt m is.0
    at = segment_is m is.0 is.1

    pick : (place b : ℕ) (x : Option ℕ) → byte_at o.offset o.bytes place ≡ x → over x (get part.bytes place) ≡ Some b → slice_get m.payload place ≡ Some b
    pick place b None none held = holds.bytes place b held
    pick place b (Some c) some held = segment_byte m is.0 at place b (sym (ap (λ (x : SegmentOffer). byte_at x.offset x.bytes place) is.2) ∙ some ∙ held)

    bytes : (place b : ℕ) → get (with_offer part now o).bytes place ≡ Some b → slice_get m.payload place ≡ Some b
    bytes place b held = pick place b (byte_at o.offset o.bytes place) refl (sym (get-added part.bytes o.offset o.bytes place) ∙ held)

    known : (total : ℕ) (more : Bool) → o.more ≡ more → cond more part.total (cond more None (Some (o.offset + length o.bytes))) ≡ Some total → total ≡ length m.payload
    known total true more tells = holds.total total tells
    known total false last tells =
        let same : o.offset + length o.bytes ≡ total = cc in
        sym same ∙ ap (λ (x : SegmentOffer). x.offset + length x.bytes) is.2 ∙ last_ends m is.0 at (sym (ap (λ (x : SegmentOffer). x.more) is.2) ∙ last)

pub whole_is_payload : (payload : List ℕ) (part : Part) (message : List ℕ) → HoldsOnly payload part → message_of part ≡ Some message → message ≡ payload
whole_is_payload payload part message holds is =
    let whole = whole_from_message part message is in
    ext_get_or 0 message payload (holds.total (length message) whole.0)
    (λ i lt. sym (get_or_from_slice_get payload i (get_or message i 0) 0 (holds.bytes i (get_or message i 0) (whole.1 i ∙ slice_get-get_or message i 0 lt))))

-- ---- any calls

-- where all that was accepted into the part under a key are segments of the message, it holds nothing else
abbrev Told : MessageValue → ReassemblyKey → List SegmentOffer → Parts → Type 0
Told m key accepted parts = AllByRecursion (IsSegmentOf m) accepted → (part : Part) → get parts key ≡ Some part → HoldsOnly m.payload part

-- a part that still stands is as it was
survives : (m : MessageValue) (key : ReassemblyKey) (accepted : List SegmentOffer) (parts next : Parts) → Told m key accepted parts → ((part : Part) → get next key ≡ Some part → get parts key ≡ Some part)
    → Told m key (where_it_stands (get next key) accepted) next
survives m key accepted parts next told same all part is = cases (get next key) refl all is
  where
    cases : (v : Option Part) → get next key ≡ v → AllByRecursion (IsSegmentOf m) (where_it_stands v accepted) → v ≡ Some part → HoldsOnly m.payload part
    cases None none all is = absurd cc
    cases (Some p) some all is = told all part (same part (some ∙ is))

-- a segment is accepted into the part that is left, or begins one
joined : (m : MessageValue) (key : ReassemblyKey) (accepted : List SegmentOffer) (left next : Parts) (now : ℕ) (o : SegmentOffer) → Told m key (where_it_stands (get left key) accepted) left
    → get next key ≡ Some (with_offer (part_under left key) now o) → Told m key (o ∷ where_it_stands (get left key) accepted) next
joined m key accepted left next now o told there all part is =
    let same : with_offer (part_under left key) now o ≡ part = cc (sym there ∙ is) in
    subst (HoldsOnly m.payload) same (accepts m (part_under left key) now o (before (get left key) refl) all.0)
  where
    before : (v : Option Part) → get left key ≡ v → HoldsOnly m.payload (unwrap_or v no_part)
    before None none = begins m.payload
    before (Some p) some = told all.1 p some

offered_by_tests : (m : MessageValue) (key : ReassemblyKey) (accepted : List SegmentOffer) (parts left : Parts) (now : ℕ) (o : SegmentOffer) → Told m key accepted parts
    → ((part : Part) → get left key ≡ Some part → get parts key ≡ Some part) → (unaligned long full clash same : Bool) → same_key key o.key ≡ same
    → Told m key
    (if is_ok (judged_by unaligned long full clash now o left) && same then o ∷ where_it_stands (get left key) accepted else where_it_stands (get (kept (judged_by unaligned long full clash now o left) now o left) key) accepted)
    (kept (judged_by unaligned long full clash now o left) now o left)
offered_by_tests m key accepted parts left now o told kept_same true long full clash same test = survives m key accepted parts left told kept_same
offered_by_tests m key accepted parts left now o told kept_same false true full clash same test = survives m key accepted parts left told kept_same
offered_by_tests m key accepted parts left now o told kept_same false false true clash same test = survives m key accepted parts left told kept_same
offered_by_tests m key accepted parts left now o told kept_same false false false true same test =
    survives m key accepted parts (remove left o.key) told (λ part is. kept_same part (removed_same (same_key key o.key) (get left key) part (sym (get-remove keys_total left o.key key) ∙ is)))
offered_by_tests m key accepted parts left now o told kept_same false false false false true test =
    let one : key ≡ o.key = same_from_test key o.key test in
    joined m key accepted left (insert left o.key (with_offer (part_under left o.key) now o)) now o (survives m key accepted parts left told kept_same)
    (get-insert keys_total left o.key (with_offer (part_under left o.key) now o) key
    ∙ ap (λ t. cond t (Some (with_offer (part_under left o.key) now o)) (get left key)) test
    ∙ ap (λ k. Some (with_offer (part_under left k) now o)) (sym one))
offered_by_tests m key accepted parts left now o told kept_same false false false false false test =
    survives m key accepted parts (insert left o.key (with_offer (part_under left o.key) now o)) told
    (λ part is. kept_same part (sym (ap (λ t. cond t (Some (with_offer (part_under left o.key) now o)) (get left key)) test) ∙ sym (get-insert keys_total left o.key (with_offer (part_under left o.key) now o) key) ∙ is))

less_same : (parts : Parts) (k key : ReassemblyKey) (part : Part) → get (parts_less parts k) key ≡ Some part → get parts key ≡ Some part
unfolding parts_less
less_same parts k key part is = cases (is_some (message_at parts k)) is
  where
    cases : (t : Bool) → get (cond t (remove parts k) parts) key ≡ Some part → get parts key ≡ Some part
    cases true is = removed_same (same_key key k) (get parts key) part (sym (get-remove keys_total parts k key) ∙ is)
    cases false is = is

one_call : (limits : Limits) (m : MessageValue) (key : ReassemblyKey) (c : TpCall) (parts : Parts) (accepted : List SegmentOffer) → Told m key accepted parts
    → Told m key (accepted_after limits key c parts accepted) (parts_after_call limits c parts)
unfolding judgement parts_after
one_call limits m key (call.Offer k offset more bytes now) parts accepted told =
    let o = offer k offset more bytes.now in
    let left = parts_at limits now parts in
    offered_by_tests m key accepted parts left now o told (λ part is. left_same limits now parts key part is)
    (is_unaligned o) (is_too_long limits.limit o) (is_none (get left o.key) && nat_le limits.slots (len left)) (conflicts (part_under left o.key) o) (same_key key o.key) refl
one_call limits m key (call.Take k) parts accepted told = survives m key accepted parts (parts_less parts k) told (λ part is. less_same parts k key part is)
one_call limits m key (call.Expire now) parts accepted told = survives m key accepted parts (parts_at limits now parts) told (λ part is. left_same limits now parts key part is)
one_call limits m key call.Clear parts accepted told = λ all part is. no_value (get empty key) part (get-empty key_cmp key) is

through : (limits : Limits) (m : MessageValue) (key : ReassemblyKey) (calls : List TpCall) (parts : Parts) (accepted : List SegmentOffer) → Told m key accepted parts
    → Told m key (accepted_through limits key calls parts accepted) (parts_through limits calls parts)
through limits m key [] parts accepted told = told
through limits m key (c ∷ calls) parts accepted told =
    through limits m key calls (parts_after_call limits c parts) (accepted_after limits key c parts accepted) (one_call limits m key c parts accepted told)

pub run_gives_payload : (limits : Limits) (m : MessageValue) (key : ReassemblyKey) (calls : List TpCall) (message : List ℕ) → AllByRecursion (IsSegmentOf m) (accepted_through limits key calls empty [])
    → message_at (parts_through limits calls empty) key ≡ Some message → message ≡ m.payload
unfolding message_at
run_gives_payload limits m key calls message all is = cases (get (parts_through limits calls empty) key) refl is
  where
    told : Told m key (accepted_through limits key calls empty []) (parts_through limits calls empty)
    told = through limits m key calls empty [] (λ none part is. no_value (get empty key) part (get-empty key_cmp key) is)

    cases : (v : Option Part) → get (parts_through limits calls empty) key ≡ v → option_and_then message_of v ≡ Some message → message ≡ m.payload
    cases None none is = absurd cc
    cases (Some part) there is = whole_is_payload m.payload part message (told all part there) is
