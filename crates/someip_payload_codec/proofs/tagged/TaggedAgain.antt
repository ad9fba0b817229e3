-- Items of a tagged structure that are spelled so are read.
use Rattle.std.proofs.Common.{◌≡◌, ℕ, zero, suc, ◌+◌, ◌-◌, ◌^◌, ◌<◌, ◌≤◌, Bool, true, false, ltb, eqb, ◌||◌, List, [], ◌∷◌, length, Ok, inl, inr, refl, sym, ap, ◌∙◌, arith}
use Rattle.std.specs.Int.{byte_len}
use Rattle.std.proofs.lemmas.Bool.{lt-ltb, ne_eqb, eq-eqb, eqb-true, eqb-false, cases_Bool}
use Rattle.std.proofs.lemmas.List.{length-append}
use Rattle.someip_payload_values.specs.declared.number.Size.TheVariants.{S16}
use Rattle.someip_payload_values.specs.declared.shape.Width.{Width}
use Rattle.someip_payload_values.specs.declared.shape.Width.TheVariants.{W32}
use Rattle.someip_payload_values.specs.declared.tag.WireType.{WireType}
use Rattle.someip_payload_values.specs.declared.tag.WireType.TheVariants.{Basic, OwnLength, Length}
use Rattle.someip_payload_values.specs.declared.tag.Tag.{Tag}
use Rattle.someip_payload_values.specs.Data.{Form, Members, no_members, member_then, Data, Slots, no_slots, present, absent}
use Rattle.someip_payload_codec.specs.View.{View}
use Rattle.someip_payload_values.specs.Numbers.{width_of, number}
use Rattle.someip_payload_values.specs.Tags.{TaggedItem, tag_number, item_bytes, items_bytes, with_id, Skips, has_wire_type, width_in}
use Rattle.someip_payload_codec.specs.Grammar.{is_member, SkipsOthers, ReadsBy, ReadsItems}
use Rattle.someip_payload_codec.specs.Reading.{skip, ordered_at, tag_at, skip_at, Filler, item_by, tagged_at, all_absent, member_at, data_by, slots_at, item_at}
use Rattle.someip_payload_codec.proofs.parts.Forms.{AreMembers}
use Rattle.someip_payload_codec.proofs.parts.Parts.{same_view, Took, took_split, front_again, number_again, body_again}
use Rattle.someip_payload_codec.proofs.tagged.TagLemmas.{tag_says, tag_below}

-- where nothing was taken, the same is left
pub none_taken : (w v : View) (text : List ℕ) → text ≡ [] → Took w text v → v ≡ w
none_taken w v text e p =
    let q : Took w [] v = rw e at p in
    same_view v w q.is_body (omega (arith, q.place)) (sym q.bytes)

-- a value of the form is read where it is spelled
abbrev pub ReadAgain : Form → Type 0
ReadAgain f = (width : Width) (w v : View) (d : Data) (text : List ℕ) → ReadsBy width f d text → Took w text v → data_by width f w ≡ Ok (d, v)

-- a value of each member is
abbrev pub EachAgain : Members → Type 0
EachAgain no_members = Unit {0}
EachAgain (member_then id optional f ms) = ReadAgain f × EachAgain ms

-- the members so far become those in the end by these items: each that is absent so far and present in the
-- end has one item, which is read as its value, and each other has none
abbrev pub Awaits : Members → Slots → Slots → List TaggedItem → Type 0
Awaits no_members no_slots no_slots items = Unit {0}
Awaits (member_then id optional f ms) (present c cs) (present d ss) items = (c ≡ d) × (with_id id items ≡ []) × Awaits ms cs ss items
Awaits (member_then id optional f ms) (absent cs) (present d ss) items =
    (i : TaggedItem) × (with_id id items ≡ i ∷ []) × (has_wire_type f i.wire_type ≡ true) × ReadsBy (width_in i.wire_type f) f d i.bytes × Awaits ms cs ss items
Awaits (member_then id optional f ms) (absent cs) (absent ss) items = (with_id id items ≡ []) × Awaits ms cs ss items
Awaits _ cs ss items = ⊥

-- before the first item
awaits_all : (ms : Members) (ss : Slots) (items : List TaggedItem) → ReadsItems ms ss items → Awaits ms (all_absent ms) ss items
unfolding ReadsItems
awaits_all no_members no_slots items h = tt
awaits_all (member_then id optional f ms) (present d ss) items (i, one, type, reads, more) = (i, one, type, reads, awaits_all ms ss items more)
awaits_all (member_then id optional f ms) (absent ss) items (none, more) = (none, awaits_all ms ss items more)
awaits_all _ ss items h = absurd h

-- after the last item
awaits_none : (ms : Members) (cs ss : Slots) → Awaits ms cs ss [] → cs ≡ ss
awaits_none no_members no_slots no_slots h = refl
awaits_none (member_then id optional f ms) (present c cs) (present d ss) (same, none, more) =
    ap (λ (x : Data). present x cs) same ∙ ap (present d) (awaits_none ms cs ss more)
awaits_none (member_then id optional f ms) (absent cs) (present d ss) (i, one, type, reads, more) = absurd cc
awaits_none (member_then id optional f ms) (absent cs) (absent ss) (none, more) = ap absent (awaits_none ms cs ss more)
awaits_none _ cs ss h = absurd h

neither : (a b : Bool) → (a || b) ≡ false → (a ≡ false) × (b ≡ false)
neither true b e = absurd cc
neither false b e = (refl, e)

other_id : (n : ℕ) (i : TaggedItem) (items : List TaggedItem) → eqb n i.id ≡ false → with_id n (i ∷ items) ≡ with_id n items
other_id n i items other = rw (ne_eqb i.id n (λ same. eqb-false n i.id other (sym same))) refl

same_id : (n : ℕ) (i : TaggedItem) (items : List TaggedItem) → eqb n i.id ≡ true → with_id n (i ∷ items) ≡ i ∷ with_id n items
same_id n i items here = rw (eq-eqb i.id n (sym (eqb-true n i.id here))) refl

-- an item that no member has is none that they await
awaits_others : (ms : Members) (cs ss : Slots) (i : TaggedItem) (items : List TaggedItem) → is_member i.id ms ≡ false → Awaits ms cs ss (i ∷ items) → Awaits ms cs ss items
awaits_others no_members no_slots no_slots i items other h = tt
awaits_others (member_then n optional f ms) (present c cs) (present d ss) i items other (same, none, more) =
    let o = neither (eqb n i.id) (is_member i.id ms) other in
    (same, sym (other_id n i items o.0) ∙ none, awaits_others ms cs ss i items o.1 more)
awaits_others (member_then n optional f ms) (absent cs) (present d ss) i items other (j, one, type, reads, more) =
    let o = neither (eqb n i.id) (is_member i.id ms) other in
    (j, sym (other_id n i items o.0) ∙ one, type, reads, awaits_others ms cs ss i items o.1 more)
awaits_others (member_then n optional f ms) (absent cs) (absent ss) i items other (none, more) =
    let o = neither (eqb n i.id) (is_member i.id ms) other in
    (sym (other_id n i items o.0) ∙ none, awaits_others ms cs ss i items o.1 more)
awaits_others _ cs ss i items other h = absurd h

-- ---- one item

skip_again : (t : WireType) (w v : View) (bytes : List ℕ) → Skips t bytes → Took w bytes v → skip_at t w ≡ Ok v
unfolding skip_at ordered_at
skip_again (Basic size) w v bytes h p = rw (front_again (byte_len (width_of size)) w v bytes p h) refl
skip_again OwnLength w v bytes (body, fits, e, is) p = rw (body_again W32 w v body (rw e at p) fits) refl
skip_again (Length width) w v bytes (body, fits, e, is) p = rw (body_again width w v body (rw e at p) fits) refl

pub tag_again : (reserved : Bool) (t : WireType) (id : ℕ) (w v : View) → id < 2 ^ 12 → Took w (number S16 (tag_number reserved t id)) v → tag_at w ≡ Ok (record { wire_type = t; id = id }, v)
unfolding tag_at
tag_again reserved t id w v small p = rw (number_again S16 w v (tag_number reserved t id) p (tag_below reserved t id small), tag_says reserved t id small) refl

-- the tag of an item
abbrev pub tag_of : TaggedItem → Tag
tag_of i = record { wire_type = i.wire_type; id = i.id }

one_is : {A : Type 0} (x y : A) (xs : List A) → x ∷ xs ≡ y ∷ [] → (y ≡ x) × (xs ≡ [])
one_is x y xs e = (cc, cc)

none_is : {A : Type 0} (x : A) (xs : List A) → x ∷ xs ≡ [] → ⊥
none_is x xs e = absurd cc

-- the first of the items that they await is read into its member, or skipped
slots_again : (ms : Members) (cs ss : Slots) (i : TaggedItem) (items : List TaggedItem) (place : ℕ) (w v : View) → AreMembers ms → EachAgain ms → Awaits ms cs ss (i ∷ items)
    → (is_member i.id ms ≡ false → Skips i.wire_type i.bytes) → Took w i.bytes v → (next : Slots) × (slots_at ms cs (tag_of i) place w ≡ Ok (next, v)) × Awaits ms next ss items
unfolding slots_at member_at
slots_again no_members no_slots no_slots i items place w v are again h skips p = (no_slots, rw (skip_again i.wire_type w v i.bytes (skips refl) p) refl, tt)
slots_again (member_then n optional f ms) (present c cs) (present d ss) i items place w v are again (same, none, more) skips p =
    elim (cases_Bool (eqb n i.id)) [
      | inl here ↦ absurd (none_is i (with_id n items) (sym (same_id n i items here) ∙ none))
      | inr other ↦
          let (next, e, rest) = slots_again ms cs ss i items place w v are.4 again.1 more (λ never. skips (rw (other, never) refl)) p in
          (present c next, rw (other, e) refl, (same, sym (other_id n i items other) ∙ none, rest))
    ]
slots_again (member_then n optional f ms) (absent cs) (present d ss) i items place w v are again (j, one, type, reads, more) skips p =
    elim (cases_Bool (eqb n i.id)) [
      | inl here ↦
          let (is, none) = one_is i j (with_id n items) (sym (same_id n i items here) ∙ one) in
          let has : has_wire_type f i.wire_type ≡ true = rw is at type in
          let got : data_by (width_in i.wire_type f) f w ≡ Ok (d, v) = again.0 (width_in i.wire_type f) w v d i.bytes (rw is at reads) p in
          let others : is_member i.id ms ≡ false = rw (eqb-true n i.id here) at are.1 in
          (present d cs, rw (here, has, got) refl, (refl, none, awaits_others ms cs ss i items others more))
      | inr other ↦
          let (next, e, rest) = slots_again ms cs ss i items place w v are.4 again.1 more (λ never. skips (rw (other, never) refl)) p in
          (absent next, rw (other, e) refl, (j, sym (other_id n i items other) ∙ one, type, reads, rest))
    ]
slots_again (member_then n optional f ms) (absent cs) (absent ss) i items place w v are again (none, more) skips p =
    elim (cases_Bool (eqb n i.id)) [
      | inl here ↦ absurd (none_is i (with_id n items) (sym (same_id n i items here) ∙ none))
      | inr other ↦
          let (next, e, rest) = slots_again ms cs ss i items place w v are.4 again.1 more (λ never. skips (rw (other, never) refl)) p in
          (absent next, rw (other, e) refl, (sym (other_id n i items other) ∙ none, rest))
    ]
slots_again _ cs ss i items place w v are again h skips p = absurd h

-- ---- all items

-- an item takes two bytes at least
item_len : (i : TaggedItem) → length (item_bytes i) ≡ 2 + length i.bytes
item_len i = length-append (number S16 (tag_number i.reserved i.wire_type i.id)) i.bytes

two_each : (items : List TaggedItem) → length items + length items ≤ length (items_bytes items)
two_each [] = omega arith
two_each (i ∷ items) = omega (arith, length-append (item_bytes i) (items_bytes items), item_len i, two_each items)

loop_again : (ms : Members) → AreMembers ms → EachAgain ms → (items : List TaggedItem) (n left : ℕ) (cs ss : Slots) (w v : View) → length items + left ≡ n
    → Awaits ms cs ss items → SkipsOthers ms items → Took w (items_bytes items) v → tagged_at (item_at ms) n cs w ≡ tagged_at (item_at ms) left ss v
unfolding tagged_at item_by
loop_again ms are again [] n left cs ss w v full h skips p =
    let fuel : n ≡ left = omega (arith, full) in
    rw (fuel, none_taken w v [] refl p, awaits_none ms cs ss h) refl
loop_again ms are again (i ∷ items) zero left cs ss w v full h skips p = absurd (omega (arith, full))
loop_again ms are again (i ∷ items) (suc n) left cs ss w v full h skips p =
    let tag = number S16 (tag_number i.reserved i.wire_type i.id) in
    let u = skip (length (item_bytes i)) w in
    let s = took_split {w = w} {v = v} (item_bytes i) (items_bytes items) p in
    let t = took_split {w = w} {v = u} tag i.bytes s.0 in
    let (next, e, rest) = slots_again ms cs ss i items w.place (skip (length tag) w) u are again h skips.1 t.1 in
    let some : ltb 0 (length w.bytes) ≡ true = lt-ltb 0 (length w.bytes) (omega (arith, ap length s.0.bytes ∙ length-append (item_bytes i) u.bytes, item_len i)) in
    rw (some, tag_again i.reserved i.wire_type i.id w (skip (length tag) w) skips.0 t.0, e) (loop_again ms are again items n left next ss u v (omega (arith, full)) rest skips.2 s.1)

-- reading stands after items that are spelled so
pub tagged_again : (ms : Members) → AreMembers ms → EachAgain ms → (items : List TaggedItem) (ss : Slots) (b v : View) → ReadsItems ms ss items → SkipsOthers ms items → Took b (items_bytes items) v
    → (left : ℕ) × (length v.bytes ≤ left) × (tagged_at (item_at ms) (length b.bytes) (all_absent ms) b ≡ tagged_at (item_at ms) left ss v)
tagged_again ms are again items ss b v reads skips p =
    let long : length b.bytes ≡ length (items_bytes items) + length v.bytes = ap length p.bytes ∙ length-append (items_bytes items) v.bytes in
    let two = two_each items in
    let left = length b.bytes - length items in
    let full : length items + left ≡ length b.bytes = omega (arith, long, two) in
    (left, omega (arith, long, two), loop_again ms are again items (length b.bytes) left (all_absent ms) ss b v full (awaits_all ms ss items reads) skips p)

-- at the end of the bytes the members are there
pub tagged_end : (one : Filler) (left : ℕ) (ss : Slots) (v : View) → v.bytes ≡ [] → tagged_at one left ss v ≡ Ok ss
unfolding tagged_at
tagged_end one zero ss v e = refl
tagged_end one (suc left) ss v e = rw e refl
