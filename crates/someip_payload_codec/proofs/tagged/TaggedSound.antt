-- The items of a tagged structure, one after the other, are read as its members.
use Rattle.std.proofs.Common.{◌≡◌, ℕ, zero, suc, ◌^◌, ◌<◌, ◌≤◌, Bool, true, false, cond, ltb, eqb, ◌||◌, List, [], ◌∷◌, ◌++◌, length, Result, Ok, Err, refl, sym, ap, subst, ◌∙◌, append_assoc, append-nil, arith}
use Rattle.std.proofs.lemmas.Bool.{ltb-false, eqb-true, eqb-false, eq-eqb, ne_eqb}
use Rattle.std.proofs.lemmas.List.{length-append, nil_from_length}
use Rattle.someip_payload_values.specs.declared.error.PayloadError.{PayloadError}
use Rattle.someip_payload_values.specs.declared.error.PayloadError.TheVariants.{DuplicateMember, WrongWireType, MissingMember}
use Rattle.someip_payload_values.specs.declared.number.Size.TheVariants.{S16}
use Rattle.someip_payload_values.specs.declared.shape.Width.{Width}
use Rattle.someip_payload_values.specs.declared.shape.Width.TheVariants.{W32}
use Rattle.someip_payload_values.specs.declared.tag.WireType.{WireType}
use Rattle.someip_payload_values.specs.declared.tag.WireType.TheVariants.{Basic, OwnLength, Length}
use Rattle.someip_payload_values.specs.declared.tag.Tag.{Tag}
use Rattle.someip_payload_values.specs.Data.{Form, Members, no_members, member_then, Data, Slots, no_slots, present, absent}
use Rattle.someip_payload_codec.specs.View.{View}
use Rattle.someip_payload_values.specs.Numbers.{number, framed}
use Rattle.someip_payload_values.specs.Tags.{TaggedItem, item_bytes, items_bytes, with_id, Skips, has_wire_type, width_in, tag_number, tag_in}
use Rattle.someip_payload_codec.specs.Grammar.{is_member, SkipsOthers, has_required, ReadsBy, ReadsItems}
use Rattle.someip_payload_values.specs.Steps.{◌>>=◌}
use Rattle.someip_payload_codec.specs.Reading.{number_at, body_at, tag_at, skip_at, Filler, item_by, tagged_at, all_absent, required_at, member_at}
use Rattle.someip_payload_values.proofs.StepLemmas.{passed, kept}
use Rattle.someip_payload_codec.proofs.tagged.TagLemmas.{tag_is}
use Rattle.someip_payload_codec.proofs.parts.Parts.{IsBytes, bind_ok, ok_is, Took, Takes, took_then, took_bytes, number_took, body_took, wide}

-- ---- one item more

eqb-sym : (a b : ℕ) → eqb a b ≡ false → eqb b a ≡ false
eqb-sym a b other = ne_eqb b a (λ same. eqb-false a b other (sym same))

no_part : (a b : Bool) → (a || b) ≡ false → (a ≡ false) × (b ≡ false)
no_part true b e = absurd cc
no_part false b e = (refl, e)

-- an item with another Data ID makes no difference
with_id-other : (id : ℕ) (items : List TaggedItem) (i : TaggedItem) → eqb i.id id ≡ false → with_id id (items ++ i ∷ []) ≡ with_id id items
with_id-other id [] i other = rw other refl
with_id-other id (j ∷ items) i other = rw (with_id-other id items i other) refl

cond_append : (b : Bool) (j : TaggedItem) (xs ys : List TaggedItem) → cond b (j ∷ (xs ++ ys)) (xs ++ ys) ≡ cond b (j ∷ xs) xs ++ ys
cond_append true j xs ys = refl
cond_append false j xs ys = refl

-- one with the Data ID stands after the others
with_id-more : (id : ℕ) (items : List TaggedItem) (i : TaggedItem) → eqb i.id id ≡ true → with_id id (items ++ i ∷ []) ≡ with_id id items ++ i ∷ []
with_id-more id [] i same = rw same refl
with_id-more id (j ∷ items) i same = rw (with_id-more id items i same) (cond_append (eqb j.id id) j (with_id id items) (i ∷ []))

-- an item that no member has makes no difference
pub reads_more : (ms : Members) (ss : Slots) (items : List TaggedItem) (i : TaggedItem) → is_member i.id ms ≡ false → ReadsItems ms ss items → ReadsItems ms ss (items ++ i ∷ [])
unfolding ReadsItems
reads_more no_members no_slots items i none reads = tt
reads_more no_members (present d ss) items i none reads = reads
reads_more no_members (absent ss) items i none reads = reads
reads_more (member_then id optional f ms) no_slots items i none reads = reads
reads_more (member_then id optional f ms) (present d ss) items i none (one, is, has, by, others) =
    let p = no_part (eqb id i.id) (is_member i.id ms) none in
    (one, with_id-other id items i (eqb-sym id i.id p.0) ∙ is, has, by, reads_more ms ss items i p.1 others)
reads_more (member_then id optional f ms) (absent ss) items i none (is, others) =
    let p = no_part (eqb id i.id) (is_member i.id ms) none in
    (with_id-other id items i (eqb-sym id i.id p.0) ∙ is, reads_more ms ss items i p.1 others)

skips_more : (ms : Members) (items : List TaggedItem) (i : TaggedItem) → SkipsOthers ms items → i.id < 2 ^ 12 → (is_member i.id ms ≡ false → Skips i.wire_type i.bytes) → SkipsOthers ms (items ++ i ∷ [])
skips_more ms [] i skips below one = (below, one, tt)
skips_more ms (j ∷ items) i (b, s, others) below one = (b, s, skips_more ms items i others below one)

-- before the first item no member is there
pub none_yet : (ms : Members) → ReadsItems ms (all_absent ms) []
unfolding ReadsItems
none_yet no_members = tt
none_yet (member_then id optional f ms) = (refl, none_yet ms)

-- ---- the data of an item

skip_took : (t : WireType) (w v : View) → IsBytes w.bytes → skip_at t w ≡ Ok v → Takes (Skips t) w v
unfolding skip_at
skip_took (Basic size) w v fits e =
    let a = bind_ok (number_at size w) (λ n. Ok n.1) v e in
    let t = number_took size w a.0.1 a.0.0 fits a.1 in
    subst (Takes (Skips (Basic size)) w) (ok_is a.0.1 v a.2) (record { text = number size a.0.0; took = t.0; holds = (wide size).len a.0.0 })
skip_took OwnLength w v fits e =
    let a = bind_ok (body_at W32 w) (λ body. Ok body.1) v e in
    let t = body_took W32 w a.0.0 a.0.1 fits a.1 in
    subst (Takes (Skips OwnLength) w) (ok_is a.0.1 v a.2) (record { text = framed W32 a.0.0.bytes; took = t.took; holds = (a.0.0.bytes, t.fits, refl, tt) })
skip_took (Length width) w v fits e =
    let a = bind_ok (body_at width w) (λ body. Ok body.1) v e in
    let t = body_took width w a.0.0 a.0.1 fits a.1 in
    subst (Takes (Skips (Length width)) w) (ok_is a.0.1 v a.2) (record { text = framed width a.0.0.bytes; took = t.took; holds = (a.0.0.bytes, t.fits, refl, tt) })

-- the data of the item with the tag were taken, after which the members so far are ss'
pub record TakesSlot (ms : Members) (ss ss' : Slots) (tag : Tag) (w v : View) : Type 0 where
  pub text : List ℕ
  pub took : Took w text v
  pub adds : (r : Bool) (items : List TaggedItem) → ReadsItems ms ss items → ReadsItems ms ss' (items ++ record { reserved = r; wire_type = tag.wire_type; id = tag.id; bytes = text } ∷ [])
  pub skips : is_member tag.id ms ≡ false → Skips tag.wire_type text

-- what is read of members after the first, with that one again in front
abbrev pub with_present : Data → Slots × View → Result (Slots × View) PayloadError
with_present d x = Ok (present d x.0, x.1)

abbrev pub with_absent : Slots × View → Result (Slots × View) PayloadError
with_absent x = Ok (absent x.0, x.1)

-- the first member, whose value was read
abbrev pub with_value : Slots → Data × View → Result (Slots × View) PayloadError
with_value ss x = Ok (present x.0 ss, x.1)

abbrev pub with_none : Slots → View → Result (Slots × View) PayloadError
with_none ss v = Ok (ss, v)

-- an item that no member has
pub skipped_took : (ms : Members) (ss ss' : Slots) (tag : Tag) (w v : View) → ((items : List TaggedItem) (i : TaggedItem) → ReadsItems ms ss items → ReadsItems ms ss (items ++ i ∷ [])) → IsBytes w.bytes
    → (skip_at tag.wire_type w >>= with_none ss) ≡ Ok (ss', v) → TakesSlot ms ss ss' tag w v
skipped_took ms ss ss' tag w v adds fits e =
    let a = bind_ok (skip_at tag.wire_type w) (with_none ss) (ss', v) e in
    let t = skip_took tag.wire_type w a.0 fits a.1 in
    subst (λ (x : Slots × View). TakesSlot ms ss x.0 tag w x.1) (ok_is (ss, a.0) (ss', v) a.2)
    (record { text = t.text; took = t.took; adds = λ r items reads. adds items _ reads; skips = λ none. t.holds })

-- an item of a later member, or of none, where the first is there
pub present_took : (id : ℕ) (optional : Bool) (f : Form) (ms : Members) (d : Data) (ss ss' : Slots) (tag : Tag) (place : ℕ) (w v : View) (rest : Result (Slots × View) PayloadError)
    → ((ss1 : Slots) (u : View) → rest ≡ Ok (ss1, u) → TakesSlot ms ss ss1 tag w u) → cond (eqb id tag.id) (Err (DuplicateMember place)) (rest >>= with_present d) ≡ Ok (ss', v)
    → TakesSlot (member_then id optional f ms) (present d ss) ss' tag w v
unfolding ReadsItems
present_took id optional f ms d ss ss' tag place w v rest takes e =
    let k = kept (eqb id tag.id) (rest >>= with_present d) (DuplicateMember place) (ss', v) e in
    let a = bind_ok rest (with_present d) (ss', v) k.1 in
    let t = takes a.0.0 a.0.1 a.1 in
    subst (λ (x : Slots × View). TakesSlot (member_then id optional f ms) (present d ss) x.0 tag w x.1) (ok_is (present d a.0.0, a.0.1) (ss', v) a.2)
    (record {
      text = t.text;
      took = t.took;
      adds = λ r items (one, is, has, by, others). (one, with_id-other id items _ (eqb-sym id tag.id k.0) ∙ is, has, by, t.adds r items others);
      skips = λ none. t.skips (no_part (eqb id tag.id) (is_member tag.id ms) none).1;
    })

-- the same where the first is not there
absent_took : (id : ℕ) (optional : Bool) (f : Form) (ms : Members) (ss ss' : Slots) (tag : Tag) (w v : View) (rest : Result (Slots × View) PayloadError) → eqb id tag.id ≡ false
    → ((ss1 : Slots) (u : View) → rest ≡ Ok (ss1, u) → TakesSlot ms ss ss1 tag w u) → (rest >>= with_absent) ≡ Ok (ss', v)
    → TakesSlot (member_then id optional f ms) (absent ss) ss' tag w v
unfolding ReadsItems
absent_took id optional f ms ss ss' tag w v rest other takes e =
    let a = bind_ok rest with_absent (ss', v) e in
    let t = takes a.0.0 a.0.1 a.1 in
    subst (λ (x : Slots × View). TakesSlot (member_then id optional f ms) (absent ss) x.0 tag w x.1) (ok_is (absent a.0.0, a.0.1) (ss', v) a.2)
    (record {
      text = t.text;
      took = t.took;
      adds = λ r items (is, others). (with_id-other id items _ (eqb-sym id tag.id other) ∙ is, t.adds r items others);
      skips = λ none. t.skips (no_part (eqb id tag.id) (is_member tag.id ms) none).1;
    })

-- an item of the first member, which was not there before
value_took : (id : ℕ) (optional : Bool) (f : Form) (ms : Members) (ss ss' : Slots) (tag : Tag) (place : ℕ) (w v : View) (one : Width → View → Result (Data × View) PayloadError) → is_member id ms ≡ false → eqb id tag.id ≡ true
    → ((width : Width) (u : View) (d : Data) → one width w ≡ Ok (d, u) → Takes (ReadsBy width f d) w u) → (member_at one f tag place w >>= with_value ss) ≡ Ok (ss', v)
    → TakesSlot (member_then id optional f ms) (absent ss) ss' tag w v
unfolding ReadsItems member_at
value_took id optional f ms ss ss' tag place w v one once same takes e =
    let a = bind_ok (member_at one f tag place w) (with_value ss) (ss', v) e in
    let p = passed (has_wire_type f tag.wire_type) (one (width_in tag.wire_type f) w) (WrongWireType place) a.0 a.1 in
    let t = takes (width_in tag.wire_type f) a.0.1 a.0.0 p.1 in
    let is : id ≡ tag.id = eqb-true id tag.id same in
    let none : is_member tag.id ms ≡ false = subst (λ (n : ℕ). is_member n ms ≡ false) is once in
    subst (λ (x : Slots × View). TakesSlot (member_then id optional f ms) (absent ss) x.0 tag w x.1) (ok_is (present a.0.0 ss, a.0.1) (ss', v) a.2)
    (record {
      text = t.text;
      took = t.took;
      adds = λ r items (before, others).
          let i : TaggedItem = record { reserved = r; wire_type = tag.wire_type; id = tag.id; bytes = t.text } in
          (i, with_id-more id items i (eq-eqb tag.id id (sym is)) ∙ ap (λ (x : List TaggedItem). x ++ i ∷ []) before, p.0, t.holds, reads_more ms ss items i none others);
      skips = λ out. absurd cc;
    })

-- an item of the first member, of a later one or of none, where the first was not there before
pub absent_or_value : (id : ℕ) (optional : Bool) (f : Form) (ms : Members) (ss ss' : Slots) (tag : Tag) (place : ℕ) (w v : View) (rest : Result (Slots × View) PayloadError) (one : Width → View → Result (Data × View) PayloadError)
    → is_member id ms ≡ false → ((ss1 : Slots) (u : View) → rest ≡ Ok (ss1, u) → TakesSlot ms ss ss1 tag w u)
    → ((width : Width) (u : View) (d : Data) → one width w ≡ Ok (d, u) → Takes (ReadsBy width f d) w u)
    → (b : Bool) → eqb id tag.id ≡ b → cond b (member_at one f tag place w >>= with_value ss) (rest >>= with_absent) ≡ Ok (ss', v)
    → TakesSlot (member_then id optional f ms) (absent ss) ss' tag w v
absent_or_value id optional f ms ss ss' tag place w v rest one once later takes true is e = value_took id optional f ms ss ss' tag place w v one once is takes e
absent_or_value id optional f ms ss ss' tag place w v rest one once later takes false is e = absent_took id optional f ms ss ss' tag w v rest is later e

-- ---- items one after the other

-- an item was taken from w, after which the members so far are ss
pub record TakesItem (ms : Members) (ss : Slots) (items : List TaggedItem) (w v : View) : Type 0 where
  pub one : TaggedItem
  pub took : Took w (item_bytes one) v
  pub reads : ReadsItems ms ss (items ++ one ∷ [])
  pub skips : SkipsOthers ms (items ++ one ∷ [])

-- a reader of items as the members
pub record IsFilling (one : Filler) (ms : Members) : Type 0 where
  pub takes : (items : List TaggedItem) (ss ss' : Slots) (w v : View) → IsBytes w.bytes → ReadsItems ms ss items → SkipsOthers ms items → one ss w ≡ Ok (ss', v) → TakesItem ms ss' items w v

pub tag_took : (w v : View) (tag : Tag) → IsBytes w.bytes → tag_at w ≡ Ok (tag, v) → (r : Bool) × Took w (number S16 (tag_number r tag.wire_type tag.id)) v × (tag.id < 2 ^ 12)
unfolding tag_at
tag_took w v tag fits e =
    let a = bind_ok (number_at S16 w) (λ n. let x : Tag × View = (tag_in n.0, n.1) in Ok x) (tag, v) e in
    let t = number_took S16 w a.0.1 a.0.0 fits a.1 in
    let g = tag_is a.0.0 t.1 in
    subst (λ (x : Tag × View). (r : Bool) × Took w (number S16 (tag_number r x.0.wire_type x.0.id)) x.1 × (x.0.id < 2 ^ 12)) (ok_is (tag_in a.0.0, a.0.1) (tag, v) a.2)
    (g.0, rw g.1 t.0, g.2)

pub item_took : (one : Slots → Tag → ℕ → View → Result (Slots × View) PayloadError) (ms : Members)
    → ((ss ss' : Slots) (tag : Tag) (place : ℕ) (w v : View) → IsBytes w.bytes → one ss tag place w ≡ Ok (ss', v) → TakesSlot ms ss ss' tag w v) → IsFilling (item_by one) ms
unfolding item_by
item_took one ms takes = record {
  takes = λ items ss ss' w v fits reads skips e.
      let a = bind_ok (tag_at w) (λ tag. one ss tag.0 w.place tag.1) (ss', v) e in
      let (r, front, below) = tag_took w a.0.1 a.0.0 fits a.1 in
      let t = takes ss ss' a.0.0 w.place a.0.1 v (took_bytes fits front).1 a.2 in
      let i : TaggedItem = record { reserved = r; wire_type = a.0.0.wire_type; id = a.0.0.id; bytes = t.text } in
      record { one = i; took = took_then front t.took; reads = t.adds r items reads; skips = skips_more ms items i skips below t.skips };
}

-- what items were taken, and that they are read so after those before
pub record TakesItems (ms : Members) (ss : Slots) (items : List TaggedItem) (text : List ℕ) : Type 0 where
  pub more : List TaggedItem
  pub bytes : text ≡ items_bytes more
  pub reads : ReadsItems ms ss (items ++ more)
  pub skips : SkipsOthers ms (items ++ more)

-- an item in front of others
first_too : {ms : Members} {ss : Slots} {items : List TaggedItem} {w v : View} {ss' : Slots} → (t : TakesItem ms ss' items w v) → TakesItems ms ss (items ++ t.one ∷ []) v.bytes → TakesItems ms ss items w.bytes
first_too {ms = ms} {ss = ss} {items = items} {w = w} {v = v} t rest =
    let same : (items ++ t.one ∷ []) ++ rest.more ≡ items ++ t.one ∷ rest.more = append_assoc items (t.one ∷ []) rest.more in
    record {
      more = t.one ∷ rest.more;
      bytes = t.took.bytes ∙ ap (λ (x : List ℕ). item_bytes t.one ++ x) rest.bytes;
      reads = subst (λ (x : List TaggedItem). ReadsItems ms ss x) same rest.reads;
      skips = subst (λ (x : List TaggedItem). SkipsOthers ms x) same rest.skips;
    }

no_more : (ms : Members) (ss : Slots) (items : List TaggedItem) (bytes : List ℕ) → bytes ≡ [] → ReadsItems ms ss items → SkipsOthers ms items → TakesItems ms ss items bytes
no_more ms ss items bytes none reads skips =
    let same : items ≡ items ++ [] = sym (append-nil items) in
    record { more = []; bytes = none; reads = subst (λ (x : List TaggedItem). ReadsItems ms ss x) same reads; skips = subst (λ (x : List TaggedItem). SkipsOthers ms x) same skips }

-- an item has its tag at least, so one less is left at most
pub less_left : (left : ℕ) (i : TaggedItem) (w v : View) → length w.bytes ≤ suc left → Took w (item_bytes i) v → length v.bytes ≤ left
less_left left i w v most took =
    omega (arith, ap length took.bytes ∙ length-append (item_bytes i) v.bytes, length-append (number S16 (tag_number i.reserved i.wire_type i.id)) i.bytes, (wide S16).len (tag_number i.reserved i.wire_type i.id))

tagged_step : (one : Filler) (ms : Members) → IsFilling one ms → (items : List TaggedItem) (ss ss' : Slots) (w : View) (rest : Slots → View → Result Slots PayloadError) → IsBytes w.bytes → ReadsItems ms ss items
    → SkipsOthers ms items → ((ss1 : Slots) (v : View) → (t : TakesItem ms ss1 items w v) → rest ss1 v ≡ Ok ss' → TakesItems ms ss' (items ++ t.one ∷ []) v.bytes)
    → (b : Bool) → ltb 0 (length w.bytes) ≡ b → cond b (one ss w >>= λ filled. rest filled.0 filled.1) (Ok ss) ≡ Ok ss' → TakesItems ms ss' items w.bytes
tagged_step one ms fills items ss ss' w rest fits reads skips later false is e =
    subst (λ (x : Slots). TakesItems ms x items w.bytes) (ok_is ss ss' e) (no_more ms ss items w.bytes (nil_from_length w.bytes (omega (arith, ltb-false 0 (length w.bytes) is))) reads skips)
tagged_step one ms fills items ss ss' w rest fits reads skips later true is e =
    let a = bind_ok (one ss w) (λ filled. rest filled.0 filled.1) ss' e in
    let t = fills.takes items ss a.0.0 w a.0.1 fits reads skips a.1 in
    first_too t (later a.0.0 a.0.1 t a.2)

-- the items until the bytes are used up
pub tagged_took : (one : Filler) (ms : Members) → IsFilling one ms → (left : ℕ) (items : List TaggedItem) (ss ss' : Slots) (w : View) → IsBytes w.bytes → length w.bytes ≤ left → ReadsItems ms ss items → SkipsOthers ms items
    → tagged_at one left ss w ≡ Ok ss' → TakesItems ms ss' items w.bytes
unfolding tagged_at
tagged_took one ms fills zero items ss ss' w fits most reads skips e =
    subst (λ (x : Slots). TakesItems ms x items w.bytes) (ok_is ss ss' e) (no_more ms ss items w.bytes (nil_from_length w.bytes (omega arith)) reads skips)
tagged_took one ms fills (suc left) items ss ss' w fits most reads skips e =
    tagged_step one ms fills items ss ss' w (tagged_at one left) fits reads skips
    (λ ss1 v t then. tagged_took one ms fills left (items ++ t.one ∷ []) ss1 ss' v (took_bytes fits t.took).1 (less_left left t.one w v most t.took) t.reads t.skips then)
    (ltb 0 (length w.bytes)) refl e

-- the members of a tagged structure, of which none that must be there is missing
pub required_is : (ms : Members) (place : ℕ) (ss whole : Slots) → required_at ms place ss ≡ Ok whole → (has_required ms whole ≡ true) × (ss ≡ whole)
unfolding required_at
required_is ms place ss whole e =
    let p = passed (has_required ms ss) (Ok ss) (MissingMember place) whole e in
    let same : ss ≡ whole = ok_is ss whole p.1 in
    (subst (λ (x : Slots). has_required ms x ≡ true) same p.0, same)
