-- The first fault among the items of a tagged structure.
use Rattle.std.proofs.Common.{◌≡◌, inl, inr, ℕ, zero, suc, ◌<◌, ◌≤◌, Bool, false, cond, ltb, List, [], ◌∷◌, ◌++◌, length, Result, Ok, Err, refl, sym, ap, subst, ◌∙◌, append_assoc, append-nil, arith}
use Rattle.std.proofs.lemmas.Bool.{ltb-true}
use Rattle.someip_payload_values.specs.declared.error.PayloadError.{PayloadError}
use Rattle.someip_payload_values.specs.declared.error.PayloadError.TheVariants.{DuplicateMember, WrongWireType, MissingMember}
use Rattle.someip_payload_values.specs.declared.number.Size.TheVariants.{S16}
use Rattle.someip_payload_values.specs.declared.shape.Width.{Width}
use Rattle.someip_payload_values.specs.declared.shape.Width.TheVariants.{W32}
use Rattle.someip_payload_values.specs.declared.tag.WireType.{WireType}
use Rattle.someip_payload_values.specs.declared.tag.WireType.TheVariants.{Basic, OwnLength, Length}
use Rattle.someip_payload_values.specs.declared.tag.Tag.{Tag}
use Rattle.someip_payload_values.specs.Data.{Form, Members, Data, Slots, present, absent}
use Rattle.someip_payload_codec.specs.View.{View}
use Rattle.someip_payload_values.specs.Tags.{TaggedItem, item_bytes, items_bytes, has_wire_type, width_in, tag_in}
use Rattle.someip_payload_codec.specs.Grammar.{Picks, SkipsOthers, has_required, ReadsItems}
use Rattle.someip_payload_values.specs.Steps.{◌>>=◌}
use Rattle.someip_payload_codec.specs.Reading.{skip, number_at, tag_at, skip_at, Filler, item_by, tagged_at, all_absent, required_at, member_at}
use Rattle.someip_payload_codec.specs.Faults.{FaultInNumber, FaultInSkipped, FaultInItem, FaultInTagged}
use Rattle.someip_payload_values.proofs.StepLemmas.{err_is, bind_err, only_first, passed_err}
use Rattle.someip_payload_codec.proofs.parts.Parts.{IsBytes, same_view, took_bytes}
use Rattle.someip_payload_codec.proofs.parts.PartFaults.{chosen_err, picks_failed, number_failed, in_body, left_is, left_after}
use Rattle.someip_payload_codec.proofs.tagged.TaggedSound.{TakesItem, IsFilling, with_none, with_present, with_absent, with_value, none_yet, tag_took, less_left, tagged_took}

-- ---- the data of an item

skip_failed : (t : WireType) (w : View) (e : PayloadError) → IsBytes w.bytes → skip_at t w ≡ Err e → FaultInSkipped t e w
unfolding skip_at
skip_failed (Basic size) w e fits h = number_failed size w e (only_first (number_at size w) (λ n. n.1) e h)
skip_failed OwnLength w e fits h = in_body W32 (λ b. ⊥) w e (λ body. Ok body.1) fits (λ b v bytes bad. absurd cc) h
skip_failed (Length width) w e fits h = in_body width (λ b. ⊥) w e (λ body. Ok body.1) fits (λ b v bytes bad. absurd cc) h

pub skipped_failed : (t : WireType) (ss : Slots) (w : View) (e : PayloadError) → IsBytes w.bytes → (skip_at t w >>= with_none ss) ≡ Err e → FaultInSkipped t e w
skipped_failed t ss w e fits h =
    let g : View → Slots × View = λ v. (ss, v) in
    skip_failed t w e fits (only_first (skip_at t w) g e h)

-- an item where the first member is there: it is of that one, or of a later one or none
pub present_failed : (same : Bool) (A : Type 0) (d : Data) (place : ℕ) (rest : Result (Slots × View) PayloadError) (e : PayloadError) → (rest ≡ Err e → A)
    → cond same (Err (DuplicateMember place)) (rest >>= with_present d) ≡ Err e → Picks same (e ≡ DuplicateMember place) A
present_failed same A d place rest e later h =
    let g : Slots × View → Slots × View = λ x. (present d x.0, x.1) in
    picks_failed same (e ≡ DuplicateMember place) A (Err (DuplicateMember place)) (rest >>= with_present d) e
    (λ here. sym (err_is {A = Slots × View} (DuplicateMember place) e here)) (λ bad. later (only_first rest g e bad)) h

member_failed : (one : Width → View → Result (Data × View) PayloadError) (f : Form) (tag : Tag) (place : ℕ) (w : View) (e : PayloadError) (In : Width → Type 0) → ((width : Width) → one width w ≡ Err e → In width)
    → member_at one f tag place w ≡ Err e → Picks (has_wire_type f tag.wire_type) (In (width_in tag.wire_type f)) (e ≡ WrongWireType place)
unfolding member_at
member_failed one f tag place w e In inside h =
    picks_failed (has_wire_type f tag.wire_type) (In (width_in tag.wire_type f)) (e ≡ WrongWireType place) (one (width_in tag.wire_type f) w) (Err (WrongWireType place)) e
    (inside (width_in tag.wire_type f)) (λ bad. sym (err_is {A = Data × View} (WrongWireType place) e bad)) h

-- the same where the first member is not there
pub absent_failed : (same : Bool) (A : Type 0) (In : Width → Type 0) (one : Width → View → Result (Data × View) PayloadError) (f : Form) (ss : Slots) (tag : Tag) (place : ℕ) (w : View) (rest : Result (Slots × View) PayloadError) (e : PayloadError)
    → (rest ≡ Err e → A) → ((width : Width) → one width w ≡ Err e → In width) → cond same (member_at one f tag place w >>= with_value ss) (rest >>= with_absent) ≡ Err e
    → Picks same (Picks (has_wire_type f tag.wire_type) (In (width_in tag.wire_type f)) (e ≡ WrongWireType place)) A
absent_failed same A In one f ss tag place w rest e later inside h =
    let g : Slots × View → Slots × View = λ x. (absent x.0, x.1) in
    let k : Data × View → Slots × View = λ x. (present x.0 ss, x.1) in
    picks_failed same (Picks (has_wire_type f tag.wire_type) (In (width_in tag.wire_type f)) (e ≡ WrongWireType place)) A (member_at one f tag place w >>= with_value ss) (rest >>= with_absent) e
    (λ here. member_failed one f tag place w e In inside (only_first (member_at one f tag place w) k e here)) (λ bad. later (only_first rest g e bad)) h

-- ---- items one after the other

tag_failed : (w : View) (e : PayloadError) → tag_at w ≡ Err e → FaultInNumber 2 w e
unfolding tag_at
tag_failed w e h =
    let g : ℕ × View → Tag × View = λ n. (tag_in n.0, n.1) in
    number_failed S16 w e (only_first (number_at S16 w) g e h)

pub item_failed : (one : Slots → Tag → ℕ → View → Result (Slots × View) PayloadError) (In : Slots → WireType → ℕ → ℕ → View → Type 0) (e : PayloadError)
    → ((ss : Slots) (tag : Tag) (place : ℕ) (w : View) → IsBytes w.bytes → one ss tag place w ≡ Err e → In ss tag.wire_type tag.id place w)
    → (ss : Slots) (w : View) → IsBytes w.bytes → item_by one ss w ≡ Err e → FaultInItem (λ t id u. In ss t id w.place u) w e
unfolding item_by
item_failed one In e inside ss w fits h =
    elim (bind_err (tag_at w) (λ tag. one ss tag.0 w.place tag.1) e h) [
      | inl first ↦ inl (tag_failed w e first)
      | inr (x, was, then) ↦
          let (r, front, below) = tag_took w x.1 x.0 fits was in
          inr (r, x.0.wire_type, x.0.id, x.1, (below, front.bytes, left_is front), inside ss x.0 w.place x.1 (took_bytes fits front).1 then)
    ]

-- after items that are read, one is at fault
record FaultAfter (ms : Members) (In : Slots → View → Type 0) (items : List TaggedItem) (w : View) : Type 0 where
  pub more : List TaggedItem
  pub slots : Slots
  pub rest : List ℕ
  pub bytes : w.bytes ≡ items_bytes more ++ rest
  pub some : 0 < length rest
  pub reads : ReadsItems ms slots (items ++ more)
  pub skips : SkipsOthers ms (items ++ more)
  pub fault : In slots (skip (length (items_bytes more)) w)

-- the same with one item before
items_later : {ms : Members} {In : Slots → View → Type 0} {items : List TaggedItem} {w v : View} {ss : Slots} → (t : TakesItem ms ss items w v) → FaultAfter ms In (items ++ t.one ∷ []) v → FaultAfter ms In items w
items_later {ms = ms} {In = In} {items = items} {w = w} {v = v} t f =
    let same : (items ++ t.one ∷ []) ++ f.more ≡ items ++ t.one ∷ f.more = append_assoc items (t.one ∷ []) f.more in
    let first : List ℕ = item_bytes t.one in
    record {
      more = t.one ∷ f.more;
      slots = f.slots;
      rest = f.rest;
      bytes = t.took.bytes ∙ ap (λ (x : List ℕ). first ++ x) f.bytes ∙ sym (append_assoc first (items_bytes f.more) f.rest);
      some = f.some;
      reads = subst (λ (x : List TaggedItem). ReadsItems ms f.slots x) same f.reads;
      skips = subst (λ (x : List TaggedItem). SkipsOthers ms x) same f.skips;
      fault = subst (In f.slots) (left_after t.took (items_bytes f.more) f.rest f.bytes) f.fault;
    }

items_failed : (one : Filler) (ms : Members) → IsFilling one ms → (In : Slots → View → Type 0) (e : PayloadError) → ((ss : Slots) (w : View) → IsBytes w.bytes → one ss w ≡ Err e → In ss w)
    → (left : ℕ) (items : List TaggedItem) (ss : Slots) (w : View) → IsBytes w.bytes → length w.bytes ≤ left → ReadsItems ms ss items → SkipsOthers ms items → tagged_at one left ss w ≡ Err e → FaultAfter ms In items w
unfolding tagged_at
items_failed one ms fills In e inside zero items ss w fits most reads skips h = absurd cc
items_failed one ms fills In e inside (suc left) items ss w fits most reads skips h =
    let c = chosen_err (ltb 0 (length w.bytes)) (one ss w >>= λ filled. tagged_at one left filled.0 filled.1) ss e h in
    elim (bind_err (one ss w) (λ filled. tagged_at one left filled.0 filled.1) e c.1) [
      | inl first ↦
          let none : items ≡ items ++ [] = sym (append-nil items) in
          let here : w ≡ skip 0 w = same_view w (skip 0 w) refl (omega arith) refl in
          record {
            more = [];
            slots = ss;
            rest = w.bytes;
            bytes = refl;
            some = ltb-true _ _ c.0;
            reads = subst (λ (x : List TaggedItem). ReadsItems ms ss x) none reads;
            skips = subst (λ (x : List TaggedItem). SkipsOthers ms x) none skips;
            fault = subst (In ss) here (inside ss w fits first);
          }
      | inr (x, was, then) ↦
          let t = fills.takes items ss x.0 w x.1 fits reads skips was in
          items_later t (items_failed one ms fills In e inside left (items ++ t.one ∷ []) x.0 x.1 (took_bytes fits t.took).1 (less_left left t.one w x.1 most t.took) t.reads t.skips then)
    ]

missing_is : (ms : Members) (place : ℕ) (ss : Slots) (e : PayloadError) → required_at ms place ss ≡ Err e → (has_required ms ss ≡ false) × (e ≡ MissingMember place)
unfolding required_at
missing_is ms place ss e h =
    elim (passed_err (has_required ms ss) (Ok ss) (MissingMember place) e h) [ inl (missing, is) ↦ (missing, sym is) | inr (whole, bad) ↦ absurd cc ]

-- an item is at fault, or a member is missing
pub tagged_failed : (one : Filler) (ms : Members) → IsFilling one ms → (In : Slots → View → Type 0) (e : PayloadError) → ((ss : Slots) (w : View) → IsBytes w.bytes → one ss w ≡ Err e → In ss w)
    → (place : ℕ) (b : View) → IsBytes b.bytes → (tagged_at one (length b.bytes) (all_absent ms) b >>= required_at ms place) ≡ Err e → FaultInTagged ms In place e b
tagged_failed one ms fills In e inside place b fits h =
    elim (bind_err (tagged_at one (length b.bytes) (all_absent ms) b) (required_at ms place) e h) [
      | inl first ↦
          let f = items_failed one ms fills In e inside (length b.bytes) [] (all_absent ms) b fits (omega arith) (none_yet ms) tt first in
          (f.more, f.slots, f.rest, f.bytes, f.reads, f.skips, inr (f.some, f.fault))
      | inr (ss, was, then) ↦
          let t = tagged_took one ms fills (length b.bytes) [] (all_absent ms) ss b fits (omega arith) (none_yet ms) tt was in
          let m = missing_is ms place ss e then in
          (t.more, ss, [], t.bytes ∙ sym (append-nil (items_bytes t.more)), t.reads, t.skips, inl (refl, m.0, m.1))
    ]

-- one of two steps failed that nothing which fails comes after
pub both_first : {A B C : Type 0} (r : Result A PayloadError) (f : A → Result B PayloadError) (g : B → C) (e : PayloadError) → (r >>= λ x. f x >>= λ y. Ok (g y)) ≡ Err e → (r >>= f) ≡ Err e
both_first (Ok x) f g e h = only_first (f x) g e h
both_first {B = B} {C = C} (Err d) f g e h = let same : d ≡ e = err_is {A = C} d e h in rw same refl
