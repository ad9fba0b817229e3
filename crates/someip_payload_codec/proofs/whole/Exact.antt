-- Where the first fault is described, reading gives it.
use Rattle.std.proofs.Common.{◌≡◌, ◌⊎◌, inl, inr, ℕ, zero, suc, ◌+◌, ◌<◌, ◌≤◌, Bool, true, false, cond, ltb, eqb, List, [], ◌∷◌, ◌++◌, length, take, drop, Result, Ok, Err, Some, None, refl, sym, ap, subst, ◌∙◌, append_assoc, arith}
use Rattle.std.specs.Int.{byte_len, from_be_bytes}
use Rattle.std.specs.Prelude.{flat_map}
use Rattle.std.specs.Char.Escape.{encode_utf16}
use Rattle.std.proofs.lemmas.Bool.{lt-ltb, le-ltb, ne_eqb, eq-eqb}
use Rattle.std.proofs.lemmas.List.{length-append, length-take, take-append-drop, drop_at}
use Rattle.someip_payload_values.specs.declared.error.PayloadError.{PayloadError}
use Rattle.someip_payload_values.specs.declared.error.PayloadError.TheVariants.{TooMany, DuplicateMember, WrongWireType, MissingMember}
use Rattle.someip_payload_values.specs.declared.number.Size.{Size}
use Rattle.someip_payload_values.specs.declared.number.Size.TheVariants.{S8, S16}
use Rattle.someip_payload_values.specs.declared.number.Order.{Order}
use Rattle.someip_payload_values.specs.declared.number.Order.TheVariants.{Big}
use Rattle.someip_payload_values.specs.declared.shape.Width.{Width}
use Rattle.someip_payload_values.specs.declared.shape.Width.TheVariants.{W32}
use Rattle.someip_payload_values.specs.declared.tag.WireType.{WireType}
use Rattle.someip_payload_values.specs.declared.tag.WireType.TheVariants.{Basic, OwnLength, Length}
use Rattle.someip_payload_values.specs.declared.tag.Tag.{Tag}
use Rattle.someip_payload_values.specs.declared.shape.Encoding.{Encoding}
use Rattle.someip_payload_values.specs.declared.shape.Encoding.TheVariants.{Utf8, Utf16}
use Rattle.someip_payload_values.specs.Floats.{bits_size}
use Rattle.someip_payload_values.specs.Data.{Form, bool, unsigned, signed, float, string, padded, array, fixed, «struct», union, tagged, named, enumerated, Forms, no_forms, form_then, Variants, no_variants, variant, Members, no_members, member_then, Data, phrase, list, tuple, slotted, Items, no_items, item, Slots, present, absent, count}
use Rattle.someip_payload_codec.specs.View.{View}
use Rattle.someip_payload_values.specs.Steps.{◌>>=◌}
use Rattle.someip_payload_values.specs.Check.{checked}
use Rattle.someip_payload_values.specs.Numbers.{width_of, size_of, field_len, number, framed}
use Rattle.someip_payload_values.specs.Tags.{tag_number, items_bytes, own_width, has_wire_type, width_in}
use Rattle.someip_payload_codec.specs.Grammar.{Each, Picks, Reads, has_required}
use Rattle.someip_payload_values.specs.Texts.{utf8_mark, utf16_mark, unit_bytes}
use Rattle.someip_payload_codec.specs.Texts.{SpellsText, IsTerminated}
use Rattle.someip_payload_codec.specs.Reading.{short_at, skip, front_at, ordered_at, number_at, padded_at, window_at, body_at, text_at, items_at, fixed_at, union_at, chosen_at, tag_at, skip_at, Filler, item_by, tagged_at, all_absent, required_at, member_at, data_by, members_at, variant_at, slots_at, item_at, decoded}
use Rattle.someip_payload_codec.specs.Faults.{body_view, HasBody, FaultInBody, FaultInText, FaultInItems, FaultInFixed, FaultInNumber, FaultInUnion, FaultInSkipped, FaultInItem, FaultInTagged, FaultBy, FaultInMembers, FaultInVariant, FaultBehindTag, FaultIn, whole}
use Rattle.someip_payload_codec.proofs.parts.Parts.{IsBytes, same_view, Took, took_bytes, front_again, wide, number_again, body_took, body_again}
use Rattle.someip_payload_codec.proofs.parts.Forms.{IsForm, AreForms, AreVariants, AreMembers}
use Rattle.someip_payload_codec.proofs.texts.Utf16Texts.{zero_bytes}
use Rattle.someip_payload_codec.proofs.texts.Utf16Units.{bytes_even}
use Rattle.someip_payload_codec.proofs.texts.TextLemmas.{text_took, text_failed}
use Rattle.someip_payload_codec.proofs.texts.PaddedTexts.{padded_bad}
use Rattle.someip_payload_codec.proofs.tagged.TaggedAgain.{tag_again, tagged_again, tagged_end}
use Rattle.someip_payload_codec.proofs.whole.Complete.{IsComplete, front_of_all, data_again, each_again, reads_some}
use Rattle.someip_payload_codec.proofs.parts.PartFaults.{body_failed}
use Rattle.someip_payload_codec.proofs.whole.Whole.{checked_is}

front_bad : (n : ℕ) (w : View) (e : PayloadError) → FaultInNumber n w e → front_at n w ≡ Err e
front_bad n w e (short, same) = rw (lt-ltb (length w.bytes) n short, same) refl

ordered_bad : (order : Order) (size : Size) (w : View) (e : PayloadError) → FaultInNumber (byte_len (width_of size)) w e → ordered_at order size w ≡ Err e
unfolding ordered_at
ordered_bad order size w e (short, same) = rw (lt-ltb (length w.bytes) (byte_len (width_of size)) short, same) refl

number_bad : (size : Size) (w : View) (e : PayloadError) → FaultInNumber (byte_len (width_of size)) w e → number_at size w ≡ Err e
number_bad = ordered_bad Big

-- a body that is not there
no_body_at : (width : Width) (w : View) (r : Result (View × View) PayloadError) → IsBytes w.bytes → ((body : List ℕ) → HasBody width w body → ⊥) → body_at width w ≡ r → r ≡ Err (short_at w)
no_body_at width w (Ok x) fits none h =
    let t = body_took width w x.0 x.1 fits h in
    absurd (none x.0.bytes (t.fits, x.1.bytes, t.took.bytes))
no_body_at width w (Err d) fits none h = ap (λ (x : PayloadError). let y : Result (View × View) PayloadError = Err x in y) (body_failed width w d h)

bind_bad : {A B : Type 0} (r : Result A PayloadError) (f : A → Result B PayloadError) (e : PayloadError) → r ≡ Err e → (r >>= f) ≡ Err e
bind_bad r f e h = rw h refl

body_bad : {A : Type 0} (width : Width) (In : View → Type 0) (w : View) (e : PayloadError) (f : View × View → Result A PayloadError) → IsBytes w.bytes
    → ((b v : View) → IsBytes b.bytes → In b → f (b, v) ≡ Err e) → FaultInBody width In w e → (body_at width w >>= f) ≡ Err e
body_bad width In w e f fits inside (inl (none, same)) = rw (no_body_at width w (body_at width w) fits none refl, same) refl
body_bad width In w e f fits inside (inr (body, (short, rest, parts), in_it)) =
    let v : View = record { is_body = w.is_body; place = w.place + length (framed width body); bytes = rest } in
    let p : Took w (framed width body) v = record { is_body = refl; place = refl; bytes = parts } in
    let t = body_took width w (body_view width w body) v fits (body_again width w v body p short) in
    rw (body_again width w v body p short) (inside (body_view width w body) v t.bytes in_it)

-- what spells a text is terminated
spelled_ends : (encoding : Encoding) (s body : List ℕ) → SpellsText encoding s body → IsTerminated encoding body
spelled_ends Utf8 s body (is, inl e) = (utf8_mark ++ s, e)
spelled_ends Utf8 s body (is, inr (e, never)) = (s, e)
spelled_ends Utf16 s body (big, cs, extra, good, same, short, e) =
    let units = utf16_mark ∷ flat_map encode_utf16 cs in
    let front = flat_map (unit_bytes big) units in
    (front, extra, e ∙ ap (λ (x : List ℕ). x ++ extra) (zero_bytes big units) ∙ append_assoc front (0 ∷ 0 ∷ []) extra, bytes_even big units, short)

same_text : (encoding : Encoding) (place : ℕ) (b : View) (e d : PayloadError) → FaultInText encoding place e b → FaultInText encoding place d b → d ≡ e
same_text encoding place b e d (inl (open_end, same)) (inl (x, y)) = y ∙ sym same
same_text encoding place b e d (inl (open_end, same)) (inr (ended, x, y)) = absurd (open_end ended)
same_text encoding place b e d (inr (ended, x, same)) (inl (open_end, y)) = absurd (open_end ended)
same_text encoding place b e d (inr (ended, x, same)) (inr (z, u, y)) = y ∙ sym same

text_bad : (encoding : Encoding) (place : ℕ) (b : View) (e : PayloadError) (r : Result (List ℕ) PayloadError) → IsBytes b.bytes → FaultInText encoding place e b → text_at encoding place b.bytes ≡ r → r ≡ Err e
text_bad encoding place b e (Ok s) fits (inl (open_end, same)) h = absurd (open_end (spelled_ends encoding s b.bytes (text_took encoding place b.bytes s fits h)))
text_bad encoding place b e (Ok s) fits (inr (ended, never, same)) h = absurd (never s (text_took encoding place b.bytes s fits h))
text_bad encoding place b e (Err d) fits fault h = ap (λ (x : PayloadError). let y : Result (List ℕ) PayloadError = Err x in y) (same_text encoding place b e d fault (text_failed encoding place b d fits h))

abbrev Reader : Type 0
Reader = View → Result (Data × View) PayloadError

-- what is left after a first element
record Left (w : View) (first others text rest : List ℕ) : Type 0 where
  pub took : Took w first (skip (length first) w)
  pub parts : drop (length first) w.bytes ≡ others ++ rest
  pub place : w.place + length first + length others ≡ w.place + length text
  pub left : skip (length others) (skip (length first) w) ≡ skip (length text) w

left_of : (w : View) (first others text rest : List ℕ) → w.bytes ≡ text ++ rest → text ≡ first ++ others → Left w first others text rest
left_of w first others text rest parts same =
    let e : w.bytes ≡ first ++ (others ++ rest) = parts ∙ ap (λ (x : List ℕ). x ++ rest) same ∙ append_assoc first others rest in
    let t = front_of_all w first (others ++ rest) e in
    let place : w.place + length first + length others ≡ w.place + length text = omega (arith, ap length same ∙ length-append first others) in
    record {
      took = t.0;
      parts = t.1;
      place = place;
      left = same_view (skip (length others) (skip (length first) w)) (skip (length text) w) refl place
          (ap (drop (length others)) t.1 ∙ drop_at others rest (length others) refl ∙ sym (ap (drop (length text)) parts ∙ drop_at text rest (length text) refl));
    }

-- after nothing the window is the same
none_before : (w : View) (text : List ℕ) → text ≡ [] → skip (length text) w ≡ w
none_before w text e = same_view (skip (length text) w) w refl (omega (arith, ap length e)) (ap (λ (t : List ℕ). drop (length t) w.bytes) e)

any_left : (w : View) (text rest : List ℕ) → w.bytes ≡ text ++ rest → 0 < length rest → ltb 0 (length w.bytes) ≡ true
any_left w text rest parts some = lt-ltb 0 (length w.bytes) (omega (arith, ap length parts ∙ length-append text rest))

-- the elements before the fault are read, one by one
items_bad : (one : Reader) (P : Data → List ℕ → Type 0) (In : View → Type 0) (e : PayloadError) → IsComplete one P → ((w : View) → IsBytes w.bytes → In w → one w ≡ Err e)
    → (most : ℕ) (w : View) (ds : Items) (text rest : List ℕ) → IsBytes w.bytes → w.bytes ≡ text ++ rest → Each P ds text → 0 < length rest
    → (((count ds ≡ most) × (e ≡ TooMany (w.place + length text))) ⊎ ((count ds < most) × In (skip (length text) w))) → items_at one most w ≡ Err e
unfolding items_at
items_bad one P In e complete inside zero w no_items text rest fits parts each some (inl (full, same)) =
    let at : w.place + length text ≡ w.place = omega (arith, ap length each) in
    rw (any_left w text rest parts some, same, at) refl
items_bad one P In e complete inside zero w no_items text rest fits parts each some (inr (few, in_it)) = absurd (omega arith)
items_bad one P In e complete inside (suc most) w no_items text rest fits parts each some (inl (full, same)) = absurd (omega arith)
items_bad one P In e complete inside (suc most) w no_items text rest fits parts each some (inr (few, in_it)) =
    rw (any_left w text rest parts some, inside w fits (subst In (none_before w text each) in_it)) refl
items_bad one P In e complete inside zero w (item d ds) text rest fits parts each some (inl (full, same)) = absurd (omega arith)
items_bad one P In e complete inside zero w (item d ds) text rest fits parts each some (inr (few, in_it)) = absurd (omega arith)
items_bad one P In e complete inside (suc most) w (item d ds) text rest fits parts (first, others, same, here, later) some which =
    let t = left_of w first others text rest parts same in
    let v = skip (length first) w in
    let again = items_bad one P In e complete inside most v ds others rest (took_bytes fits t.took).1 t.parts later some
    (elim which [ inl (full, at) ↦ inl (omega arith, at ∙ ap TooMany (sym t.place)) | inr (few, in_it) ↦ inr (omega arith, subst In (sym t.left) in_it) ]) in
    rw (any_left w text rest parts some, complete.gives w v d first here t.took, again) refl

fixed_bad : (one : Reader) (P : Data → List ℕ → Type 0) (In : View → Type 0) (e : PayloadError) → IsComplete one P → ((w : View) → IsBytes w.bytes → In w → one w ≡ Err e)
    → (n : ℕ) (w : View) (ds : Items) (text rest : List ℕ) → IsBytes w.bytes → w.bytes ≡ text ++ rest → Each P ds text → count ds < n → In (skip (length text) w) → fixed_at one n w ≡ Err e
unfolding fixed_at
fixed_bad one P In e complete inside zero w ds text rest fits parts each few in_it = absurd (omega arith)
fixed_bad one P In e complete inside (suc n) w no_items text rest fits parts each few in_it = rw (inside w fits (subst In (none_before w text each) in_it)) refl
fixed_bad one P In e complete inside (suc n) w (item d ds) text rest fits parts (first, others, same, here, later) few in_it =
    let t = left_of w first others text rest parts same in
    let v = skip (length first) w in
    let again = fixed_bad one P In e complete inside n v ds others rest (took_bytes fits t.took).1 t.parts later (omega arith) (subst In (sym t.left) in_it) in
    rw (complete.gives w v d first here t.took, again) refl

-- ---- unions

picks_bad : {X : Type 0} (t : Bool) (A B : Type 0) (r s : Result X PayloadError) (e : PayloadError) → (A → r ≡ Err e) → (B → s ≡ Err e) → Picks t A B → cond t r s ≡ Err e
picks_bad true A B r s e first next h = first h
picks_bad false A B r s e first next h = next h

chosen_bad : (one : Reader) (In : View → Type 0) (e : PayloadError) → ((b : View) → IsBytes b.bytes → In b → one b ≡ Err e) → (kind len : ℕ) (w u : View) → IsBytes u.bytes
    → ((length u.bytes < len) × (e ≡ short_at w)) ⊎ ((len ≤ length u.bytes) × In (record { is_body = true; place = u.place; bytes = take len u.bytes }))
    → chosen_at one kind len w u ≡ Err e
unfolding chosen_at window_at
chosen_bad one In e inside kind len w u fits (inl (few, same)) = rw (lt-ltb (length u.bytes) len few, same) refl
chosen_bad one In e inside kind len w u fits (inr (long, in_it)) =
    let n : length (take len u.bytes) ≡ len = omega (arith, length-take len u.bytes) in
    let p : Took u (take len u.bytes) (skip len u) = record { is_body = refl; place = ap (λ (k : ℕ). u.place + k) (sym n); bytes = sym (take-append-drop len u.bytes) } in
    rw (le-ltb (length u.bytes) len long, inside (record { is_body = true; place = u.place; bytes = take len u.bytes }) (took_bytes fits p).0 in_it) refl

number_any : (size : Size) (w : View) → byte_len (width_of size) ≤ length w.bytes → (n : ℕ) × (number_at size w ≡ Ok (n, skip (byte_len (width_of size)) w))
unfolding ordered_at
number_any size w long = (from_be_bytes (width_of size) (take (byte_len (width_of size)) w.bytes), rw (le-ltb (length w.bytes) (byte_len (width_of size)) long) refl)

union_bad : (width type : Width) (known : ℕ → ℕ → ℕ → View → Result (Data × View) PayloadError) (In : ℕ → ℕ → View → Type 0) (w : View) (e : PayloadError) → IsBytes w.bytes
    → ((kind len : ℕ) (u : View) → IsBytes u.bytes → In kind len u → known kind len (w.place + field_len width) u ≡ Err e) → FaultInUnion width type In w e → union_at width type known w ≡ Err e
unfolding union_at
union_bad width type known In w e fits inside (inl h) = rw (number_bad (size_of width) w e h) refl
union_bad width type known In w e fits inside (inr (inl (long, h))) =
    let (n, got) = number_any (size_of width) w long in
    rw (got, number_bad (size_of type) (skip (field_len width) w) e h) refl
union_bad width type known In w e fits inside (inr (inr (len, kind, v, (lb, kb, parts, at), which))) =
    let l = front_of_all w (number (size_of width) len) (number (size_of type) kind ++ v.bytes) parts in
    let size : length (number (size_of width) len) ≡ field_len width = (wide (size_of width)).len len in
    let m = skip (field_len width) w in
    let lt : Took w (number (size_of width) len) m = rw size at l.0 in
    let after : m.bytes ≡ number (size_of type) kind ++ v.bytes = rw size at l.1 in
    let k = front_of_all m (number (size_of type) kind) v.bytes after in
    let u = skip (length (number (size_of type) kind)) m in
    let size_t : length (number (size_of type) kind) ≡ field_len type = (wide (size_of type)).len kind in
    let same : u ≡ v = same_view u v (ap (λ (x : View). x.is_body) (sym at)) (omega (arith, size_t, ap (λ (x : View). x.place) at)) k.1 in
    let rest : IsBytes u.bytes = (took_bytes (took_bytes fits lt).1 k.0).1 in
    let first : number_at (size_of width) w ≡ Ok (len, m) = number_again (size_of width) w m len lt lb in
    let second : number_at (size_of type) m ≡ Ok (kind, u) = number_again (size_of type) m u kind k.0 kb in
    elim which [
      | inl (nought, some, is) ↦ rw (first, second, eq-eqb kind 0 nought, ne_eqb len 0 (λ none. omega arith), is) refl
      | inr (some, in_it) ↦ rw (first, second, ne_eqb kind 0 (λ none. omega arith)) (inside kind len u rest (subst (In kind len) (sym same) in_it))
    ]

-- ---- tagged structures

-- a fault of each member is the one that comes
abbrev EachBad : Members → Type 0
EachBad no_members = Unit {0}
EachBad (member_then id optional f ms) = ((width : Width) (w : View) (e : PayloadError) → IsBytes w.bytes → FaultBy width f e w → data_by width f w ≡ Err e) × EachBad ms

skipped_bad : (t : WireType) (w : View) (e : PayloadError) → IsBytes w.bytes → FaultInSkipped t e w → skip_at t w ≡ Err e
unfolding skip_at
skipped_bad (Basic size) w e fits h = rw (number_bad size w e h) refl
skipped_bad OwnLength w e fits h = body_bad W32 (λ body. ⊥) w e (λ body. Ok body.1) fits (λ b v bytes never. absurd never) h
skipped_bad (Length width) w e fits h = body_bad width (λ body. ⊥) w e (λ body. Ok body.1) fits (λ b v bytes never. absurd never) h

-- the item of a tag is at fault
slots_bad : (ms : Members) (ss : Slots) (t : WireType) (id place : ℕ) (v : View) (e : PayloadError) → EachBad ms → IsBytes v.bytes → FaultBehindTag ms ss t id place e v
    → slots_at ms ss (record { wire_type = t; id = id }) place v ≡ Err e
unfolding slots_at member_at FaultBehindTag
slots_bad (member_then n optional f ms) (present d ss) t id place v e bad fits h =
    let tag : Tag = record { wire_type = t; id = id } in
    picks_bad (eqb n id) (e ≡ DuplicateMember place) (FaultBehindTag ms ss t id place e v) (Err (DuplicateMember place)) (slots_at ms ss tag place v >>= λ x. Ok (present d x.0, x.1)) e
    (λ same. rw same refl)
    (λ later. bind_bad (slots_at ms ss tag place v) (λ x. Ok (present d x.0, x.1)) e (slots_bad ms ss t id place v e bad.1 fits later)) h
slots_bad (member_then n optional f ms) (absent ss) t id place v e bad fits h =
    let tag : Tag = record { wire_type = t; id = id } in
    let one = member_at (λ width u. data_by width f u) f tag place v in
    let In = FaultBy (width_in t f) f e v in
    let typed : Picks (has_wire_type f t) In (e ≡ WrongWireType place) → one ≡ Err e =
    picks_bad (has_wire_type f t) In (e ≡ WrongWireType place) (data_by (width_in t f) f v) (Err (WrongWireType place)) e (λ in_it. bad.0 (width_in t f) v e fits in_it) (λ same. rw same refl) in
    picks_bad (eqb n id) (Picks (has_wire_type f t) In (e ≡ WrongWireType place)) (FaultBehindTag ms ss t id place e v)
    (one >>= λ x. Ok (present x.0 ss, x.1)) (slots_at ms ss tag place v >>= λ x. Ok (absent x.0, x.1)) e
    (λ here. bind_bad one (λ x. Ok (present x.0 ss, x.1)) e (typed here))
    (λ later. bind_bad (slots_at ms ss tag place v) (λ x. Ok (absent x.0, x.1)) e (slots_bad ms ss t id place v e bad.1 fits later)) h
slots_bad _ ss t id place v e bad fits h = bind_bad (skip_at t v) (λ u. Ok (ss, u)) e (skipped_bad t v e fits h)

tag_bad : (v : View) (e : PayloadError) → FaultInNumber 2 v e → tag_at v ≡ Err e
unfolding tag_at
tag_bad v e short = rw (number_bad S16 v e short) refl

item_bad : (ms : Members) (ss : Slots) (v : View) (e : PayloadError) → EachBad ms → IsBytes v.bytes → FaultInItem (λ t id u. FaultBehindTag ms ss t id v.place e u) v e → item_at ms ss v ≡ Err e
unfolding item_by
item_bad ms ss v e bad fits (inl short) = rw (tag_bad v e short) refl
item_bad ms ss v e bad fits (inr (reserved, t, id, u, (small, parts, at), in_it)) =
    let p : Took v (number S16 (tag_number reserved t id)) u = record { is_body = ap (λ (x : View). x.is_body) at; place = ap (λ (x : View). x.place) at; bytes = parts } in
    let got : tag_at v ≡ Ok (record { wire_type = t; id = id }, u) = tag_again reserved t id v u small p in
    rw got (slots_bad ms ss t id v.place u e bad (took_bytes fits p).1 in_it)

loop_bad : (one : Filler) (left : ℕ) (ss : Slots) (v : View) (e : PayloadError) → 0 < length v.bytes → length v.bytes ≤ left → one ss v ≡ Err e → tagged_at one left ss v ≡ Err e
unfolding tagged_at
loop_bad one zero ss v e some room h = absurd (omega arith)
loop_bad one (suc left) ss v e some room h = rw (lt-ltb 0 (length v.bytes) some, h) refl

required_bad : (ms : Members) (place : ℕ) (ss : Slots) → has_required ms ss ≡ false → required_at ms place ss ≡ Err (MissingMember place)
unfolding required_at
required_bad ms place ss h = rw h refl

-- the items before the fault are read
tagged_bad : (ms : Members) (place : ℕ) (b : View) (e : PayloadError) (f : Slots → Data × View) → AreMembers ms → EachBad ms → IsBytes b.bytes
    → FaultInTagged ms (λ ss v. FaultInItem (λ t id u. FaultBehindTag ms ss t id v.place e u) v e) place e b
    → (tagged_at (item_at ms) (length b.bytes) (all_absent ms) b >>= λ ss. required_at ms place ss >>= λ whole. Ok (f whole)) ≡ Err e
tagged_bad ms place b e f is bad fits (items, ss, rest, parts, reads, skips, which) =
    let t = front_of_all b (items_bytes items) rest parts in
    let u = skip (length (items_bytes items)) b in
    let (left, room, same) = tagged_again ms is (each_again ms is) items ss b u reads skips t.0 in
    elim which [
      | inl (none, lacks, missing) ↦ rw (same, tagged_end (item_at ms) left ss u (t.1 ∙ none), required_bad ms place ss lacks, missing) refl
      | inr (some, in_it) ↦
          let any : 0 < length u.bytes = rw t.1 some in
          rw (same, loop_bad (item_at ms) left ss u e any room (item_bad ms ss u e bad (took_bytes fits t.0).1 in_it)) refl
    ]

mutual
  unfolding data_by members_at variant_at FaultBy FaultInMembers FaultInVariant

  pub data_bad : (width : Width) (f : Form) (w : View) (e : PayloadError) → IsForm f → IsBytes w.bytes → FaultBy width f e w → data_by width f w ≡ Err e
  data_bad width (named n f) w e is fits h = data_bad width f w e is fits h
  data_bad width (enumerated f labels) w e is fits h = data_bad width f w e is fits h
  data_bad width (padded encoding n) w e is fits (inl h) = rw (front_bad n w e h) refl
  data_bad width (padded encoding n) w e is fits (inr (front, rest, parts, len, h)) =
      let t = front_of_all w front rest parts in
      rw (front_again n w (skip (length front) w) front t.0 len) (bind_bad (padded_at encoding w.place front) (λ s. Ok (phrase s, skip (length front) w)) e (padded_bad encoding w.place front e (took_bytes fits t.0).0 h))
  data_bad width bool w e is fits h = rw (number_bad S8 w e h) refl
  data_bad width (unsigned order size) w e is fits h = rw (ordered_bad order size w e h) refl
  data_bad width (signed order size) w e is fits h = rw (ordered_bad order size w e h) refl
  data_bad width (float order p) w e is fits h = rw (ordered_bad order (bits_size p) w e h) refl
  data_bad width (string encoding own) w e is fits h =
      body_bad width (FaultInText encoding w.place e) w e (λ body. text_at encoding w.place body.0.bytes >>= λ s. Ok (phrase s, body.1)) fits
      (λ b v bytes bad. bind_bad (text_at encoding w.place b.bytes) (λ s. Ok (phrase s, v)) e (text_bad encoding w.place b e (text_at encoding w.place b.bytes) bytes bad refl)) h
  data_bad width (array own max element) w e is fits h =
      let by = own_width element in
      let complete : IsComplete (data_by by element) (Reads element) = record { gives = λ w v d text. data_again by element w v d text is; some = λ d text. reads_some by element d text is } in
      body_bad width (FaultInItems (Reads element) (FaultBy by element e) max e) w e (λ body. items_at (data_by by element) max body.0 >>= λ items. Ok (list items, body.1)) fits
      (λ b v bytes (ds, text, rest, parts, each, some, which).
      bind_bad (items_at (data_by by element) max b) (λ items. Ok (list items, v)) e
      (items_bad (data_by by element) (Reads element) (FaultBy by element e) e complete (λ u us bad. data_bad by element u e is us bad) max b ds text rest bytes parts each some which)) h
  data_bad width (fixed (Some own) n element) w e is fits h =
      let by = own_width element in
      let complete : IsComplete (data_by by element) (Reads element) = record { gives = λ w v d text. data_again by element w v d text is.1; some = λ d text. reads_some by element d text is.1 } in
      body_bad width (FaultInFixed (Reads element) (FaultBy by element e) n) w e (λ body. fixed_at (data_by by element) n body.0 >>= λ items. Ok (list items.0, body.1)) fits
      (λ b v bytes (ds, text, rest, parts, each, few, in_it).
      bind_bad (fixed_at (data_by by element) n b) (λ items. Ok (list items.0, v)) e
      (fixed_bad (data_by by element) (Reads element) (FaultBy by element e) e complete (λ u us bad. data_bad by element u e is.1 us bad) n b ds text rest bytes parts each few in_it)) h
  data_bad width (fixed None n element) w e is fits (ds, text, rest, parts, each, few, in_it) =
      let by = own_width element in
      let complete : IsComplete (data_by by element) (Reads element) = record { gives = λ w v d text. data_again by element w v d text is.1; some = λ d text. reads_some by element d text is.1 } in
      rw (fixed_bad (data_by by element) (Reads element) (FaultBy by element e) e complete (λ u us bad. data_bad by element u e is.1 us bad) n w ds text rest fits parts each few in_it) refl
  data_bad width («struct» None fs) w e is fits h = rw (members_bad fs w e is.1 fits h) refl
  data_bad width («struct» (Some own) fs) w e is fits h =
      body_bad width (FaultInMembers fs e) w e (λ body. members_at fs body.0 >>= λ members. Ok (tuple members.0, body.1)) fits
      (λ b v bytes bad. bind_bad (members_at fs b) (λ members. Ok (tuple members.0, v)) e (members_bad fs b e is.1 bytes bad)) h
  data_bad width (union own type vs) w e is fits h =
      union_bad width type (λ kind len place u. variant_at vs kind len place w u) (λ kind len v. FaultInVariant vs (w.place + field_len width) e kind len w v) w e fits
      (λ kind len u us bad. variant_bad vs kind len (w.place + field_len width) w u e is us bad) h
  data_bad width (tagged own ms) w e is fits h =
      body_bad width (FaultInTagged ms (λ ss v. FaultInItem (λ t id u. FaultBehindTag ms ss t id v.place e u) v e) w.place e) w e
      (λ body. tagged_at (item_at ms) (length body.0.bytes) (all_absent ms) body.0 >>= λ ss. required_at ms w.place ss >>= λ whole. Ok (slotted whole, body.1)) fits
      (λ b v bytes bad. tagged_bad ms w.place b e (λ whole. (slotted whole, v)) is (each_bad ms is) bytes bad) h

  pub members_bad : (fs : Forms) (w : View) (e : PayloadError) → AreForms fs → IsBytes w.bytes → FaultInMembers fs e w → members_at fs w ≡ Err e
  members_bad no_forms w e is fits h = absurd h
  members_bad (form_then f fs) w e is fits (inl h) = rw (data_bad (own_width f) f w e is.0 fits h) refl
  members_bad (form_then f fs) w e is fits (inr (d, text, rest, parts, here, later)) =
      let t = front_of_all w text rest parts in
      rw (data_again (own_width f) f w (skip (length text) w) d text is.0 here t.0, members_bad fs (skip (length text) w) e is.1 (took_bytes fits t.0).1 later) refl

  pub variant_bad : (vs : Variants) (kind len place : ℕ) (w u : View) (e : PayloadError) → AreVariants vs → IsBytes u.bytes → FaultInVariant vs place e kind len w u → variant_at vs kind len place w u ≡ Err e
  variant_bad no_variants kind len place w u e is fits same = rw same refl
  variant_bad (variant n f vs) kind len place w u e is fits h =
      let by = own_width f in
      picks_bad (eqb n kind)
      (((length u.bytes < len) × (e ≡ short_at w)) ⊎ ((len ≤ length u.bytes) × FaultBy by f e (record { is_body = true; place = u.place; bytes = take len u.bytes })))
      (FaultInVariant vs place e kind len w u) (chosen_at (data_by by f) kind len w u) (variant_at vs kind len place w u) e
      (λ here. chosen_bad (data_by by f) (FaultBy by f e) e (λ b bs bad. data_bad by f b e is.1 bs bad) kind len w u fits here)
      (λ later. variant_bad vs kind len place w u e is.2 fits later) h

  each_bad : (ms : Members) → AreMembers ms → EachBad ms
  each_bad no_members is = tt
  each_bad (member_then id optional f ms) is = (λ width w e. data_bad width f w e is.3, each_bad ms is.4)

-- the fault that is described is the one that comes
pub decoded_bad : (f : Form) (bytes : List ℕ) (e : PayloadError) → IsBytes bytes → checked f ≡ Ok tt → FaultIn f e (whole bytes) → decoded f bytes ≡ Err e
unfolding decoded
decoded_bad f bytes e fits good h = rw (good, data_bad (own_width f) f (whole bytes) e (checked_is f good) fits h) refl

pub decoded_refused : (f : Form) (bytes : List ℕ) (e : PayloadError) → checked f ≡ Err e → decoded f bytes ≡ Err e
unfolding decoded
decoded_refused f bytes e h = rw h refl
