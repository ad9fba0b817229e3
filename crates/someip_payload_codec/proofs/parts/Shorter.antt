-- What is left to read after an item of a tagged structure is shorter.
use Rattle.std.proofs.Common.{◌≡◌, ◌⊎◌, inl, inr, ℕ, ◌+◌, ◌<◌, ◌≤◌, Bool, true, false, cond, eqb, ltb, List, length, take, Some, None, Result, Ok, Err, subst, arith, length-drop}
use Rattle.std.specs.Int.{byte_len}
use Rattle.std.proofs.lemmas.Bool.{ltb-false}
use Rattle.someip_payload_values.specs.declared.error.PayloadError.{PayloadError}
use Rattle.someip_payload_values.specs.declared.error.PayloadError.TheVariants.{DuplicateMember, LengthMismatch, WrongWireType}
use Rattle.someip_payload_values.specs.declared.number.Order.{Order}
use Rattle.someip_payload_values.specs.declared.number.Order.TheVariants.{Big}
use Rattle.someip_payload_values.specs.declared.number.Size.{Size}
use Rattle.someip_payload_values.specs.declared.number.Size.TheVariants.{S8, S16}
use Rattle.someip_payload_values.specs.declared.shape.Width.{Width}
use Rattle.someip_payload_values.specs.declared.shape.Width.TheVariants.{W32}
use Rattle.someip_payload_values.specs.declared.tag.WireType.{WireType}
use Rattle.someip_payload_values.specs.declared.tag.WireType.TheVariants.{Basic, OwnLength, Length}
use Rattle.someip_payload_values.specs.declared.tag.Tag.{Tag}
use Rattle.someip_payload_values.specs.Floats.{bits_size}
use Rattle.someip_payload_values.specs.Data.{Form, bool, unsigned, signed, float, string, padded, array, fixed, «struct», union, tagged, named, enumerated, Variants, no_variants, variant, Members, no_members, member_then, Data, truth, uint, int, real, phrase, list, tuple, nothing, chosen, slotted, Slots, no_slots, present, absent}
use Rattle.someip_payload_codec.specs.View.{View}
use Rattle.someip_payload_values.specs.Numbers.{width_of, size_of, is_odd}
use Rattle.someip_payload_values.specs.Tags.{own_width, has_wire_type, width_in, tag_in}
use Rattle.someip_payload_values.specs.Steps.{◌>>=◌}
use Rattle.someip_payload_codec.specs.Reading.{short_at, skip, front_at, signed_of, number_of, ordered_at, number_at, window_at, body_at, text_at, items_at, fixed_at, members_at, union_at, chosen_at, variant_at, data_by, tag_at, skip_at, item_by, item_at, tagged_at, all_absent, required_at, member_at, slots_at}
use Rattle.someip_payload_codec.proofs.parts.Parts.{bind_ok, guard_ok, ok_is}
use Rattle.someip_payload_values.proofs.StepLemmas.{passed, kept}

-- no more is left at v than at w
abbrev NoLonger : View → View → Type 0
NoLonger w v = length v.bytes ≤ length w.bytes

abbrev ended : {A : Type 0} → A → Result A PayloadError
ended x = Ok x

-- what is left at the end of a step
step : {A : Type 0} (w m v : View) (x y : A) → NoLonger w m → ended {A = A × View} (x, m) ≡ ended (y, v) → NoLonger w v
step {A = A} w m v x y le e = subst (λ (r : A × View). NoLonger w r.1) (ok_is (x, m) (y, v) e) le

-- one of two steps that did not fail
either : {A : Type 0} (t : Bool) (r s : Result A PayloadError) (y : A) → cond t r s ≡ Ok y → (r ≡ Ok y) ⊎ (s ≡ Ok y)
either true r s y e = inl e
either false r s y e = inr e

skip_left : (n : ℕ) (w : View) → NoLonger w (skip n w)
skip_left n w = omega (arith, length-drop n w.bytes)

ordered_shorter : (order : Order) (size : Size) (w v : View) (n : ℕ) → ordered_at order size w ≡ Ok (n, v) → length v.bytes + byte_len (width_of size) ≤ length w.bytes
unfolding ordered_at
ordered_shorter order size w v n e =
    let len = byte_len (width_of size) in
    let a = bind_ok (front_at len w) (λ front. Ok (number_of order size front.0, front.1)) (n, v) e in
    let g = guard_ok (ltb (length w.bytes) len) (short_at w) (take len w.bytes, skip len w) a.0 a.1 in
    let long : len ≤ length w.bytes = ltb-false _ _ g.0 in
    let enough : length (skip len w).bytes + len ≤ length w.bytes = omega (arith, length-drop len w.bytes) in
    let after : length a.0.1.bytes + len ≤ length w.bytes = subst (λ (x : List ℕ × View). length x.1.bytes + len ≤ length w.bytes) g.1 enough in
    subst (λ (x : ℕ × View). length x.1.bytes + len ≤ length w.bytes) (ok_is (number_of order size a.0.0, a.0.1) (n, v) a.2) after

number_shorter : (size : Size) (w v : View) (n : ℕ) → number_at size w ≡ Ok (n, v) → length v.bytes + byte_len (width_of size) ≤ length w.bytes
number_shorter = ordered_shorter Big

ordered_left : (order : Order) (size : Size) (w v : View) (n : ℕ) → ordered_at order size w ≡ Ok (n, v) → NoLonger w v
ordered_left order size w v n e = omega (arith, ordered_shorter order size w v n e)

number_left : (size : Size) (w v : View) (n : ℕ) → number_at size w ≡ Ok (n, v) → NoLonger w v
number_left size w v n e = omega (arith, number_shorter size w v n e)

window_left : (n : ℕ) (w u b v : View) → window_at n w u ≡ Ok (b, v) → NoLonger u v
unfolding window_at
window_left n w u b v e =
    let g = guard_ok (ltb (length u.bytes) n) (short_at w) (record { is_body = true; place = u.place; bytes = take n u.bytes }, skip n u) (b, v) e in
    subst (λ (x : View × View). NoLonger u x.1) g.1 (skip_left n u)

body_left : (width : Width) (w b v : View) → body_at width w ≡ Ok (b, v) → NoLonger w v
unfolding body_at
body_left width w b v e =
    let a = bind_ok (number_at (size_of width) w) (λ len. window_at len.0 w len.1) (b, v) e in
    omega (arith, number_left (size_of width) w a.0.1 a.0.0 a.1, window_left a.0.0 w a.0.1 b v a.2)

skipped_left : (t : WireType) (w v : View) → skip_at t w ≡ Ok v → NoLonger w v
unfolding skip_at
skipped_left (Basic size) w v e =
    let a = bind_ok (number_at size w) (λ n. Ok n.1) v e in
    subst (NoLonger w) (ok_is a.0.1 v a.2) (number_left size w a.0.1 a.0.0 a.1)
skipped_left OwnLength w v e =
    let a = bind_ok (body_at W32 w) (λ body. Ok body.1) v e in
    subst (NoLonger w) (ok_is a.0.1 v a.2) (body_left W32 w a.0.0 a.0.1 a.1)
skipped_left (Length width) w v e =
    let a = bind_ok (body_at width w) (λ body. Ok body.1) v e in
    subst (NoLonger w) (ok_is a.0.1 v a.2) (body_left width w a.0.0 a.0.1 a.1)

-- ---- unions

chosen_left : (one : View → Result (Data × View) PayloadError) (kind len : ℕ) (w u v : View) (d : Data) → chosen_at one kind len w u ≡ Ok (d, v) → NoLonger u v
unfolding chosen_at
chosen_left one kind len w u v d e =
    let a = bind_ok (window_at len w u) (λ body. one body.0 >>= λ x. Ok (chosen kind x.0, body.1)) (d, v) e in
    let b = bind_ok (one a.0.0) (λ x. Ok (chosen kind x.0, a.0.1)) (d, v) a.2 in
    step u a.0.1 v (chosen kind b.0.0) d (window_left len w u a.0.0 a.0.1 a.1) b.2

variant_left : (vs : Variants) (kind len place : ℕ) (w u v : View) (d : Data) → variant_at vs kind len place w u ≡ Ok (d, v) → NoLonger u v
unfolding variant_at
variant_left no_variants kind len place w u v d e = absurd cc
variant_left (variant n f vs) kind len place w u v d e =
    elim (either (eqb n kind) (chosen_at (data_by (own_width f) f) kind len w u) (variant_at vs kind len place w u) (d, v) e) [
      | inl h ↦ chosen_left (data_by (own_width f) f) kind len w u v d h
      | inr h ↦ variant_left vs kind len place w u v d h
    ]

union_left : (width type : Width) (vs : Variants) (w v : View) (d : Data) → union_at width type (λ kind len place u. variant_at vs kind len place w u) w ≡ Ok (d, v) → NoLonger w v
unfolding union_at
union_left width type vs w v d e =
    let none = λ (len : ℕ) (kind : ℕ × View). cond (eqb len 0) (Ok (nothing, kind.1)) (Err (LengthMismatch w.place)) in
    let second = λ (len : ℕ) (m : View) (kind : ℕ × View). cond (eqb kind.0 0) (none len kind) (variant_at vs kind.0 len m.place w kind.1) in
    let a = bind_ok (number_at (size_of width) w) (λ len. number_at (size_of type) len.1 >>= second len.0 len.1) (d, v) e in
    let b = bind_ok (number_at (size_of type) a.0.1) (second a.0.0 a.0.1) (d, v) a.2 in
    let first = number_left (size_of width) w a.0.1 a.0.0 a.1 in
    let both : NoLonger w b.0.1 = omega (arith, first, number_left (size_of type) a.0.1 b.0.1 b.0.0 b.1) in
    elim (either (eqb b.0.0 0) (none a.0.0 b.0) (variant_at vs b.0.0 a.0.0 a.0.1.place w b.0.1) (d, v) b.2) [
      | inl h ↦ step w b.0.1 v nothing d both (passed (eqb a.0.0 0) (Ok (nothing, b.0.1)) (LengthMismatch w.place) (d, v) h).1
      | inr h ↦ omega (arith, both, variant_left vs b.0.0 a.0.0 a.0.1.place w b.0.1 v d h)
    ]

-- ---- items

-- a value of a form that an item can have
value_left : (f : Form) (t : WireType) (width : Width) (w v : View) (d : Data) → has_wire_type f t ≡ true → data_by width f w ≡ Ok (d, v) → NoLonger w v
unfolding data_by
value_left bool t width w v d can e =
    let a = bind_ok (number_at S8 w) (λ n. Ok (truth (is_odd n.0), n.1)) (d, v) e in
    step w a.0.1 v (truth (is_odd a.0.0)) d (number_left S8 w a.0.1 a.0.0 a.1) a.2
value_left (named n f) t width w v d can e = value_left f t width w v d can e
value_left (enumerated f labels) t width w v d can e = value_left f t width w v d can e
value_left (padded encoding n) t width w v d can e = absurd cc
value_left (unsigned order size) t width w v d can e =
    let a = bind_ok (ordered_at order size w) (λ n. Ok (uint n.0, n.1)) (d, v) e in
    step w a.0.1 v (uint a.0.0) d (ordered_left order size w a.0.1 a.0.0 a.1) a.2
value_left (signed order size) t width w v d can e =
    let a = bind_ok (ordered_at order size w) (λ n. Ok (int (signed_of size n.0), n.1)) (d, v) e in
    step w a.0.1 v (int (signed_of size a.0.0)) d (ordered_left order size w a.0.1 a.0.0 a.1) a.2
value_left (float order p) t width w v d can e =
    let a = bind_ok (ordered_at order (bits_size p) w) (λ n. Ok (real p n.0, n.1)) (d, v) e in
    step w a.0.1 v (real p a.0.0) d (ordered_left order (bits_size p) w a.0.1 a.0.0 a.1) a.2
value_left (string encoding own) t width w v d can e =
    let a = bind_ok (body_at width w) (λ body. text_at encoding w.place body.0.bytes >>= λ s. Ok (phrase s, body.1)) (d, v) e in
    let b = bind_ok (text_at encoding w.place a.0.0.bytes) (λ s. Ok (phrase s, a.0.1)) (d, v) a.2 in
    step w a.0.1 v (phrase b.0) d (body_left width w a.0.0 a.0.1 a.1) b.2
value_left (array own most element) t width w v d can e =
    let one = data_by (own_width element) element in
    let a = bind_ok (body_at width w) (λ body. items_at one most body.0 >>= λ items. Ok (list items, body.1)) (d, v) e in
    let b = bind_ok (items_at one most a.0.0) (λ items. Ok (list items, a.0.1)) (d, v) a.2 in
    step w a.0.1 v (list b.0) d (body_left width w a.0.0 a.0.1 a.1) b.2
value_left (fixed None n element) t width w v d can e = absurd cc
value_left (fixed (Some own) n element) t width w v d can e =
    let one = data_by (own_width element) element in
    let a = bind_ok (body_at width w) (λ body. fixed_at one n body.0 >>= λ items. Ok (list items.0, body.1)) (d, v) e in
    let b = bind_ok (fixed_at one n a.0.0) (λ items. Ok (list items.0, a.0.1)) (d, v) a.2 in
    step w a.0.1 v (list b.0.0) d (body_left width w a.0.0 a.0.1 a.1) b.2
value_left («struct» None fs) t width w v d can e = absurd cc
value_left («struct» (Some own) fs) t width w v d can e =
    let a = bind_ok (body_at width w) (λ body. members_at fs body.0 >>= λ members. Ok (tuple members.0, body.1)) (d, v) e in
    let b = bind_ok (members_at fs a.0.0) (λ members. Ok (tuple members.0, a.0.1)) (d, v) a.2 in
    step w a.0.1 v (tuple b.0.0) d (body_left width w a.0.0 a.0.1 a.1) b.2
value_left (union own type vs) t width w v d can e = union_left width type vs w v d e
value_left (tagged own ms) t width w v d can e =
    let items = λ (b : View). tagged_at (item_by (slots_at ms)) (length b.bytes) (all_absent ms) b in
    let a = bind_ok (body_at width w) (λ body. items body.0 >>= λ ss. required_at ms w.place ss >>= λ whole. Ok (slotted whole, body.1)) (d, v) e in
    let b = bind_ok (items a.0.0) (λ ss. required_at ms w.place ss >>= λ whole. Ok (slotted whole, a.0.1)) (d, v) a.2 in
    let c = bind_ok (required_at ms w.place b.0) (λ whole. Ok (slotted whole, a.0.1)) (d, v) b.2 in
    step w a.0.1 v (slotted c.0) d (body_left width w a.0.0 a.0.1 a.1) c.2

member_left : (f : Form) (tag : Tag) (place : ℕ) (w v : View) (d : Data) → member_at (λ width u. data_by width f u) f tag place w ≡ Ok (d, v) → NoLonger w v
unfolding member_at
member_left f tag place w v d e =
    let p = passed (has_wire_type f tag.wire_type) (data_by (width_in tag.wire_type f) f w) (WrongWireType place) (d, v) e in
    value_left f tag.wire_type (width_in tag.wire_type f) w v d p.0 p.1

unknown_left : (ss after : Slots) (t : WireType) (w v : View) → ◌>>=◌ {B = Slots × View} (skip_at t w) (λ u. Ok (ss, u)) ≡ Ok (after, v) → NoLonger w v
unknown_left ss after t w v e =
    let a = bind_ok (skip_at t w) (λ u. Ok (ss, u)) (after, v) e in
    step w a.0 v ss after (skipped_left t w a.0 a.1) a.2

slots_left : (ms : Members) (ss after : Slots) (tag : Tag) (place : ℕ) (w v : View) → slots_at ms ss tag place w ≡ Ok (after, v) → NoLonger w v
unfolding slots_at
slots_left no_members no_slots after tag place w v e = unknown_left no_slots after tag.wire_type w v e
slots_left no_members (present d ss) after tag place w v e = unknown_left (present d ss) after tag.wire_type w v e
slots_left no_members (absent ss) after tag place w v e = unknown_left (absent ss) after tag.wire_type w v e
slots_left (member_then id optional f ms) no_slots after tag place w v e = unknown_left no_slots after tag.wire_type w v e
slots_left (member_then id optional f ms) (present d ss) after tag place w v e =
    let k = kept (eqb id tag.id) (slots_at ms ss tag place w >>= λ x. Ok (present d x.0, x.1)) (DuplicateMember place) (after, v) e in
    let a = bind_ok (slots_at ms ss tag place w) (λ x. Ok (present d x.0, x.1)) (after, v) k.1 in
    step w a.0.1 v (present d a.0.0) after (slots_left ms ss a.0.0 tag place w a.0.1 a.1) a.2
slots_left (member_then id optional f ms) (absent ss) after tag place w v e =
    let here = member_at (λ width u. data_by width f u) f tag place w in
    elim (either (eqb id tag.id) (here >>= λ x. Ok (present x.0 ss, x.1)) (slots_at ms ss tag place w >>= λ x. Ok (absent x.0, x.1)) (after, v) e) [
      | inl h ↦
          let a = bind_ok here (λ x. Ok (present x.0 ss, x.1)) (after, v) h in
          step w a.0.1 v (present a.0.0 ss) after (member_left f tag place w a.0.1 a.0.0 a.1) a.2
      | inr h ↦
          let a = bind_ok (slots_at ms ss tag place w) (λ x. Ok (absent x.0, x.1)) (after, v) h in
          step w a.0.1 v (absent a.0.0) after (slots_left ms ss a.0.0 tag place w a.0.1 a.1) a.2
    ]

tag_shorter : (w v : View) (tag : Tag) → tag_at w ≡ Ok (tag, v) → length v.bytes < length w.bytes
unfolding tag_at
tag_shorter w v tag e =
    let a = bind_ok (number_at S16 w) (λ n. Ok (tag_in n.0, n.1)) (tag, v) e in
    let less : length a.0.1.bytes < length w.bytes = omega (arith, number_shorter S16 w a.0.1 a.0.0 a.1) in
    subst (λ (x : Tag × View). length x.1.bytes < length w.bytes) (ok_is (tag_in a.0.0, a.0.1) (tag, v) a.2) less

pub item_shorter : (ms : Members) (ss after : Slots) (w v : View) → item_at ms ss w ≡ Ok (after, v) → length v.bytes < length w.bytes
unfolding item_by
item_shorter ms ss after w v e =
    let a = bind_ok (tag_at w) (λ tag. slots_at ms ss tag.0 w.place tag.1) (after, v) e in
    omega (arith, tag_shorter w a.0.1 a.0.0 a.1, slots_left ms ss after a.0.0 w.place a.0.1 v a.2)
