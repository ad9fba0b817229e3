-- Shapes of which the parts were read one after the other.
use Rattle.std.proofs.Common.{rules, ◌≡◌, ℕ, ◌<◌, ◌≤◌, ◌^◌, List, ◌++◌, length, Option, Some, None, Vec, Global, slice_range, codes, arith}
use Rattle.std.specs.Prelude.{Bool as Bit, true, false, nat_lt, if◌then◌else◌, Result, Ok, Err, IfOk}
use Rattle.std.specs.Fmt.{decimal}
use Rattle.std.specs.declared.boxed.Box.{Box}
use Rattle.someip_payload.specs.Named.{NamedForms}
use Rattle.someip_payload.specs.declared.shape_text_error.ShapeTextError.{ShapeTextError}
use Rattle.someip_payload.specs.declared.shape_text_error.ShapeTextError.TheVariants.{BadShape, OutOfMemory}
use Rattle.someip_payload_values.specs.declared.shape.Shape.{Shape, Text, FixedText, Array, Struct, Tagged, the_lemmas}
use Rattle.someip_payload_values.specs.declared.shape.Member.{Member, roll-Member}
use Rattle.someip_payload_values.specs.declared.shape.Encoding.{Encoding}
use Rattle.someip_payload_values.specs.declared.shape.Encoding.TheVariants.{Utf8, Utf16}
use Rattle.someip_payload_values.specs.declared.shape.Width.{Width}
use Rattle.someip_payload_values.specs.Check.{is_name, depth}
use Rattle.someip_payload_values.specs.Data.{Form, fixed, named, Variants}
use Rattle.someip_payload_values.proofs.Shapes.{form-Text, form-FixedText, form-Array, form-Struct, form-Tagged}
use Rattle.someip_payload_values.specs.View.{form, forms, all_members, one_member}
use Rattle.someip_payload.specs.ShapeText.{reach, IsTextOfTaggedMember, tagged_one, tagged_member_text, with_name, name_text, IsNameIfAny, IsTextIn, IsTextOfMember, member_text, IsTextOfMembers, IsTextOfVariants, IsTextOfTaggedMembers, utf8_text, utf16_text, utf8fix_text, utf16fix_text, array_text, fixed_text, struct_text, union_text, tagged_text, width_text, widths_text, or_32, union_of, room_text, repeated_text}
use Rattle.someip_payload.specs.declared.words.Word.{Word}
use Rattle.someip_payload.specs.declared.words.Word.TheVariants as word
use Rattle.someip_payload.specs.Words.{word_text}
use Rattle.someip_payload.proofs.Pieces.{slice_range-append}

abbrev pub made_member : ℕ → Bit → Shape → Member
made_member id optional s = roll-Member (record { id = id; is_optional = optional; shape = s })

pub one_member-made : (id : ℕ) (optional : Bit) (s : Shape) → one_member (made_member id optional s) ≡ record { id = id; optional = optional; form = form s }
one_member-made id optional s = search (rules, the_lemmas)

-- a shape that is its word
pub plain_shape : {names : NamedForms} (s : Shape) (f : Form) (word piece : List ℕ) → form s ≡ f → IsTextIn names f word → piece ≡ word → IsTextIn names (form s) piece
plain_shape s f word piece own is same = rw (own, same) is

pub string_shape : {names : NamedForms} (e : Encoding) (w : Option Width) (meant : Width) (piece : List ℕ) → meant ≡ or_32 w → piece ≡ width_text w → IsTextIn names (form (Text e meant)) (word_text (word.Text e) ++ piece)
string_shape Utf8 w meant piece is is_piece = rw (form-Text Utf8 meant, is, is_piece) (utf8_text w)
string_shape Utf16 w meant piece is is_piece = rw (form-Text Utf16 meant, is, is_piece) (utf16_text w)

pub array_shape : {names : NamedForms} (w : Option Width) (meant : Width) (n : ℕ) (b : Box Shape Global) (text element : List ℕ) (at from end : ℕ) → at ≤ from → from ≤ end
    → meant ≡ or_32 w → slice_range text at from ≡ width_text w → IsTextIn names (form b.value) element → slice_range text from end ≡ repeated_text n element → n < 2 ^ 32
    → IsTextIn names (form (Array meant n b)) (codes "array" ++ slice_range text at end)
array_shape w meant n b text element at from end le le2 is width is_element repeated small =
    rw (form-Array meant n b, is, ← slice_range-append text at from end le le2, width, repeated) (array_text w n (form b.value) element small is_element)

pub padded_shape : {names : NamedForms} (e : Encoding) (n : ℕ) (piece : List ℕ) → piece ≡ room_text n → n < 2 ^ 32 → IsTextIn names (form (FixedText e n)) (word_text (word.FixedText e) ++ piece)
padded_shape Utf8 n piece is small = rw (form-FixedText Utf8 n, is) (utf8fix_text n small)
padded_shape Utf16 n piece is small = rw (form-FixedText Utf16 n, is) (utf16fix_text n small)

-- a number in angle brackets, part by part
pub room_piece : (text : List ℕ) (n at from last end : ℕ) → at ≤ from → from ≤ last → last ≤ end → slice_range text at from ≡ codes "<" → slice_range text from last ≡ decimal n → slice_range text last end ≡ codes ">"
    → slice_range text at end ≡ room_text n
room_piece text n at from last end le le2 le3 before number behind =
    rw (← slice_range-append text at from end le (omega arith), ← slice_range-append text from last end le2 le3, before, number, behind)

pub fixed_shape : {names : NamedForms} (w : Option Width) (n : ℕ) (f g : Form) (text element : List ℕ) (at from end : ℕ) → at ≤ from → from ≤ end → g ≡ fixed w n f
    → slice_range text at from ≡ width_text w → IsTextIn names f element → slice_range text from end ≡ repeated_text n element → n < 2 ^ 32 → IsTextIn names g (codes "fixed" ++ slice_range text at end)
fixed_shape w n f g text element at from end le le2 is width is_element repeated small =
    rw (is, ← slice_range-append text at from end le le2, width, repeated) (fixed_text w n f element small is_element)

pub struct_shape : {names : NamedForms} (w : Option Width) (ss : Vec Shape Global) (text members : List ℕ) (at from first end : ℕ) → at ≤ from → from ≤ first → first ≤ end
    → slice_range text at from ≡ width_text w → slice_range text from first ≡ codes "(" → IsTextOfMembers names (forms ss.items) members → slice_range text first end ≡ members ++ codes ")"
    → IsTextIn names (form (Struct w ss)) (codes "struct" ++ slice_range text at end)
struct_shape w ss text members at from first end le le2 le3 width bracket are all =
    rw (form-Struct w ss, ← slice_range-append text at from end le (omega arith), width, ← slice_range-append text from first end le2 le3, bracket, all) (struct_text w (forms ss.items) members are)

pub union_shape : {names : NamedForms} (ws : Option (Width × Width)) (vs : Variants) (f : Form) (text variants : List ℕ) (at from first end : ℕ) → at ≤ from → from ≤ first → first ≤ end → f ≡ union_of ws vs
    → slice_range text at from ≡ widths_text ws → slice_range text from first ≡ codes "(" → IsTextOfVariants names vs variants → slice_range text first end ≡ variants ++ codes ")"
    → IsTextIn names f (codes "union" ++ slice_range text at end)
union_shape ws vs f text variants at from first end le le2 le3 is widths bracket are all =
    rw (is, ← slice_range-append text at from end le (omega arith), widths, ← slice_range-append text from first end le2 le3, bracket, all) (union_text ws vs variants are)

pub tagged_shape : {names : NamedForms} (w : Option Width) (meant : Width) (ms : Vec Member Global) (text members : List ℕ) (at from first end : ℕ) → at ≤ from → from ≤ first → first ≤ end → meant ≡ or_32 w
    → slice_range text at from ≡ width_text w → slice_range text from first ≡ codes "(" → IsTextOfTaggedMembers names (all_members ms.items) members → slice_range text first end ≡ members ++ codes ")"
    → IsTextIn names (form (Tagged meant ms)) (codes "tagged" ++ slice_range text at end)
tagged_shape w meant ms text members at from first end le le2 le3 is width bracket are all =
    rw (form-Tagged meant ms, is, ← slice_range-append text at from end le (omega arith), width, ← slice_range-append text from first end le2 le3, bracket, all) (tagged_text w (all_members ms.items) members are)

pub repeated_piece : (text : List ℕ) (n at from comma first last end : ℕ) → at ≤ from → from ≤ comma → comma ≤ first → first ≤ last → last ≤ end
    → slice_range text at from ≡ codes "<" → slice_range text from comma ≡ decimal n → slice_range text comma first ≡ codes "," → slice_range text last end ≡ codes ">"
    → slice_range text at end ≡ repeated_text n (slice_range text first last)
repeated_piece text n at from comma first last end le le2 le3 le4 le5 before number middle behind =
    rw (
      ← slice_range-append text at from end le (omega arith),
      ← slice_range-append text from comma end le2 (omega arith),
      ← slice_range-append text comma first end le3 (omega arith),
      ← slice_range-append text first last end le4 le5,
      before,
      number,
      middle,
      behind,
    )

-- a word and what was read after it
pub behind_word : (names : NamedForms) (r : Result (Shape × ℕ) ShapeTextError) (text : List ℕ) (w v : Word) (at end : ℕ) → w ≡ v → at < end → slice_range text at end ≡ word_text w
    → IfOk r (λ x. (end ≤ x.1) × (x.1 ≤ length text)) → IfOk r (λ x. IsTextIn names (form x.0) (word_text v ++ slice_range text end x.1))
    → IfOk r (λ x. IsTextIn names (form x.0) (slice_range text at x.1))
behind_word names (Ok x) text w v at end same lt is bounds found = rw (← slice_range-append text at end x.1 (omega arith) bounds.0, is, same) found
behind_word names (Err e) text w v at end same lt is bounds found = tt

-- a name, a colon and a shape
pub name_piece : (text : List ℕ) (at name first end : ℕ) → at ≤ name → name ≤ first → first ≤ end → slice_range text name first ≡ codes ":"
    → slice_range text at end ≡ (slice_range text at name ++ codes ":") ++ slice_range text first end
name_piece text at name first end le le2 le3 colon =
    rw (← slice_range-append text at first end (omega arith) le3, ← slice_range-append text at name first le le2, colon)

pub named_shape : {names : NamedForms} (n : List ℕ) (f g : Form) (text : List ℕ) (at name first end : ℕ) → at ≤ name → name ≤ first → first ≤ end → g ≡ named n f → n ≡ slice_range text at name → is_name (slice_range text at name) ≡ true
    → slice_range text name first ≡ codes ":" → IsTextIn names f (slice_range text first end) → IsTextOfMember names g (slice_range text at end)
named_shape n f g text at name first end le le2 le3 is own is_name_ colon is_text =
    rw (is, own, name_piece text at name first end le le2 le3 colon) (member_text (Some (slice_range text at name)) f (slice_range text first end) is_name_ is_text)

-- a member of a tagged structure
pub tagged_shape_found : {names : NamedForms} (id : ℕ) (optional : Bit) (s : Shape) (name : Option (List ℕ)) (f : Form) (text shape : List ℕ) (at from end : ℕ) → at ≤ from → from ≤ end → form s ≡ with_name name f
    → slice_range text at from ≡ name_text name → IsNameIfAny name → id < 2 ^ 12 → IsTextIn names f shape → slice_range text from end ≡ tagged_member_text id optional shape
    → IsTextOfTaggedMember names (one_member (made_member id optional s)) (slice_range text at end)
tagged_shape_found id optional s name f text shape at from end le le2 is front is_one small is_text back =
    rw (one_member-made id optional s, is, ← slice_range-append text at from end le le2, front, back) (tagged_one name id optional f shape is_one small is_text)

-- how deep it lies
pub tagged_depth : (id : ℕ) (optional : Bit) (s : Shape) (name : Option (List ℕ)) (f : Form) (most : ℕ) → form s ≡ with_name name f → depth f ≤ most → depth (one_member (made_member id optional s)).form ≤ most
tagged_depth id optional s None f most is within = rw (one_member-made id optional s, is) within
tagged_depth id optional s (Some n) f most is within = rw (one_member-made id optional s, is) within

-- what was read, or a fault
abbrev read_or : Bit → Shape × ℕ → ℕ → Result (Shape × ℕ) ShapeTextError
read_or short x place = if short then Err (BadShape place) else Ok x

-- a shape that is a member without a name, if what was read reaches so far
pub plain_member : (names : NamedForms) (r : Result (Shape × ℕ) ShapeTextError) (text : List ℕ) (at least : ℕ) → IfOk r (λ x. IsTextIn names (form x.0) (slice_range text at x.1)) → IfOk (reach least r) (λ x. IsTextOfMember names (form x.0) (slice_range text at x.1))
plain_member names (Err OutOfMemory) text at least found = tt
plain_member names (Err (BadShape place)) text at least found = tt
plain_member names (Ok x) text at least found = if_reached (nat_lt x.1 least) x text at least (member_text None (form x.0) (slice_range text at x.1) tt found)
  where
    if_reached : (short : Bit) (y : Shape × ℕ) (t : List ℕ) (from place : ℕ) → IsTextOfMember names (form y.0) (slice_range t from y.1) → IfOk (read_or short y place) (λ z. IsTextOfMember names (form z.0) (slice_range t from z.1))
    if_reached true y t from place is = tt
    if_reached false y t from place is = is
