-- Reading from left to right, with the first fault that is met.
use Rattle.std.specs.Prelude.{ℕ, zero, suc, ◌+◌, ◌-◌, ◌*◌, ◌==◌, ◌&&◌, not, Bool, ℤ, List, [], ◌∷◌, length, take, drop, slice_index, Some, None, Result, Ok, Err, nat_lt, if◌then◌else◌, false, true}
use Rattle.std.specs.Int.{byte_len, from_be_bytes, from_le_bytes, cast_signed}
use Rattle.std.specs.Str.{is_utf8, encode_utf8_all}
use Rattle.std.specs.Char.Utf16.{has_unpaired_surrogate, utf16_lossy_chars}
use Rattle.someip_payload_values.specs.declared.error.PayloadError.{PayloadError}
use Rattle.someip_payload_values.specs.declared.error.PayloadError.TheVariants.{Truncated, BadText, NoTerminator, UnknownVariant, LengthMismatch, TooMany, DuplicateMember, WrongWireType, MissingMember}
use Rattle.someip_payload_values.specs.declared.number.Order.{Order}
use Rattle.someip_payload_values.specs.declared.number.Order.TheVariants.{Big, Little}
use Rattle.someip_payload_values.specs.declared.number.Size.{Size}
use Rattle.someip_payload_values.specs.declared.number.Size.TheVariants.{S8, S16}
use Rattle.someip_payload_values.specs.declared.shape.Width.{Width}
use Rattle.someip_payload_values.specs.declared.shape.Width.TheVariants.{W32}
use Rattle.someip_payload_values.specs.declared.tag.WireType.{WireType}
use Rattle.someip_payload_values.specs.declared.tag.WireType.TheVariants.{Basic, OwnLength, Length}
use Rattle.someip_payload_values.specs.declared.tag.Tag.{Tag}
use Rattle.someip_payload_values.specs.declared.shape.Encoding.{Encoding}
use Rattle.someip_payload_values.specs.declared.shape.Encoding.TheVariants.{Utf8, Utf16}
use Rattle.someip_payload_values.specs.Steps.{◌>>=◌}
use Rattle.someip_payload_values.specs.Check.{checked}
use Rattle.someip_payload_values.specs.Floats.{bits_size}
use Rattle.someip_payload_values.specs.Numbers.{width_of, size_of, is_odd}
use Rattle.someip_payload_values.specs.Tags.{own_width, has_wire_type, width_in, tag_in}
use Rattle.someip_payload_codec.specs.Grammar.{has_required}
use Rattle.someip_payload_values.specs.Texts.{utf16_mark}
use Rattle.someip_payload_values.specs.Data.{Form, bool, unsigned, signed, float, string, padded, array, fixed, «struct», union, tagged, named, enumerated, Forms, no_forms, form_then, Variants, no_variants, variant, Members, no_members, member_then, Data, truth, uint, int, real, phrase, list, tuple, nothing, chosen, slotted, Items, no_items, item, Slots, no_slots, present, absent}
use Rattle.someip_payload_codec.specs.View.{View}

-- the fault that something passes the window's end
abbrev pub short_at : View → PayloadError
short_at w = if w.is_body then LengthMismatch w.place else Truncated w.place

-- what is left after so many bytes
abbrev pub skip : ℕ → View → View
skip n w = record { is_body = w.is_body; place = w.place + n; bytes = drop n w.bytes }

-- so many bytes, and what is left after them
abbrev pub front_at : ℕ → View → Result (List ℕ × View) PayloadError
front_at n w = if nat_lt (length w.bytes) n then Err (short_at w) else Ok (take n w.bytes, skip n w)

-- the number that bytes make in an order
abbrev pub number_of : Order → Size → List ℕ → ℕ
number_of Big size bytes = from_be_bytes (width_of size) bytes
number_of Little size bytes = from_le_bytes (width_of size) bytes

-- the number of a size in an order of its bytes, and what is left after it
unfoldable pub ordered_at : Order → Size → View → Result (ℕ × View) PayloadError
ordered_at order size w = do
  front ← front_at (byte_len (width_of size)) w
  Ok (number_of order size front.0, front.1)

-- the same from the highest byte on, as length fields, type numbers and tags are
abbrev pub number_at : Size → View → Result (ℕ × View) PayloadError
number_at size w = ordered_at Big size w

-- the signed number that a number of the size stands for in two's complement
abbrev pub signed_of : Size → ℕ → ℤ
signed_of size n = cast_signed (width_of size) n

-- a body of so many bytes is next at v, whose length field stands at w, and what is left after it
unfoldable pub window_at : ℕ → View → View → Result (View × View) PayloadError
window_at n w v = if nat_lt (length v.bytes) n then Err (short_at w) else Ok (record { is_body = true; place = v.place; bytes = take n v.bytes }, skip n v)

-- the body after a length field, and what is left after it
unfoldable pub body_at : Width → View → Result (View × View) PayloadError
body_at width w = do
  len ← number_at (size_of width) w
  window_at len.0 w len.1

-- the byte order mark of UTF-8 stands at the front
abbrev pub has_mark : List ℕ → Bool
has_mark bytes = (slice_index bytes 0 == 0xEF) && ((slice_index bytes 1 == 0xBB) && (slice_index bytes 2 == 0xBF))

-- the bytes without that mark
abbrev pub without_mark : List ℕ → List ℕ
without_mark bytes = if has_mark bytes then drop 3 bytes else bytes

-- a zero stands at the end
abbrev pub is_ended : List ℕ → Bool
is_ended xs = nat_lt 0 (length xs) && (slice_index xs (length xs - 1) == 0)

-- the text of a body in UTF-8: what stands between a byte order mark, if there is one, and the zero at the end
unfoldable pub utf8_at : ℕ → List ℕ → Result (List ℕ) PayloadError
utf8_at place body =
    if is_ended body
    then (if is_utf8 (without_mark (take (length body - 1) body)) then Ok (without_mark (take (length body - 1) body)) else Err (BadText place))
    else Err (NoTerminator place)

-- the unit of two bytes, of which the first is the higher, or the lower
abbrev pub unit_of : Bool → ℕ → ℕ → ℕ
unit_of true a b = a * 256 + b
unit_of false a b = b * 256 + a

-- the units of two bytes each, without an odd byte at the end
unfoldable pub units_of : Bool → List ℕ → List ℕ
units_of big (a ∷ b ∷ bytes) = unit_of big a b ∷ units_of big bytes
units_of big (a ∷ []) = []
units_of big [] = []

-- the mark has its lower byte first
abbrev pub is_little : List ℕ → Bool
is_little body = nat_lt 1 (length body) && ((slice_index body 0 == 0xFF) && (slice_index body 1 == 0xFE))

-- the units between the first and the last
abbrev pub inner : List ℕ → List ℕ
inner units = drop 1 (take (length units - 1) units)

-- the text of units of UTF-16: what stands between the byte order mark and the zero at the end, if its surrogates are
-- paired
unfoldable pub utf16_in : ℕ → List ℕ → Result (List ℕ) PayloadError
utf16_in place units =
    if is_ended units
    then (if (slice_index units 0 == utf16_mark) && not (has_unpaired_surrogate (inner units)) then Ok (encode_utf8_all (utf16_lossy_chars (inner units))) else Err (BadText place))
    else Err (NoTerminator place)

-- the text of a body whose length field stands at the place
unfoldable pub text_at : Encoding → ℕ → List ℕ → Result (List ℕ) PayloadError
text_at Utf8 place body = utf8_at place body
text_at Utf16 place body = utf16_in place (units_of (not (is_little body)) body)

-- the units up to the first zero, with it
unfoldable pub through_zero : List ℕ → List ℕ
through_zero [] = []
through_zero (x ∷ xs) = if x == 0 then x ∷ [] else x ∷ through_zero xs

-- the text of a window of so many bytes, which ends at its first zero character; the window stands at the place
unfoldable pub padded_at : Encoding → ℕ → List ℕ → Result (List ℕ) PayloadError
padded_at Utf8 place bytes = utf8_at place (through_zero bytes)
padded_at Utf16 place bytes = utf16_in place (through_zero (units_of (not (is_little bytes)) bytes))

-- at most so many elements, until the bytes are used up
unfoldable pub items_at : (View → Result (Data × View) PayloadError) → ℕ → View → Result Items PayloadError
items_at one zero w = if nat_lt 0 (length w.bytes) then Err (TooMany w.place) else Ok no_items
items_at one (suc left) w =
    if nat_lt 0 (length w.bytes)
    then (one w >>= λ first. items_at one left first.1 >>= λ others. Ok (item first.0 others))
    else Ok no_items

-- exactly so many elements
unfoldable pub fixed_at : (View → Result (Data × View) PayloadError) → ℕ → View → Result (Items × View) PayloadError
fixed_at one zero w = Ok (no_items, w)
fixed_at one (suc left) w = one w >>= λ first. fixed_at one left first.1 >>= λ others. Ok (item first.0 others.0, others.1)

-- what stands after the length and the type number of a union, of these widths
unfoldable pub union_at : Width → Width → (ℕ → ℕ → ℕ → View → Result (Data × View) PayloadError) → View → Result (Data × View) PayloadError
union_at width type known w = do
  len ← number_at (size_of width) w
  kind ← number_at (size_of type) len.1
  if kind.0 == 0 then (if len.0 == 0 then Ok (nothing, kind.1) else Err (LengthMismatch w.place)) else known kind.0 len.0 len.1.place kind.1

-- the value of a union whose variant is read so, which begins at w and whose body at v
unfoldable pub chosen_at : (View → Result (Data × View) PayloadError) → ℕ → ℕ → View → View → Result (Data × View) PayloadError
chosen_at one kind len w v = window_at len w v >>= λ body. one body.0 >>= λ d. Ok (chosen kind d.0, body.1)

-- the tag of an item
unfoldable pub tag_at : View → Result (Tag × View) PayloadError
tag_at w = number_at S16 w >>= λ n. Ok (tag_in n.0, n.1)

-- what is left after the data of an item that is skipped
unfoldable pub skip_at : WireType → View → Result View PayloadError
skip_at (Basic size) w = number_at size w >>= λ n. Ok n.1
skip_at OwnLength w = body_at W32 w >>= λ body. Ok body.1
skip_at (Length width) w = body_at width w >>= λ body. Ok body.1

-- reads one item: from the members that were read so far to those with it
abbrev pub Filler : Type 0
Filler = Slots → View → Result (Slots × View) PayloadError

-- reads a tag, and hands on the members so far, the tag, the place where it stands and what is after it
unfoldable pub item_by : (Slots → Tag → ℕ → View → Result (Slots × View) PayloadError) → Filler
item_by one ss w = tag_at w >>= λ tag. one ss tag.0 w.place tag.1

-- items until the bytes are used up; the number makes this end, and is no bound, since each item takes a byte
unfoldable pub tagged_at : Filler → ℕ → Slots → View → Result Slots PayloadError
tagged_at one zero ss w = Ok ss
tagged_at one (suc left) ss w = if nat_lt 0 (length w.bytes) then (one ss w >>= λ filled. tagged_at one left filled.0 filled.1) else Ok ss

-- no member was read yet
abbrev pub all_absent : Members → Slots
all_absent no_members = no_slots
all_absent (member_then id optional f ms) = absent (all_absent ms)

-- the members that were read, unless one is missing; the length field stands at the place
unfoldable pub required_at : Members → ℕ → Slots → Result Slots PayloadError
required_at ms place ss = if has_required ms ss then Ok ss else Err (MissingMember place)

-- the value of the member whose item has the tag at the place
unfoldable pub member_at : (Width → View → Result (Data × View) PayloadError) → Form → Tag → ℕ → View → Result (Data × View) PayloadError
member_at one f tag place w = if has_wire_type f tag.wire_type then one (width_in tag.wire_type f) w else Err (WrongWireType place)

unfoldable mutual
  -- a value of the form, with a length field of that width where it has one
  pub data_by : Width → Form → View → Result (Data × View) PayloadError
  data_by width (named n f) w = data_by width f w
  data_by width (enumerated f labels) w = data_by width f w
  data_by width bool w = number_at S8 w >>= λ n. Ok (truth (is_odd n.0), n.1)
  data_by width (unsigned order size) w = ordered_at order size w >>= λ n. Ok (uint n.0, n.1)
  data_by width (signed order size) w = ordered_at order size w >>= λ n. Ok (int (signed_of size n.0), n.1)
  data_by width (float order p) w = ordered_at order (bits_size p) w >>= λ n. Ok (real p n.0, n.1)
  data_by width (string encoding own) w = body_at width w >>= λ body. text_at encoding w.place body.0.bytes >>= λ s. Ok (phrase s, body.1)
  data_by width (padded encoding n) w = front_at n w >>= λ front. padded_at encoding w.place front.0 >>= λ s. Ok (phrase s, front.1)
  data_by width (array own most element) w = body_at width w >>= λ body. items_at (data_by (own_width element) element) most body.0 >>= λ items. Ok (list items, body.1)
  data_by width (fixed None n element) w = fixed_at (data_by (own_width element) element) n w >>= λ items. Ok (list items.0, items.1)
  data_by width (fixed (Some own) n element) w = body_at width w >>= λ body. fixed_at (data_by (own_width element) element) n body.0 >>= λ items. Ok (list items.0, body.1)
  data_by width («struct» None fs) w = members_at fs w >>= λ members. Ok (tuple members.0, members.1)
  data_by width («struct» (Some own) fs) w = body_at width w >>= λ body. members_at fs body.0 >>= λ members. Ok (tuple members.0, body.1)
  data_by width (union own type vs) w = union_at width type (λ kind len place v. variant_at vs kind len place w v) w
  data_by width (tagged own ms) w =
      body_at width w >>= λ body. tagged_at (item_by (slots_at ms)) (length body.0.bytes) (all_absent ms) body.0
      >>= λ ss. required_at ms w.place ss >>= λ whole. Ok (slotted whole, body.1)

  pub members_at : Forms → View → Result (Items × View) PayloadError
  members_at no_forms w = Ok (no_items, w)
  members_at (form_then f fs) w = data_by (own_width f) f w >>= λ first. members_at fs first.1 >>= λ others. Ok (item first.0 others.0, others.1)

  -- the variant of the number at the place, whose union begins at w and whose body at v
  pub variant_at : Variants → ℕ → ℕ → ℕ → View → View → Result (Data × View) PayloadError
  variant_at no_variants kind len place w v = Err (UnknownVariant place)
  variant_at (variant n f vs) kind len place w v = if n == kind then chosen_at (data_by (own_width f) f) kind len w v else variant_at vs kind len place w v

  -- the member with the tag's Data ID gets its value; an item that no member has is skipped
  pub slots_at : Members → Slots → Tag → ℕ → View → Result (Slots × View) PayloadError
  slots_at (member_then id optional f ms) (present d ss) tag place w =
      if id == tag.id then Err (DuplicateMember place) else (slots_at ms ss tag place w >>= λ x. Ok (present d x.0, x.1))
  slots_at (member_then id optional f ms) (absent ss) tag place w =
      if id == tag.id
      then (member_at (λ width v. data_by width f v) f tag place w >>= λ x. Ok (present x.0 ss, x.1))
      else (slots_at ms ss tag place w >>= λ x. Ok (absent x.0, x.1))
  slots_at _ ss tag place w = skip_at tag.wire_type w >>= λ v. Ok (ss, v)

-- the members so far with the item at the front
abbrev pub item_at : Members → Filler
item_at ms = item_by (slots_at ms)

-- a value of the form
abbrev pub data_at : Form → View → Result (Data × View) PayloadError
data_at f = data_by (own_width f) f

-- the whole input, with how many bytes the value takes
unfoldable pub decoded : Form → List ℕ → Result (Data × ℕ) PayloadError
decoded f bytes = checked f >>= λ _. data_at f (record { is_body = false; place = 0; bytes = bytes }) >>= λ x. Ok (x.0, x.1.place)
