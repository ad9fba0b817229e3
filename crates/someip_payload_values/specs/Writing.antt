-- The one text of each value of a form, or why there is none: the first reason from left to right.
use Rattle.std.specs.Prelude.{◌≡◌, ℕ, ◌+◌, ◌-◌, ℤ, Bool, true, false, List, [], ◌∷◌, ◌++◌, length, flat_map, Option, Some, None, Result, Ok, Err, nat_lt, ◌==◌, ◌&&◌, not, replicate, if◌then◌else◌}
use Rattle.std.specs.List.{list_any}
use Rattle.std.specs.Int.{cast_unsigned}
use Rattle.std.specs.Str.{chars, is_utf8}
use Rattle.someip_payload_values.specs.declared.error.PayloadError.{PayloadError}
use Rattle.someip_payload_values.specs.declared.error.PayloadError.TheVariants as errors
use Rattle.someip_payload_values.specs.declared.error.PayloadError.TheVariants.{NotOfShape, TooMany, TooLong, UnknownVariant}
use Rattle.someip_payload_values.specs.declared.number.Order.{Order}
use Rattle.someip_payload_values.specs.declared.number.Size.{Size}
use Rattle.someip_payload_values.specs.declared.number.Size.TheVariants.{S8, S32, S64}
use Rattle.someip_payload_values.specs.declared.shape.Width.{Width}
use Rattle.someip_payload_values.specs.declared.shape.Encoding.{Encoding}
use Rattle.someip_payload_values.specs.declared.shape.Encoding.TheVariants.{Utf8, Utf16}
use Rattle.someip_payload_values.specs.Steps.{◌>>=◌, Fails}
use Rattle.someip_payload_values.specs.Check.{checked}
use Rattle.someip_payload_values.specs.Texts.{utf8_mark, unit_bytes, units_of_text}
use Rattle.someip_payload_values.specs.Data.{Form, bool, unsigned, signed, float, string, padded, array, fixed, «struct», union, tagged, named, enumerated, Forms, no_forms, form_then, Variants, no_variants, variant, Members, no_members, member_then, Data, truth, uint, int, real, phrase, list, tuple, nothing, chosen, slotted, Items, no_items, item, Slots, no_slots, present, absent, count}
use Rattle.someip_payload_values.specs.Floats.{Precision, single, double}
use Rattle.someip_payload_values.specs.Numbers.{is_signed, width_of, limit_of, size_of, number, number_in, bit_of, framed, typed}
use Rattle.someip_payload_values.specs.Tags.{item_bytes, wire_type_of}
use Rattle.someip_payload_values.specs.View.{OneMember}

abbrev pub count_forms : Forms → ℕ
count_forms no_forms = 0
count_forms (form_then f fs) = count_forms fs + 1

abbrev pub count_members : Members → ℕ
count_members no_members = 0
count_members (member_then id optional f ms) = count_members ms + 1

abbrev pub count_slots : Slots → ℕ
count_slots no_slots = 0
count_slots (present d ss) = count_slots ss + 1
count_slots (absent ss) = count_slots ss + 1

-- a number, unless it is too large for its size
unfoldable pub number_text : Order → Size → ℕ → Result (List ℕ) PayloadError
number_text order size n = if nat_lt n (limit_of size) then Ok (number_in order size n) else Err (NotOfShape 0)

-- a signed number in two's complement, unless it is out of the range of its size
unfoldable pub signed_text : Order → Size → ℤ → Result (List ℕ) PayloadError
signed_text order size z = if is_signed size z then Ok (number_in order size (cast_unsigned (width_of size) z)) else Err (NotOfShape 0)

-- the bits of a float, unless it is of the other precision than its form
unfoldable pub real_text : Order → Precision → Precision → ℕ → Result (List ℕ) PayloadError
real_text order single single bits = number_text order S32 bits
real_text order double double bits = number_text order S64 bits
real_text order single double bits = Err (NotOfShape 0)
real_text order double single bits = Err (NotOfShape 0)

-- a body after its length field, unless it is longer than that can say: `TooLong`
unfoldable pub body_text : Width → List ℕ → Result (List ℕ) PayloadError
body_text width body = if nat_lt (length body) (limit_of (size_of width)) then Ok (framed width body) else Err (TooLong 0)

-- the character U+0000 stands in the text
abbrev pub has_zero : List ℕ → Bool
has_zero s = list_any (λ b. b == 0) s

-- with mark and terminator, and the higher byte of a unit first
unfoldable pub text_body : Encoding → List ℕ → List ℕ
text_body Utf8 s = utf8_mark ++ (s ++ 0 ∷ [])
text_body Utf16 s = flat_map (unit_bytes true) (units_of_text (chars s))

-- a text in exactly so many bytes, with zeros after it, unless it is longer: `TooLong`
unfoldable pub padded_text : ℕ → List ℕ → Result (List ℕ) PayloadError
padded_text n body = if nat_lt n (length body) then Err (TooLong 0) else Ok (body ++ replicate (n - length body) 0)

-- the texts of the elements one after the other
unfoldable pub each_text : (Data → Result (List ℕ) PayloadError) → Items → Result (List ℕ) PayloadError
each_text one no_items = Ok []
each_text one (item d ds) = one d >>= λ first. each_text one ds >>= λ others. Ok (first ++ others)

-- an array that isn't too long
unfoldable pub array_text : Width → ℕ → (Data → Result (List ℕ) PayloadError) → Items → Result (List ℕ) PayloadError
array_text width most one ds = if nat_lt most (count ds) then Err (TooMany 0) else (each_text one ds >>= body_text width)

-- what is written, perhaps after a length
unfoldable pub framed_text : Option Width → Result (List ℕ) PayloadError → Result (List ℕ) PayloadError
framed_text None written = written
framed_text (Some width) written = written >>= body_text width

-- the elements, if there are exactly so many, perhaps after a length
unfoldable pub fixed_text : Option Width → ℕ → (Data → Result (List ℕ) PayloadError) → Items → Result (List ℕ) PayloadError
fixed_text width n one ds = if count ds == n then framed_text width (each_text one ds) else Err (NotOfShape 0)

-- a body after its length and its type number, in fields of these widths
unfoldable pub typed_text : Width → Width → ℕ → List ℕ → Result (List ℕ) PayloadError
typed_text width type kind body = if nat_lt (length body) (limit_of (size_of width)) then Ok (typed width type kind body) else Err (TooLong 0)

-- the text of a value, after its length and its type number
unfoldable pub chosen_text : Width → Width → ℕ → Result (List ℕ) PayloadError → Result (List ℕ) PayloadError
chosen_text width type kind value = value >>= typed_text width type kind

-- the item of a member whose value is written so
unfoldable pub item_text : Form → ℕ → Result (List ℕ) PayloadError → Result (List ℕ) PayloadError
item_text f id written = written >>= λ bytes. Ok (item_bytes (record { reserved = false; wire_type = wire_type_of f; id = id; bytes = bytes }))

-- of an absent member nothing is written, if it is optional
unfoldable pub absent_text : Bool → Result (List ℕ) PayloadError
absent_text optional = if optional then Ok [] else Err (NotOfShape 0)

unfoldable mutual
  -- the text of a value of the form, or the first fault from left to right
  pub text_of : Form → Data → Result (List ℕ) PayloadError
  text_of (named n f) d = text_of f d
  text_of (enumerated f labels) d = text_of f d
  text_of bool (truth b) = Ok (number S8 (bit_of b))
  text_of (unsigned order size) (uint n) = number_text order size n
  text_of (signed order size) (int z) = signed_text order size z
  text_of (float order p) (real own bits) = real_text order p own bits
  text_of (string encoding width) (phrase s) = if is_utf8 s then body_text width (text_body encoding s) else Err (NotOfShape 0)
  text_of (padded encoding n) (phrase s) = if is_utf8 s && not (has_zero s) then padded_text n (text_body encoding s) else Err (NotOfShape 0)
  text_of (array width most element) (list ds) = array_text width most (text_of element) ds
  text_of (fixed width n element) (list ds) = fixed_text width n (text_of element) ds
  text_of («struct» width fs) (tuple ds) = if count ds == count_forms fs then framed_text width (members_text fs ds) else Err (NotOfShape 0)
  text_of (union width type vs) nothing = Ok (typed width type 0 [])
  text_of (union width type vs) (chosen kind d) = if nat_lt kind (limit_of (size_of type)) then variant_text width type vs kind d else Err (UnknownVariant 0)
  text_of (tagged width ms) (slotted ss) = if count_slots ss == count_members ms then (slots_text ms ss >>= body_text width) else Err (NotOfShape 0)
  text_of _ _ = Err (NotOfShape 0)

  -- the texts of the members one after the other
  pub members_text : Forms → Items → Result (List ℕ) PayloadError
  members_text (form_then f fs) (item d ds) = text_of f d >>= λ first. members_text fs ds >>= λ others. Ok (first ++ others)
  members_text _ _ = Ok []

  -- by the variant of that number
  pub variant_text : Width → Width → Variants → ℕ → Data → Result (List ℕ) PayloadError
  variant_text width type no_variants kind d = Err (UnknownVariant 0)
  variant_text width type (variant n f vs) kind d = if n == kind then chosen_text width type kind (text_of f d) else variant_text width type vs kind d

  -- the items of the members that are present, or the refusal of the first that is absent and not optional
  pub slots_text : Members → Slots → Result (List ℕ) PayloadError
  slots_text (member_then id optional f ms) (present d ss) = item_text f id (text_of f d) >>= λ first. slots_text ms ss >>= λ others. Ok (first ++ others)
  slots_text (member_then id optional f ms) (absent ss) = absent_text optional >>= λ first. slots_text ms ss >>= λ others. Ok (first ++ others)
  slots_text _ _ = Ok []

-- what is written of a member of a tagged structure
abbrev pub member_text : OneMember → Option Data → Result (List ℕ) PayloadError
member_text m None = absent_text m.optional
member_text m (Some d) = item_text m.form m.id (text_of m.form d)

-- the one text of a value of the form, or the first fault: that of the form itself before those of the value
unfoldable pub encoded : Form → Data → Result (List ℕ) PayloadError
encoded f d = checked f >>= λ _. text_of f d

-- the text was added at the end, or nothing was
abbrev pub Appends : List ℕ → List ℕ → Result (Unit {0}) PayloadError → Result (List ℕ) PayloadError → Type 0
Appends old new (Ok _) written = (added : List ℕ) × (written ≡ Ok added) × (new ≡ old ++ added)
Appends old new (Err e) written = Fails e written × (new ≡ old)

-- the text was added at the end, or there is none
abbrev pub Adds : List ℕ → List ℕ → Result (Unit {0}) PayloadError → Result (List ℕ) PayloadError → Type 0
Adds old new (Ok _) written = (added : List ℕ) × (written ≡ Ok added) × (new ≡ old ++ added)
Adds old new (Err e) written = Fails e written

-- a refusal that writing may have: the others are of bytes alone, and the place is 0
abbrev pub IsRefusal : PayloadError → Type 0
IsRefusal (errors.NotOfShape place) = place ≡ 0
IsRefusal (errors.UnknownVariant place) = place ≡ 0
IsRefusal (errors.TooMany place) = place ≡ 0
IsRefusal (errors.TooLong place) = place ≡ 0
IsRefusal (errors.TooDeep place) = place ≡ 0
IsRefusal (errors.BadShape place) = place ≡ 0
IsRefusal errors.OutOfMemory = Unit {0}
IsRefusal e = ⊥
