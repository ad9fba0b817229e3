-- The items of a tagged structure: each is a tag of 16 bits and bytes after it (SOME/IP Protocol, "Structured
-- Datatypes and Arguments with Identifier and optional Members").
use Rattle.std.specs.Prelude.{◌≡◌, ℕ, ◌+◌, ◌*◌, ◌/◌, ◌%◌, ◌^◌, ◌==◌, Bool, true, false, if◌then◌else◌, List, [], ◌∷◌, ◌++◌, length, Some, None}
use Rattle.std.specs.Int.{byte_len}
use Rattle.someip_payload_values.specs.declared.number.Size.{Size}
use Rattle.someip_payload_values.specs.declared.number.Size.TheVariants.{S8, S16, S32, S64}
use Rattle.someip_payload_values.specs.declared.shape.Width.{Width}
use Rattle.someip_payload_values.specs.declared.shape.Width.TheVariants.{W8, W16, W32}
use Rattle.someip_payload_values.specs.declared.tag.WireType.{WireType}
use Rattle.someip_payload_values.specs.declared.tag.WireType.TheVariants.{Basic, OwnLength, Length}
use Rattle.someip_payload_values.specs.declared.tag.Tag.{Tag}
use Rattle.someip_payload_values.specs.Data.{Form, bool, unsigned, signed, float, string, padded, array, fixed, «struct», union, tagged, named, enumerated}
use Rattle.someip_payload_values.specs.Floats.{bits_size}
use Rattle.someip_payload_values.specs.Numbers.{width_of, number, bit_of, Framed}

-- the standard's table of wire types
abbrev pub wire_type_number : WireType → ℕ
wire_type_number (Basic S8) = 0
wire_type_number (Basic S16) = 1
wire_type_number (Basic S32) = 2
wire_type_number (Basic S64) = 3
wire_type_number OwnLength = 4
wire_type_number (Length W8) = 5
wire_type_number (Length W16) = 6
wire_type_number (Length W32) = 7

-- a tag's reserved bit, wire type and Data ID, from the highest bit on
abbrev pub tag_number : Bool → WireType → ℕ → ℕ
tag_number reserved t id = bit_of reserved * 2 ^ 15 + (wire_type_number t * 2 ^ 12 + id)

-- what a tag says and what stands after it
pub record TaggedItem : Type 0 where
  pub reserved : Bool
  pub wire_type : WireType
  pub id : ℕ
  pub bytes : List ℕ

-- an item: its tag, and what stands after it
abbrev pub item_bytes : TaggedItem → List ℕ
item_bytes i = number S16 (tag_number i.reserved i.wire_type i.id) ++ i.bytes

-- items one after the other
abbrev pub items_bytes : List TaggedItem → List ℕ
items_bytes [] = []
items_bytes (i ∷ items) = item_bytes i ++ items_bytes items

-- the items that have the Data ID
abbrev pub with_id : ℕ → List TaggedItem → List TaggedItem
with_id id [] = []
with_id id (i ∷ items) = if i.id == id then i ∷ with_id id items else with_id id items

-- how much an item takes that is skipped: a basic value, or a body after a length field, which has 32 bits
-- where only the shape that isn't known tells its width
abbrev pub Skips : WireType → List ℕ → Type 0
Skips (Basic size) bytes = length bytes ≡ byte_len (width_of size)
Skips OwnLength bytes = Framed W32 (λ body. Unit {0}) bytes
Skips (Length width) bytes = Framed width (λ body. Unit {0}) bytes

-- ---- forms and wire types

-- the width of the length field that a form has by itself; where it has none, W32 stands there and is not used
abbrev pub own_width : Form → Width
own_width (string encoding width) = width
own_width (array width most element) = width
own_width («struct» (Some width) fs) = width
own_width (tagged width ms) = width
own_width (union width type vs) = width
own_width (fixed (Some width) n element) = width
own_width (named n f) = own_width f
own_width (enumerated f labels) = own_width f
own_width bool = W32
own_width (padded encoding n) = W32
own_width (unsigned order size) = W32
own_width (signed order size) = W32
own_width (float order p) = W32
own_width (fixed None n element) = W32
own_width («struct» None fs) = W32

abbrev pub same_size : Size → Size → Bool
same_size S8 S8 = true
same_size S16 S16 = true
same_size S32 S32 = true
same_size S64 S64 = true
same_size S8 S16 = false
same_size S8 S32 = false
same_size S8 S64 = false
same_size S16 S8 = false
same_size S16 S32 = false
same_size S16 S64 = false
same_size S32 S8 = false
same_size S32 S16 = false
same_size S32 S64 = false
same_size S64 S8 = false
same_size S64 S16 = false
same_size S64 S32 = false

-- a basic value of this size stands after the tag
abbrev pub is_basic : Size → WireType → Bool
is_basic size (Basic s) = same_size size s
is_basic size OwnLength = false
is_basic size (Length width) = false

-- a length field stands after the tag
abbrev pub is_length : WireType → Bool
is_length (Basic size) = false
is_length OwnLength = true
is_length (Length width) = true

-- an item with a value of the form may have the wire type
abbrev pub has_wire_type : Form → WireType → Bool
has_wire_type bool t = is_basic S8 t
has_wire_type (unsigned order size) t = is_basic size t
has_wire_type (signed order size) t = is_basic size t
has_wire_type (float order p) t = is_basic (bits_size p) t
has_wire_type (string encoding width) t = is_length t
has_wire_type (array width most element) t = is_length t
has_wire_type («struct» (Some width) fs) t = is_length t
has_wire_type (union width type vs) t = is_length t
has_wire_type (fixed (Some width) n element) t = is_length t
has_wire_type (tagged width ms) t = is_length t
has_wire_type (named n f) t = has_wire_type f t
has_wire_type (enumerated f labels) t = has_wire_type f t
has_wire_type (padded encoding n) t = false
has_wire_type (fixed None n element) t = false
has_wire_type («struct» None fs) t = false

-- the width of the length field of a value in an item of the wire type
abbrev pub width_in : WireType → Form → Width
width_in (Length width) f = width
width_in OwnLength f = own_width f
width_in (Basic size) f = own_width f

-- the wire type with which an item is written; a form that can't be tagged has none, and what stands there is not used
abbrev pub wire_type_of : Form → WireType
wire_type_of bool = Basic S8
wire_type_of (unsigned order size) = Basic size
wire_type_of (signed order size) = Basic size
wire_type_of (float order p) = Basic (bits_size p)
wire_type_of (string encoding width) = Length width
wire_type_of (array width most element) = Length width
wire_type_of («struct» (Some width) fs) = Length width
wire_type_of (tagged width ms) = Length width
wire_type_of (named n f) = wire_type_of f
wire_type_of (enumerated f labels) = wire_type_of f
wire_type_of (padded encoding n) = OwnLength
wire_type_of (union width type vs) = Length width
wire_type_of (fixed (Some width) n element) = Length width
wire_type_of (fixed None n element) = OwnLength
wire_type_of («struct» None fs) = OwnLength

-- ---- what a tag's number says

-- the wire type of a number of three bits, by the standard's table
abbrev pub wire_type_in : ℕ → WireType
wire_type_in k =
    if k == 0 then Basic S8 else if k == 1 then Basic S16 else if k == 2 then Basic S32 else if k == 3 then Basic S64
    else if k == 4 then OwnLength else if k == 5 then Length W8 else if k == 6 then Length W16 else Length W32

-- the wire type and the Data ID that a tag says; its highest bit is reserved, and not looked at
abbrev pub tag_in : ℕ → Tag
tag_in n = record { wire_type = wire_type_in (n / 2 ^ 12 % 8); id = n % 2 ^ 12 }
