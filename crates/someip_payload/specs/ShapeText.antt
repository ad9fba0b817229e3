-- The texts of shapes.
use Rattle.std.specs.Prelude.{◌≡◌, ℕ, ℤ, pos, negsuc, String, string_bytes, ◌+◌, ◌<◌, ◌≤◌, ◌^◌, ⊤, ◌⊎◌, max, nat_lt, if◌then◌else◌, Bool, true, false, List, [], ◌∷◌, ◌++◌, Option, Some, None, Result, Ok, Err, codes}
use Rattle.std.specs.Fmt.{decimal}
use Rattle.std.specs.declared.alloc.Global.{Global}
use Rattle.someip_payload_values.specs.Check.{is_first, is_later, is_name}
use Rattle.someip_payload_values.specs.Data.{Form, bool, unsigned, signed, float, u8, u16, u32, u64, i8, i16, i32, i64, string, padded, array, fixed, «struct», union, tagged, named, enumerated, Forms, no_forms, form_then, Variants, no_variants, variant, Members, no_members, member_then}
use Rattle.someip_payload_values.specs.View.{OneMember, form}
use Rattle.someip_payload_values.specs.Floats.{single, double}
use Rattle.someip_payload_values.specs.declared.number.Order.TheVariants.{Big, Little}
use Rattle.someip_payload_values.specs.declared.number.Size.TheVariants.{S16, S32, S64}
use Rattle.someip_payload_values.specs.declared.shape.Shape.{Shape}
use Rattle.someip_payload_values.specs.declared.shape.Encoding.TheVariants.{Utf8, Utf16}
use Rattle.someip_payload_values.specs.declared.shape.Width.{Width}
use Rattle.someip_payload_values.specs.declared.shape.Width.TheVariants.{W8, W16, W32}
use Rattle.someip_payload.specs.Named.{NamedForms, form_named}
use Rattle.someip_payload.specs.declared.shape_text_error.ShapeTextError.{ShapeTextError}
use Rattle.someip_payload.specs.declared.shape_text_error.ShapeTextError.TheVariants.{BadShape, OutOfMemory}

-- a width as it is written, or nothing
abbrev pub width_text : Option Width → List ℕ
width_text None = []
width_text (Some W8) = codes "/8"
width_text (Some W16) = codes "/16"
width_text (Some W32) = codes "/32"

-- the width that is meant where nothing is written
abbrev pub or_32 : Option Width → Width
or_32 None = W32
or_32 (Some w) = w

-- the widths of a union's length field and type field as they are written, or nothing
abbrev pub widths_text : Option (Width × Width) → List ℕ
widths_text None = []
widths_text (Some ws) = width_text (Some ws.0) ++ width_text (Some ws.1)

-- a union with these widths, or with those that are meant where nothing is written
abbrev pub union_of : Option (Width × Width) → Variants → Form
union_of None vs = union W32 W32 vs
union_of (Some ws) vs = union ws.0 ws.1 vs

-- a number in angle brackets
abbrev pub room_text : ℕ → List ℕ
room_text n = codes "<" ++ (decimal n ++ codes ">")

-- a number of repetitions, and what is repeated
abbrev pub repeated_text : ℕ → List ℕ → List ℕ
repeated_text n element = codes "<" ++ (decimal n ++ (codes "," ++ (element ++ codes ">")))

-- what marks a member that may be absent
abbrev pub mark_text : Bool → List ℕ
mark_text true = codes "?"
mark_text false = []

-- a member of a tagged structure: its Data ID, perhaps the mark, and the text of its form
abbrev pub tagged_member_text : ℕ → Bool → List ℕ → List ℕ
tagged_member_text id optional text = decimal id ++ (mark_text optional ++ (codes ":" ++ text))

-- a name as it is written, with a colon after it, or nothing
abbrev pub name_text : Option (List ℕ) → List ℕ
name_text None = []
name_text (Some n) = n ++ codes ":"

-- the form with the name, if there is one
abbrev pub with_name : Option (List ℕ) → Form → Form
with_name None f = f
with_name (Some n) f = named n f

-- it is a name, if there is one
abbrev pub IsNameIfAny : Option (List ℕ) → Type 0
IsNameIfAny None = ⊤
IsNameIfAny (Some n) = is_name n ≡ true

-- a value as it is written, without leading zeros
abbrev pub value_text : ℤ → List ℕ
value_text (pos n) = decimal n
value_text (negsuc n) = codes "-" ++ decimal (n + 1)

-- a value that some integer has
abbrev pub IsValue : ℤ → Type 0
IsValue (pos n) = n < 2 ^ 64
IsValue (negsuc n) = n < 2 ^ 63

-- a value and its name
abbrev pub IsTextOfLabel : ℤ × List ℕ → List ℕ → Type 0
IsTextOfLabel l text = IsValue l.0 × (is_name l.1 ≡ true) × (text ≡ value_text l.0 ++ (codes "=" ++ l.1))

-- values and their names, of which there is at least one, with commas between them
pub data IsTextOfLabels : List (ℤ × List ℕ) → List ℕ → Type 0 where
  last_label : (l : ℤ × List ℕ) (text : List ℕ) → IsTextOfLabel l text → IsTextOfLabels (l ∷ []) text
  next_label : (l : ℤ × List ℕ) (ls : List (ℤ × List ℕ)) (text others : List ℕ) → IsTextOfLabel l text → IsTextOfLabels ls others
      → IsTextOfLabels (l ∷ ls) (text ++ (codes "," ++ others))

-- the word of an integer
pub data IsInteger : Form → List ℕ → Type 0 where
  u8_text : IsInteger u8 (codes "u8")
  u16_text : IsInteger u16 (codes "u16")
  u32_text : IsInteger u32 (codes "u32")
  u64_text : IsInteger u64 (codes "u64")
  i8_text : IsInteger i8 (codes "i8")
  i16_text : IsInteger i16 (codes "i16")
  i32_text : IsInteger i32 (codes "i32")
  i64_text : IsInteger i64 (codes "i64")
  u16le_text : IsInteger (unsigned Little S16) (codes "u16le")
  u32le_text : IsInteger (unsigned Little S32) (codes "u32le")
  u64le_text : IsInteger (unsigned Little S64) (codes "u64le")
  i16le_text : IsInteger (signed Little S16) (codes "i16le")
  i32le_text : IsInteger (signed Little S32) (codes "i32le")
  i64le_text : IsInteger (signed Little S64) (codes "i64le")

-- the word of a float
pub data IsFloat : Form → List ℕ → Type 0 where
  f32_text : IsFloat (float Big single) (codes "f32")
  f64_text : IsFloat (float Big double) (codes "f64")
  f32le_text : IsFloat (float Little single) (codes "f32le")
  f64le_text : IsFloat (float Little double) (codes "f64le")

mutual
  -- the form has the text, in which a name after an `@` is a text of the form that it stands for. A number has 32 bits.
  pub data IsTextIn (names : NamedForms) : Form → List ℕ → Type 0 where
    bool_text : IsTextIn names bool (codes "bool")
    integer_text : (f : Form) (text : List ℕ) → IsInteger f text → IsTextIn names f text
    float_text : (f : Form) (text : List ℕ) → IsFloat f text → IsTextIn names f text
    enum_text : (f : Form) (word : List ℕ) (ls : List (ℤ × List ℕ)) (text : List ℕ) → IsInteger f word → IsTextOfLabels ls text
        → IsTextIn names (enumerated f ls) (word ++ (codes "{" ++ (text ++ codes "}")))
    utf8_text : (w : Option Width) → IsTextIn names (string Utf8 (or_32 w)) (codes "utf8" ++ width_text w)
    utf16_text : (w : Option Width) → IsTextIn names (string Utf16 (or_32 w)) (codes "utf16" ++ width_text w)
    utf8fix_text : (n : ℕ) → n < 2 ^ 32 → IsTextIn names (padded Utf8 n) (codes "utf8fix" ++ room_text n)
    utf16fix_text : (n : ℕ) → n < 2 ^ 32 → IsTextIn names (padded Utf16 n) (codes "utf16fix" ++ room_text n)
    array_text : (w : Option Width) (n : ℕ) (f : Form) (text : List ℕ) → n < 2 ^ 32 → IsTextIn names f text
        → IsTextIn names (array (or_32 w) n f) (codes "array" ++ (width_text w ++ repeated_text n text))
    fixed_text : (w : Option Width) (n : ℕ) (f : Form) (text : List ℕ) → n < 2 ^ 32 → IsTextIn names f text
        → IsTextIn names (fixed w n f) (codes "fixed" ++ (width_text w ++ repeated_text n text))
    struct_text : (w : Option Width) (fs : Forms) (text : List ℕ) → IsTextOfMembers names fs text
        → IsTextIn names («struct» w fs) (codes "struct" ++ (width_text w ++ (codes "(" ++ (text ++ codes ")"))))
    union_text : (ws : Option (Width × Width)) (vs : Variants) (text : List ℕ) → IsTextOfVariants names vs text
        → IsTextIn names (union_of ws vs) (codes "union" ++ (widths_text ws ++ (codes "(" ++ (text ++ codes ")"))))
    tagged_text : (w : Option Width) (ms : Members) (text : List ℕ) → IsTextOfTaggedMembers names ms text
        → IsTextIn names (tagged (or_32 w) ms) (codes "tagged" ++ (width_text w ++ (codes "(" ++ (text ++ codes ")"))))
    reference_text : (n : List ℕ) (f : Form) → is_name n ≡ true → form_named names n ≡ Some f → IsTextIn names f (codes "@" ++ n)

  -- a member of a structure: perhaps a name and a colon, and a form
  pub data IsTextOfMember (names : NamedForms) : Form → List ℕ → Type 0 where
    member_text : (name : Option (List ℕ)) (f : Form) (text : List ℕ) → IsNameIfAny name → IsTextIn names f text
        → IsTextOfMember names (with_name name f) (name_text name ++ text)

  -- members, of which there is at least one, with commas between them
  pub data IsTextOfMembers (names : NamedForms) : Forms → List ℕ → Type 0 where
    last_member : (f : Form) (text : List ℕ) → IsTextOfMember names f text → IsTextOfMembers names (form_then f no_forms) text
    next_member : (f : Form) (fs : Forms) (text others : List ℕ) → IsTextOfMember names f text → IsTextOfMembers names fs others
        → IsTextOfMembers names (form_then f fs) (text ++ (codes "," ++ others))

  -- variants, of which there is at least one, each after its type number, with commas between them
  pub data IsTextOfVariants (names : NamedForms) : Variants → List ℕ → Type 0 where
    last_variant : (n : ℕ) (f : Form) (text : List ℕ) → n < 2 ^ 32 → IsTextIn names f text → IsTextOfVariants names (variant n f no_variants) (decimal n ++ (codes ":" ++ text))
    next_variant : (n : ℕ) (f : Form) (vs : Variants) (text others : List ℕ) → n < 2 ^ 32 → IsTextIn names f text → IsTextOfVariants names vs others
        → IsTextOfVariants names (variant n f vs) ((decimal n ++ (codes ":" ++ text)) ++ (codes "," ++ others))

  -- a member of a tagged structure: perhaps a name and a colon, its Data ID, perhaps the mark, and a form. A Data ID has 12 bits.
  pub data IsTextOfTagged (names : NamedForms) : ℕ → Bool → Form → List ℕ → Type 0 where
    tagged_one : (name : Option (List ℕ)) (id : ℕ) (optional : Bool) (f : Form) (text : List ℕ) → IsNameIfAny name → id < 2 ^ 12 → IsTextIn names f text
        → IsTextOfTagged names id optional (with_name name f) (name_text name ++ tagged_member_text id optional text)

  -- members of a tagged structure, of which there is at least one, with commas between them
  pub data IsTextOfTaggedMembers (names : NamedForms) : Members → List ℕ → Type 0 where
    last_tagged : (id : ℕ) (optional : Bool) (f : Form) (text : List ℕ) → IsTextOfTagged names id optional f text
        → IsTextOfTaggedMembers names (member_then id optional f no_members) text
    next_tagged : (id : ℕ) (optional : Bool) (f : Form) (ms : Members) (text others : List ℕ) → IsTextOfTagged names id optional f text → IsTextOfTaggedMembers names ms others
        → IsTextOfTaggedMembers names (member_then id optional f ms) (text ++ (codes "," ++ others))

-- the form has the text, in which no names are used
abbrev pub IsTextOf : Form → List ℕ → Type 0
IsTextOf = IsTextIn []

-- a value and its name as a shape has them
abbrev pub one_label : ℤ × String Global → ℤ × List ℕ
one_label l = (l.0, string_bytes l.1)

-- a variant of a union: its type number and its form
pub record OneVariant : Type 0 where
  pub number : ℕ
  pub form : Form

abbrev pub one_variant : ℕ × Shape → OneVariant
one_variant v = record { number = v.0; form = form v.1 }

-- the text of one variant of a union
abbrev pub IsTextOfVariant : NamedForms → OneVariant → List ℕ → Type 0
IsTextOfVariant names v text = (shape : List ℕ) × (v.number < 2 ^ 32) × IsTextIn names v.form shape × (text ≡ decimal v.number ++ (codes ":" ++ shape))

-- the text of one member of a tagged structure
abbrev pub IsTextOfTaggedMember : NamedForms → OneMember → List ℕ → Type 0
IsTextOfTaggedMember names m text = IsTextOfTagged names m.id m.optional m.form text

-- a fault's place lies between two places; memory may run out at any
abbrev pub IsFaultWithin : ℕ → ℕ → ShapeTextError → Type 0
IsFaultWithin low high (BadShape place) = (low ≤ place) × (place ≤ high)
IsFaultWithin low high OutOfMemory = ⊤

-- a decimal digit
abbrev pub IsDigit : ℕ → Type 0
IsDigit b = (48 ≤ b) × (b < 58)

-- no width goes on here: the text does not begin with a slash
abbrev pub HasNoWidth : List ℕ → Type 0
HasNoWidth [] = ⊤
HasNoWidth (b ∷ rest) = b ≡ 47 → ⊥

-- a name begins here
abbrev pub begins_name : List ℕ → Bool
begins_name [] = false
begins_name (b ∷ rest) = is_first b

abbrev pub BeginsNoName : List ℕ → Type 0
BeginsNoName text = begins_name text ≡ false

-- a name ends here: no letter, digit or underscore goes on
abbrev pub EndsName : List ℕ → Type 0
EndsName [] = ⊤
EndsName (b ∷ rest) = is_later b ≡ false

-- a word ends here: no letter, digit or underscore goes on, and no colon
abbrev pub EndsWord : List ℕ → Type 0
EndsWord [] = ⊤
EndsWord (b ∷ rest) = (is_later b ≡ false) × (b ≡ 58 → ⊥)

-- a shape ends here: nothing follows, or a comma or a closing bracket
abbrev pub EndsShape : List ℕ → Type 0
EndsShape [] = ⊤
EndsShape (b ∷ rest) = (b ≡ 44) ⊎ ((b ≡ 41) ⊎ (b ≡ 62))

-- what was read, if neither it nor its fault ends before that place
abbrev pub reach : {X : Type 0} → ℕ → Result (X × ℕ) ShapeTextError → Result (X × ℕ) ShapeTextError
reach least (Ok x) = if nat_lt x.1 least then Err (BadShape least) else Ok x
reach least (Err (BadShape place)) = Err (BadShape (max place least))
reach least (Err OutOfMemory) = Err OutOfMemory

-- this was read, up to that place; memory may run out
abbrev pub IsReadTo : {X Y : Type 0} → (X → Y) → Y → ℕ → Result (X × ℕ) ShapeTextError → Type 0
IsReadTo view y end (Ok x) = (view x.0 ≡ y) × (x.1 ≡ end)
IsReadTo view y end (Err OutOfMemory) = ⊤
IsReadTo view y end (Err (BadShape place)) = ⊥

-- this was read; memory may run out
abbrev pub IsReadAs : {X Y : Type 0} → (X → Y) → Y → Result X ShapeTextError → Type 0
IsReadAs view y (Ok x) = view x ≡ y
IsReadAs view y (Err OutOfMemory) = ⊤
IsReadAs view y (Err (BadShape place)) = ⊥

-- this number and this were read, up to that place; memory may run out
abbrev pub IsRepeatedTo : {X Y : Type 0} → (X → Y) → ℕ → Y → ℕ → Result (ℕ × X × ℕ) ShapeTextError → Type 0
IsRepeatedTo view n y end (Ok x) = (x.0 ≡ n) × (view x.1 ≡ y) × (x.2 ≡ end)
IsRepeatedTo view n y end (Err OutOfMemory) = ⊤
IsRepeatedTo view n y end (Err (BadShape place)) = ⊥
