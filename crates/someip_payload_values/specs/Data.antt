-- Forms, which are shapes without where they lie in memory, and data, which are values without.
use Rattle.std.specs.Prelude.{ℕ, ◌+◌, ℤ, Bool, List, Option}
use Rattle.someip_payload_values.specs.declared.number.Order.{Order}
use Rattle.someip_payload_values.specs.declared.number.Order.TheVariants.{Big}
use Rattle.someip_payload_values.specs.declared.number.Size.{Size}
use Rattle.someip_payload_values.specs.declared.number.Size.TheVariants.{S8, S16, S32, S64}
use Rattle.someip_payload_values.specs.declared.shape.Width.{Width}
use Rattle.someip_payload_values.specs.declared.shape.Encoding.{Encoding}
use Rattle.someip_payload_values.specs.Floats.{Precision}

mutual
  pub data Form : Type 0 where
    bool : Form
    unsigned : Order → Size → Form
    signed : Order → Size → Form
    float : Order → Precision → Form
    string : Encoding → Width → Form
    -- a text in exactly so many bytes
    padded : Encoding → ℕ → Form
    array : Width → ℕ → Form → Form
    -- exactly so many elements, perhaps after a length field
    fixed : Option Width → ℕ → Form → Form
    «struct» : Option Width → Forms → Form
    -- with the widths of its length field and of its type field
    union : Width → Width → Variants → Form
    tagged : Width → Members → Form
    -- a form with a name, which a member of a structure has
    named : List ℕ → Form → Form
    -- an integer with names for some of its values
    enumerated : Form → List (ℤ × List ℕ) → Form

  -- the members of a structure
  pub data Forms : Type 0 where
    no_forms : Forms
    form_then : Form → Forms → Forms

  -- the variants of a union, each with its type number
  pub data Variants : Type 0 where
    no_variants : Variants
    variant : ℕ → Form → Variants → Variants

  -- the members of a tagged structure, each with its Data ID and whether it may be absent
  pub data Members : Type 0 where
    no_members : Members
    member_then : ℕ → Bool → Form → Members → Members

-- numbers by their names, each from its highest byte on
abbrev pub u8 : Form
u8 = unsigned Big S8

abbrev pub u16 : Form
u16 = unsigned Big S16

abbrev pub u32 : Form
u32 = unsigned Big S32

abbrev pub u64 : Form
u64 = unsigned Big S64

abbrev pub i8 : Form
i8 = signed Big S8

abbrev pub i16 : Form
i16 = signed Big S16

abbrev pub i32 : Form
i32 = signed Big S32

abbrev pub i64 : Form
i64 = signed Big S64

mutual
  -- a text is its bytes in UTF-8, and a float its bits
  pub data Data : Type 0 where
    truth : Bool → Data
    uint : ℕ → Data
    int : ℤ → Data
    real : Precision → ℕ → Data
    -- a text that stands in place of a float where a value is told; no value has one
    said : List ℕ → Data
    phrase : List ℕ → Data
    list : Items → Data
    tuple : Items → Data
    nothing : Data
    chosen : ℕ → Data → Data
    slotted : Slots → Data

  pub data Items : Type 0 where
    no_items : Items
    item : Data → Items → Items

  -- the members of a tagged structure in its order, of which some may be absent
  pub data Slots : Type 0 where
    no_slots : Slots
    present : Data → Slots → Slots
    absent : Slots → Slots

-- how many there are
abbrev pub count : Items → ℕ
count no_items = 0
count (item d ds) = count ds + 1
