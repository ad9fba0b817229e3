-- Which bytes are read as which value of a form. A number has its bytes in the order of its form, a body stands
-- after its length, members and elements follow each other, and items of a tagged structure stand in any order.
use Rattle.std.specs.Prelude.{◌≡◌, ℕ, ◌<◌, ◌≤◌, ◌^◌, ◌==◌, ◌||◌, ◌&&◌, Bool, true, false, List, [], ◌∷◌, ◌++◌, length, Some, None}
use Rattle.std.specs.Int.{cast_unsigned}
use Rattle.std.specs.Int.RustNames.{FitsSigned}
use Rattle.someip_payload_values.specs.declared.number.Size.TheVariants.{S8}
use Rattle.someip_payload_values.specs.declared.shape.Width.{Width}
use Rattle.someip_payload_values.specs.Data.{Form, bool, unsigned, signed, float, string, padded, array, fixed, «struct», union, tagged, named, enumerated, Forms, no_forms, form_then, Variants, no_variants, variant, Members, no_members, member_then, Data, truth, uint, int, real, phrase, list, tuple, nothing, chosen, slotted, Items, no_items, item, Slots, no_slots, present, absent, count}
use Rattle.someip_payload_values.specs.Floats.{bits_size}
use Rattle.someip_payload_values.specs.Numbers.{width_of, limit_of, size_of, number, number_in, typed, is_odd, Framed, Typed, Begins}
use Rattle.someip_payload_values.specs.Tags.{TaggedItem, items_bytes, with_id, Skips, own_width, has_wire_type, width_in}
use Rattle.someip_payload_codec.specs.Texts.{SpellsText, SpellsPadded}

-- one after the other, each of the same kind
abbrev pub Each : (Data → List ℕ → Type 0) → Items → List ℕ → Type 0
Each P no_items bytes = bytes ≡ []
Each P (item d ds) bytes = (first others : List ℕ) × (bytes ≡ first ++ others) × P d first × Each P ds others

-- the one fact if the test holds, else the other
abbrev pub Picks : Bool → Type 0 → Type 0 → Type 0
Picks true A B = A
Picks false A B = B

-- a member has the Data ID
abbrev pub is_member : ℕ → Members → Bool
is_member id no_members = false
is_member id (member_then n optional f ms) = (n == id) || is_member id ms

-- each item has a Data ID of 12 bits, and where no member has that one, the bytes after its tag can be skipped
abbrev pub SkipsOthers : Members → List TaggedItem → Type 0
SkipsOthers ms [] = Unit {0}
SkipsOthers ms (i ∷ items) = (i.id < 2 ^ 12) × (is_member i.id ms ≡ false → Skips i.wire_type i.bytes) × SkipsOthers ms items

-- each member that is absent is optional
abbrev pub has_required : Members → Slots → Bool
has_required no_members no_slots = true
has_required no_members (present d ss) = true
has_required no_members (absent ss) = true
has_required (member_then id optional f ms) no_slots = true
has_required (member_then id optional f ms) (present d ss) = has_required ms ss
has_required (member_then id optional f ms) (absent ss) = optional && has_required ms ss

unfoldable mutual
  -- these bytes are read as this value of the form, with a length field of that width where it has one
  pub ReadsBy : Width → Form → Data → List ℕ → Type 0
  ReadsBy width (named n f) d bytes = ReadsBy width f d bytes
  ReadsBy width (enumerated f labels) d bytes = ReadsBy width f d bytes
  ReadsBy width bool (truth b) bytes = (n : ℕ) × (n < 2 ^ 8) × (bytes ≡ number S8 n) × (b ≡ is_odd n)
  ReadsBy width (unsigned order size) (uint n) bytes = (n < limit_of size) × (bytes ≡ number_in order size n)
  ReadsBy width (signed order size) (int z) bytes = FitsSigned (width_of size) z × (bytes ≡ number_in order size (cast_unsigned (width_of size) z))
  ReadsBy width (float order p) (real own bits) bytes = (p ≡ own) × (bits < limit_of (bits_size p)) × (bytes ≡ number_in order (bits_size p) bits)
  ReadsBy width (string encoding own) (phrase s) bytes = Framed width (SpellsText encoding s) bytes
  ReadsBy width (padded encoding n) (phrase s) bytes = (length bytes ≡ n) × SpellsPadded encoding s bytes
  ReadsBy width (array own max element) (list ds) bytes = (count ds ≤ max) × Framed width (Each (ReadsBy (own_width element) element) ds) bytes
  ReadsBy width (fixed None n element) (list ds) bytes = (count ds ≡ n) × Each (ReadsBy (own_width element) element) ds bytes
  ReadsBy width (fixed (Some own) n element) (list ds) bytes = (count ds ≡ n) × Framed width (Begins (Each (ReadsBy (own_width element) element) ds)) bytes
  ReadsBy width («struct» None fs) (tuple ds) bytes = ReadsMembers fs ds bytes
  ReadsBy width («struct» (Some own) fs) (tuple ds) bytes = Framed width (Begins (ReadsMembers fs ds)) bytes
  ReadsBy width (union own type vs) nothing bytes = bytes ≡ typed width type 0 []
  ReadsBy width (union own type vs) (chosen kind d) bytes = (0 < kind) × (kind < limit_of (size_of type)) × Typed width type kind (Begins (ReadsVariant vs kind d)) bytes
  ReadsBy width (tagged own ms) (slotted ss) bytes =
      Framed width (λ body. (items : List TaggedItem) × (body ≡ items_bytes items) × ReadsItems ms ss items × SkipsOthers ms items) bytes × (has_required ms ss ≡ true)
  ReadsBy width _ _ bytes = ⊥

  pub ReadsMembers : Forms → Items → List ℕ → Type 0
  ReadsMembers no_forms no_items bytes = bytes ≡ []
  ReadsMembers (form_then f fs) (item d ds) bytes = (first others : List ℕ) × (bytes ≡ first ++ others) × ReadsBy (own_width f) f d first × ReadsMembers fs ds others
  ReadsMembers _ _ bytes = ⊥

  -- by the variant of that number
  pub ReadsVariant : Variants → ℕ → Data → List ℕ → Type 0
  ReadsVariant no_variants kind d bytes = ⊥
  ReadsVariant (variant n f vs) kind d bytes = Picks (n == kind) (ReadsBy (own_width f) f d bytes) (ReadsVariant vs kind d bytes)

  -- each member that is present has one item, which is read as its value, and each that is absent has none
  pub ReadsItems : Members → Slots → List TaggedItem → Type 0
  ReadsItems no_members no_slots items = Unit {0}
  ReadsItems (member_then id optional f ms) (present d ss) items =
      (i : TaggedItem) × (with_id id items ≡ i ∷ []) × (has_wire_type f i.wire_type ≡ true) × ReadsBy (width_in i.wire_type f) f d i.bytes × ReadsItems ms ss items
  ReadsItems (member_then id optional f ms) (absent ss) items = (with_id id items ≡ []) × ReadsItems ms ss items
  ReadsItems _ _ items = ⊥

-- these bytes are read as this value of the form
abbrev pub Reads : Form → Data → List ℕ → Type 0
Reads f = ReadsBy (own_width f) f
