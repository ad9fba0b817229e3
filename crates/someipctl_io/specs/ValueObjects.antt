-- The JSON of a told value, which has a text in place of each float.
use Rattle.std.specs.Prelude.{⊤, ℕ, ◌<◌, ◌^◌, ℤ, pos, negsuc, Bool, true, false, ◌&&◌, if◌then◌else◌, List, [], ◌∷◌, codes, decimal, Option, Some, None}
use Rattle.std.specs.Ordering.{int_eq}
use Rattle.std.specs.Fmt.{signed_decimal}
use Rattle.json.specs.Json.{Json, null, boolean, number, string, array, object, Items, no_items, item, Members, no_members, member}
use Rattle.json.specs.Word.{after_number}
use Rattle.someip_payload_values.specs.Check.{name_in, has_members, has_tagged_members}
use Rattle.someip_payload_values.specs.Data as values
use Rattle.someip_payload_values.specs.Data.{Form, Forms, Data, truth, uint, int, real, said, phrase, list, tuple, nothing, chosen, slotted, Slots, no_slots, present, absent}
use Rattle.someip_payload_values.specs.ValueText.{labels_in, element_in, members_in, variants_in, tagged_in, variant_of, first_form, other_forms, first_member, other_members}

-- a number by its name, or as it is
abbrev pub number_json : List (ℤ × List ℕ) → ℤ → Json
number_json [] z = number (signed_decimal z)
number_json (l ∷ labels) z = if int_eq l.0 z then string l.1 else number_json labels z

-- nothing is left behind a number
abbrev pub is_whole : Option (List ℕ) → Bool
is_whole (Some []) = true
is_whole (Some (b ∷ bytes)) = false
is_whole None = false

-- the text of a float: a number where JSON has it, and else a text, as for a NaN and an infinity
abbrev pub float_json : List ℕ → Json
float_json text = if is_whole (after_number text) then number text else string text

-- the first of some names
abbrev pub first_name : List (List ℕ) → List ℕ
first_name [] = []
first_name (name ∷ names) = name

-- the key of a member, which is its name
abbrev pub key_in : Form → List ℕ
key_in f = first_name (name_in f)

abbrev pub has_name : List (List ℕ) → Bool
has_name [] = false
has_name (name ∷ names) = true

abbrev pub each_named : Forms → Bool
each_named values.no_forms = true
each_named (values.form_then f fs) = has_name (name_in f) && each_named fs

-- there are members, and each has a name
abbrev pub are_named : Forms → Bool
are_named fs = has_members fs && each_named fs

-- the same of a tagged structure
abbrev pub each_member_named : values.Members → Bool
each_member_named values.no_members = true
each_member_named (values.member_then id optional f ms) = has_name (name_in f) && each_member_named ms

abbrev pub are_members_named : values.Members → Bool
are_members_named ms = has_tagged_members ms && each_member_named ms

-- an object where members have keys, and else an array
abbrev pub structure : Bool → Members → Items → Json
structure true ms js = object ms
structure false ms js = array js

abbrev mutual
  pub value_json : Form → Data → Json
  value_json f (truth b) = boolean b
  value_json f (uint n) = number_json (labels_in f) (pos n)
  value_json f (int z) = number_json (labels_in f) z
  value_json f (real p bits) = null
  value_json f (said text) = float_json text
  value_json f (phrase text) = string text
  value_json f (list ds) = array (element_items (element_in f) ds)
  value_json f (tuple ds) = structure (are_named (members_in f)) (named_members (members_in f) ds) (member_items (members_in f) ds)
  value_json f nothing = null
  value_json f (chosen kind d) =
      object (member (codes "variant") (number (decimal kind)) (member (codes "value") (value_json (variant_of kind (variants_in f)) d) no_members))
  value_json f (slotted ss) = structure (are_members_named (tagged_in f)) (named_slots (tagged_in f) ss) (slot_items (tagged_in f) ss)

  -- elements
  pub element_items : Form → values.Items → Items
  element_items f values.no_items = no_items
  element_items f (values.item d ds) = item (value_json f d) (element_items f ds)

  -- members under their names
  pub named_members : Forms → values.Items → Members
  named_members fs values.no_items = no_members
  named_members fs (values.item d ds) = member (key_in (first_form fs)) (value_json (first_form fs) d) (named_members (other_forms fs) ds)

  -- members in order
  pub member_items : Forms → values.Items → Items
  member_items fs values.no_items = no_items
  member_items fs (values.item d ds) = item (value_json (first_form fs) d) (member_items (other_forms fs) ds)

  -- the members of a tagged structure under their names; what is absent is null
  pub named_slots : values.Members → Slots → Members
  named_slots ms no_slots = no_members
  named_slots ms (present d ss) = member (key_in (first_member ms)) (value_json (first_member ms) d) (named_slots (other_members ms) ss)
  named_slots ms (absent ss) = member (key_in (first_member ms)) null (named_slots (other_members ms) ss)

  -- the same in order
  pub slot_items : values.Members → Slots → Items
  slot_items ms no_slots = no_items
  slot_items ms (present d ss) = item (value_json (first_member ms) d) (slot_items (other_members ms) ss)
  slot_items ms (absent ss) = item null (slot_items (other_members ms) ss)

-- ---- numbers

-- a signed number has 64 bits
abbrev pub FitsSigned : ℤ → Type 0
FitsSigned (pos n) = n < 2 ^ 63
FitsSigned (negsuc n) = n < 2 ^ 63

-- each number of a value has 64 bits
abbrev mutual
  pub FitIn64 : Data → Type 0
  FitIn64 (truth b) = ⊤
  FitIn64 (uint n) = n < 2 ^ 64
  FitIn64 (int z) = FitsSigned z
  FitIn64 (real p bits) = ⊤
  FitIn64 (said text) = ⊤
  FitIn64 (phrase text) = ⊤
  FitIn64 (list ds) = ItemsFitIn64 ds
  FitIn64 (tuple ds) = ItemsFitIn64 ds
  FitIn64 nothing = ⊤
  FitIn64 (chosen kind d) = (kind < 2 ^ 64) × FitIn64 d
  FitIn64 (slotted ss) = SlotsFitIn64 ss

  pub ItemsFitIn64 : values.Items → Type 0
  ItemsFitIn64 values.no_items = ⊤
  ItemsFitIn64 (values.item d ds) = FitIn64 d × ItemsFitIn64 ds

  pub SlotsFitIn64 : Slots → Type 0
  SlotsFitIn64 no_slots = ⊤
  SlotsFitIn64 (present d ss) = FitIn64 d × SlotsFitIn64 ss
  SlotsFitIn64 (absent ss) = SlotsFitIn64 ss
