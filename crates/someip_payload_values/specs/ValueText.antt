-- The text of a value, as its form has it.
use Rattle.std.specs.Prelude.{ℕ, ℤ, pos, ◌==◌, ◌||◌, false, nat_lt, if◌then◌else◌, List, [], ◌∷◌, ◌++◌, Option, Some, None, codes}
use Rattle.std.specs.Ordering.{int_eq}
use Rattle.std.specs.List.{flat_map}
use Rattle.std.specs.Str.{chars}
use Rattle.std.specs.Char.{encode_utf8}
use Rattle.std.specs.Fmt.{decimal, signed_decimal, digits}
use Rattle.someip_payload_values.specs.Data.{Form, bool, unsigned, signed, float, string, padded, array, fixed, «struct», union, tagged, named, enumerated, Forms, no_forms, form_then, Variants, no_variants, variant, Members, no_members, member_then, Data, truth, uint, int, real, said, phrase, list, tuple, nothing, chosen, slotted, Items, no_items, item, Slots, no_slots, present, absent}
use Rattle.someip_payload_values.specs.Check.{name_in}

-- a character between quotes: a quote and a backslash stand after a backslash, and a control
-- character of ASCII is written by its number
abbrev pub escaped : ℕ → List ℕ
escaped c = if c == 34 || c == 92 then 92 ∷ encode_utf8 c
    else if nat_lt c 32 || c == 127 then codes "\\u{" ++ (digits 16 false c ++ codes "}")
    else encode_utf8 c

-- a text between quotes
abbrev pub quoted : List ℕ → List ℕ
quoted bs = codes "\"" ++ (flat_map escaped (chars bs) ++ codes "\"")

abbrev pub behind_comma : List ℕ → List ℕ
behind_comma text = codes "," ++ text

-- texts with commas between them
abbrev pub listed : List (List ℕ) → List ℕ
listed [] = []
listed (text ∷ texts) = text ++ flat_map behind_comma texts

-- ---- what a form says of the text of a value

-- the names of an integer form's values
abbrev pub labels_in : Form → List (ℤ × List ℕ)
labels_in (named n f) = labels_in f
labels_in (enumerated f labels) = labels
labels_in bool = []
labels_in (unsigned order size) = []
labels_in (signed order size) = []
labels_in (float order p) = []
labels_in (string encoding width) = []
labels_in (padded encoding n) = []
labels_in (array width most element) = []
labels_in (fixed width n element) = []
labels_in («struct» width fs) = []
labels_in (union width type vs) = []
labels_in (tagged width ms) = []

-- the form of each element; where a form has none, bool stands there, which says nothing
abbrev pub element_in : Form → Form
element_in (named n f) = element_in f
element_in (array width most element) = element
element_in (fixed width n element) = element
element_in (enumerated f labels) = bool
element_in bool = bool
element_in (unsigned order size) = bool
element_in (signed order size) = bool
element_in (float order p) = bool
element_in (string encoding width) = bool
element_in (padded encoding n) = bool
element_in («struct» width fs) = bool
element_in (union width type vs) = bool
element_in (tagged width ms) = bool

-- the members of a structure
abbrev pub members_in : Form → Forms
members_in (named n f) = members_in f
members_in («struct» width fs) = fs
members_in (array width most element) = no_forms
members_in (fixed width n element) = no_forms
members_in (enumerated f labels) = no_forms
members_in bool = no_forms
members_in (unsigned order size) = no_forms
members_in (signed order size) = no_forms
members_in (float order p) = no_forms
members_in (string encoding width) = no_forms
members_in (padded encoding n) = no_forms
members_in (union width type vs) = no_forms
members_in (tagged width ms) = no_forms

-- the variants of a union
abbrev pub variants_in : Form → Variants
variants_in (named n f) = variants_in f
variants_in (union width type vs) = vs
variants_in («struct» width fs) = no_variants
variants_in (array width most element) = no_variants
variants_in (fixed width n element) = no_variants
variants_in (enumerated f labels) = no_variants
variants_in bool = no_variants
variants_in (unsigned order size) = no_variants
variants_in (signed order size) = no_variants
variants_in (float order p) = no_variants
variants_in (string encoding width) = no_variants
variants_in (padded encoding n) = no_variants
variants_in (tagged width ms) = no_variants

-- the members of a tagged structure
abbrev pub tagged_in : Form → Members
tagged_in (named n f) = tagged_in f
tagged_in (tagged width ms) = ms
tagged_in (union width type vs) = no_members
tagged_in («struct» width fs) = no_members
tagged_in (array width most element) = no_members
tagged_in (fixed width n element) = no_members
tagged_in (enumerated f labels) = no_members
tagged_in bool = no_members
tagged_in (unsigned order size) = no_members
tagged_in (signed order size) = no_members
tagged_in (float order p) = no_members
tagged_in (string encoding width) = no_members
tagged_in (padded encoding n) = no_members

-- the form of the variant with that number
abbrev pub variant_of : ℕ → Variants → Form
variant_of kind no_variants = bool
variant_of kind (variant n f vs) = if n == kind then f else variant_of kind vs

-- a member's name, with a sign after it
abbrev pub name_text : Form → List ℕ
name_text f = flat_map (λ n. n ++ codes "=") (name_in f)

-- a number by its name, or as it is
abbrev pub number_said : List (ℤ × List ℕ) → ℤ → List ℕ
number_said [] z = signed_decimal z
number_said (l ∷ labels) z = if int_eq l.0 z then l.1 else number_said labels z

-- ---- the text

-- the form, or where there is none, bool, which says nothing
abbrev pub or_bool : Option Form → Form
or_bool None = bool
or_bool (Some f) = f

-- the form of the first of what is left of the members; where there is none, bool, which says nothing
abbrev pub first_form : Forms → Form
first_form no_forms = bool
first_form (form_then f fs) = f

abbrev pub other_forms : Forms → Forms
other_forms no_forms = no_forms
other_forms (form_then f fs) = fs

abbrev pub first_member : Members → Form
first_member no_members = bool
first_member (member_then id optional f ms) = f

abbrev pub other_members : Members → Members
other_members no_members = no_members
other_members (member_then id optional f ms) = ms

unfoldable mutual
  -- the text of a told value as its form has it: members with their names, and numbers by theirs. A float has no
  -- text of its own, so a told value has one in its place.
  pub data_text : Form → Data → List ℕ
  data_text f (truth b) = if b then codes "true" else codes "false"
  data_text f (uint n) = number_said (labels_in f) (pos n)
  data_text f (int z) = number_said (labels_in f) z
  data_text f (real p bits) = []
  data_text f (said text) = text
  data_text f (phrase s) = quoted s
  data_text f (list ds) = codes "[" ++ (listed (element_texts (element_in f) ds) ++ codes "]")
  data_text f (tuple ds) = codes "(" ++ (listed (member_texts (members_in f) ds) ++ codes ")")
  data_text f nothing = codes "none"
  data_text f (chosen kind d) = decimal kind ++ (codes ":" ++ data_text (variant_of kind (variants_in f)) d)
  data_text f (slotted ss) = codes "{" ++ (listed (slot_texts (tagged_in f) ss) ++ codes "}")

  pub element_texts : Form → Items → List (List ℕ)
  element_texts f no_items = []
  element_texts f (item d ds) = data_text f d ∷ element_texts f ds

  -- each member behind its name, where it has one
  pub member_texts : Forms → Items → List (List ℕ)
  member_texts fs no_items = []
  member_texts fs (item d ds) = (name_text (first_form fs) ++ data_text (first_form fs) d) ∷ member_texts (other_forms fs) ds

  -- the same of a tagged structure, with a dash for a member that is absent
  pub slot_texts : Members → Slots → List (List ℕ)
  slot_texts ms no_slots = []
  slot_texts ms (present d ss) = (name_text (first_member ms) ++ data_text (first_member ms) d) ∷ slot_texts (other_members ms) ss
  slot_texts ms (absent ss) = (name_text (first_member ms) ++ codes "-") ∷ slot_texts (other_members ms) ss

-- ---- parts that are printed

-- a member that is present or absent
abbrev pub slot_text : Form → Option Data → List ℕ
slot_text f None = name_text f ++ codes "-"
slot_text f (Some d) = name_text f ++ data_text f d

-- what stands before the text at an index: a comma, but before the first
abbrev pub comma_before : ℕ → List ℕ
comma_before i = if i == 0 then [] else codes ","

-- texts that stand at this index and after it, with commas
abbrev pub listed_from : ℕ → List (List ℕ) → List ℕ
listed_from i texts = if i == 0 then listed texts else flat_map behind_comma texts
