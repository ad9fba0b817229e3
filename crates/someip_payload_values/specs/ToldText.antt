-- Which texts say a value. The text of a float is told beside it, since many texts are read as the same float.
use Rattle.std.specs.Prelude.{◌≡◌, ℕ, Bool, true, false, ◌||◌, if◌then◌else◌, List, ◌++◌, codes, Option, Some, None, Result, IsOk}
use Rattle.std.specs.Fmt.{decimal, IsPlainFormatter, HasWritten}
use Rattle.std.specs.declared.fmt.Formatter.{Formatter}
use Rattle.std.specs.declared.fmt.Error.{Error}
use Rattle.someip_payload_values.specs.declared.value.Value.{Value}
use Rattle.someip_payload_values.specs.Data.{Form, bool, Forms, Members, Data, truth, uint, int, real, said, phrase, list, tuple, nothing, chosen, slotted, Items, no_items, item, Slots, no_slots, present, absent}
use Rattle.someip_payload_values.specs.Floats.{SaysBits}
use Rattle.someip_payload_values.specs.ValueText.{listed, data_text, element_texts, member_texts, slot_texts}
use Rattle.someip_payload_values.specs.View.{data_of}

unfoldable mutual
  -- the same value, with a text in place of each float, which says its bits
  pub IsToldOf : Data → Data → Type 0
  IsToldOf (truth b) (truth c) = b ≡ c
  IsToldOf (uint n) (uint m) = n ≡ m
  IsToldOf (int z) (int y) = z ≡ y
  IsToldOf (real p bits) (said text) = SaysBits p bits text
  IsToldOf (said s) (said text) = s ≡ text
  IsToldOf (phrase s) (phrase t) = s ≡ t
  IsToldOf (list ds) (list ts) = AreToldOf ds ts
  IsToldOf (tuple ds) (tuple ts) = AreToldOf ds ts
  IsToldOf nothing nothing = Unit {0}
  IsToldOf (chosen kind d) (chosen number t) = (kind ≡ number) × IsToldOf d t
  IsToldOf (slotted ss) (slotted ts) = AreSlotsToldOf ss ts
  IsToldOf _ _ = ⊥

  -- as many values, each told
  pub AreToldOf : Items → Items → Type 0
  AreToldOf no_items no_items = Unit {0}
  AreToldOf (item d ds) (item t ts) = IsToldOf d t × AreToldOf ds ts
  AreToldOf _ _ = ⊥

  -- the same members are present, each told
  pub AreSlotsToldOf : Slots → Slots → Type 0
  AreSlotsToldOf no_slots no_slots = Unit {0}
  AreSlotsToldOf (present d ss) (present t ts) = IsToldOf d t × AreSlotsToldOf ss ts
  AreSlotsToldOf (absent ss) (absent ts) = AreSlotsToldOf ss ts
  AreSlotsToldOf _ _ = ⊥

-- the text says the value as its form has it
abbrev pub SaysData : Form → Data → List ℕ → Type 0
SaysData f d text = (told : Data) × IsToldOf d told × (text ≡ data_text f told)

-- ---- parts of a text

-- the texts of elements, with commas between them
abbrev pub SaysElements : Form → Items → List ℕ → Type 0
SaysElements f ds text = (told : Items) × AreToldOf ds told × (text ≡ listed (element_texts f told))

-- the same of members, and of those of a tagged structure
abbrev pub SaysMembers : Forms → Items → List ℕ → Type 0
SaysMembers fs ds text = (told : Items) × AreToldOf ds told × (text ≡ listed (member_texts fs told))

abbrev pub SaysSlots : Members → Slots → List ℕ → Type 0
SaysSlots ms ss text = (told : Slots) × AreSlotsToldOf ss told × (text ≡ listed (slot_texts ms told))

-- a text of such a kind between two others
abbrev pub Between : List ℕ → List ℕ → (List ℕ → Type 0) → List ℕ → Type 0
Between before after P text = (inner : List ℕ) × P inner × (text ≡ before ++ (inner ++ after))

-- a text of such a kind after the type number of a variant
abbrev pub AfterNumber : ℕ → (List ℕ → Type 0) → List ℕ → Type 0
AfterNumber kind P text = (inner : List ℕ) × P inner × (text ≡ decimal kind ++ (codes ":" ++ inner))

-- if f is plain and r is `Ok`, then g is f after writing some text of this kind
abbrev pub WritesSome : {W : Type 0} → (W → List ℕ → W → Type 0) → Formatter W → Result (Unit {0}) Error → (List ℕ → Type 0) → Formatter W → Type 0
WritesSome took f r P g = IsPlainFormatter f → IsOk r → (text : List ℕ) × P text × HasWritten took f text g

-- ---- values without floats, of which the form alone tells the text

abbrev mutual
  pub has_float : Data → Bool
  has_float (real p bits) = true
  has_float (list ds) = have_float ds
  has_float (tuple ds) = have_float ds
  has_float (chosen kind d) = has_float d
  has_float (slotted ss) = slots_have_float ss
  has_float (truth b) = false
  has_float (uint n) = false
  has_float (int z) = false
  has_float (said text) = false
  has_float (phrase s) = false
  has_float nothing = false

  -- one of them has
  pub have_float : Items → Bool
  have_float no_items = false
  have_float (item d ds) = has_float d || have_float ds

  -- one of those that are present has
  pub slots_have_float : Slots → Bool
  slots_have_float no_slots = false
  slots_have_float (present d ss) = has_float d || slots_have_float ss
  slots_have_float (absent ss) = slots_have_float ss

-- the one text without names of a value that has no float
abbrev pub value_text : Value → Option (List ℕ)
value_text value = if has_float (data_of value) then None else Some (data_text bool (data_of value))
