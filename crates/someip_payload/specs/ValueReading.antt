-- Which texts say a value of a form: what is printed of it, and with it: any decimal of a float, a number in place of its
-- name, and members without their names.
use Rattle.std.specs.Prelude.{◌≡◌, ℕ, ℤ, pos, negsuc, ◌+◌, ◌/◌, ◌%◌, ◌<◌, ◌^◌, nat_lt, ◌⊎◌, ◌==◌, ◌||◌, ◌≤◌, Bool, true, false, List, [], ◌∷◌, ◌++◌, codes, Option, Some, None, Result, Ok, Err, ⊤, is_nan, if◌then◌else◌}
use Rattle.std.specs.Bool.{MatchBool}
use Rattle.std.specs.List.{list_all, flat_map}
use Rattle.std.specs.Fmt.{decimal, signed_decimal}
use Rattle.std.specs.Str.{bytes_eq, is_utf8}
use Rattle.std.specs.Float.Ieee.{Float, to_bits, nan_bits}
use Rattle.fast_float.specs.Parse.{parse_float}
use Rattle.someip_payload_values.specs.Check.{is_first, is_later, name_in}
use Rattle.someip_payload_values.specs.Data.{Form, bool, unsigned, signed, float, string, padded, array, fixed, «struct», union, tagged, named, enumerated, Forms, no_forms, form_then, Variants, no_variants, variant, Members, no_members, member_then, Data, truth, uint, int, real, phrase, list, tuple, nothing, chosen, slotted, Items, no_items, item, Slots, no_slots, present, absent}
use Rattle.someip_payload_values.specs.Floats.{Precision, format_of, bits_size, nan_text}
use Rattle.someip_payload_values.specs.Numbers.{limit_of}
use Rattle.someip_payload_values.specs.ValueText.{listed}
use Rattle.someip_payload_values.specs.declared.value.Value.{Value}
use Rattle.someip_payload_values.specs.View.{data_of}
use Rattle.someip_payload.specs.declared.value_text_error.ValueTextError.{ValueTextError}
use Rattle.someip_payload.specs.declared.value_text_error.ValueTextError.TheVariants.{BadValue, OutOfMemory}

-- ---- words and numbers

-- a byte of a word or of a number: a letter, a digit, an underscore, a sign or a point
abbrev pub is_plain : ℕ → Bool
is_plain b = is_later b || ((b == 43) || ((b == 45) || (b == 46)))

-- the value that has this name, the first one if there are several
unfoldable pub labelled : List (ℤ × List ℕ) → List ℕ → Option ℤ
labelled [] t = None
labelled (l ∷ ls) t = if bytes_eq l.1 t then Some l.0 else labelled ls t

-- a word begins with a letter or an underscore
abbrev pub begins_word : List ℕ → Bool
begins_word [] = false
begins_word (b ∷ bs) = is_first b

-- a word: a letter or an underscore, then bytes of words and numbers
abbrev pub IsWord : List ℕ → Type 0
IsWord text = (begins_word text ≡ true) × (list_all is_plain text ≡ true)

-- the number as it is, or a name of which it is the first value
abbrev pub SaysNumber : List (ℤ × List ℕ) → ℤ → List ℕ → Type 0
SaysNumber ls z text = (text ≡ signed_decimal z) ⊎ (IsWord text × (labelled ls text ≡ Some z))

-- a number has 64 bits
abbrev pub IsLong : ℤ → Type 0
IsLong (pos n) = n < 2 ^ 63
IsLong (negsuc n) = n < 2 ^ 63

abbrev pub IsTextOfUnsigned : List (ℤ × List ℕ) → Data → List ℕ → Type 0
IsTextOfUnsigned ls d text = (n : ℕ) × (d ≡ uint n) × (n < 2 ^ 64) × SaysNumber ls (pos n) text

abbrev pub IsTextOfSigned : List (ℤ × List ℕ) → Data → List ℕ → Type 0
IsTextOfSigned ls d text = (z : ℤ) × (d ≡ int z) × IsLong z × SaysNumber ls z text

-- an integer with names for some of its values
abbrev pub IsTextOfEnum : Form → List (ℤ × List ℕ) → Data → List ℕ → Type 0
IsTextOfEnum (unsigned order size) ls d text = IsTextOfUnsigned ls d text
IsTextOfEnum (signed order size) ls d text = IsTextOfSigned ls d text
IsTextOfEnum _ ls d text = ⊥

-- the bits of a NaN, or a decimal or a word for an infinity, of which the float is the nearest one
abbrev pub IsTextOfBits : Precision → ℕ → List ℕ → Type 0
IsTextOfBits p bits text =
    ((nan_bits (format_of p) bits ≡ true) × (bits < limit_of (bits_size p)) × (text ≡ nan_text p bits))
    ⊎ ((x : Float) × (parse_float (format_of p) text ≡ Some x) × (is_nan x ≡ false) × (bits ≡ to_bits (format_of p) x))

abbrev pub IsTextOfFloat : Precision → Data → List ℕ → Type 0
IsTextOfFloat p d text = (bits : ℕ) × (d ≡ real p bits) × IsTextOfBits p bits text

abbrev pub truth_text : Bool → List ℕ
truth_text true = codes "true"
truth_text false = codes "false"

-- ---- texts

-- a digit of hex, and a number in hex below 256
abbrev pub hex_digit : ℕ → ℕ
hex_digit d = if nat_lt d 10 then 48 + d else 87 + d

abbrev pub hex_text : ℕ → List ℕ
hex_text b = if nat_lt b 16 then hex_digit b ∷ [] else hex_digit (b / 16) ∷ hex_digit (b % 16) ∷ []

-- a control character of ASCII
abbrev pub is_control : ℕ → Bool
is_control b = nat_lt b 32 || (b == 127)

-- a byte between quotes: a quote and a backslash stand after a backslash, and a control character of ASCII is written by
-- its number
abbrev pub escaped_byte : ℕ → List ℕ
escaped_byte b = if b == 34 || b == 92 then 92 ∷ b ∷ []
    else if is_control b then codes "\\u{" ++ (hex_text b ++ codes "}")
    else b ∷ []

-- a text between quotes
abbrev pub IsTextOfPhrase : Data → List ℕ → Type 0
IsTextOfPhrase d text = (s : List ℕ) × (d ≡ phrase s) × (is_utf8 s ≡ true) × (text ≡ codes "\"" ++ (flat_map escaped_byte s ++ codes "\""))

-- ---- values

-- a text of each element
abbrev pub AreTextsOfElements : (Data → List ℕ → Type 0) → Items → List (List ℕ) → Type 0
AreTextsOfElements IsText no_items [] = ⊤
AreTextsOfElements IsText (item d ds) (t ∷ ts) = IsText d t × AreTextsOfElements IsText ds ts
AreTextsOfElements IsText no_items (t ∷ ts) = ⊥
AreTextsOfElements IsText (item d ds) [] = ⊥

-- nothing, or the member's name with a sign after it
abbrev pub IsNameOf : List (List ℕ) → List ℕ → Type 0
IsNameOf [] text = text ≡ []
IsNameOf (n ∷ ns) text = (text ≡ []) ⊎ ((list_all is_plain n ≡ true) × (text ≡ n ++ codes "="))

-- a value behind its member's name, which may be left out
abbrev pub IsTextOfMember : List (List ℕ) → (List ℕ → Type 0) → List ℕ → Type 0
IsTextOfMember names IsText text = (name own : List ℕ) × IsNameOf names name × IsText own × (text ≡ name ++ own)

abbrev mutual
  pub IsTextOfValue : Form → Data → List ℕ → Type 0
  IsTextOfValue (named n f) d text = IsTextOfValue f d text
  IsTextOfValue (enumerated f ls) d text = IsTextOfEnum f ls d text
  IsTextOfValue bool d text = (b : Bool) × (d ≡ truth b) × (text ≡ truth_text b)
  IsTextOfValue (unsigned order size) d text = IsTextOfUnsigned [] d text
  IsTextOfValue (signed order size) d text = IsTextOfSigned [] d text
  IsTextOfValue (float order p) d text = IsTextOfFloat p d text
  IsTextOfValue (string encoding width) d text = IsTextOfPhrase d text
  IsTextOfValue (padded encoding n) d text = IsTextOfPhrase d text
  IsTextOfValue (array width most element) d text =
      (ds : Items) × (ts : List (List ℕ)) × (d ≡ list ds) × AreTextsOfElements (IsTextOfValue element) ds ts × (text ≡ codes "[" ++ (listed ts ++ codes "]"))
  IsTextOfValue (fixed width n element) d text =
      (ds : Items) × (ts : List (List ℕ)) × (d ≡ list ds) × AreTextsOfElements (IsTextOfValue element) ds ts × (text ≡ codes "[" ++ (listed ts ++ codes "]"))
  IsTextOfValue («struct» width fs) d text = (ds : Items) × (ts : List (List ℕ)) × (d ≡ tuple ds) × AreTextsOfMembers fs ds ts × (text ≡ codes "(" ++ (listed ts ++ codes ")"))
  IsTextOfValue (union width type vs) d text =
      ((d ≡ nothing) × (text ≡ codes "none"))
      ⊎ ((kind : ℕ) × (value : Data) × (own : List ℕ) × (kind < 2 ^ 64) × (d ≡ chosen kind value) × IsTextOfVariant vs kind value own × (text ≡ decimal kind ++ (codes ":" ++ own)))
  IsTextOfValue (tagged width ms) d text = (ss : Slots) × (ts : List (List ℕ)) × (d ≡ slotted ss) × AreTextsOfSlots ms ss ts × (text ≡ codes "{" ++ (listed ts ++ codes "}"))

  -- a text of each member
  pub AreTextsOfMembers : Forms → Items → List (List ℕ) → Type 0
  AreTextsOfMembers no_forms no_items [] = ⊤
  AreTextsOfMembers (form_then f fs) (item d ds) (t ∷ ts) = IsTextOfMember (name_in f) (IsTextOfValue f d) t × AreTextsOfMembers fs ds ts
  AreTextsOfMembers _ _ _ = ⊥

  -- by the variant of that number
  pub IsTextOfVariant : Variants → ℕ → Data → List ℕ → Type 0
  IsTextOfVariant no_variants kind d text = ⊥
  IsTextOfVariant (variant n f vs) kind d text = MatchBool (n == kind) (IsTextOfValue f d text) (IsTextOfVariant vs kind d text)

  -- the same of members of a tagged structure, with a dash for one that is absent
  pub AreTextsOfSlots : Members → Slots → List (List ℕ) → Type 0
  AreTextsOfSlots no_members no_slots [] = ⊤
  AreTextsOfSlots (member_then id optional f ms) (present d ss) (t ∷ ts) = IsTextOfMember (name_in f) (IsTextOfValue f d) t × AreTextsOfSlots ms ss ts
  AreTextsOfSlots (member_then id optional f ms) (absent ss) (t ∷ ts) = IsTextOfMember (name_in f) (λ own. own ≡ codes "-") t × AreTextsOfSlots ms ss ts
  AreTextsOfSlots _ _ _ = ⊥

-- ---- what reading answers

-- a fault's place lies in the text or at its end; memory may run out at any
abbrev pub IsPlaceWithin : ℕ → ValueTextError → Type 0
IsPlaceWithin most (BadValue place) = place ≤ most
IsPlaceWithin most OutOfMemory = ⊤

-- this was read, unless memory ran out
abbrev pub IsReadAsValue : Data → Result Value ValueTextError → Type 0
IsReadAsValue d (Ok value) = data_of value ≡ d
IsReadAsValue d (Err OutOfMemory) = ⊤
IsReadAsValue d (Err (BadValue place)) = ⊥

-- ---- what is printed

-- each of them is
abbrev pub AreOfForm : (Data → Type 0) → Items → Type 0
AreOfForm IsOf no_items = ⊤
AreOfForm IsOf (item d ds) = IsOf d × AreOfForm IsOf ds

abbrev mutual
  -- the value is one of the form in its kind: what is decoded is, and what is encoded
  pub IsOfForm : Form → Data → Type 0
  IsOfForm (named n f) d = IsOfForm f d
  IsOfForm (enumerated f ls) d = IsOfForm f d
  IsOfForm bool d = (b : Bool) × (d ≡ truth b)
  IsOfForm (unsigned order size) d = (n : ℕ) × (d ≡ uint n) × (n < 2 ^ 64)
  IsOfForm (signed order size) d = (z : ℤ) × (d ≡ int z) × IsLong z
  IsOfForm (float order p) d = (bits : ℕ) × (d ≡ real p bits) × (bits < limit_of (bits_size p))
  IsOfForm (string encoding width) d = (s : List ℕ) × (d ≡ phrase s) × (is_utf8 s ≡ true)
  IsOfForm (padded encoding n) d = (s : List ℕ) × (d ≡ phrase s) × (is_utf8 s ≡ true)
  IsOfForm (array width most element) d = (ds : Items) × (d ≡ list ds) × AreOfForm (IsOfForm element) ds
  IsOfForm (fixed width n element) d = (ds : Items) × (d ≡ list ds) × AreOfForm (IsOfForm element) ds
  IsOfForm («struct» width fs) d = (ds : Items) × (d ≡ tuple ds) × AreMembers fs ds
  IsOfForm (union width type vs) d = (d ≡ nothing) ⊎ ((kind : ℕ) × (value : Data) × (d ≡ chosen kind value) × (kind < 2 ^ 64) × IsOfVariant vs kind value)
  IsOfForm (tagged width ms) d = (ss : Slots) × (d ≡ slotted ss) × AreSlots ms ss

  pub AreMembers : Forms → Items → Type 0
  AreMembers no_forms no_items = ⊤
  AreMembers (form_then f fs) (item d ds) = IsOfForm f d × AreMembers fs ds
  AreMembers _ _ = ⊥

  pub IsOfVariant : Variants → ℕ → Data → Type 0
  IsOfVariant no_variants kind d = ⊥
  IsOfVariant (variant n f vs) kind d = MatchBool (n == kind) (IsOfForm f d) (IsOfVariant vs kind d)

  pub AreSlots : Members → Slots → Type 0
  AreSlots no_members no_slots = ⊤
  AreSlots (member_then id optional f ms) (present d ss) = IsOfForm f d × AreSlots ms ss
  AreSlots (member_then id optional f ms) (absent ss) = AreSlots ms ss
  AreSlots _ _ = ⊥
