-- Which forms can be read and written.
use Rattle.std.specs.Prelude.{◌≡◌, ℕ, ℤ, pos, negsuc, ◌+◌, ◌%◌, ◌^◌, max, Bool, true, false, not, ◌&&◌, ◌||◌, ◌==◌, nat_lt, nat_le, int_lt, if◌then◌else◌, List, [], ◌∷◌, ◌++◌, length, map, Option, Some, None, Result, Ok, Err}
use Rattle.std.specs.List.{list_all, list_any}
use Rattle.std.specs.Str.{bytes_eq}
use Rattle.someip_payload_values.specs.declared.error.PayloadError.{PayloadError}
use Rattle.someip_payload_values.specs.declared.error.PayloadError.TheVariants as errors
use Rattle.someip_payload_values.specs.declared.error.PayloadError.TheVariants.{TooDeep, BadShape}
use Rattle.someip_payload_values.specs.declared.shape.Width.{Width}
use Rattle.someip_payload_values.specs.declared.shape.Encoding.{Encoding}
use Rattle.someip_payload_values.specs.declared.shape.Encoding.TheVariants.{Utf8, Utf16}
use Rattle.someip_payload_values.specs.Numbers.{limit_of, size_of, is_signed}
use Rattle.someip_payload_values.specs.Data.{Form, bool, unsigned, signed, float, string, padded, array, fixed, «struct», union, tagged, named, enumerated, Forms, no_forms, form_then, Variants, no_variants, variant, Members, no_members, member_then}

abbrev mutual
  -- how many forms lie inside each other, this one among them
  pub depth : Form → ℕ
  depth (array width most element) = depth element + 1
  depth (fixed width n element) = depth element + 1
  depth («struct» width fs) = deepest fs + 1
  depth (union width type vs) = deepest_variant vs + 1
  depth (tagged width ms) = deepest_member ms + 1
  depth (named n f) = depth f
  depth (enumerated f labels) = depth f
  depth bool = 1
  depth (unsigned order size) = 1
  depth (signed order size) = 1
  depth (float order p) = 1
  depth (string encoding width) = 1
  depth (padded encoding n) = 1

  -- the same of the deepest of these forms, and 0 of none
  pub deepest : Forms → ℕ
  deepest no_forms = 0
  deepest (form_then f fs) = max (depth f) (deepest fs)

  -- the same of the deepest variant of a union
  pub deepest_variant : Variants → ℕ
  deepest_variant no_variants = 0
  deepest_variant (variant n f vs) = max (depth f) (deepest_variant vs)

  -- the same of the deepest member of a tagged structure
  pub deepest_member : Members → ℕ
  deepest_member no_members = 0
  deepest_member (member_then id optional f ms) = max (depth f) (deepest_member ms)

abbrev pub has_members : Forms → Bool
has_members no_forms = false
has_members (form_then f fs) = true

abbrev pub has_variants : Variants → Bool
has_variants no_variants = false
has_variants (variant n f vs) = true

abbrev pub has_tagged_members : Members → Bool
has_tagged_members no_members = false
has_tagged_members (member_then id optional f ms) = true

abbrev pub is_fixed : Form → Bool
is_fixed (fixed width n element) = true
is_fixed bool = false
is_fixed (unsigned order size) = false
is_fixed (signed order size) = false
is_fixed (float order p) = false
is_fixed (string encoding width) = false
is_fixed (array width most element) = false
is_fixed («struct» width fs) = false
is_fixed (union width type vs) = false
is_fixed (tagged width ms) = false
is_fixed (named n f) = is_fixed f
is_fixed (enumerated f labels) = false
is_fixed (padded encoding n) = false

-- a value of the form tells where it ends, as an item of a tagged structure has to: it is basic, or has a
-- length field
abbrev pub can_be_tagged : Form → Bool
can_be_tagged (fixed None n element) = false
can_be_tagged (fixed (Some width) n element) = true
can_be_tagged («struct» None fs) = false
can_be_tagged («struct» (Some width) fs) = true
can_be_tagged bool = true
can_be_tagged (unsigned order size) = true
can_be_tagged (signed order size) = true
can_be_tagged (float order p) = true
can_be_tagged (string encoding width) = true
can_be_tagged (array width most element) = true
can_be_tagged (union width type vs) = true
can_be_tagged (tagged width ms) = true
can_be_tagged (named n f) = can_be_tagged f
can_be_tagged (enumerated f labels) = can_be_tagged f
can_be_tagged (padded encoding n) = false

abbrev pub is_among : ℕ → List ℕ → Bool
is_among n [] = false
is_among n (m ∷ ms) = (n == m) || is_among n ms

-- no number is 0, stands twice or is one of the earlier ones
abbrev pub are_numbers : List ℕ → Variants → Bool
are_numbers earlier no_variants = true
are_numbers earlier (variant n f vs) = nat_lt 0 n && (not (is_among n earlier) && are_numbers (n ∷ earlier) vs)

-- each number fits into a type field of that width
abbrev pub fit_field : Width → Variants → Bool
fit_field type no_variants = true
fit_field type (variant n f vs) = nat_lt n (limit_of (size_of type)) && fit_field type vs

-- no Data ID has more than 12 bits, stands twice or is one of the earlier ones
abbrev pub are_ids : List ℕ → Members → Bool
are_ids earlier no_members = true
are_ids earlier (member_then id optional f ms) = nat_lt id 4096 && (not (is_among id earlier) && are_ids (id ∷ earlier) ms)

-- ---- names

-- a letter of ASCII or an underscore; and a digit beside these
abbrev pub is_first : ℕ → Bool
is_first b = (nat_le 65 b && nat_lt b 91) || ((nat_le 97 b && nat_lt b 123) || (b == 95))

abbrev pub is_later : ℕ → Bool
is_later b = is_first b || (nat_le 48 b && nat_lt b 58)

-- a name: a letter or an underscore, then letters, digits and underscores, at most 64 in all
abbrev pub is_name : List ℕ → Bool
is_name [] = false
is_name (b ∷ bs) = is_first b && (list_all is_later bs && nat_lt (length bs) 64)

-- each is a name, and none stands twice or is one of the earlier ones
abbrev pub are_names : List (List ℕ) → List (List ℕ) → Bool
are_names earlier [] = true
are_names earlier (n ∷ ns) = is_name n && (not (list_any (λ e. bytes_eq e n) earlier) && are_names (n ∷ earlier) ns)

-- the name of a member, if it has one
abbrev pub name_in : Form → List (List ℕ)
name_in (named n f) = n ∷ []
name_in (enumerated f labels) = []
name_in bool = []
name_in (unsigned order size) = []
name_in (signed order size) = []
name_in (float order p) = []
name_in (string encoding width) = []
name_in (padded encoding n) = []
name_in (array width most element) = []
name_in (fixed width n element) = []
name_in («struct» width fs) = []
name_in (union width type vs) = []
name_in (tagged width ms) = []

-- the names of the members that have one
abbrev pub names_of : Forms → List (List ℕ)
names_of no_forms = []
names_of (form_then f fs) = name_in f ++ names_of fs

abbrev pub names_of_members : Members → List (List ℕ)
names_of_members no_members = []
names_of_members (member_then id optional f ms) = name_in f ++ names_of_members ms

-- the integer form has the number
abbrev pub has_value : Form → ℤ → Bool
has_value (unsigned order size) (pos n) = nat_lt n (limit_of size)
has_value (unsigned order size) (negsuc n) = false
has_value (signed order size) z = is_signed size z
has_value _ z = false

-- above the one before, if there is one
abbrev pub is_above : Option ℤ → ℤ → Bool
is_above None z = true
is_above (Some before) z = int_lt before z

-- each value is one of the integer form, and above the one before
abbrev pub are_values : Form → Option ℤ → List (ℤ × List ℕ) → Bool
are_values f before [] = true
are_values f before (v ∷ vs) = has_value f v.0 && (is_above before v.0 && are_values f (Some v.0) vs)

-- an integer, with at least one value that has a name; the values rise, and the names differ
abbrev pub is_enum : Form → List (ℤ × List ℕ) → Bool
is_enum f labels = nat_lt 0 (length labels) && (are_values f None labels && are_names [] (map (λ v. v.1) labels))

-- how many bytes a text may be given: room for mark and terminator, whole units, and 1 MiB at most
abbrev pub is_room : Encoding → ℕ → Bool
is_room Utf8 n = nat_le 4 n && nat_le n (2 ^ 20)
is_room Utf16 n = nat_le 4 n && (nat_le n (2 ^ 20) && (n % 2 == 0))

-- each fixed number of elements is above 0 and not one of such, each structure has members, each union has
-- variants whose numbers are above 0, fit into its type field and differ, and each tagged structure has members whose values tell where
-- they end and whose Data IDs have 12 bits and differ
abbrev mutual
  pub is_form : Form → Bool
  is_form (array width most element) = is_form element
  is_form (fixed width n element) = nat_lt 0 n && (not (is_fixed element) && is_form element)
  is_form («struct» width fs) = has_members fs && (are_forms fs && are_names [] (names_of fs))
  is_form (union width type vs) = has_variants vs && (are_numbers [] vs && (fit_field type vs && are_variants vs))
  is_form (tagged width ms) = has_tagged_members ms && (are_ids [] ms && (are_tagged ms && are_names [] (names_of_members ms)))
  is_form (named n f) = is_form f
  is_form (enumerated f labels) = is_enum f labels
  is_form bool = true
  is_form (unsigned order size) = true
  is_form (signed order size) = true
  is_form (float order p) = true
  is_form (string encoding width) = true
  is_form (padded encoding n) = is_room encoding n

  pub are_forms : Forms → Bool
  are_forms no_forms = true
  are_forms (form_then f fs) = is_form f && are_forms fs

  pub are_variants : Variants → Bool
  are_variants no_variants = true
  are_variants (variant n f vs) = is_form f && are_variants vs

  pub are_tagged : Members → Bool
  are_tagged no_members = true
  are_tagged (member_then id optional f ms) = can_be_tagged f && (is_form f && are_tagged ms)

-- at most 16 forms lie inside each other, and each is one that a form may have
unfoldable pub checked : Form → Result (Unit {0}) PayloadError
checked f = if nat_lt 16 (depth f) then Err (TooDeep 0) else if is_form f then Ok tt else Err (BadShape 0)

-- the faults of a shape: they have the place 0
abbrev pub IsShapeFault : PayloadError → Type 0
IsShapeFault (errors.TooDeep place) = place ≡ 0
IsShapeFault (errors.BadShape place) = place ≡ 0
IsShapeFault errors.OutOfMemory = Unit {0}
IsShapeFault e = ⊥
