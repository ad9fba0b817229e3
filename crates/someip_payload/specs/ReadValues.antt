-- The plain program that reads a value from the front of a text, and says what is left of it.
use Rattle.std.specs.Prelude.{ℕ, zero, suc, ℤ, pos, negsuc, ◌+◌, ◌-◌, ◌^◌, ◌==◌, ◌&&◌, nat_lt, nat_le, true, false, List, [], ◌∷◌, length, drop, codes, Option, Some, None, Result, Ok, Err, if◌then◌else◌, ◌≡◌, ⊤, is_nan}
use Rattle.std.specs.Fmt.{decimal}
use Rattle.std.specs.Int.{byte_len, from_be_bytes}
use Rattle.std.specs.Str.{bytes_eq, is_utf8}
use Rattle.std.specs.Str.Parse.{digits_value}
use Rattle.std.specs.Float.Ieee.{to_bits, nan_bits}
use Rattle.fast_float.specs.Parse.{parse_float}
use Rattle.hex.specs.Hex.{encode_lower, decode_sized}
use Rattle.hex.specs.declared.error.FromHexError.{FromHexError}
use Rattle.someip_payload_values.specs.Check.{name_in}
use Rattle.someip_payload_values.specs.Data.{Form, bool, unsigned, signed, float, string, padded, array, fixed, «struct», union, tagged, named, enumerated, Forms, no_forms, form_then, Variants, no_variants, variant, Members, no_members, member_then, Data, truth, uint, int, real, phrase, list, tuple, nothing, chosen, slotted, Items, no_items, item, Slots, no_slots, present, absent}
use Rattle.someip_payload_values.specs.Floats.{Precision, format_of, bits_size}
use Rattle.someip_payload_values.specs.Numbers.{width_of, number, limit_of}
use Rattle.someip_payload.specs.Fronts.{common}
use Rattle.someip_payload.specs.ValueReading.{is_plain, begins_word, labelled, is_control}
use Rattle.someip_payload.specs.declared.value_text_error.ValueTextError.{ValueTextError}
use Rattle.someip_payload.specs.declared.value_text_error.ValueTextError.TheVariants.{BadValue, OutOfMemory}

-- what was read, and what is left
abbrev pub Read : Type 0 → Type 0
Read A = Option (A × List ℕ)

infixl 10 ◌>>=◌
abbrev pub ◌>>=◌ : {A B : Type 0} → Option A → (A → Option B) → Option B
(Some x) >>= f = f x
None >>= f = None

-- a function fails where nothing is read, or as memory runs out
abbrev pub FailsValue : {Y : Type 0} → ValueTextError → Option Y → Type 0
FailsValue OutOfMemory read = ⊤
FailsValue (BadValue place) read = read ≡ None

-- what a function returned, seen by view, is what reading gives, unless memory ran out
abbrev pub GivesValue : {X Y : Type 0} → (X → Y) → Result X ValueTextError → Option Y → Type 0
GivesValue view (Ok x) read = read ≡ Some (view x)
GivesValue view (Err e) read = FailsValue e read

abbrev pub or_else : {A : Type 0} → Option (List ℕ) → (List ℕ → Option A) → Option A → Option A
or_else (Some rest) found other = found rest
or_else None found other = other

-- ---- tokens and single bytes

-- the bytes of words and numbers at the front
unfoldable pub token : List ℕ → List ℕ
token [] = []
token (b ∷ bs) = if is_plain b then b ∷ token bs else []

-- what stands behind them
unfoldable pub past_token : List ℕ → List ℕ
past_token [] = []
past_token (b ∷ bs) = if is_plain b then past_token bs else b ∷ bs

-- what stands behind this byte
unfoldable pub after : ℕ → List ℕ → Option (List ℕ)
after byte [] = None
after byte (b ∷ bs) = if b == byte then Some bs else None

-- a value that is one token
unfoldable pub atom_in : (List ℕ → Option Data) → List ℕ → Read Data
atom_in atom text = atom (token text) >>= λ d. Some (d, past_token text)

-- ---- what a token says

unfoldable pub truth_of : List ℕ → Option Data
truth_of t = if bytes_eq t (codes "true") then Some (truth true) else if bytes_eq t (codes "false") then Some (truth false) else None

-- the number of 64 bits that is written so
unfoldable pub number_of : List ℕ → Option ℕ
number_of t = if nat_lt (digits_value 10 t) (2 ^ 64) && bytes_eq (decimal (digits_value 10 t)) t then Some (digits_value 10 t) else None

abbrev pub below_zero : ℕ → Option ℤ
below_zero n = if nat_lt 0 n && nat_le n (2 ^ 63) then Some (negsuc (n - 1)) else None

abbrev pub above_zero : ℕ → Option ℤ
above_zero n = if nat_lt n (2 ^ 63) then Some (pos n) else None

-- the same with a sign
unfoldable pub signed_of : List ℕ → Option ℤ
signed_of t = or_else (after 45 t) (λ digits. number_of digits >>= below_zero) (number_of t >>= above_zero)

abbrev pub natural_of : ℤ → Option ℕ
natural_of (pos n) = if nat_lt n (2 ^ 64) then Some n else None
natural_of (negsuc n) = None

abbrev pub long_of : ℤ → Option ℤ
long_of (pos n) = if nat_lt n (2 ^ 63) then Some (pos n) else None
long_of (negsuc n) = if nat_lt n (2 ^ 63) then Some (negsuc n) else None

-- a number by its name, or as it is
unfoldable pub unsigned_by : List (ℤ × List ℕ) → List ℕ → Option ℕ
unsigned_by ls t = if begins_word t then (labelled ls t >>= natural_of) else number_of t

unfoldable pub signed_by : List (ℤ × List ℕ) → List ℕ → Option ℤ
signed_by ls t = if begins_word t then (labelled ls t >>= long_of) else signed_of t

unfoldable pub unsigned_of : List (ℤ × List ℕ) → List ℕ → Option Data
unsigned_of ls t = unsigned_by ls t >>= λ n. Some (uint n)

unfoldable pub integer_of : List (ℤ × List ℕ) → List ℕ → Option Data
integer_of ls t = signed_by ls t >>= λ z. Some (int z)

-- the bits of the float that is nearest, unless that is a NaN
unfoldable pub bits_of : Precision → List ℕ → Option ℕ
bits_of p t = parse_float (format_of p) t >>= λ x. if is_nan x then None else Some (to_bits (format_of p) x)

unfoldable pub float_of : Precision → List ℕ → Option Data
float_of p t = bits_of p t >>= λ bits. Some (real p bits)

-- bits that are written so, if they are a NaN's
abbrev pub nan_with : Precision → List ℕ → ℕ → Option ℕ
nan_with p digits bits = if bytes_eq (encode_lower (number (bits_size p) bits)) digits then (if nan_bits (format_of p) bits then (if nat_lt bits (limit_of (bits_size p)) then Some bits else None) else None) else None

abbrev pub nan_from : Precision → List ℕ → Result (List ℕ) FromHexError → Option ℕ
nan_from p digits (Ok bytes) = nan_with p digits (from_be_bytes (width_of (bits_size p)) bytes)
nan_from p digits (Err e) = None

unfoldable pub nan_of : Precision → List ℕ → Option ℕ
nan_of p digits = nan_from p digits (decode_sized digits (byte_len (width_of (bits_size p))))

-- the bits of a NaN between brackets
unfoldable pub nan_in : Precision → List ℕ → Read Data
nan_in p text = after 40 text >>= λ inner. nan_of p (token inner) >>= λ bits. after 41 (past_token inner) >>= λ rest. Some (real p bits, rest)

unfoldable pub float_in : Precision → List ℕ → Read Data
float_in p text = if bytes_eq (token text) (codes "nan") then nan_in p (past_token text) else atom_in (float_of p) text

abbrev pub or_text : Option (List ℕ) → List ℕ → List ℕ
or_text (Some rest) text = rest
or_text None text = text

-- ---- texts

-- the byte that the first of these words at the front stands for
unfoldable pub byte_of : List (List ℕ × ℕ) → List ℕ → Read ℕ
byte_of [] text = None
byte_of (w ∷ ws) text = if common w.0 text == length w.0 then Some (w.1, drop (length w.0) text) else byte_of ws text

-- what stands behind a backslash, and the byte that it says
abbrev pub escapes : List (List ℕ × ℕ)
escapes =
    (codes "\"", 34) ∷
    (codes "\\", 92) ∷
    (codes "u{0}", 0) ∷
    (codes "u{1}", 1) ∷
    (codes "u{2}", 2) ∷
    (codes "u{3}", 3) ∷
    (codes "u{4}", 4) ∷
    (codes "u{5}", 5) ∷
    (codes "u{6}", 6) ∷
    (codes "u{7}", 7) ∷
    (codes "u{8}", 8) ∷
    (codes "u{9}", 9) ∷
    (codes "u{a}", 10) ∷
    (codes "u{b}", 11) ∷
    (codes "u{c}", 12) ∷
    (codes "u{d}", 13) ∷
    (codes "u{e}", 14) ∷
    (codes "u{f}", 15) ∷
    (codes "u{10}", 16) ∷
    (codes "u{11}", 17) ∷
    (codes "u{12}", 18) ∷
    (codes "u{13}", 19) ∷
    (codes "u{14}", 20) ∷
    (codes "u{15}", 21) ∷
    (codes "u{16}", 22) ∷
    (codes "u{17}", 23) ∷
    (codes "u{18}", 24) ∷
    (codes "u{19}", 25) ∷
    (codes "u{1a}", 26) ∷
    (codes "u{1b}", 27) ∷
    (codes "u{1c}", 28) ∷
    (codes "u{1d}", 29) ∷
    (codes "u{1e}", 30) ∷
    (codes "u{1f}", 31) ∷
    (codes "u{7f}", 127) ∷
    []

unfoldable pub escape_in : List ℕ → Read ℕ
escape_in text = byte_of escapes text

-- a byte between quotes
unfoldable pub byte_in : List ℕ → Read ℕ
byte_in [] = None
byte_in (b ∷ bs) = if b == 92 then escape_in bs else if is_control b then None else Some (b, bs)

-- bytes up to a quote; the number makes this end, and is no bound, since each takes a byte
unfoldable pub unquoted : ℕ → List ℕ → Read (List ℕ)
unquoted zero text = None
unquoted (suc left) text = or_else (after 34 text) (λ rest. Some ([], rest)) (byte_in text >>= λ first. unquoted left first.1 >>= λ others. Some (first.0 ∷ others.0, others.1))

-- the bytes, if they are a text
unfoldable pub as_text : List ℕ → Option (List ℕ)
as_text s = if is_utf8 s then Some s else None

unfoldable pub string_in : List ℕ → Read Data
string_in text = after 34 text >>= λ inner. unquoted (length inner) inner >>= λ s. as_text s.0 >>= λ t. Some (phrase t, s.1)

-- ---- values

-- elements with commas between them, up to the bracket; the number makes this end, and is no bound, since each takes a byte
unfoldable pub elements_in : (List ℕ → Read Data) → ℕ → List ℕ → Read Items
elements_in one zero text = None
elements_in one (suc left) text =
    one text >>= λ first. or_else (after 93 first.1) (λ rest. Some (item first.0 no_items, rest))
    (after 44 first.1 >>= λ more. elements_in one left more >>= λ others. Some (item first.0 others.0, others.1))

unfoldable pub list_in : (List ℕ → Read Data) → List ℕ → Read Data
list_in one text =
    after 91 text >>= λ inner. or_else (after 93 inner) (λ rest. Some (list no_items, rest)) (elements_in one (length inner) inner >>= λ x. Some (list x.0, x.1))

-- what stands before the member at an index: a comma, but before the first
unfoldable pub comma_at : ℕ → List ℕ → Option (List ℕ)
comma_at i text = if i == 0 then Some text else after 44 text

-- without the member's name, if it stands there with a sign after it
unfoldable pub skip_name : List (List ℕ) → List ℕ → List ℕ
skip_name [] text = text
skip_name (n ∷ ns) text = if bytes_eq (token text) n then or_text (after 61 (past_token text)) text else text

-- a member of a tagged structure, or a dash for one that is absent
unfoldable pub slot_in : (List ℕ → Read Data) → List ℕ → Read (Option Data)
slot_in one text = if bytes_eq (token text) (codes "-") then Some (None, past_token text) else (one text >>= λ d. Some (Some d.0, d.1))

abbrev pub slot_then : Option Data → Slots → Slots
slot_then None ss = absent ss
slot_then (Some d) ss = present d ss

-- the value of a variant behind its number
unfoldable pub chosen_in : (List ℕ → Read Data) → ℕ → List ℕ → Read Data
chosen_in one kind text = after 58 text >>= λ rest. one rest >>= λ d. Some (chosen kind d.0, d.1)

unfoldable pub union_in : (ℕ → List ℕ → Read Data) → List ℕ → Read Data
union_in known text = if bytes_eq (token text) (codes "none") then Some (nothing, past_token text) else (number_of (token text) >>= λ kind. known kind (past_token text))

unfoldable pub enum_in : Form → List (ℤ × List ℕ) → List ℕ → Read Data
enum_in (unsigned order size) ls text = atom_in (unsigned_of ls) text
enum_in (signed order size) ls text = atom_in (integer_of ls) text
enum_in _ ls text = None

unfoldable mutual
  -- a value of the form
  pub value_in : Form → List ℕ → Read Data
  value_in bool text = atom_in truth_of text
  value_in (unsigned order size) text = atom_in (unsigned_of []) text
  value_in (signed order size) text = atom_in (integer_of []) text
  value_in (float order p) text = float_in p text
  value_in (string encoding width) text = string_in text
  value_in (padded encoding n) text = string_in text
  value_in (array width most element) text = list_in (value_in element) text
  value_in (fixed width n element) text = list_in (value_in element) text
  value_in («struct» width fs) text = after 40 text >>= λ inner. members_in 0 fs inner >>= λ x. after 41 x.1 >>= λ rest. Some (tuple x.0, rest)
  value_in (union width type vs) text = union_in (variant_in vs) text
  value_in (tagged width ms) text = after 123 text >>= λ inner. slots_in 0 ms inner >>= λ x. after 125 x.1 >>= λ rest. Some (slotted x.0, rest)
  value_in (named n f) text = value_in f text
  value_in (enumerated f ls) text = enum_in f ls text

  -- the members of a structure from this index on
  pub members_in : ℕ → Forms → List ℕ → Read Items
  members_in i no_forms text = Some (no_items, text)
  members_in i (form_then f fs) text =
      comma_at i text >>= λ t. value_in f (skip_name (name_in f) t) >>= λ first. members_in (i + 1) fs first.1 >>= λ others. Some (item first.0 others.0, others.1)

  -- the variant of the number
  pub variant_in : Variants → ℕ → List ℕ → Read Data
  variant_in no_variants kind text = None
  variant_in (variant n f vs) kind text = if n == kind then chosen_in (value_in f) kind text else variant_in vs kind text

  -- the members of a tagged structure from this index on
  pub slots_in : ℕ → Members → List ℕ → Read Slots
  slots_in i no_members text = Some (no_slots, text)
  slots_in i (member_then id optional f ms) text =
      comma_at i text >>= λ t. slot_in (value_in f) (skip_name (name_in f) t) >>= λ first. slots_in (i + 1) ms first.1 >>= λ others. Some (slot_then first.0 others.0, others.1)

abbrev pub whole_text : Data × List ℕ → Option Data
whole_text (d, []) = Some d
whole_text (d, b ∷ bs) = None

-- the value of the whole text
unfoldable pub value_of_text : Form → List ℕ → Option Data
value_of_text f text = value_in f text >>= whole_text

-- a fault at another place, or at the same
abbrev pub IsFaultAlso : ValueTextError → ValueTextError → Type 0
IsFaultAlso (BadValue place) (BadValue other) = ⊤
IsFaultAlso OutOfMemory OutOfMemory = ⊤
IsFaultAlso (BadValue place) OutOfMemory = ⊥
IsFaultAlso OutOfMemory (BadValue place) = ⊥
