-- The values at the keys of a table of TOML.
use Rattle.std.specs.Prelude.{ℕ, ◌≡◌, ℤ, pos, negsuc, Bool, ◌&&◌, ◌||◌, nat_le, if◌then◌else◌, codes, length, List, [], ◌∷◌, Option, Some, None, Result, Ok, Err}
use Rattle.std.specs.List.{list_all}
use Rattle.std.specs.Option.{option_and_then}
use Rattle.std.specs.Net.Reader.{read_ipv4}
use Rattle.std.specs.declared.net.ipv4_addr.Ipv4Addr.{Ipv4Addr}
use Rattle.toml.specs.Data.{Data, get, as_integer, as_bool, as_str}
use Rattle.someip_world_setup_keys.specs.declared.error.SetupError.{SetupError}
use Rattle.someip_world_setup_keys.specs.declared.error.SetupError.TheVariants.{Missing, WrongKind, OutOfRange, OutOfMemory}

-- what is asked of what was found, if anything was
infixl 10 ◌>>=◌
abbrev pub ◌>>=◌ : {A B : Type 0} → Option A → (A → Option B) → Option B
o >>= f = option_and_then f o

-- an error, but for memory, comes only where nothing is found, and tells that a key is missing, or its value of another kind or outside its range
abbrev pub TellsNotFound : {X : Type 0} → SetupError → Option X → Type 0
TellsNotFound OutOfMemory found = Unit {0}
TellsNotFound (Missing key) found = found ≡ None
TellsNotFound (WrongKind key) found = found ≡ None
TellsNotFound (OutOfRange key) found = found ≡ None
TellsNotFound _ found = ⊥

-- what is read is what is found
abbrev pub IsAsFound : {X Y : Type 0} → (X → Y) → Result X SetupError → Option Y → Type 0
IsAsFound view (Ok x) found = found ≡ Some (view x)
IsAsFound view (Err e) found = TellsNotFound e found

-- a number lies between two others, or is one of them
abbrev pub within : ℕ → ℕ → ℤ → Option ℕ
within low high (pos n) = if nat_le low n && nat_le n high then Some n else None
within low high (negsuc n) = None

-- the integer at a key
abbrev pub integer_at : List ℕ → Data → Option ℤ
integer_at key d = get key d >>= as_integer

-- the integer that was found at a key, or its default where nothing was
abbrev pub integer_of : ℤ → Option Data → Option ℤ
integer_of default None = Some default
integer_of default (Some d) = as_integer d

-- the integer at a key, or its default where the key is absent
abbrev pub integer_or : List ℕ → ℤ → Data → Option ℤ
integer_or key default d = integer_of default (get key d)

-- the number at a key, if it is in a range
abbrev pub number_within : List ℕ → ℕ → ℕ → Data → Option ℕ
number_within key low high d = integer_at key d >>= within low high

-- the number at a key, or its default where the key is absent, if that is in a range: a default has to be, too
abbrev pub number_or : List ℕ → ℤ → ℕ → ℕ → Data → Option ℕ
number_or key default low high d = integer_or key default d >>= within low high

-- the flag that was found at a key, or its default where nothing was found
abbrev pub flag_of : Bool → Option Data → Option Bool
flag_of default None = Some default
flag_of default (Some d) = as_bool d

-- the flag at a key, or its default where the key is absent
abbrev pub flag_or : List ℕ → Bool → Data → Option Bool
flag_or key default d = flag_of default (get key d)

-- one of a to z, 0 to 9
abbrev pub is_name_byte : ℕ → Bool
is_name_byte b = (nat_le 97 b && nat_le b 122) || (nat_le 48 b && nat_le b 57)

-- a text is a name: it has 1 to 16 of a to z, 0 to 9
abbrev pub is_name : List ℕ → Bool
is_name text = (nat_le 1 (length text) && nat_le (length text) 16) && list_all is_name_byte text

-- a text, if it is a name
abbrev pub checked_name : List ℕ → Option (List ℕ)
checked_name text = if is_name text then Some text else None

-- the name at the key `name` of a table, if its text is one
abbrev pub name_at : Data → Option (List ℕ)
name_at d = get (codes "name") d >>= as_str >>= checked_name

-- the address that was read, if nothing stands after it
abbrev pub whole_address : List ℕ × List ℕ → Option Ipv4Addr
whole_address (octets, []) = Some (record { octets = octets })
whole_address (octets, c ∷ rest) = None

-- the address that a text is: four decimal numbers up to 255 without leading zeros, with dots between them, and
-- nothing after them
unfoldable pub address_of : List ℕ → Option Ipv4Addr
address_of text = read_ipv4 text >>= whole_address

-- the address at a key, if its text is one
abbrev pub address_at : List ℕ → Data → Option Ipv4Addr
address_at key d = get key d >>= as_str >>= address_of
