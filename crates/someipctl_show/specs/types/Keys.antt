-- The values at the keys of a table of TOML.
use Rattle.std.specs.Prelude.{ℕ, ◌≡◌, ℤ, pos, negsuc, nat_le, if◌then◌else◌, codes, bytes_eq, List, Option, Some, None, Result, Ok, Err}
use Rattle.std.specs.Option.{option_and_then}
use Rattle.toml.specs.Data.{Data, get, as_integer, as_str}
use Rattle.someip_wire.specs.declared.header.MessageType.{MessageType}
use Rattle.someip_wire.specs.declared.header.MessageType.TheVariants.{Request, RequestNoReturn, Notification, Response, Error}
use Rattle.someipctl_show.specs.declared.types.key_error.KeyError.{KeyError}
use Rattle.someipctl_show.specs.declared.types.key_error.KeyError.TheVariants.{Missing, WrongKind, OutOfRange, BadText, BadShape, Unknown, TooMany, OutOfMemory}
use Rattle.someipctl_show.specs.types.GoodTypes.{is_label}

-- what is asked of what was found, if anything was
infixl 10 ◌>>=◌
abbrev pub ◌>>=◌ : {A B : Type 0} → Option A → (A → Option B) → Option B
o >>= f = option_and_then f o

-- an error tells of a key at which this holds; a bad text, a bad shape, a name that is unknown and too many shapes tell of
-- `shape`
abbrev pub FailsBy : (List ℕ → Type 0) → KeyError → Type 0
FailsBy Fails (Missing key) = Fails key.now
FailsBy Fails (WrongKind key) = Fails key.now
FailsBy Fails (OutOfRange key) = Fails key.now
FailsBy Fails (BadText place) = Fails (codes "shape")
FailsBy Fails BadShape = Fails (codes "shape")
FailsBy Fails (Unknown name) = Fails (codes "shape")
FailsBy Fails TooMany = Fails (codes "shape")
FailsBy Fails error = ⊥

-- so it does, or memory ran out
abbrev pub TellsAt : (List ℕ → Type 0) → KeyError → Type 0
TellsAt Fails OutOfMemory = Unit {0}
TellsAt Fails error = FailsBy Fails error

-- what is read at a key is what is found there, and an error comes only where nothing is, and tells of the key
abbrev pub IsAsFound : {X Y : Type 0} → (X → Y) → Result X KeyError → List ℕ → Option Y → Type 0
IsAsFound view (Ok x) key found = found ≡ Some (view x)
IsAsFound view (Err e) key found = TellsAt (λ k. (k ≡ key) × (found ≡ None)) e

-- this is said, and nothing else is
abbrev pub IsOnly : {Y : Type 0} → (Y → Type 0) → Y → Type 0
IsOnly Says y = Says y × ((other : _) → Says other → other ≡ y)

-- what is read is said, and nothing else is; an error tells of a key at which something fails
abbrev pub IsAsSaid : {X Y : Type 0} → (X → Y) → Result X KeyError → (Y → Type 0) → (List ℕ → Type 0) → Type 0
IsAsSaid view (Ok x) Says Fails = IsOnly Says (view x)
IsAsSaid view (Err e) Says Fails = TellsAt Fails e

-- ---- numbers and texts

-- a number of 16 bits
abbrev pub id_of : ℤ → Option ℕ
id_of (pos n) = if nat_le n 0xFFFF then Some n else None
id_of (negsuc n) = None

-- the ID at a key, from 0 to FFFF
abbrev pub id_at : List ℕ → Data → Option ℕ
id_at key d = get key d >>= as_integer >>= id_of

-- the text at a key
abbrev pub text_at : List ℕ → Data → Option (List ℕ)
text_at key d = get key d >>= as_str

-- ---- types of messages

-- the type that a word names: one of the five without the TP flag
abbrev pub kind_of_word : List ℕ → Option MessageType
kind_of_word word =
    if bytes_eq word (codes "REQUEST") then Some Request
    else if bytes_eq word (codes "REQUEST_NO_RETURN") then Some RequestNoReturn
    else if bytes_eq word (codes "NOTIFICATION") then Some Notification
    else if bytes_eq word (codes "RESPONSE") then Some Response
    else if bytes_eq word (codes "ERROR") then Some Error
    else None

-- the type at the key `type` of a table
abbrev pub kind_at : Data → Option MessageType
kind_at d = text_at (codes "type") d >>= kind_of_word

-- ---- names

-- a text, if it is a name
abbrev pub checked_label : List ℕ → Option (Option (List ℕ))
checked_label text = if is_label text then Some (Some text) else None

-- the name that was found, or none where the key is absent
abbrev pub label_of : Option Data → Option (Option (List ℕ))
label_of None = Some None
label_of (Some d) = as_str d >>= checked_label

-- the name at the key `name` of a table, which may be absent
abbrev pub label_at : Data → Option (Option (List ℕ))
label_at d = label_of (get (codes "name") d)
