-- The values at the keys of a rule.
use Rattle.std.specs.Prelude.{ℕ, ◌≡◌, ℤ, pos, negsuc, ◌&&◌, nat_le, if◌then◌else◌, List, Option, Some, None, Result, Ok, Err}
use Rattle.std.specs.Option.{option_and_then}
use Rattle.toml.specs.Data.{Data, get, as_integer}
use Rattle.someipctl_rules.specs.declared.key_error.KeyError.{KeyError}
use Rattle.someipctl_rules.specs.declared.key_error.KeyError.TheVariants.{WrongKind, OutOfRange}

-- what is asked of what was found, if anything was
infixl 10 ◌>>=◌
abbrev pub ◌>>=◌ : {A B : Type 0} → Option A → (A → Option B) → Option B
o >>= f = option_and_then f o

-- what may be absent, and is asked where it is there
abbrev pub if_any : {A B : Type 0} → (A → Option B) → Option A → Option (Option B)
if_any ask None = Some None
if_any ask (Some x) = ask x >>= (λ y. Some (Some y))

-- an error tells that the value at a key is of another kind or outside its range, or that memory ran out
abbrev pub TellsOfKey : List ℕ → KeyError → Type 0
TellsOfKey key (WrongKind k) = k.now ≡ key
TellsOfKey key (OutOfRange k) = k.now ≡ key
TellsOfKey key error = ⊥

-- what is read at a key is what is found there, and an error comes only where nothing is, and tells of the key
abbrev pub IsAsFound : {X Y : Type 0} → (X → Y) → Result X KeyError → List ℕ → Option Y → Type 0
IsAsFound view (Ok x) key found = found ≡ Some (view x)
IsAsFound view (Err e) key found = (found ≡ None) × TellsOfKey key e

-- the same of what can only be of another kind
abbrev pub IsWrongKindAt : List ℕ → KeyError → Type 0
IsWrongKindAt key (WrongKind k) = k.now ≡ key
IsWrongKindAt key error = ⊥

abbrev pub IsListFound : {X Y : Type 0} → (X → Y) → Result X KeyError → List ℕ → Option Y → Type 0
IsListFound view (Ok x) key found = found ≡ Some (view x)
IsListFound view (Err e) key found = (found ≡ None) × IsWrongKindAt key e

-- ---- numbers

-- a number of 16 bits
abbrev pub id_of : ℤ → Option ℕ
id_of (pos n) = if nat_le n 0xFFFF then Some n else None
id_of (negsuc n) = None

-- a number of 32 bits above 0
abbrev pub millis_of : ℤ → Option ℕ
millis_of (pos n) = if nat_le 1 n && nat_le n 0xFFFFFFFF then Some n else None
millis_of (negsuc n) = None

-- the ID at a key, from 0 to FFFF, if there is one
abbrev pub id_at : List ℕ → Data → Option (Option ℕ)
id_at key d = if_any (λ v. as_integer v >>= id_of) (get key d)

-- the milliseconds at a key, if there are any
abbrev pub millis_at : List ℕ → Data → Option (Option ℕ)
millis_at key d = if_any (λ v. as_integer v >>= millis_of) (get key d)

-- a number of milliseconds from 1 to 600000
abbrev pub cycle_of : ℤ → Option ℕ
cycle_of (pos n) = if nat_le 1 n && nat_le n 600000 then Some n else None
cycle_of (negsuc n) = None

-- the milliseconds of a cycle at a key, if there are any
abbrev pub cycle_at : List ℕ → Data → Option (Option ℕ)
cycle_at key d = if_any (λ v. as_integer v >>= cycle_of) (get key d)
