-- What an input says as a types file.
use Rattle.std.specs.Prelude.{ℕ, ◌≡◌, true, List, Option, None}
use Rattle.std.specs.Str.{is_utf8}
use Rattle.someipctl_io.specs.Inputs.{WasLeft}
use Rattle.someipctl_io.specs.declared.fault.Fault.{Fault}
use Rattle.someipctl_io.specs.declared.fault.Fault.TheVariants.{Refused, CannotRead, CannotWrite, OutOfMemory}
use Rattle.someipctl_show.specs.declared.types.error.TypesError.{TypesError}
use Rattle.someipctl_show.specs.declared.types.error.TypesError.TheVariants as errors
use Rattle.someipctl_show.specs.declared.types.error.TypesRefusal.{TypesRefusal}
use Rattle.someipctl_show.specs.types.Faults.{TextHasFault}
use Rattle.someipctl_show.specs.types.Says.{TextSays, tree_of}
use Rattle.someipctl_show.specs.types.Types.{TypesValue}

-- bytes say these types: they are a text in UTF-8 that does
abbrev pub BytesSay : List ℕ → TypesValue → Type 0
BytesSay bytes types = (is_utf8 bytes ≡ true) × TextSays bytes types

-- bytes say no types: they are no UTF-8 and so no TOML, or their text has the fault that is told. That memory ran out
-- refuses no text, and is told by a name of its own
abbrev pub SayNoTypes : List ℕ → TypesError → Type 0
SayNoTypes bytes errors.NotToml = (is_utf8 bytes ≡ true) → tree_of bytes ≡ None
SayNoTypes bytes errors.OutOfMemory = ⊥
SayNoTypes bytes error = (is_utf8 bytes ≡ true) × TextHasFault (tree_of bytes) error

-- bytes are refused, or memory ran out
abbrev pub RefusesBytes : List ℕ → Fault TypesRefusal → Type 0
RefusesBytes bytes (Refused refusal) = SayNoTypes bytes refusal.0
RefusesBytes bytes OutOfMemory = Unit {0}
RefusesBytes bytes fault = ⊥

-- the bytes that a source had left say these types
abbrev pub InputSays : Option (List ℕ) → TypesValue → Type 0
InputSays input types = (bytes : List ℕ) × WasLeft input bytes × BytesSay bytes types

-- the bytes that a source had left are refused, or it could not be read, or memory ran out
abbrev pub RefusesInput : Option (List ℕ) → Fault TypesRefusal → Type 0
RefusesInput input (Refused refusal) = (bytes : List ℕ) × WasLeft input bytes × SayNoTypes bytes refusal.0
RefusesInput input CannotRead = Unit {0}
RefusesInput input CannotWrite = ⊥
RefusesInput input OutOfMemory = Unit {0}
