-- What the steps of writing answer.
use Rattle.std.specs.Prelude.{◌≡◌, ℕ, ◌+◌, List, ◌++◌, length, Option, Some, None, Result, Ok, Err}
use Rattle.sd_wire.specs.declared.error.SdError.{SdError}
use Rattle.sd_wire.specs.declared.error.SdError.TheVariants as errors
use Rattle.sd_wire.specs.declared.error.SdError.TheVariants.{TooManyOptions}
use Rattle.sd_wire.specs.declared.option.SdOption.{SdOption}
use Rattle.sd_wire.specs.declared.entry_writing.RunFields.{RunFields}
use Rattle.sd_wire.specs.contents.Values.{EntryValue, SdMessageValue}
use Rattle.sd_wire.specs.layout.Spelling.{Runs}
use Rattle.sd_wire.specs.decoding.Reading.{Sd}
use Rattle.sd_wire.specs.encoding.Writing.{PlacesEntry, IsRefused, pool_bytes, TooMany, WritesSd, as_read}

-- the runs of an entry
abbrev pub view_runs : RunFields → Runs
view_runs r = record { index1 = r.index1; index2 = r.index2; count1 = r.count1; count2 = r.count2 }

-- why entries are not packed
abbrev pub IsPackError : List EntryValue → SdError → Type 0
IsPackError entries errors.OutOfMemory = Unit {0}
IsPackError entries (errors.TooManyOptions number) = TooMany entries number
IsPackError entries other = ⊥

-- the one text of a message was added at the end, and it is read as the message
abbrev pub Appends : List ℕ → List ℕ → SdMessageValue → Type 0
Appends old new m = (text : List ℕ) × WritesSd m text × Sd (as_read m) text × (new ≡ old ++ text)

-- the entry with this number is refused, unless memory ran out
abbrev pub Refuses : ℕ → Result (Unit {0}) SdError → Type 0
Refuses number (Ok _) = ⊥
Refuses number (Err errors.OutOfMemory) = Unit {0}
Refuses number (Err e) = e ≡ TooManyOptions number

-- an entry is placed in the pool and adds so many bytes to a message, or it is refused
abbrev pub IsGrown : List SdOption → EntryValue → Option ℕ → List SdOption → Type 0
IsGrown pool e (Some bytes) after =
    ((runs : Runs) × PlacesEntry pool e runs after) × (bytes + length (pool_bytes pool) ≡ 16 + length (pool_bytes after))
IsGrown pool e None after = IsRefused pool e

-- the message has no bytes, unless memory ran out
abbrev pub HasNoBytes : SdError → Option (List ℕ) → Type 0
HasNoBytes errors.OutOfMemory bytes = Unit {0}
HasNoBytes e bytes = bytes ≡ None
