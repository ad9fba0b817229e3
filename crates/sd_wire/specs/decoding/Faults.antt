-- The first fault of bytes that hold no message: the six cases in the order in which they are judged.
use Rattle.std.specs.Prelude.{◌≡◌, ◌⊎◌, ℕ, ◌+◌, ◌*◌, ◌/◌, ◌%◌, ◌<◌, Bool, true, false, nat_lt, ◌==◌, ◌||◌, not, if◌then◌else◌, List, ◌++◌, length, slice_index, Option, Some, None, codes}
use Rattle.std.specs.Option.{option_map_or}
use Rattle.sd_wire.specs.declared.error.SdError.{SdError}
use Rattle.sd_wire.specs.declared.error.SdError.TheVariants as errors
use Rattle.sd_wire.specs.declared.error.SdError.TheVariants.{Truncated, EntriesLength, UnknownEntryType, OptionLength, TrailingBytes}
use Rattle.sd_wire.specs.declared.option.SdOption.{SdOption}
use Rattle.sd_wire.specs.contents.Raw.{layout_len}
use Rattle.sd_wire.specs.layout.Layout.{entries_len, options_place, options_end, entries_in, options_in, option_len}
use Rattle.sd_wire.specs.decoding.Reading.{Spelled, SpellsOption}

-- the lengths do not fit the bytes: the first line that does not
abbrev pub header_fault : List ℕ → Option SdError
header_fault bytes =
    if nat_lt (length bytes) 8 then Some (Truncated (length bytes))
    else (if not (entries_len bytes % 16 == 0) then Some (EntriesLength 4)
    else (if nat_lt (length bytes) (options_place bytes) then Some (Truncated (length bytes))
    else (if nat_lt (length bytes) (options_end bytes) then Some (Truncated (length bytes))
    else (if nat_lt (options_end bytes) (length bytes) then Some (TrailingBytes (options_end bytes))
    else None))))

-- the type is one of the four
abbrev pub is_entry_type : ℕ → Bool
is_entry_type kind = kind == 0x00 || kind == 0x01 || kind == 0x06 || kind == 0x07

-- options of the type may have this length
abbrev pub has_len : ℕ → ℕ → Bool
has_len kind len = option_map_or (λ n. len == n) (layout_len kind) true

-- how many bytes the option at the front has, if there is one
abbrev pub option_size : List ℕ → Option ℕ
option_size bytes =
    if nat_lt (length bytes) 3 then None
    else (if option_len bytes == 0 then None
    else (if nat_lt (length bytes) (option_len bytes + 3) then None
    else (if has_len (slice_index bytes 2) (option_len bytes) then Some (option_len bytes + 3)
    else None)))

-- the types of the first k entries are among the four
abbrev pub AreTypes : ℕ → List ℕ → Type 0
AreTypes k entries = (j : ℕ) → j < k → is_entry_type (slice_index entries (j * 16)) ≡ true

-- after some entries of known types stands one, of n at most, whose type is none of the four
abbrev pub FaultInTypes : ℕ → ℕ → List ℕ → SdError → Type 0
FaultInTypes n p entries e =
    (k : ℕ) × (k < n) × AreTypes k entries × (is_entry_type (slice_index entries (k * 16)) ≡ false) × (e ≡ UnknownEntryType (p + k * 16))

-- after some options stand bytes at which no option begins
abbrev pub FaultInOptions : ℕ → List ℕ → SdError → Type 0
FaultInOptions p options e =
    (pool : List SdOption) × (front rest : List ℕ) × (options ≡ front ++ rest) × Spelled SpellsOption pool front
    × (0 < length rest) × (option_size rest ≡ None) × (e ≡ OptionLength (p + length front))

-- the first fault of the bytes: of the header, of the entries' types, of the options
abbrev pub SdFault : SdError → List ℕ → Type 0
SdFault e bytes =
    (header_fault bytes ≡ Some e)
    ⊎ ((header_fault bytes ≡ None) × FaultInTypes (entries_len bytes / 16) 8 (entries_in bytes) e)
    ⊎ ((header_fault bytes ≡ None) × AreTypes (entries_len bytes / 16) (entries_in bytes) × FaultInOptions (options_place bytes) (options_in bytes) e)

-- the error is the first fault of the bytes, unless memory ran out
abbrev pub IsFirstFault : SdError → List ℕ → Type 0
IsFirstFault errors.OutOfMemory bytes = Unit {0}
IsFirstFault e bytes = SdFault e bytes

-- the name of a fault
abbrev pub fault_name : SdError → List ℕ
fault_name (errors.Truncated place) = codes "Truncated"
fault_name (errors.EntriesLength place) = codes "EntriesLength"
fault_name (errors.UnknownEntryType place) = codes "UnknownEntryType"
fault_name (errors.OptionLength place) = codes "OptionLength"
fault_name (errors.TooManyOptions place) = codes "TooManyOptions"
fault_name (errors.TrailingBytes place) = codes "TrailingBytes"
fault_name errors.OutOfMemory = codes "OutOfMemory"

-- the place of a fault in the bytes
abbrev pub fault_place : SdError → ℕ
fault_place (errors.Truncated place) = place
fault_place (errors.EntriesLength place) = place
fault_place (errors.UnknownEntryType place) = place
fault_place (errors.OptionLength place) = place
fault_place (errors.TooManyOptions place) = place
fault_place (errors.TrailingBytes place) = place
fault_place errors.OutOfMemory = 0
