-- The one text of a message (SOME/IP Service Discovery, "Referencing Options from Entries"; the order is our own).
use Rattle.std.specs.Prelude.{◌≡◌, ◌⊎◌, ℕ, ◌<◌, ◌^◌, List, [], ◌∷◌, ◌++◌, length, map}
use Rattle.std.specs.List.{flat_map, AllByRecursion}
use Rattle.sd_wire.specs.declared.error.SdError.{SdError}
use Rattle.sd_wire.specs.declared.error.SdError.TheVariants as errors
use Rattle.sd_wire.specs.declared.option.SdOption.{SdOption}
use Rattle.sd_wire.specs.layout.Fields.{flags_byte}
use Rattle.sd_wire.specs.contents.Values.{EntryValue, good, SdValue, SdMessageValue}
use Rattle.sd_wire.specs.layout.Spelling.{option_bytes, OptionFits, Runs, RunsFit, entry_bytes, HeadFits, sd_bytes}
use Rattle.sd_wire.specs.decoding.Reading.{selected}

-- the pool holds the run in one piece at the index
abbrev pub HoldsAt : List SdOption → List SdOption → ℕ → Type 0
HoldsAt pool run index = selected pool index (length run) ≡ run

-- the least such index
abbrev pub IsLeast : List SdOption → List SdOption → ℕ → Type 0
IsLeast pool run index = HoldsAt pool run index × ((i : ℕ) → i < index → HoldsAt pool run i → ⊥)

-- the pool holds the run in one piece at no index
abbrev pub IsNowhere : List SdOption → List SdOption → Type 0
IsNowhere pool run = (i : ℕ) → HoldsAt pool run i → ⊥

-- where a run stands, and the pool with it: an empty run at 0, another at the least index at which the pool holds
-- it, or else at the end of the pool, where it is added whole
abbrev pub Stands : List SdOption → List SdOption → ℕ → List SdOption → Type 0
Stands pool run index after =
    ((length run ≡ 0) × (index ≡ 0) × (after ≡ pool))
    ⊎ ((0 < length run) × IsLeast pool run index × (after ≡ pool))
    ⊎ ((0 < length run) × IsNowhere pool run × (index ≡ length pool) × (after ≡ pool ++ run))

-- the runs of an entry stand there, the first before the second, and fit their fields
pub record PlacesEntry (pool : List SdOption) (e : EntryValue) (runs : Runs) (after : List SdOption) : Type 0 where
  pub middle : List SdOption
  pub first : Stands pool e.first runs.index1 middle
  pub second : Stands middle e.second runs.index2 after
  pub count1 : runs.count1 ≡ length e.first
  pub count2 : runs.count2 ≡ length e.second
  pub fits : RunsFit runs

-- a run of the entry has more than 15 options, or stands at an index above 255
abbrev pub IsRefused : List SdOption → EntryValue → Type 0
IsRefused pool e =
    (15 < length e.first) ⊎ (15 < length e.second)
    ⊎ ((index : ℕ) × (middle : List SdOption) × Stands pool e.first index middle
    × ((255 < index) ⊎ ((other : ℕ) × (after : List SdOption) × Stands middle e.second other after × (255 < other))))

-- the bytes of entries one after the other, whose runs stand in the pool, and the pool after them
abbrev pub Packs : List SdOption → List EntryValue → List ℕ → List SdOption → Type 0
Packs pool [] text after = (text ≡ []) × (after ≡ pool)
Packs pool (e ∷ entries) text after =
    (runs : Runs) × (next : List SdOption) × (rest : List ℕ) × PlacesEntry pool e runs next
    × (text ≡ entry_bytes 0 runs e.head ++ rest) × Packs next entries rest after

-- the bytes of the options of a pool
abbrev pub pool_bytes : List SdOption → List ℕ
pool_bytes pool = flat_map (option_bytes 0 0) pool

-- the numbers of an entry and of its options fit their fields
abbrev pub EntryFits : EntryValue → Type 0
EntryFits e = HeadFits e.head × AllByRecursion OptionFits e.first × AllByRecursion OptionFits e.second

-- the one text of a message: reserved bits are 0, and the pool begins empty
pub record WritesSd (m : SdMessageValue) (text : List ℕ) : Type 0 where
  pub entries : List ℕ
  pub pool : List SdOption
  pub packs : Packs [] m.entries entries pool
  pub is : text ≡ sd_bytes (flags_byte m.flags) 0 0 0 entries (pool_bytes pool)
  pub entries_fit : length entries < 2 ^ 32
  pub options_fit : length (pool_bytes pool) < 2 ^ 32

-- the entry with this number is the first that is refused
pub record TooMany (entries : List EntryValue) (number : ℕ) : Type 0 where
  pub front : List EntryValue
  pub e : EntryValue
  pub back : List EntryValue
  pub is : entries ≡ front ++ e ∷ back
  pub counted : length front ≡ number
  pub text : List ℕ
  pub pool : List SdOption
  pub packs : Packs [] front text pool
  pub refused : IsRefused pool e

-- why a message is not written
abbrev pub IsWriteError : SdMessageValue → SdError → Type 0
IsWriteError m errors.OutOfMemory = Unit {0}
IsWriteError m (errors.TooManyOptions number) = TooMany m.entries number
IsWriteError m e = ⊥

-- a message as it is read again
abbrev pub as_read : SdMessageValue → SdValue
as_read m = record { flags = m.flags; entries = map good m.entries }
