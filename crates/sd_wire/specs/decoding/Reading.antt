-- What bytes are read as (SOME/IP Service Discovery, "SOME/IP-SD Header", "Entry Format", "Options Format").
use Rattle.std.specs.Prelude.{ℕ, ◌+◌, ◌^◌, ◌<◌, ◌≡◌, Bool, true, false, nat_lt, ◌||◌, ◌&&◌, List, [], ◌∷◌, ◌++◌, length, take, drop}
use Rattle.sd_wire.specs.declared.option.SdOption.{SdOption}
use Rattle.sd_wire.specs.declared.entry.EntryHead.{EntryHead}
use Rattle.sd_wire.specs.layout.Fields.{flags_in}
use Rattle.sd_wire.specs.contents.Values.{ReadValue, good, bad_run, SdValue}
use Rattle.sd_wire.specs.layout.Spelling.{option_bytes, OptionFits, Runs, RunsFit, entry_bytes, HeadFits, sd_bytes}

-- the bytes are those of each of these, one after the other
abbrev pub Spelled : {X : Type 0} → (X → List ℕ → Type 0) → List X → List ℕ → Type 0
Spelled Spells [] bytes = bytes ≡ []
Spelled Spells (x ∷ xs) bytes = (first rest : List ℕ) × (bytes ≡ first ++ rest) × Spells x first × Spelled Spells xs rest

-- the bytes are those of an option, whatever its reserved bytes are
pub record SpellsOption (o : SdOption) (bytes : List ℕ) : Type 0 where
  pub reserved1 : ℕ
  pub reserved2 : ℕ
  pub is : bytes ≡ option_bytes reserved1 reserved2 o
  pub fits : OptionFits o

-- the bytes are those of an entry with these runs, whatever its reserved bits are
pub record SpellsHead (head : EntryHead) (runs : Runs) (bytes : List ℕ) : Type 0 where
  pub reserved : ℕ
  pub is : bytes ≡ entry_bytes reserved runs head
  pub fits : HeadFits head
  pub runs_fit : RunsFit runs
  pub reserved_fits : reserved < 2 ^ 12

-- a nonempty run passes the pool
abbrev pub passes_pool : List SdOption → ℕ → ℕ → Bool
passes_pool pool index count = nat_lt 0 count && nat_lt (length pool) (index + count)

-- an entry has a bad run: one of its two runs passes the pool
abbrev pub has_bad_run : List SdOption → Runs → Bool
has_bad_run pool runs = passes_pool pool runs.index1 runs.count1 || passes_pool pool runs.index2 runs.count2

-- so many options of the pool from an index on
abbrev pub selected : List SdOption → ℕ → ℕ → List SdOption
selected pool index count = take count (drop index pool)

-- the bytes are those of an entry whose runs select exactly these options from the pool, or of one with a bad run
abbrev pub SpellsEntry : List SdOption → ReadValue → List ℕ → Type 0
SpellsEntry pool (good e) bytes =
    (runs : Runs) × SpellsHead e.head runs bytes × (has_bad_run pool runs ≡ false)
    × (e.first ≡ selected pool runs.index1 runs.count1) × (e.second ≡ selected pool runs.index2 runs.count2)
SpellsEntry pool (bad_run head) bytes = (runs : Runs) × SpellsHead head runs bytes × (has_bad_run pool runs ≡ true)

-- the bytes hold the flags and the entries of the message: the options are a pool from which the runs select
pub record Sd (v : SdValue) (bytes : List ℕ) : Type 0 where
  pub flags : ℕ
  pub reserved1 : ℕ
  pub reserved2 : ℕ
  pub reserved3 : ℕ
  pub entries : List ℕ
  pub options : List ℕ
  pub pool : List SdOption
  pub is : bytes ≡ sd_bytes flags reserved1 reserved2 reserved3 entries options
  pub are_flags : v.flags ≡ flags_in flags
  pub entries_fit : length entries < 2 ^ 32
  pub options_fit : length options < 2 ^ 32
  pub are_options : Spelled SpellsOption pool options
  pub are_entries : Spelled (SpellsEntry pool) v.entries entries
