-- What comes of a recording that is read as it is shown.
use Rattle.std.specs.Prelude.{◌≡◌, ◌⊎◌, ⊤, ℕ, ◌^◌, ◌<◌, true, false, List, [], ◌∷◌, ◌++◌, Option, Some, None, Ok, Err}
use Rattle.std.specs.Io.KnownBytes.{Consumes, IsAtEnd}
use Rattle.recording.specs.Captured.{RecordValue}
use Rattle.recording.specs.Records.{Item}
use Rattle.recording.specs.Held.{LacksBytes}
use Rattle.recording.specs.Readers.{ReaderValue, CanFollow, LacksMemory, to_come, wanted_by}
use Rattle.someipctl_io.specs.declared.Fault as declared_fault
use Rattle.someipctl_io.specs.declared.Fault.TheVariants as faults
use Rattle.someipctl_recordings.specs.declared.read_loop.Coming.{Coming}
use Rattle.someipctl_recordings.specs.declared.read_loop.Coming.TheVariants.{Record, Fault, End}

-- the source is at its end, where it was known what it had left
abbrev pub EndsAt : Option (List ℕ) → Option (List ℕ) → Type 0
EndsAt None are = ⊤
EndsAt (Some bytes) are = IsAtEnd are

-- between these two states of a reader, and of what its source has left, these items came: some bytes were read, and what
-- was to come of the reader, whatever follows them, is these items and what is to come now. Where no more bytes can follow,
-- the source is at its end.
pub record Comes (before after : ReaderValue) (were are : Option (List ℕ)) (items : List Item) : Type 0 where
  pub seen : List ℕ
  pub consumed : Consumes were are seen
  pub follows : (rest : List ℕ) → CanFollow after.is_whole rest → CanFollow before.is_whole (seen ++ rest)
  pub came : (rest : List ℕ) → CanFollow after.is_whole rest → to_come before (seen ++ rest) ≡ items ++ to_come after rest
  pub at_end : (before.is_whole ≡ true → IsAtEnd were) → after.is_whole ≡ true → EndsAt were are

-- what came, where this is told, and this is the record that the reader took last
abbrev pub coming_items : Coming → Option RecordValue → List Item
coming_items Record None = []
coming_items Record (Some r) = Ok r ∷ []
coming_items (Fault fault) current = Err fault ∷ []
coming_items End current = []

-- after a fault, and at the end, nothing is to come
abbrev pub IsEnded : Coming → ReaderValue → Type 0
IsEnded Record r = ⊤
IsEnded (Fault fault) r = (rest : List ℕ) → CanFollow r.is_whole rest → to_come r rest ≡ []
IsEnded End r = (rest : List ℕ) → CanFollow r.is_whole rest → to_come r rest ≡ []

-- a record has some bytes, and places are numbers of 64 bits
abbrev pub IsFurther : Coming → ℕ → ℕ → Type 0
IsFurther Record before after = (before < after) × (after < 2 ^ 64)
IsFurther (Fault fault) before after = ⊤
IsFurther End before after = ⊤

-- ---- where an error of the machine comes

-- a reader tells nothing of the bytes that it holds before it has more, and more may come
abbrev pub WantsBytes : ReaderValue → Type 0
WantsBytes r = (r.is_whole ≡ false) × LacksBytes r.held (wanted_by r.stage r.held)

-- an error of the machine may come of such a reader: more bytes are wanted, which are read after what was printed is
-- written; or memory for the description of one more interface
abbrev pub MayStop : {R : Type 0} → declared_fault.Fault R → ReaderValue → Type 0
MayStop (faults.Refused refusal) r = ⊥
MayStop faults.CannotRead r = WantsBytes r
MayStop faults.CannotWrite r = WantsBytes r
MayStop faults.OutOfMemory r = WantsBytes r ⊎ LacksMemory r.is_whole r.place r.held (to_come r)

-- the error came after some bytes were read that told no item
pub record IsStopped {R : Type 0} (before : ReaderValue) (were : Option (List ℕ)) (fault : declared_fault.Fault R) : Type 0 where
  pub reader : ReaderValue
  pub are : Option (List ℕ)
  pub came : Comes before reader were are []
  pub may : MayStop fault reader
