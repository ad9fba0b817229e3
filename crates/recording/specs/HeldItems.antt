-- All packets or blocks of a recording, as a reader holds them, beside what a slice gives of them.
use Rattle.std.specs.Prelude.{◌≡◌, ◌⊎◌, ⊤, ℕ, ◌+◌, List, [], ◌∷◌, ◌++◌, length, drop, Option, Some, None, Result, Ok, Err}
use Rattle.recording.specs.declared.error.RecordingError.{RecordingError}
use Rattle.recording.specs.declared.error.RecordingError.TheVariants.{NotRecording, Truncated, BadOrder, BlockLength, UnknownInterface, BlockTooLong, TooManyInterfaces, OutOfMemory}
use Rattle.recording.specs.declared.format.Format.{Format}
use Rattle.recording.specs.declared.interface.Interface.{Interface}
use Rattle.recording.specs.Records.{Item, items_within, format_of}
use Rattle.recording.specs.Held.{held_meaning}

-- the items of the bytes from place p of a file on
abbrev pub held_from : Format → List Interface → ℕ → List ℕ → List Item
held_from format interfaces p bytes = items_within held_meaning (length bytes) format interfaces p bytes

-- the items after the start of a file, whose first byte has place p
abbrev pub held_behind : List Interface → ℕ → List ℕ → Option (Format × ℕ) → List Item
held_behind interfaces p file None = Err (NotRecording 0) ∷ []
held_behind interfaces p file (Some start) = held_from start.0 interfaces (p + start.1) (drop start.1 file)

-- the items of a file, the last of which is a fault, if there is one
abbrev pub held_of : List ℕ → List Item
held_of file = held_behind [] 0 file (format_of file)

-- ---- beside the items of a slice

-- a fault of what is not held
abbrev pub IsLimit : RecordingError → Type 0
IsLimit (BlockTooLong p) = ⊤
IsLimit (TooManyInterfaces p) = ⊤
IsLimit (NotRecording p) = ⊥
IsLimit (Truncated p) = ⊥
IsLimit (BadOrder p) = ⊥
IsLimit (BlockLength p) = ⊥
IsLimit (UnknownInterface p) = ⊥
IsLimit OutOfMemory = ⊥

-- what is given is the same, or a beginning of it and then the fault of what is not held
abbrev pub IsGiven : List Item → List Item → Type 0
IsGiven items given =
    (given ≡ items)
    ⊎ ((front others : List Item) × (fault : RecordingError) × IsLimit fault × (items ≡ front ++ others) × (given ≡ front ++ Err fault ∷ []))

-- the same for a file that may be no recording
abbrev pub IsRead : Result (List Item) RecordingError → List Item → Type 0
IsRead (Ok items) given = IsGiven items given
IsRead (Err fault) given = given ≡ Err fault ∷ []
