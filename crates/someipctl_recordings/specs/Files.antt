-- Several files that are one recording.
use Rattle.std.specs.Prelude.{⊤, ℕ, suc, List, [], ◌∷◌, ◌++◌, Option, Some, None, Ok, Err}
use Rattle.recording.specs.declared.RecordingError.{RecordingError}
use Rattle.recording.specs.Records.{Item}
use Rattle.recording.specs.HeldItems.{held_of}
use Rattle.someipctl_io.specs.Inputs.{WasLeft}
use Rattle.someipctl_recordings.specs.declared.recordings.FileFault.{FileFault}

-- the fault among items
abbrev pub fault_among : List Item → Option RecordingError
fault_among [] = None
fault_among (Ok r ∷ items) = fault_among items
fault_among (Err fault ∷ items) = Some fault

-- what comes behind items: nothing, if a fault is among them
abbrev pub unless_fault : Option RecordingError → List Item → List Item
unless_fault None others = others
unless_fault (Some fault) others = []

-- the items of the files in their order, up to the first fault
abbrev pub items_of_files : List (List ℕ) → List Item
items_of_files [] = []
items_of_files (file ∷ others) = held_of file ++ unless_fault (fault_among (held_of file)) (items_of_files others)

-- the fault of the file with this number, if it has one, and else that of a later one
abbrev pub fault_or : ℕ → Option RecordingError → Option FileFault → Option FileFault
fault_or k None later = later
fault_or k (Some fault) later = Some (record { file = k; fault = fault })

-- the first fault, with the number of its file; the first file has this number
abbrev pub fault_from : ℕ → List (List ℕ) → Option FileFault
fault_from k [] = None
fault_from k (file ∷ others) = fault_or k (fault_among (held_of file)) (fault_from (suc k) others)

-- the same, where files are counted from 0
abbrev pub fault_in : List (List ℕ) → Option FileFault
fault_in files = fault_from 0 files

-- the files are what the readers had left, where that is known
abbrev pub WereLeft : List (Option (List ℕ)) → List (List ℕ) → Type 0
WereLeft [] [] = ⊤
WereLeft [] (file ∷ files) = ⊥
WereLeft (input ∷ inputs) [] = ⊥
WereLeft (input ∷ inputs) (file ∷ files) = WasLeft input file × WereLeft inputs files
