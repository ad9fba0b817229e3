-- What a function returned, beside what the definitions give.
use Rattle.std.specs.Prelude.{◌≡◌, List, [], ◌∷◌, Result, Err, IsOk}
use Rattle.recording.specs.declared.error.RecordingError.{RecordingError}
use Rattle.recording.specs.declared.error.RecordingError.TheVariants.{OutOfMemory}

-- the error of a function is the fault that the definitions give; that memory ran out, only where they give none
abbrev pub Fails : {Y : Type 0} → RecordingError → Result Y RecordingError → Type 0
Fails OutOfMemory given = IsOk given
Fails e given = given ≡ Err e

-- the fault is all that is left to come, unless memory ran out
abbrev pub IsLast : {Y : Type 0} → RecordingError → List (Result Y RecordingError) → Type 0
IsLast OutOfMemory left = Unit {0}
IsLast e left = left ≡ Err e ∷ []

-- what is said where memory ran out
abbrev pub OnMemory : RecordingError → Type 0 → Type 0
OnMemory OutOfMemory said = said
OnMemory e said = Unit {0}
