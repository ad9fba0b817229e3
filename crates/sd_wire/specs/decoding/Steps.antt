-- What a function returned, beside what the plain program gives.
use Rattle.std.specs.Prelude.{◌≡◌, Result, Ok, Err}
use Rattle.sd_wire.specs.declared.error.SdError.{SdError}
use Rattle.sd_wire.specs.declared.error.SdError.TheVariants as errors

-- the error of a function is the fault that reading has, unless memory ran out
abbrev pub Fails : {Y : Type 0} → SdError → Result Y SdError → Type 0
Fails errors.OutOfMemory read = Unit {0}
Fails e read = read ≡ Err e

-- what a function returned, seen by view, is what reading gives, unless memory ran out
abbrev pub Gives : {X Y : Type 0} → (X → Y) → Result X SdError → Result Y SdError → Type 0
Gives view (Ok x) read = read ≡ Ok (view x)
Gives view (Err e) read = Fails e read

-- an error that reading may have: the other is of messages to write alone
abbrev pub IsReadingError : SdError → Type 0
IsReadingError (errors.TooManyOptions k) = ⊥
IsReadingError e = Unit {0}
