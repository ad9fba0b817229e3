-- Steps that may fail.
use Rattle.std.specs.Prelude.{◌≡◌, Result, Ok, Err}
use Rattle.someip_payload_values.specs.declared.error.PayloadError.{PayloadError}
use Rattle.someip_payload_values.specs.declared.error.PayloadError.TheVariants as errors

infixl 10 ◌>>=◌
abbrev pub ◌>>=◌ : {A B : Type 0} → Result A PayloadError → (A → Result B PayloadError) → Result B PayloadError
(Ok x) >>= f = f x
(Err e) >>= f = Err e

-- The error of a function is the fault that reading or writing has, unless memory ran out.
abbrev pub Fails : {Y : Type 0} → PayloadError → Result Y PayloadError → Type 0
Fails errors.OutOfMemory read = Unit {0}
Fails e read = read ≡ Err e

-- What a function returned, seen by view, is what reading gives, unless memory ran out.
abbrev pub Gives : {X Y : Type 0} → (X → Y) → Result X PayloadError → Result Y PayloadError → Type 0
Gives view (Ok x) read = read ≡ Ok (view x)
Gives view (Err e) read = Fails e read
