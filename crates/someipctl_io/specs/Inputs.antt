-- What a reader had left, and what a read that failed is told as.
use Rattle.std.specs.Prelude.{ℕ, ◌≡◌, List, Option, IfSome}
use Rattle.std.specs.declared.io.ErrorKind.{ErrorKind}
use Rattle.std.specs.declared.io.ErrorKind.TheVariants as kinds
use Rattle.someipctl_io.specs.declared.input.ReadFault.{ReadFault}
use Rattle.someipctl_io.specs.declared.input.ReadFault.TheVariants.{CannotRead, OutOfMemory}

-- the text is what the reader had left, where that is known
abbrev pub WasLeft : Option (List ℕ) → List ℕ → Type 0
WasLeft input text = IfSome input (λ known. text ≡ known)

-- what an error of a read is told as, by its kind. A read that a signal interrupts is asked again, and not told.
abbrev pub read_fault : ErrorKind → ReadFault
read_fault kinds.OutOfMemory = OutOfMemory
read_fault kind = CannotRead
