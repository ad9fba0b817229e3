-- Why a command did not do its work.
use Rattle.std.specs.Prelude.{⊤}
use Rattle.someipctl_io.specs.declared.fault.Fault.{Fault}
use Rattle.someipctl_io.specs.declared.fault.Fault.TheVariants.{Refused, CannotRead, CannotWrite, OutOfMemory}
use Rattle.someipctl_io.specs.declared.fault.PrintFault.{PrintFault}
use Rattle.someipctl_io.specs.declared.fault.PrintFault.TheVariants as prints
use Rattle.someipctl_io.specs.declared.input.ReadFault.{ReadFault}
use Rattle.someipctl_io.specs.declared.input.ReadFault.TheVariants as reads

-- an input was not read
abbrev pub fault_of_read : {R : Type 0} → ReadFault → Fault R
fault_of_read reads.CannotRead = CannotRead
fault_of_read reads.OutOfMemory = OutOfMemory

-- a text was not printed whole
abbrev pub fault_of_print : {R : Type 0} → PrintFault → Fault R
fault_of_print prints.CannotWrite = CannotWrite
fault_of_print prints.OutOfMemory = OutOfMemory

-- a refusal may be told otherwise where there is one
abbrev pub MayMap : {R : Type 0} → (R → Type 0) → Fault R → Type 0
MayMap may (Refused refusal) = may refusal
MayMap may fault = ⊤

-- a refusal is told otherwise, and any other fault stays
abbrev pub IsMapped : {R S : Type 0} → (R → S → Type 0) → Fault R → Fault S → Type 0
IsMapped told (Refused refusal) (Refused other) = told refusal other
IsMapped told CannotRead CannotRead = ⊤
IsMapped told CannotWrite CannotWrite = ⊤
IsMapped told OutOfMemory OutOfMemory = ⊤
IsMapped told fault other = ⊥
