-- The names of errors.
use Rattle.std.specs.Prelude.{ℕ, List, codes}
use Rattle.someip_reassembly.specs.declared.error.TpError.{TpError}
use Rattle.someip_reassembly.specs.declared.error.TpError.TheVariants.{Unaligned, TooLong, Conflict, NoSlot, OutOfMemory, NoHeader}

-- the name of an error
abbrev pub error_name : TpError → List ℕ
error_name Unaligned = codes "Unaligned"
error_name TooLong = codes "TooLong"
error_name Conflict = codes "Conflict"
error_name NoSlot = codes "NoSlot"
error_name OutOfMemory = codes "OutOfMemory"
error_name NoHeader = codes "NoHeader"
