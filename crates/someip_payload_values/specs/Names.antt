-- The names and places of faults.
use Rattle.std.specs.Prelude.{ℕ, List, codes}
use Rattle.someip_payload_values.specs.declared.error.PayloadError.{PayloadError}
use Rattle.someip_payload_values.specs.declared.error.PayloadError.TheVariants as errors

-- the name of a fault
abbrev pub fault_name : PayloadError → List ℕ
fault_name (errors.Truncated place) = codes "Truncated"
fault_name (errors.BadText place) = codes "BadText"
fault_name (errors.NoTerminator place) = codes "NoTerminator"
fault_name (errors.UnknownVariant place) = codes "UnknownVariant"
fault_name (errors.LengthMismatch place) = codes "LengthMismatch"
fault_name (errors.TooMany place) = codes "TooMany"
fault_name (errors.TooDeep place) = codes "TooDeep"
fault_name (errors.NotOfShape place) = codes "NotOfShape"
fault_name (errors.TooLong place) = codes "TooLong"
fault_name (errors.BadShape place) = codes "BadShape"
fault_name (errors.DuplicateMember place) = codes "DuplicateMember"
fault_name (errors.WrongWireType place) = codes "WrongWireType"
fault_name (errors.MissingMember place) = codes "MissingMember"
fault_name errors.OutOfMemory = codes "OutOfMemory"

-- the place of a fault in the input
abbrev pub fault_place : PayloadError → ℕ
fault_place (errors.Truncated place) = place
fault_place (errors.BadText place) = place
fault_place (errors.NoTerminator place) = place
fault_place (errors.UnknownVariant place) = place
fault_place (errors.LengthMismatch place) = place
fault_place (errors.TooMany place) = place
fault_place (errors.TooDeep place) = place
fault_place (errors.NotOfShape place) = place
fault_place (errors.TooLong place) = place
fault_place (errors.BadShape place) = place
fault_place (errors.DuplicateMember place) = place
fault_place (errors.WrongWireType place) = place
fault_place (errors.MissingMember place) = place
fault_place errors.OutOfMemory = 0
