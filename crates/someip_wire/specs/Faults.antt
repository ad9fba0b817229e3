-- The fault of bytes that begin with no message.
use Rattle.std.specs.Prelude.{ℕ, ◌+◌, List, codes, length, slice_index, slice_range, Option, Some, None, is_none, nat_lt, ◌==◌, not, if◌then◌else◌}
use Rattle.std.specs.Int.{w32, from_be_bytes}
use Rattle.someip_wire.specs.declared.error.WireError.{WireError}
use Rattle.someip_wire.specs.declared.error.WireError.TheVariants.{Truncated, LengthTooSmall, WrongProtocolVersion, UnknownMessageType}
use Rattle.someip_wire.specs.Kinds.{kind_of}

-- the number in the Length field
abbrev pub length_field : List ℕ → ℕ
length_field bytes = from_be_bytes w32 (slice_range bytes 4 8)

-- the fault of the bytes from place p of a datagram on: the first line that fits, if one does
abbrev pub fault_at : ℕ → List ℕ → Option WireError
fault_at p bytes =
    if nat_lt (length bytes) 16 then Some (Truncated (p + length bytes))
    else (if nat_lt (length_field bytes) 8 then Some (LengthTooSmall (p + 4))
    else (if not (slice_index bytes 12 == 1) then Some (WrongProtocolVersion (p + 12))
    else (if is_none (kind_of (slice_index bytes 14)) then Some (UnknownMessageType (p + 14))
    else (if nat_lt (length bytes) (length_field bytes + 8) then Some (Truncated (p + length bytes))
    else None))))

-- the name of a fault
abbrev pub fault_name : WireError → List ℕ
fault_name (Truncated place) = codes "Truncated"
fault_name (LengthTooSmall place) = codes "LengthTooSmall"
fault_name (WrongProtocolVersion place) = codes "WrongProtocolVersion"
fault_name (UnknownMessageType place) = codes "UnknownMessageType"

-- the place of a fault in its datagram
abbrev pub fault_place : WireError → ℕ
fault_place (Truncated place) = place
fault_place (LengthTooSmall place) = place
fault_place (WrongProtocolVersion place) = place
fault_place (UnknownMessageType place) = place
