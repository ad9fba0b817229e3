-- The interfaces of a pcapng section.
use Rattle.std.specs.Prelude.{ℕ, zero, suc, ◌+◌, ◌*◌, ◌/◌, nat_lt, ◌==◌, if◌then◌else◌, List, length, drop, slice_index, slice_range, Option, Some, None}
use Rattle.recording.specs.declared.number.ByteOrder.{ByteOrder}
use Rattle.recording.specs.declared.interface.Interface.{Interface}
use Rattle.recording.specs.Numbers.{number16, number32, number64}

-- how many bytes the value of the option at the front has
abbrev pub value_len : ByteOrder → List ℕ → ℕ
value_len order options = number16 order options 2

-- how many bytes the option at the front has: code, length, and the value padded to 32 bits
abbrev pub option_len : ByteOrder → List ℕ → ℕ
option_len order options = 4 + (value_len order options + 3) / 4 * 4

-- the value of the first option with a code, among n at most
unfoldable pub option_within : ℕ → ByteOrder → ℕ → List ℕ → Option (List ℕ)
option_within zero order code options = None
option_within (suc n) order code options =
    if nat_lt (length options) 4 then None
    else (if number16 order options 0 == 0 then None
    else (if nat_lt (length options) (4 + value_len order options) then None
    else (if number16 order options 0 == code then Some (slice_range options 4 (4 + value_len order options))
    else option_within n order code (drop (option_len order options) options))))

-- the value of the first option with a code. The options end at code 0, or where the bytes do not hold another whole.
-- Each option has 4 bytes at least, so n steps are enough for n bytes.
abbrev pub option_in : ByteOrder → ℕ → List ℕ → Option (List ℕ)
option_in order code options = option_within (length options) order code options

-- the resolution that a value says, if it has one byte, and else microseconds
abbrev pub resolution_of : Option (List ℕ) → ℕ
resolution_of (Some value) = if length value == 1 then slice_index value 0 else 6
resolution_of None = 6

-- the offset that a value says, if it has 8 bytes, and else none
abbrev pub offset_of : ByteOrder → Option (List ℕ) → ℕ
offset_of order (Some value) = if length value == 8 then number64 order value else 0
offset_of order None = 0

-- the resolution of an interface: what its first option `if_tsresol` says, if that has one byte, and else microseconds
abbrev pub resolution_in : ByteOrder → List ℕ → ℕ
resolution_in order options = resolution_of (option_in order 9 options)

-- the offset of an interface: what its first option `if_tsoffset` says, if that has 8 bytes, and else none
abbrev pub offset_in : ByteOrder → List ℕ → ℕ
offset_in order options = offset_of order (option_in order 14 options)

-- the interface that the body of a block describes
abbrev pub interface_in : ByteOrder → List ℕ → Interface
interface_in order body = record {
  link = number16 order body 0;
  snap = number32 order body 4;
  resolution = resolution_in order (drop 8 body);
  offset = offset_in order (drop 8 body);
}
