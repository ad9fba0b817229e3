-- Numbers in fields, the highest byte first, and the flags (SOME/IP Service Discovery, "SOME/IP-SD Header").
use Rattle.std.specs.Prelude.{ℕ, ◌+◌, ◌%◌, ◌<◌, nat_le, if◌then◌else◌, List, ◌∷◌, slice_index, slice_range}
use Rattle.std.specs.Int.{w16, w32, to_be_bytes, from_be_bytes, bytes_high_first}
use Rattle.sd_wire.specs.declared.flags.SdFlags.{SdFlags}

-- the bytes of a number of 16, 24 or 32 bits
abbrev pub number16 : ℕ → List ℕ
number16 n = to_be_bytes w16 n

abbrev pub number24 : ℕ → List ℕ
number24 n = bytes_high_first 3 n

abbrev pub number32 : ℕ → List ℕ
number32 n = to_be_bytes w32 n

-- the number in the two, three or four bytes at a place
abbrev pub field16 : List ℕ → ℕ → ℕ
field16 bytes i = from_be_bytes w16 (slice_range bytes i (i + 2))

abbrev pub field24 : List ℕ → ℕ → ℕ
field24 bytes i = from_be_bytes w32 (0 ∷ slice_range bytes i (i + 3))

abbrev pub field32 : List ℕ → ℕ → ℕ
field32 bytes i = from_be_bytes w32 (slice_range bytes i (i + 4))

-- every element is a byte
abbrev pub IsBytes : List ℕ → Type 0
IsBytes bytes = (i : ℕ) → slice_index bytes i < 256

-- the byte of the flags: Reboot 80, Unicast 40
abbrev pub flags_byte : SdFlags → ℕ
flags_byte f = (if f.reboot then 128 else 0) + (if f.unicast then 64 else 0)

-- the flags in a byte, whatever its other six bits are
abbrev pub flags_in : ℕ → SdFlags
flags_in b = record { reboot = nat_le 128 b; unicast = nat_le 64 (b % 128) }
