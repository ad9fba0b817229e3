-- Numbers in the two orders of bytes.
use Rattle.std.specs.Prelude.{ℕ, ◌+◌, List, slice_range}
use Rattle.std.specs.Int.{w16, w32, w64, from_be_bytes, from_le_bytes}
use Rattle.recording.specs.declared.number.ByteOrder.{ByteOrder}
use Rattle.recording.specs.declared.number.ByteOrder.TheVariants.{Big, Little}

-- the number in the two bytes at a place, the highest byte first, as the network's protocols have it
abbrev pub network16 : List ℕ → ℕ → ℕ
network16 bytes i = from_be_bytes w16 (slice_range bytes i (i + 2))

-- the number in the two or four bytes at a place, or in the first eight
abbrev pub number16 : ByteOrder → List ℕ → ℕ → ℕ
number16 Big bytes i = from_be_bytes w16 (slice_range bytes i (i + 2))
number16 Little bytes i = from_le_bytes w16 (slice_range bytes i (i + 2))

abbrev pub number32 : ByteOrder → List ℕ → ℕ → ℕ
number32 Big bytes i = from_be_bytes w32 (slice_range bytes i (i + 4))
number32 Little bytes i = from_le_bytes w32 (slice_range bytes i (i + 4))

abbrev pub number64 : ByteOrder → List ℕ → ℕ
number64 Big bytes = from_be_bytes w64 (slice_range bytes 0 8)
number64 Little bytes = from_le_bytes w64 (slice_range bytes 0 8)
