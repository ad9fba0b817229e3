-- The blocks of pcapng, by their lengths.
use Rattle.std.specs.Prelude.{ℕ, ◌+◌, ◌-◌, ◌%◌, nat_lt, ◌==◌, not, if◌then◌else◌, List, length, slice_range, Option, Some, None, is_none, unwrap_or}
use Rattle.std.specs.Option.{option_or}
use Rattle.recording.specs.declared.error.RecordingError.{RecordingError}
use Rattle.recording.specs.declared.error.RecordingError.TheVariants.{Truncated, BadOrder, BlockLength}
use Rattle.recording.specs.declared.number.ByteOrder.{ByteOrder}
use Rattle.recording.specs.declared.number.ByteOrder.TheVariants.{Big, Little}
use Rattle.recording.specs.declared.block.BlockKind.{BlockKind}
use Rattle.recording.specs.declared.block.BlockKind.TheVariants.{Section, Interface, OldPacket, SimplePacket, EnhancedPacket, Other}
use Rattle.recording.specs.Numbers.{number32}

-- a block without where its body lies in memory
pub record BlockValue : Type 0 where
  pub kind : BlockKind
  pub order : ByteOrder
  pub body : List ℕ

-- what the block of a type is
abbrev pub kind_of : ℕ → BlockKind
kind_of n =
    if n == 0x0a0d0d0a then Section
    else (if n == 1 then Interface
    else (if n == 2 then OldPacket
    else (if n == 3 then SimplePacket
    else (if n == 6 then EnhancedPacket
    else Other))))

-- the type of the block at the front, in a section with this order. That of the head of a section is the same in both
-- orders.
abbrev pub block_kind : ByteOrder → List ℕ → BlockKind
block_kind order bytes = kind_of (number32 order bytes 0)

-- the order in which the number 1a2b3c4d stands so
abbrev pub magic_order : ℕ → Option ByteOrder
magic_order n =
    if n == 0x1a2b3c4d then Some Big
    else (if n == 0x4d3c2b1a then Some Little
    else None)

-- the order of a block's numbers: that of the section, or the one that the head of a section says
abbrev pub block_order : ByteOrder → BlockKind → List ℕ → Option ByteOrder
block_order order Section bytes = magic_order (number32 Big bytes 8)
block_order order Interface bytes = Some order
block_order order OldPacket bytes = Some order
block_order order SimplePacket bytes = Some order
block_order order EnhancedPacket bytes = Some order
block_order order Other bytes = Some order

-- the same where it is an order
abbrev pub order_in : ByteOrder → List ℕ → ByteOrder
order_in order bytes = unwrap_or (block_order order (block_kind order bytes) bytes) order

-- the total length
abbrev pub total_len : ByteOrder → List ℕ → ℕ
total_len order bytes = number32 (order_in order bytes) bytes 4

-- the total length at the end
abbrev pub closing_len : ByteOrder → List ℕ → ℕ
closing_len order bytes = number32 (order_in order bytes) bytes (total_len order bytes - 4)

-- how many bytes a block without fault has: the type, the total length twice, and the body
abbrev pub block_len : ByteOrder → List ℕ → ℕ
block_len order bytes = (total_len order bytes - 12) + 12

-- the fault of the head of the block at the front, at place p of the file: of the 12 bytes that tell its length
abbrev pub head_fault : ByteOrder → ℕ → List ℕ → Option RecordingError
head_fault order p bytes =
    if nat_lt (length bytes) 12 then Some (Truncated p)
    else (if is_none (block_order order (block_kind order bytes) bytes) then Some (BadOrder p)
    else (if nat_lt (total_len order bytes) 12 then Some (BlockLength p)
    else (if not (total_len order bytes % 4 == 0) then Some (BlockLength p)
    else None)))

-- the fault of its end, where its head has none
abbrev pub end_fault : ByteOrder → ℕ → List ℕ → Option RecordingError
end_fault order p bytes =
    if nat_lt (length bytes) (total_len order bytes) then Some (Truncated p)
    else (if not (closing_len order bytes == total_len order bytes) then Some (BlockLength p)
    else None)

-- the fault of the block at the front: the first of both
abbrev pub block_fault : ByteOrder → ℕ → List ℕ → Option RecordingError
block_fault order p bytes = option_or (head_fault order p bytes) (end_fault order p bytes)

-- the block at the front, where there is no fault
abbrev pub block_in : ByteOrder → List ℕ → BlockValue
block_in order bytes = record {
  kind = block_kind order bytes;
  order = order_in order bytes;
  body = slice_range bytes 8 (total_len order bytes - 4);
}
