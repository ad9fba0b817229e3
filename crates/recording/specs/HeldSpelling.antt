-- Recordings of which a reader holds each packet and block, as they are spelled.
use Rattle.std.specs.Prelude.{◌≡◌, ⊤, ℕ, ◌+◌, ◌≤◌, ◌==◌, if◌then◌else◌, false, List, [], ◌∷◌, length}
use Rattle.std.proofs.Common.{inl, inr}
use Rattle.std.specs.List.{AllByRecursion}
use Rattle.recording.specs.declared.number.ByteOrder.TheVariants.{Big}
use Rattle.recording.specs.declared.classic.Classic as declared_classic
use Rattle.recording.specs.declared.format.Format.TheVariants.{Classic, Blocks}
use Rattle.recording.specs.Records.{Item}
use Rattle.recording.specs.Held.{held_limit, interface_limit, is_too_long}
use Rattle.recording.specs.Spelling.{PacketValue, SpelledBlock, head, plain, body_by, last_order, IsRecording}

-- with its head of 16 bytes the packet has no more than a reader holds
abbrev pub IsHeldPacket : PacketValue → Type 0
IsHeldPacket k = 16 + length k.bytes ≤ held_limit

-- with its type and its two lengths the block has no more
abbrev pub IsHeldBlock : SpelledBlock → Type 0
IsHeldBlock b = 12 + length (body_by b) ≤ held_limit

-- how many interfaces its section has after a block, before which it had n: none at its head, and one more after the
-- description of one
abbrev pub described_by : ℕ → SpelledBlock → ℕ
described_by n (head own rest) = 0
described_by n (plain number body) = if number == 1 then n + 1 else n

-- no section of these blocks has more interfaces than a reader holds, where the first had n before them
abbrev pub HoldsInterfaces : ℕ → List SpelledBlock → Type 0
HoldsInterfaces n [] = ⊤
HoldsInterfaces n (b ∷ blocks) = (described_by n b ≤ interface_limit) × HoldsInterfaces (described_by n b) blocks

-- a reader holds each of these packets, and the rest after them, which is no whole one, is not said to have more
pub record HoldsPackets (c : declared_classic.Classic) (packets : List PacketValue) (rest : List ℕ) : Type 0 where
  pub packets_held : AllByRecursion IsHeldPacket packets
  pub rest_held : is_too_long (Classic c) rest ≡ false

-- the same of blocks, and of the interfaces of their sections
pub record HoldsBlocks (blocks : List SpelledBlock) (rest : List ℕ) : Type 0 where
  pub blocks_held : AllByRecursion IsHeldBlock blocks
  pub interfaces_held : HoldsInterfaces 0 blocks
  pub rest_held : is_too_long (Blocks (last_order Big blocks)) rest ≡ false

-- a reader holds all that this recording is
abbrev pub IsHeldWhole : (items : List Item) (file : List ℕ) → IsRecording items file → Type 0
IsHeldWhole items file (inl r) = HoldsPackets r.0 r.1 r.3.rest
IsHeldWhole items file (inr r) = HoldsBlocks r.0 r.2.rest
