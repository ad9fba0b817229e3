-- What a room holds.
use Rattle.std.specs.Prelude.{◌≡◌, ◌+◌, ◌*◌, ◌/◌, ◌<◌, ◌≤◌, ℕ, true, length, take, vec_capacity}
use Rattle.std.specs.Ordering.{nat_cmp}
use Rattle.std.specs.FinMap.{FinMap, empty, retain_keys}
use Rattle.someip_reassembly.specs.SegmentOffers.{placed, added}
use Rattle.someip_tp.specs.Blocks.{is_held, other_end, AreTied, AreUpTo}
use Rattle.someip_tp.specs.declared.pool.room.Room.{Room}

-- the places of the blocks that are held for the message, up to the end
abbrev pub held_bytes : Room → FinMap nat_cmp ℕ
held_bytes room = retain_keys (added empty (placed 0 (take room.end room.bytes.items))) (λ place. is_held room.message room.blocks.items (place / 16))

-- how many blocks are reserved: two for each 32 places
abbrev pub blocks_for : ℕ → ℕ
blocks_for limit = 2 * ((limit + 31) / 32)

-- a slice of this length at this offset was held: where it has bytes, the end is not before its own
abbrev pub Continues : ℕ → ℕ → ℕ → ℕ → Type 0
Continues old new offset len =
    (len ≡ 0 → new ≡ old) × (0 < len → (old ≤ new) × (offset + len ≤ new) × (old ≤ offset + len → new ≡ offset + len) × (offset + len ≤ old → new ≡ old))

-- what is true of every room
pub record IsConsistent (room : Room) : Type 0 where
  -- the ends of its intervals tell one another
  pub tied : AreTied (is_held room.message room.blocks.items) (other_end room.blocks.items)
  -- no block is held for a message to come
  pub numbered : 0 < room.message
  pub earlier : AreUpTo room.message room.blocks.items
  -- the end is the place after the last block's last one that is held
  pub below : (k : ℕ) → is_held room.message room.blocks.items k ≡ true → 16 * k < room.end
  pub top : (place : ℕ) → place + 1 ≡ room.end → is_held room.message room.blocks.items (place / 16) ≡ true
  pub inside : room.end ≤ length room.bytes.items
  -- all that it needs is reserved
  pub room_of_bytes : room.limit ≤ vec_capacity room.bytes
  pub room_of_blocks : blocks_for room.limit ≤ vec_capacity room.blocks
  pub few : blocks_for room.limit < 0x1_0000_0000
