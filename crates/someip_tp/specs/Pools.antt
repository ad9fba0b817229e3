-- The slots of a pool.
use Rattle.std.specs.Prelude.{◌≡◌, ◌+◌, ◌≤◌, ℕ, List, map, length, Some, Result, Ok, Err, vec_capacity}
use Rattle.std.specs.List.{All, AllPairs}
use Rattle.std.specs.List.Sorted.{IsPartitionPoint}
use Rattle.std.specs.declared.cmp.Ordering.TheVariants.{Less, Greater}
use Rattle.someip_reassembly.specs.declared.key.ReassemblyKey.{ReassemblyKey}
use Rattle.someip_reassembly.specs.Keys.{key_cmp}
use Rattle.someip_reassembly.specs.Partials.{Entry}
use Rattle.someip_reassembly.specs.Stores.{StandsAt}
use Rattle.someip_tp.specs.Rooms.{IsConsistent}
use Rattle.someip_tp.specs.RoomParts.{PartInRoom}
use Rattle.someip_tp.specs.declared.pool.room.Room.{Room}
use Rattle.someip_tp.specs.declared.pool.slots.Slots.{Slots}

-- the parts under their keys
abbrev pub entries_of : List PartInRoom → List Entry
entries_of parts = map (λ p. p.entry) parts

abbrev pub entries_in : Slots → List Entry
entries_in slots = entries_of slots.taken.items

-- the keys of the entries rise
abbrev pub AreRising : List Entry → Type 0
AreRising entries = AllPairs (λ (a b : Entry). key_cmp a.0 b.0 ≡ Less) entries

-- the keys of the entries before i are below the key, and those from i on above it
abbrev pub GoesAt : ReassemblyKey → List Entry → ℕ → Type 0
GoesAt key entries i = (i ≤ length entries) × IsPartitionPoint (λ (e : Entry). key_cmp e.0 key ≡ Less) (λ (e : Entry). key_cmp e.0 key ≡ Greater) entries i

-- where the entry of the key stands, or else where one goes
abbrev pub Finds : ReassemblyKey → List Entry → Result ℕ ℕ → Type 0
Finds key entries (Ok i) = StandsAt key entries (Some i)
Finds key entries (Err i) = GoesAt key entries i

-- as many slots, and as long messages
abbrev pub SameBounds : Slots → Slots → Type 0
SameBounds old new = (new.count ≡ old.count) × (new.limit ≡ old.limit)

-- a room that is ready for a message of so many places
pub record IsFree (places : ℕ) (room : Room) : Type 0 where
  pub consistent : IsConsistent room
  pub empty : room.end ≡ 0
  pub limit : room.limit ≡ places

-- what is true of the slots of a pool: the keys of the parts rise, all rooms have the places that a message may have,
-- the parts and the free rooms are as many as there are slots, the list of each has room for that many, and no part
-- had its last segment before a moment that is kept
pub record ArePooled (slots : Slots) : Type 0 where
  pub rising : AreRising (entries_in slots)
  pub rooms : All (λ (p : PartInRoom). p.limit ≡ slots.limit) slots.taken.items
  pub free : All (IsFree slots.limit) slots.free.items
  pub count : length slots.taken.items + length slots.free.items ≡ slots.count
  pub room_of_taken : slots.count ≤ vec_capacity slots.taken
  pub room_of_free : slots.count ≤ vec_capacity slots.free
  pub soonest : All (λ (p : PartInRoom). slots.soonest ≤ p.entry.1.last) slots.taken.items
