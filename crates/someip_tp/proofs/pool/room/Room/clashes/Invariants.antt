use Rattle.std.proofs.Common.{◌≡◌, ℕ, ◌<◌, ◌+◌, ◌*◌, Some}
use Rattle.std.specs.FinMap.{get}
use Rattle.someip_reassembly.specs.Slices.{byte_at}
use Rattle.someip_tp.specs.Rooms.{held_bytes}
use Rattle.someip_tp.proofs.pool.room.Room.clashes.Given as goal

-- the parts of the slice so far have the bytes that are held
abbrev pub invariant-loop-i : goal.invariant-loop-i
invariant-loop-i l = (place a b : ℕ) → place < l.offset + 16 * l.i → get (held_bytes l.self) place ≡ Some a → byte_at l.offset l.bytes place ≡ Some b → a ≡ b
