-- A message that has come in part, in the room of its slot.
use Rattle.std.specs.Prelude.{◌≡◌, ◌≢◌, ◌%◌, ◌≤◌, ℕ, Some, refl}
use Rattle.std.specs.Coded.{Coded, code_by, coded×, coded_ℕ}
use Rattle.someip_reassembly.specs.Partials.{Entry, coded_entry}
use Rattle.someip_tp.specs.Rooms.{held_bytes, IsConsistent}
use Rattle.someip_tp.specs.declared.pool.part.RoomPart.TheInside.{Inside}

-- a part under its key, and how many places its room has
pub record PartInRoom : Type 0 where
  pub entry : Entry
  pub limit : ℕ

abbrev pub coded_part_in_room : Coded PartInRoom
coded_part_in_room = code_by (Entry × ℕ) (coded× coded_entry coded_ℕ) (λ p. (p.entry, p.limit)) (λ c. record { entry = c.0; limit = c.1 }) (λ _. refl)

-- what contracts see of a part in its room
abbrev pub view_part : Inside → PartInRoom
view_part p = record {
  entry = (p.key, record { bytes = held_bytes p.room; total = p.total; last = p.last });
  limit = p.room.limit;
}

-- what is true of every part in its room: nothing is held past its total, and where its end is within a block, that is
-- its total
pub record IsSoundIn (p : Inside) : Type 0 where
  pub room : IsConsistent p.room
  pub below : (total : ℕ) → p.total ≡ Some total → p.room.end ≤ total
  pub cut : p.room.end % 16 ≢ 0 → p.total ≡ Some p.room.end
