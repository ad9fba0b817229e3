use Rattle.std.proofs.Common.{◌≡◌, ◌≤◌, ◌+◌, ◌-◌, ◌*◌, ◌++◌, ℕ, length, vec_capacity, vec_len, take, None}
use Rattle.std.specs.List.{flat_map, slice_index_or}
use Rattle.recording_packets.specs.copies.Slots.{halves}
use Rattle.recording_packets.proofs.copies.doubling.move_over.Given as goal

-- those up to the index are moved, and there is room for the others
abbrev pub invariant-loop-place : goal.invariant-loop-place
invariant-loop-place l =
    record {
      moved : l.more.items ≡ l.initial.more.items ++ flat_map (halves l.shift) (take l.place-index l.fn.slots);
      left : (k : ℕ) → l.place-index ≤ k → slice_index_or l.slots k None ≡ slice_index_or l.fn.slots k None;
      room : vec_len l.more + 2 * (length l.slots - l.place-index) ≤ vec_capacity l.more;
    }
