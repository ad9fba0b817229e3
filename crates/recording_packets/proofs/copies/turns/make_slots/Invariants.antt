use Rattle.std.proofs.Common.{◌≡◌, ℕ, ◌-◌, length, None}
use Rattle.std.specs.List.{slice_index_or}
use Rattle.recording_packets.specs.declared.copies.turns.TheConstants.{FIRST_SLOTS}
use Rattle.recording_packets.proofs.copies.turns.make_slots.Given as goal

abbrev pub invariant-loop-slots : goal.invariant-loop-slots
invariant-loop-slots l = (i : ℕ) → slice_index_or l.slots.items i None ≡ slice_index_or l.initial.slots.items i None

abbrev pub decreases-loop-slots : goal.decreases-loop-slots
decreases-loop-slots l = FIRST_SLOTS - length l.slots.items
