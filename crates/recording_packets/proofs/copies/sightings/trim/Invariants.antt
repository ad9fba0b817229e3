use Rattle.std.proofs.Common.{◌≡◌, ℕ, length}
use Rattle.recording_packets.specs.copies.Queues.{AreBelow, IsRising, entries_in}
use Rattle.recording_packets.proofs.copies.sightings.trim.Given as goal

abbrev pub invariant-loop-queue : goal.invariant-loop-queue
invariant-loop-queue l =
    record {
      same : entries_in l.queue.items ≡ entries_in l.initial.queue.items;
      rising : IsRising l.initial.queue.items → IsRising l.queue.items;
      below : (next : ℕ) → AreBelow next l.initial.queue.items → AreBelow next l.queue.items;
    }

abbrev pub decreases-loop-queue : goal.decreases-loop-queue
decreases-loop-queue l = length l.queue.items
