use Rattle.std.proofs.Common.{ℕ, ◌<◌, ◌≤◌, ◌^◌, get_or}
use Rattle.std.specs.List.{All}
use Rattle.someip_tp.specs.RoomParts.{PartInRoom}
use Rattle.someip_tp.proofs.pool.slots.soonest.Given as goal

-- none of the parts so far had its last segment before, and no later moment is that of all parts
abbrev pub invariant-loop-part : goal.invariant-loop-part
invariant-loop-part l =
    record {
      least : (k : ℕ) (d : PartInRoom) → k < l.part-index → l.soonest ≤ (get_or l.taken k d).entry.1.last;
      reached : (at : ℕ) → at < 2 ^ 64 → All (λ (p : PartInRoom). at ≤ p.entry.1.last) l.taken → at ≤ l.soonest;
    }
