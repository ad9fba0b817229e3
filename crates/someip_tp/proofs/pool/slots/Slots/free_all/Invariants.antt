use Rattle.std.proofs.Common.{◌≡◌, length}
use Rattle.someip_tp.specs.Pools.{ArePooled, SameBounds}
use Rattle.someip_tp.proofs.pool.slots.Slots.free_all.Given as goal

abbrev pub decreases-loop-i : goal.decreases-loop-i
decreases-loop-i l = l.i

-- so many parts are left
abbrev pub invariant-loop-i : goal.invariant-loop-i
invariant-loop-i l =
    record {
      left : length l.self.taken.items ≡ l.i;
      pooled : ArePooled l.self;
      bounds : SameBounds l.initial.self l.self;
    }
