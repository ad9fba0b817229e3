use Rattle.std.proofs.Common.{◌≡◌, ◌≤◌, not, length}
use Rattle.someip_reassembly.specs.Parts.{is_gone}
use Rattle.someip_tp.specs.Pools.{ArePooled, SameBounds, entries_in}
use Rattle.someip_tp.proofs.reserved_memory.SlotLemmas.{kept_from}
use Rattle.someip_tp.proofs.pool.slots.Slots.free_each_gone.Given as goal

abbrev pub decreases-loop-i : goal.decreases-loop-i
decreases-loop-i l = l.i

-- of the parts from here on those are left whose time is not over
abbrev pub invariant-loop-i : goal.invariant-loop-i
invariant-loop-i l =
    record {
      short : l.i ≤ length (entries_in l.initial.self);
      pooled : ArePooled l.self;
      entries : entries_in l.self ≡ kept_from (λ e. not (is_gone l.timeout l.now e.1)) l.i (entries_in l.initial.self);
      bounds : SameBounds l.initial.self l.self;
    }
