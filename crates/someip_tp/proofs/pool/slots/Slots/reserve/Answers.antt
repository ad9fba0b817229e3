use Rattle.std.proofs.Common.{sym, subst, arith}
use Rattle.std.specs.List.{All}
use Rattle.someip_tp.specs.Pools.{IsFree}
use Rattle.someip_tp.proofs.reserved_memory.SlotLemmas.{all_pushed}
use Rattle.someip_tp.proofs.pool.slots.Slots.reserve.Goals as goal

pub loop-preserved : goal.loop-preserved
loop-preserved c =
    record {
      none_taken = c.loop.invariant.none_taken;
      room_of_taken = c.loop.invariant.room_of_taken;
      free = subst (All (IsFree c.args.limit)) (sym c.push_reserved.ensures.items)
          (all_pushed (IsFree c.args.limit) c.loop.free.items c.in_ok-reserve.field-0 c.loop.invariant.free
          (record { consistent = c.in_ok-reserve.ensures.consistent; empty = c.in_ok-reserve.ensures.end; limit = c.in_ok-reserve.ensures.limit }));
      so_many = omega (arith, c.push_reserved.ensures.len, c.loop.invariant.so_many);
      room_of_free = omega (arith, c.push_reserved.ensures.capacity, c.loop.invariant.room_of_free);
    }
