use Rattle.std.proofs.Common.{◌≡◌, ◌≤◌, [], length, vec_capacity}
use Rattle.std.specs.List.{All}
use Rattle.someip_tp.specs.Pools.{IsFree}
use Rattle.someip_tp.proofs.pool.slots.Slots.reserve.Given as goal

-- so many free rooms are there
abbrev pub invariant-loop : goal.invariant-loop
invariant-loop l =
    record {
      none_taken : l.taken.items ≡ [];
      room_of_taken : l.count ≤ vec_capacity l.taken;
      free : All (IsFree l.limit) l.free.items;
      so_many : length l.free.items ≡ l.counter;
      room_of_free : l.count ≤ vec_capacity l.free;
    }
