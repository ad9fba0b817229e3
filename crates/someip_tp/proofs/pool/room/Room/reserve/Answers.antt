use Rattle.std.proofs.Common.{refl}
use Rattle.someip_tp.proofs.reserved_memory.RoomLemmas.{nothing_before_0}
use Rattle.someip_tp.proofs.pool.room.Room.reserve.Goals as goal

pub returns-clause-empty : goal.returns-clause-empty
returns-clause-empty c = nothing_before_0 (record { bytes = c.in_ok-with_capacity.field-0; blocks = c.in_ok-with_capacity-2.field-0; message = 1; end = 0; limit = c.args.limit }) refl
