use Rattle.std.proofs.Common.{refl, ◌+◌}
use Rattle.someip_tp.proofs.reserved_memory.RoomLemmas.{nothing_before_0}
use Rattle.someip_tp.proofs.pool.room.Room.empty.Goals as goal

pub returns-then-self-clause-empty : goal.returns-then-self-clause-empty
returns-then-self-clause-empty c = nothing_before_0 (record { bytes = c.args.self.now.bytes; blocks = c.clear.new.self; message = 1; end = 0; limit = c.args.self.now.limit }) refl

pub returns-else-self-clause-empty : goal.returns-else-self-clause-empty
returns-else-self-clause-empty c =
    nothing_before_0 (record { bytes = c.args.self.now.bytes; blocks = c.args.self.now.blocks; message = c.args.self.now.message + 1; end = 0; limit = c.args.self.now.limit }) refl
