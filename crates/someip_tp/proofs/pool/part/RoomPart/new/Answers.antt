use Rattle.std.proofs.Common.{ap, None}
use Rattle.someip_tp.proofs.reserved_memory.RoomLemmas.{nothing_before_0}
use Rattle.someip_tp.proofs.pool.part.RoomPart.new.Goals as goal

pub returns-clause-entry : goal.returns-clause-entry
returns-clause-entry c = ap (λ bytes. (c.args.key, record { bytes = bytes; total = None; last = 0 })) (nothing_before_0 c.args.room c.requires.empty)
