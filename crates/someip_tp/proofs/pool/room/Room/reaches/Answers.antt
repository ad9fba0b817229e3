use Rattle.std.proofs.Common.{sym, ap, ◌∙◌}
use Rattle.std.specs.FinMap.{keys}
use Rattle.someip_reassembly.specs.SegmentOffers.{passes}
use Rattle.someip_tp.specs.Rooms.{held_bytes}
use Rattle.someip_tp.proofs.reserved_memory.RoomLemmas.{reaches_as}
use Rattle.someip_tp.proofs.pool.room.Room.reaches.Goals as goal

pub returns-in-Some : goal.returns-in-Some
returns-in-Some c = reaches_as c.args.self.now c.in-Some.total c.requires ∙ ap (λ t. passes t (keys (held_bytes c.args.self.now))) (sym c.in-Some.is)
