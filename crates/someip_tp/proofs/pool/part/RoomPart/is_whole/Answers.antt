use Rattle.std.proofs.Common.{ap, ◌∙◌}
use Rattle.std.specs.Option.{is_some}
use Rattle.someip_reassembly.specs.SegmentOffers.{message_of}
use Rattle.someip_tp.specs.RoomParts.{view_part}
use Rattle.someip_reassembly.proofs.PartialLemmas.{whole_is}
use Rattle.someip_tp.proofs.reserved_memory.PoolLemmas.{held_below}
use Rattle.someip_tp.proofs.pool.part.RoomPart.is_whole.Goals as goal

pub returns-in-Some : goal.returns-in-Some
returns-in-Some c =
    whole_is (view_part c.self.inside).entry.1 c.front.result c.in-Some.total c.in-Some.is c.front.ensures (held_below c.self.inside c.self.invariant)
    ∙ ap (λ v. is_some (message_of v.entry.1)) c.self.view_is
