use Rattle.std.proofs.Common.{rules}
use Rattle.std.proofs.lemmas.Fn.{always_returns_same}
use Rattle.someip_tp.specs.RoomParts.{PartInRoom}
use Rattle.someip_reassembly.specs.Keys.{key_cmp}
use Rattle.someip_tp.proofs.reserved_memory.RisingLemmas.{found_so}
use Rattle.someip_tp.proofs.pool.slots.position.Goals as goal

pub returns : goal.returns
returns c =
    found_so c.args.key.now c.args.taken.now c.binary_search_by.result c.requires c.binary_search_by.ensures.bound
    (c.binary_search_by.ensures.position (λ (p : PartInRoom). key_cmp p.entry.0 c.args.key.now) (always_returns_same _ _ _ (λ a r f' k. search rules)))
