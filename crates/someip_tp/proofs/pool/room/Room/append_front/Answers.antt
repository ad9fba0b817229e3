use Rattle.std.proofs.Common.{sym, take, arith}
use Rattle.std.proofs.lemmas.List.{length-take-le}
use Rattle.someip_reassembly.specs.Slices.{AppendsFront}
use Rattle.someip_tp.specs.Rooms.{held_bytes}
use Rattle.someip_tp.proofs.reserved_memory.RoomLemmas.{front_bytes, front_within, on_ok_appended}
use Rattle.someip_tp.proofs.pool.room.Room.append_front.Goals as goal

pub slice_bounds-extend_from_slice-end : goal.slice_bounds-extend_from_slice-end
slice_bounds-extend_from_slice-end c =
    let short = front_within c.args.self.now c.front-front.result c.front-front.ensures in
    sym (length-take-le c.front-front.result c.deref.result.now (grind (arith, short, c.requires.inside, c.deref.ensures.value)))

pub returns-clause-ok : goal.returns-clause-ok
returns-clause-ok c =
    let n = c.front-front.result in
    on_ok_appended (AppendsFront (held_bytes c.args.self.now) c.args.bytes.now.items) c.extend_from_slice.result c.args.bytes.now.items (take n c.deref.result.now) c.extend_from_slice.new.self.items c.extend_from_slice.ensures.items
    (rw c.deref.ensures.value (front_bytes c.args.self.now n c.args.bytes.now.items c.requires c.front-front.ensures))
