use Rattle.std.proofs.Common.{sym, ◌*◌, ◌-◌, arith}
use Rattle.std.specs.FinMap.{get}
use Rattle.someip_tp.specs.Rooms.{held_bytes}
use Rattle.someip_reassembly.proofs.Placed.{none_differs}
use Rattle.someip_tp.proofs.reserved_memory.RoomLemmas.{agrees_so_far, all_agree_so_far, part_clashes, part_get, part_some}
use Rattle.someip_tp.proofs.pool.room.Room.clashes.Goals as goal

pub returns-then-not-agrees : goal.returns-then-not-agrees
returns-then-not-agrees c =
    sym (part_clashes c.args.self.now c.args.offset c.loop-i.i c.args.bytes.now _ (λ j b is. part_some (c.min.result - 16 * c.loop-i.i) (16 * c.loop-i.i) c.args.bytes.now j b is)
    (λ agree. (let yes = c.agrees.ensures.1 agree in let no = c.if-not-agrees.true in cc)))

pub loop-i-preserved : goal.loop-i-preserved
loop-i-preserved c =
    agrees_so_far c.args.self.now c.args.offset c.loop-i.i c.args.bytes.now _
    (λ j short lt. part_get (c.min.result - 16 * c.loop-i.i) (16 * c.loop-i.i) c.args.bytes.now j (omega (arith, short, lt, c.min.ensures)))
    c.loop-i.invariant (c.agrees.ensures.0 c.if-not-agrees.false)

pub returns : goal.returns
returns c =
    sym (none_differs (get (held_bytes c.args.self.now)) c.args.offset c.args.bytes.now
    (all_agree_so_far c.args.self.now c.args.offset c.loop-i.i c.args.bytes.now (grind (arith, c.div_ceil-i-end.ensures, c.loop-i-test.false)) c.loop-i.invariant))
