use Rattle.std.proofs.Common.{ap, arith}
use Rattle.someip_tp.specs.RoomParts.{PartInRoom}
use Rattle.someip_tp.proofs.reserved_memory.SlotLemmas.{none_sooner}
use Rattle.someip_tp.proofs.pool.slots.soonest.Goals as goal

pub loop-part-init : goal.loop-part-init
loop-part-init c = record {
  least = λ k d lt. absurd (omega (arith, lt));
  reached = λ at fits all. omega (arith, fits);
}

pub loop-part-preserved : goal.loop-part-preserved
loop-part-preserved c =
    let ps = c.args.taken.now in
    let i = c.loop-part.part-index in
    let p = c.part-item.result in
    record {
      least = none_sooner ps i p c.loop-part.soonest c.min-soonest.result c.loop-part-test.true c.part-item.is (omega (arith, c.min-soonest.ensures)) (omega (arith, c.min-soonest.ensures, c.last.ensures)) c.loop-part.invariant.least;
      reached = λ at fits all.
          omega (arith, c.min-soonest.ensures, c.last.ensures, c.loop-part.invariant.reached at fits all, all i p c.loop-part-test.true, ap (λ (q : PartInRoom). q.entry.1.last) c.part-item.is);
    }

pub returns-clause-least : goal.returns-clause-least
returns-clause-least c = λ k d lt. c.loop-part.invariant.least k d (omega (arith, lt, c.loop-part-test.false))

pub returns-clause-reached : goal.returns-clause-reached
returns-clause-reached c = c.loop-part.invariant.reached
