use Rattle.std.proofs.Common.{sym, ◌∙◌, ◌+◌, arith}
use Rattle.recording_packets.proofs.about_fragments.CellLemmas.{with_bytes-step, with_bytes-done, count-new, count-old}
use Rattle.recording_packets.proofs.fragments.cells.put.Goals as goal
use Rattle.recording_packets.proofs.fragments.cells.put.Goals.{then-not-known-place, else-not-known-place}

pub loop-i-preserved : goal.loop-i-preserved
loop-i-preserved c =
    record {
      few = elim c.if-not-known-place.branch [ then-not-known-place w ↦ omega (arith, w.added-is, c.loop-i.invariant.few) | else-not-known-place w ↦ omega (arith, w.added-is, c.loop-i.invariant.few) ];
      count = elim c.if-not-known-place.branch [ then-not-known-place w ↦ omega (arith, w.added-is, c.loop-i.invariant.count, count-new c.loop-i.known (c.args.offset + c.loop-i.i) (omega (arith, c.requires.within, c.loop-i-test.true, c.loop-i.auto.known)) w.if-not-known-place.true) | else-not-known-place w ↦ omega (arith, w.added-is, c.loop-i.invariant.count, count-old c.loop-i.known (c.args.offset + c.loop-i.i) (omega (arith, c.requires.within, c.loop-i-test.true, c.loop-i.auto.known)) w.if-not-known-place.false) ];
      cells = with_bytes-step c.loop-i.known c.loop-i.bytes c.args.new.now c.args.offset c.loop-i.i c.loop-i-test.true (omega (arith, c.requires.within, c.loop-i-test.true, c.loop-i.auto.known)) (omega (arith, c.requires.long, c.loop-i.auto.known, c.loop-i.auto.bytes)) ∙ c.loop-i.invariant.cells;
    }

pub returns-clause-cells : goal.returns-clause-cells
returns-clause-cells c =
    sym (with_bytes-done c.loop-i.known c.loop-i.bytes c.args.new.now c.args.offset c.loop-i.i (omega (arith, c.loop-i-test.false)) (omega (arith, c.requires.within, c.loop-i.auto.i-end, c.loop-i.auto.known)) (omega (arith, c.requires.long, c.loop-i.auto.known, c.loop-i.auto.bytes))) ∙ c.loop-i.invariant.cells
