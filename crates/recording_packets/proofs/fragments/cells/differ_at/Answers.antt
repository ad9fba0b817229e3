use Rattle.std.proofs.Common.{sym, ◌∙◌, ◌+◌, drop, arith}
use Rattle.recording_packets.proofs.about_fragments.CellLemmas.{has_another-here, has_another-same, has_another-unknown, has_another-past}
use Rattle.recording_packets.proofs.fragments.cells.differ_at.Goals as goal
use Rattle.recording_packets.proofs.fragments.cells.differ_at.Goals.{else-known-place-via-then-known-place+else-bytes-place, else-known-place-via-else-known-place}

pub returns-then-place-known : goal.returns-then-place-known
returns-then-place-known c =
    sym (has_another-past c.args.known.now c.args.bytes.now (drop c.loop-i.i c.args.new.now) (c.args.offset + c.loop-i.i) (omega (arith, c.if-place-known.true)) c.requires.long) ∙ c.loop-i.invariant

pub returns-then-bytes-place : goal.returns-then-bytes-place
returns-then-bytes-place c =
    sym (has_another-here c.args.known.now c.args.bytes.now c.args.new.now c.args.offset c.loop-i.i c.loop-i-test.true c.if-place-known.false c.requires.long c.if-known-place.true c.if-bytes-place.true)
    ∙ c.loop-i.invariant

pub loop-i-preserved : goal.loop-i-preserved
loop-i-preserved c =
    elim c.else-known-place.branch [
      | else-known-place-via-then-known-place+else-bytes-place w ↦ has_another-same c.args.known.now c.args.bytes.now c.args.new.now c.args.offset c.loop-i.i c.loop-i-test.true c.if-place-known.false c.requires.long w.if-bytes-place.false ∙ c.loop-i.invariant
      | else-known-place-via-else-known-place w ↦ has_another-unknown c.args.known.now c.args.bytes.now c.args.new.now c.args.offset c.loop-i.i c.loop-i-test.true c.if-place-known.false c.requires.long w.if-known-place.false ∙ c.loop-i.invariant
    ]
