use Rattle.std.proofs.Common.{◌≡◌, ◌≤◌, length, refl, arith, Some}
use Rattle.std.specs.Prelude.{slice_get}
use Rattle.std.proofs.lemmas.Option.{slice_get_read}
use Rattle.recording.specs.View.{view_block}
use Rattle.recording.specs.Sections.{captured_end}
use Rattle.recording.proofs.SectionLemmas.{timed_record-given}
use Rattle.recording.proofs.section.timed_packet.Goals as goal

pub returns-clause-ok : goal.returns-clause-ok
returns-clause-ok c =
    let b = view_block c.args.block.now in
    let room : captured_end b ≤ length b.body = omega (arith, c.if-body-end.false, c.u32_at.ensures) in
    let lookup = c.in-Some.ensures.lookup in
    let is : slice_get c.args.interfaces.now c.args.index ≡ Some c.in-Some.interface.now = slice_get_read _ _ _ _ refl lookup.3.0 lookup.1 in
    rw (c.block_time-time.ensures, c.u32_at.ensures, c.u32_at-2.ensures) (timed_record-given c.args.interfaces.now c.args.place b c.args.index c.in-Some.interface.now room is)
