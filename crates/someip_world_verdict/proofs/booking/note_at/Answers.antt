use Rattle.std.proofs.Common.{◌-◌, sym, arith}
use Rattle.someip_world_verdict.proofs.BookingLemmas.{not_noted, noted}
use Rattle.someip_world_verdict.proofs.booking.note_at.Goals as goal

pub returns-then-place-notes : goal.returns-then-place-notes
returns-then-place-notes c =
    sym (noted c.args.notes.now c.args.number (c.args.number - 1) c.index-notes-place.result (omega (arith, c.if-number-eq0.false)) (omega (arith, c.if-place-notes.true)) c.index-notes-place.is)

pub returns-else-place-notes : goal.returns-else-place-notes
returns-else-place-notes c =
    sym (not_noted c.args.notes.now c.args.number (c.args.number - 1) (omega (arith, c.if-number-eq0.false)) (omega (arith, c.if-place-notes.false)))
