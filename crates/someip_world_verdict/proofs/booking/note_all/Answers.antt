use Rattle.std.proofs.Common.{◌+◌, ◌++◌, ◌∙◌, ap, drop}
use Rattle.someip_world_rules.specs.Datagrams.{datagrams_in}
use Rattle.someip_world_verdict.specs.Booking.{notes_of, opened_by_all, said_by_lines}
use Rattle.someip_world_verdict.specs.Views.{view_notes, view_openings}
use Rattle.someip_world_verdict.proofs.BookingLemmas.{notes_next, opened_next}
use Rattle.someip_world_verdict.proofs.booking.note_all.Goals as goal

pub loop-line-preserved : goal.loop-line-preserved
loop-line-preserved c =
    let n = c.args.sending.step in
    let lines = c.args.lines.now in
    let i = c.loop-line.line-index in
    let line = c.line-item.result in
    record {
      openings =
          ap (λ o. opened_by_all n (said_by_lines (drop (i + 1) lines)) o) c.in_ok-note_line.ensures.openings
          ∙ opened_next n i line lines (view_openings c.loop-line.taken c.loop-line.counters) c.loop-line-test.true c.line-item.is ∙ c.loop-line.invariant.openings;
      notes =
          ap (λ xs. xs ++ notes_of n c.args.sending.answers c.args.sending.payload (datagrams_in (drop (i + 1) lines))) c.in_ok-note_line.ensures.notes
          ∙ notes_next n i c.args.sending.answers c.args.sending.payload line lines (view_notes c.loop-line.notes.items) c.loop-line-test.true c.line-item.is
          ∙ c.loop-line.invariant.notes;
    }
