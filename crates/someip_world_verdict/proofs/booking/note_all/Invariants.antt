use Rattle.std.proofs.Common.{◌≡◌, ◌++◌, drop}
use Rattle.someip_world_rules.specs.Datagrams.{datagrams_in}
use Rattle.someip_world_verdict.specs.Booking.{notes_of, opened_by_all, said_by_lines}
use Rattle.someip_world_verdict.specs.Views.{view_notes, view_openings}
use Rattle.someip_world_verdict.proofs.booking.note_all.Given as goal

-- the lines that are left open and add what all do
abbrev pub invariant-loop-line : goal.invariant-loop-line
invariant-loop-line l = record {
  openings :
      opened_by_all l.sending.step (said_by_lines (drop l.line-index l.lines)) (view_openings l.taken l.counters)
      ≡ opened_by_all l.sending.step (said_by_lines l.lines) (view_openings l.fn.taken l.fn.counters);
  notes :
      view_notes l.notes.items ++ notes_of l.sending.step l.sending.answers l.sending.payload (datagrams_in (drop l.line-index l.lines))
      ≡ view_notes l.fn.notes.items ++ notes_of l.sending.step l.sending.answers l.sending.payload (datagrams_in l.lines);
}
