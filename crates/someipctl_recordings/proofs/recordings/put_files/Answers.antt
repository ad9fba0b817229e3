use Rattle.std.proofs.Common.{◌∙◌, [], ◌∷◌, Ok, Err, refl, sym, ap, arith, map, length, set}
use Rattle.std.specs.Prelude.{option_map}
use Rattle.std.proofs.lemmas.List.{length-set}
use Rattle.recording.specs.View.{view_record}
use Rattle.someipctl_io.proofs.SendingLemmas.{OnErr-any}
use Rattle.someipctl_recordings.specs.Gathered.{view_store}
use Rattle.someipctl_recordings.specs.RecordingResult.{progress_of, view_asked}
use Rattle.someipctl_recordings.proofs.ComingLemmas.{comes_taken, comes_empty}
use Rattle.someipctl_recordings.proofs.FileLemmas.{comes_own, file_less, is_step, past_map, record_less, within_map}
use Rattle.someipctl_recordings.proofs.ShowingLemmas.{puts_end, puts_fault, shown_begin, shown_more, shown_next, shown_same, stops_before, stops_within}
use Rattle.someipctl_recordings.proofs.recordings.put_files.Goals as goal

pub loop-file-init : goal.loop-file-init
loop-file-init g c = (
  rw c.requires.first
      (shown_begin (view_asked c.args.asked.now) (map g.R.Read.remaining c.args.sources.now) c.new-recording.result (g.W.Write.contents c.args.writer.now) c.args.buffer.now
      (progress_of c.args.recorder.now.shown (view_store g.S.Reassembly.limits g.S.Reassembly.parts c.args.recorder.now.telling.store)) (record { intake = c.new-intake.result; learner = c.args.recorder.now.learner })
      c.new-recording.ensures c.requires.empty (rw (c.requires.shown, c.requires.store) refl) (rw (c.new-intake.ensures, c.requires.learner) refl)),
  rw c.requires.shown (omega arith),
  c.requires.lines,
  c.requires.types,
  rw c.requires.shown c.requires.in_time,
)

pub returns-in_err-coming-clause-begun : goal.returns-in_err-coming-clause-begun
returns-in_err-coming-clause-begun g c =
    OnErr-any c.from_residual.result (stops_before (view_asked c.args.asked.now) _ _ c.loop-file.file c.loop-file.recording _ _ _ c.loop-file.buffer _ _ c.loop-file.invariant.0 c.in_err-coming.ensures.stops)

pub returns-in-Fault-clause-puts : goal.returns-in-Fault-clause-puts
returns-in-Fault-clause-puts g c =
    let comes = comes_own g.R.Read.remaining c.loop-file.sources c.loop-file.file c.index-sources-file.result c.loop-file.recording c.next_coming.new.recording (g.R.Read.remaining c.next_coming.new.source) (Err c.in-Fault.fault ∷ []) c.loop-file-test.true (rw c.in-Fault.is at c.in_ok-coming.ensures.comes) in
    let none = rw c.in-Fault.is at c.in_ok-coming.ensures.ended in
    rw c.ended.ensures
    (puts_fault (view_asked c.args.asked.now) (map g.R.Read.remaining c.args.sources.now) (map g.R.Read.remaining c.loop-file.sources) c.loop-file.file c.loop-file.recording c.next_coming.new.recording (g.R.Read.remaining c.next_coming.new.source) _ _ _ c.loop-file.buffer c.next_coming.new.buffer c.loop-file.recorder.shown
    (view_store g.S.Reassembly.limits g.S.Reassembly.parts c.loop-file.recorder.telling.store) (record { intake = c.loop-file.intake; learner = c.loop-file.recorder.learner }) c.in-Fault.fault c.left_out.result
    c.loop-file.invariant.0 (within_map g.R.Read.remaining c.loop-file.sources c.loop-file.file c.loop-file-test.true) comes none c.in_ok-coming.ensures.sends c.left_out.ensures)

pub loop-file-preserved-in-End : goal.loop-file-preserved-in-End
loop-file-preserved-in-End g c =
    let comes = comes_own g.R.Read.remaining c.loop-file.sources c.loop-file.file c.index-sources-file.result c.loop-file.recording c.next_coming.new.recording (g.R.Read.remaining c.next_coming.new.source) ([]) c.loop-file-test.true (rw c.in-End.is at c.in_ok-coming.ensures.comes) in
    let none = rw c.in-End.is at c.in_ok-coming.ensures.ended in (
      shown_next (view_asked c.args.asked.now) (map g.R.Read.remaining c.args.sources.now) (map g.R.Read.remaining c.loop-file.sources) (map g.R.Read.remaining (set c.loop-file.sources c.loop-file.file c.next_coming.new.source)) c.loop-file.file c.loop-file.recording c.next_coming.new.recording c.new-recording-in-End.result (g.R.Read.remaining c.next_coming.new.source) _ _ _ c.loop-file.buffer c.next_coming.new.buffer _ (record { intake = c.loop-file.intake; learner = c.loop-file.recorder.learner })
          c.loop-file.invariant.0 (within_map g.R.Read.remaining c.loop-file.sources c.loop-file.file c.loop-file-test.true) (is_step g.R.Read.remaining c.loop-file.sources c.loop-file.file c.next_coming.new.source c.loop-file-test.true) comes none c.in_ok-coming.ensures.sends c.new-recording-in-End.ensures,
      c.loop-file.invariant.1,
      c.loop-file.invariant.2,
      c.loop-file.invariant.3,
      c.loop-file.invariant.4,
    )

pub put_record-requires-clause-empty : goal.put_record-requires-clause-empty
put_record-requires-clause-empty g c = c.loop-file.invariant.2

pub put_record-requires-clause-few : goal.put_record-requires-clause-few
put_record-requires-clause-few g c = c.loop-file.invariant.1

pub put_record-requires-clause-types : goal.put_record-requires-clause-types
put_record-requires-clause-types g c = c.loop-file.invariant.3

pub put_record-requires-clause-in_time : goal.put_record-requires-clause-in_time
put_record-requires-clause-in_time g c = c.loop-file.invariant.4

pub loop-file-smaller-in-End : goal.loop-file-smaller-in-End
loop-file-smaller-in-End g c = file_less (length c.loop-file.sources) (length (set c.loop-file.sources c.loop-file.file c.next_coming.new.source)) c.loop-file.file c.loop-file.recording.place c.new-recording-in-End.result.place (length-set c.loop-file.sources c.loop-file.file c.next_coming.new.source) c.loop-file-test.true

pub loop-file-smaller-in-Continue-branch-2 : goal.loop-file-smaller-in-Continue-branch-2
loop-file-smaller-in-Continue-branch-2 g c = record_less (length c.loop-file.sources) (length (set c.loop-file.sources c.loop-file.file c.next_coming.new.source)) c.loop-file.file c.loop-file.recording.place c.next_coming.new.recording.place (length-set c.loop-file.sources c.loop-file.file c.next_coming.new.source) (rw c.in-Record.is at c.in_ok-coming.ensures.further)

pub loop-file-smaller : goal.loop-file-smaller
loop-file-smaller g c = record_less (length c.loop-file.sources) (length (set c.loop-file.sources c.loop-file.file c.next_coming.new.source)) c.loop-file.file c.loop-file.recording.place c.next_coming.new.recording.place (length-set c.loop-file.sources c.loop-file.file c.next_coming.new.source) (rw c.in-Record.is at c.in_ok-coming.ensures.further)

pub loop-file-preserved-in-Continue-branch-2 : goal.loop-file-preserved-in-Continue-branch-2
loop-file-preserved-in-Continue-branch-2 g c =
    let taken = sym c.record.ensures ∙ ap (option_map view_record) c.in-Some.is in
    let comes = comes_own g.R.Read.remaining c.loop-file.sources c.loop-file.file c.index-sources-file.result c.loop-file.recording c.next_coming.new.recording (g.R.Read.remaining c.next_coming.new.source) (Ok (view_record c.in-Some.found) ∷ []) c.loop-file-test.true (comes_taken c.loop-file.recording c.next_coming.new.recording _ _ c.in_ok-coming.coming _ c.in-Record.is taken c.in_ok-coming.ensures.comes) in
    let e = c.in_ok-put_record.ensures in (
      shown_more (view_asked c.args.asked.now) (map g.R.Read.remaining c.args.sources.now) (map g.R.Read.remaining c.loop-file.sources) (map g.R.Read.remaining (set c.loop-file.sources c.loop-file.file c.next_coming.new.source)) c.loop-file.file c.loop-file.recording c.next_coming.new.recording (g.R.Read.remaining c.next_coming.new.source) _ _ _ _ c.loop-file.buffer c.next_coming.new.buffer c.put_record.new.buffer _ _ (record { intake = c.loop-file.intake; learner = c.loop-file.recorder.learner }) (record { intake = c.put_record.new.intake; learner = c.put_record.new.recorder.learner }) (Ok (view_record c.in-Some.found) ∷ [])
          c.loop-file.invariant.0 (within_map g.R.Read.remaining c.loop-file.sources c.loop-file.file c.loop-file-test.true) (is_step g.R.Read.remaining c.loop-file.sources c.loop-file.file c.next_coming.new.source c.loop-file-test.true) comes c.in_ok-coming.ensures.sends e.ok e.progress e.took refl,
      e.few,
      e.empty,
      e.types ∙ c.loop-file.invariant.3,
      e.in_time,
    )

pub returns-in_err-put_record-clause-begun : goal.returns-in_err-put_record-clause-begun
returns-in_err-put_record-clause-begun g c =
    let taken = sym c.record.ensures ∙ ap (option_map view_record) c.in-Some.is in
    let comes = comes_own g.R.Read.remaining c.loop-file.sources c.loop-file.file c.index-sources-file.result c.loop-file.recording c.next_coming.new.recording (g.R.Read.remaining c.next_coming.new.source) (Ok (view_record c.in-Some.found) ∷ []) c.loop-file-test.true (comes_taken c.loop-file.recording c.next_coming.new.recording _ _ c.in_ok-coming.coming _ c.in-Record.is taken c.in_ok-coming.ensures.comes) in
    OnErr-any c.from_residual-in_err-put_record.result
    (stops_within (view_asked c.args.asked.now) (map g.R.Read.remaining c.args.sources.now) (map g.R.Read.remaining c.loop-file.sources) (map g.R.Read.remaining (set c.loop-file.sources c.loop-file.file c.next_coming.new.source)) c.loop-file.file c.loop-file.recording c.next_coming.new.recording (g.R.Read.remaining c.next_coming.new.source) _ _ _ _ c.loop-file.buffer c.next_coming.new.buffer _ (record { intake = c.loop-file.intake; learner = c.loop-file.recorder.learner }) (Ok (view_record c.in-Some.found) ∷ [])
    c.loop-file.invariant.0 (within_map g.R.Read.remaining c.loop-file.sources c.loop-file.file c.loop-file-test.true) (is_step g.R.Read.remaining c.loop-file.sources c.loop-file.file c.next_coming.new.source c.loop-file-test.true) comes c.in_ok-coming.ensures.sends c.in_err-put_record.ensures.err)

pub loop-file-preserved : goal.loop-file-preserved
loop-file-preserved g c =
    let none = sym c.record.ensures ∙ ap (option_map view_record) c.in_default.is in
    let comes = comes_own g.R.Read.remaining c.loop-file.sources c.loop-file.file c.index-sources-file.result c.loop-file.recording c.next_coming.new.recording (g.R.Read.remaining c.next_coming.new.source) ([]) c.loop-file-test.true (comes_empty c.loop-file.recording c.next_coming.new.recording _ _ c.in_ok-coming.coming c.in-Record.is none c.in_ok-coming.ensures.comes) in (
      shown_same (view_asked c.args.asked.now) (map g.R.Read.remaining c.args.sources.now) (map g.R.Read.remaining c.loop-file.sources) (map g.R.Read.remaining (set c.loop-file.sources c.loop-file.file c.next_coming.new.source)) c.loop-file.file c.loop-file.recording c.next_coming.new.recording (g.R.Read.remaining c.next_coming.new.source) _ _ _ c.loop-file.buffer c.next_coming.new.buffer _ (record { intake = c.loop-file.intake; learner = c.loop-file.recorder.learner }) c.loop-file.invariant.0 (within_map g.R.Read.remaining c.loop-file.sources c.loop-file.file c.loop-file-test.true) (is_step g.R.Read.remaining c.loop-file.sources c.loop-file.file c.next_coming.new.source c.loop-file-test.true) comes c.in_ok-coming.ensures.sends,
      c.loop-file.invariant.1,
      c.loop-file.invariant.2,
      c.loop-file.invariant.3,
      c.loop-file.invariant.4,
    )

pub returns-clause-puts : goal.returns-clause-puts
returns-clause-puts g c =
    rw c.ended-2.ensures
    (puts_end (view_asked c.args.asked.now) (map g.R.Read.remaining c.args.sources.now) (map g.R.Read.remaining c.loop-file.sources) c.loop-file.file c.loop-file.recording _ _ c.loop-file.buffer c.loop-file.recorder.shown (view_store g.S.Reassembly.limits g.S.Reassembly.parts c.loop-file.recorder.telling.store) (record { intake = c.loop-file.intake; learner = c.loop-file.recorder.learner }) c.left_out-2.result
    c.loop-file.invariant.0 (past_map g.R.Read.remaining c.loop-file.sources c.loop-file.file c.loop-file-test.false) c.left_out-2.ensures)
