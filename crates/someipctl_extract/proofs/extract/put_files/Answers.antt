use Rattle.std.proofs.Common.{◌∙◌, [], ◌∷◌, Ok, Err, refl, sym, ap, map, length, set}
use Rattle.std.specs.Prelude.{option_map}
use Rattle.std.proofs.lemmas.List.{length-set}
use Rattle.recording.specs.View.{view_record}
use Rattle.someipctl_io.proofs.SendingLemmas.{OnErr-any}
use Rattle.someipctl_recordings.specs.Wanted.{view_wanted}
use Rattle.someipctl_recordings.proofs.ComingLemmas.{comes_empty, comes_taken}
use Rattle.someipctl_recordings.proofs.FileLemmas.{comes_own, file_less, is_step, past_map, record_less, within_map}
use Rattle.someipctl_extract.specs.Extracted.{view_extraction}
use Rattle.someipctl_extract.proofs.ExtractingLemmas.{begins_head, extracted_begin, extracted_more, extracted_next, extracted_same, puts_end, puts_fault, stops_before, stops_within}
use Rattle.someipctl_extract.proofs.extract.put_files.Goals as goal

pub returns-in_err-output-clause-begun : goal.returns-in_err-output-clause-begun
returns-in_err-output-clause-begun g c =
    OnErr-any c.from_residual.result (begins_head (view_wanted c.args.wanted.now) (map g.R.Read.remaining c.args.sources.now) _ _ c.args.buffer.now c.requires.empty c.in_err-output.ensures.err)

pub loop-file-init : goal.loop-file-init
loop-file-init g c =
    rw c.requires.first
    (extracted_begin (view_wanted c.args.wanted.now) (map g.R.Read.remaining c.args.sources.now) c.new-recording.result _ _ c.args.buffer.now _ (view_extraction c.args.extractor.now) _
    c.new-recording.ensures c.requires.empty c.requires.nothing c.in_ok-output.ensures.nothing c.in_ok-output.ensures.ok)

pub returns-in_err-coming-clause-begun : goal.returns-in_err-coming-clause-begun
returns-in_err-coming-clause-begun g c =
    OnErr-any c.from_residual-in_err-coming.result (stops_before (view_wanted c.args.wanted.now) _ _ c.loop-file.file c.loop-file.recording _ _ _ c.loop-file.buffer _ _ c.loop-file.invariant c.in_err-coming.ensures.stops)

pub returns-in-Fault-clause-puts : goal.returns-in-Fault-clause-puts
returns-in-Fault-clause-puts g c =
    let comes = comes_own g.R.Read.remaining c.loop-file.sources c.loop-file.file c.index-sources-file.result c.loop-file.recording c.next_coming.new.recording (g.R.Read.remaining c.next_coming.new.source) (Err c.in-Fault.fault ∷ []) c.loop-file-test.true (rw c.in-Fault.is at c.in_ok-coming.ensures.comes) in
    let none = rw c.in-Fault.is at c.in_ok-coming.ensures.ended in
    rw c.ended.ensures
    (puts_fault (view_wanted c.args.wanted.now) (map g.R.Read.remaining c.args.sources.now) (map g.R.Read.remaining c.loop-file.sources) c.loop-file.file c.loop-file.recording c.next_coming.new.recording (g.R.Read.remaining c.next_coming.new.source) _ _ _ c.loop-file.buffer c.next_coming.new.buffer
    (view_extraction c.loop-file.extractor) c.loop-file.output c.in-Fault.fault
    c.loop-file.invariant (within_map g.R.Read.remaining c.loop-file.sources c.loop-file.file c.loop-file-test.true) comes none c.in_ok-coming.ensures.sends)

pub loop-file-preserved-in-End : goal.loop-file-preserved-in-End
loop-file-preserved-in-End g c =
    let comes = comes_own g.R.Read.remaining c.loop-file.sources c.loop-file.file c.index-sources-file.result c.loop-file.recording c.next_coming.new.recording (g.R.Read.remaining c.next_coming.new.source) ([]) c.loop-file-test.true (rw c.in-End.is at c.in_ok-coming.ensures.comes) in
    let none = rw c.in-End.is at c.in_ok-coming.ensures.ended in
    extracted_next (view_wanted c.args.wanted.now) (map g.R.Read.remaining c.args.sources.now) (map g.R.Read.remaining c.loop-file.sources) (map g.R.Read.remaining (set c.loop-file.sources c.loop-file.file c.next_coming.new.source)) c.loop-file.file c.loop-file.recording c.next_coming.new.recording c.new-recording-in-End.result (g.R.Read.remaining c.next_coming.new.source) _ _ _ c.loop-file.buffer c.next_coming.new.buffer (view_extraction c.loop-file.extractor) c.loop-file.output
    c.loop-file.invariant (within_map g.R.Read.remaining c.loop-file.sources c.loop-file.file c.loop-file-test.true) (is_step g.R.Read.remaining c.loop-file.sources c.loop-file.file c.next_coming.new.source c.loop-file-test.true) comes none c.in_ok-coming.ensures.sends c.new-recording-in-End.ensures

pub loop-file-smaller-in-End : goal.loop-file-smaller-in-End
loop-file-smaller-in-End g c = file_less (length c.loop-file.sources) (length (set c.loop-file.sources c.loop-file.file c.next_coming.new.source)) c.loop-file.file c.loop-file.recording.place c.new-recording-in-End.result.place (length-set c.loop-file.sources c.loop-file.file c.next_coming.new.source) c.loop-file-test.true

pub loop-file-smaller-in-Continue-branch-3 : goal.loop-file-smaller-in-Continue-branch-3
loop-file-smaller-in-Continue-branch-3 g c = record_less (length c.loop-file.sources) (length (set c.loop-file.sources c.loop-file.file c.next_coming.new.source)) c.loop-file.file c.loop-file.recording.place c.next_coming.new.recording.place (length-set c.loop-file.sources c.loop-file.file c.next_coming.new.source) (rw c.in-Record.is at c.in_ok-coming.ensures.further)

pub loop-file-smaller : goal.loop-file-smaller
loop-file-smaller g c = record_less (length c.loop-file.sources) (length (set c.loop-file.sources c.loop-file.file c.next_coming.new.source)) c.loop-file.file c.loop-file.recording.place c.next_coming.new.recording.place (length-set c.loop-file.sources c.loop-file.file c.next_coming.new.source) (rw c.in-Record.is at c.in_ok-coming.ensures.further)

pub loop-file-preserved-in-Continue-branch-3 : goal.loop-file-preserved-in-Continue-branch-3
loop-file-preserved-in-Continue-branch-3 g c =
    let taken = sym c.record.ensures ∙ ap (option_map view_record) c.in-Some.is in
    let comes = comes_own g.R.Read.remaining c.loop-file.sources c.loop-file.file c.index-sources-file.result c.loop-file.recording c.next_coming.new.recording (g.R.Read.remaining c.next_coming.new.source) (Ok (view_record c.in-Some.found) ∷ []) c.loop-file-test.true (comes_taken c.loop-file.recording c.next_coming.new.recording _ _ c.in_ok-coming.coming _ c.in-Record.is taken c.in_ok-coming.ensures.comes) in
    let e = c.in_ok-put_record.ensures in
    extracted_more (view_wanted c.args.wanted.now) (map g.R.Read.remaining c.args.sources.now) (map g.R.Read.remaining c.loop-file.sources) (map g.R.Read.remaining (set c.loop-file.sources c.loop-file.file c.next_coming.new.source)) c.loop-file.file c.loop-file.recording c.next_coming.new.recording (g.R.Read.remaining c.next_coming.new.source) _ _ _ _ c.loop-file.buffer c.next_coming.new.buffer c.put_record.new.buffer (view_extraction c.loop-file.extractor) (view_extraction c.put_record.new.extractor) c.loop-file.output c.put_record.new.output (Ok (view_record c.in-Some.found) ∷ [])
    c.loop-file.invariant (within_map g.R.Read.remaining c.loop-file.sources c.loop-file.file c.loop-file-test.true) (is_step g.R.Read.remaining c.loop-file.sources c.loop-file.file c.next_coming.new.source c.loop-file-test.true) comes c.in_ok-coming.ensures.sends e.ok e.after e.took refl e.fits

pub returns-in_err-put_record-clause-begun : goal.returns-in_err-put_record-clause-begun
returns-in_err-put_record-clause-begun g c =
    let taken = sym c.record.ensures ∙ ap (option_map view_record) c.in-Some.is in
    let comes = comes_own g.R.Read.remaining c.loop-file.sources c.loop-file.file c.index-sources-file.result c.loop-file.recording c.next_coming.new.recording (g.R.Read.remaining c.next_coming.new.source) (Ok (view_record c.in-Some.found) ∷ []) c.loop-file-test.true (comes_taken c.loop-file.recording c.next_coming.new.recording _ _ c.in_ok-coming.coming _ c.in-Record.is taken c.in_ok-coming.ensures.comes) in
    OnErr-any c.from_residual-in_err-put_record.result
    (stops_within (view_wanted c.args.wanted.now) (map g.R.Read.remaining c.args.sources.now) (map g.R.Read.remaining c.loop-file.sources) (map g.R.Read.remaining (set c.loop-file.sources c.loop-file.file c.next_coming.new.source)) c.loop-file.file c.loop-file.recording c.next_coming.new.recording (g.R.Read.remaining c.next_coming.new.source) _ _ _ _ c.loop-file.buffer c.next_coming.new.buffer (view_extraction c.loop-file.extractor) c.loop-file.output (Ok (view_record c.in-Some.found) ∷ [])
    c.loop-file.invariant (within_map g.R.Read.remaining c.loop-file.sources c.loop-file.file c.loop-file-test.true) (is_step g.R.Read.remaining c.loop-file.sources c.loop-file.file c.next_coming.new.source c.loop-file-test.true) comes c.in_ok-coming.ensures.sends c.in_err-put_record.ensures.err)

pub loop-file-preserved : goal.loop-file-preserved
loop-file-preserved g c =
    let none = sym c.record.ensures ∙ ap (option_map view_record) c.in_default.is in
    let comes = comes_own g.R.Read.remaining c.loop-file.sources c.loop-file.file c.index-sources-file.result c.loop-file.recording c.next_coming.new.recording (g.R.Read.remaining c.next_coming.new.source) ([]) c.loop-file-test.true (comes_empty c.loop-file.recording c.next_coming.new.recording _ _ c.in_ok-coming.coming c.in-Record.is none c.in_ok-coming.ensures.comes) in
    extracted_same (view_wanted c.args.wanted.now) (map g.R.Read.remaining c.args.sources.now) (map g.R.Read.remaining c.loop-file.sources) (map g.R.Read.remaining (set c.loop-file.sources c.loop-file.file c.next_coming.new.source)) c.loop-file.file c.loop-file.recording c.next_coming.new.recording (g.R.Read.remaining c.next_coming.new.source) _ _ _ c.loop-file.buffer c.next_coming.new.buffer (view_extraction c.loop-file.extractor) c.loop-file.output
    c.loop-file.invariant (within_map g.R.Read.remaining c.loop-file.sources c.loop-file.file c.loop-file-test.true) (is_step g.R.Read.remaining c.loop-file.sources c.loop-file.file c.next_coming.new.source c.loop-file-test.true) comes c.in_ok-coming.ensures.sends

pub returns-clause-puts : goal.returns-clause-puts
returns-clause-puts g c =
    rw c.ended-2.ensures
    (puts_end (view_wanted c.args.wanted.now) (map g.R.Read.remaining c.args.sources.now) (map g.R.Read.remaining c.loop-file.sources) c.loop-file.file c.loop-file.recording _ _ c.loop-file.buffer (view_extraction c.loop-file.extractor) c.loop-file.output
    c.loop-file.invariant (past_map g.R.Read.remaining c.loop-file.sources c.loop-file.file c.loop-file-test.false))
