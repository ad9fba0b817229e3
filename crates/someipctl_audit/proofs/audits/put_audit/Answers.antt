use Rattle.std.proofs.Common.{◌∙◌, [], ◌∷◌, Ok, Err, sym, ap, arith, map, length, set}
use Rattle.std.specs.Prelude.{option_map}
use Rattle.std.proofs.lemmas.Result.{on_err_weaker}
use Rattle.std.proofs.lemmas.List.{length-set}
use Rattle.recording.specs.View.{view_record}
use Rattle.someipctl_io.proofs.SendingLemmas.{OnErr-any}
use Rattle.someipctl_audit.specs.AskedAudits.{view_asked}
use Rattle.someipctl_recordings.proofs.ComingLemmas.{comes_taken, comes_empty}
use Rattle.someipctl_recordings.proofs.FileLemmas.{comes_own, file_less, is_step, past_map, record_less, within_map}
use Rattle.someipctl_audit.proofs.RunLemmas.{audit_end_stops, audit_ends, audit_fault, audit_fault_stops, audited_begin, audited_next, audited_none, audited_record, counts_now, if_ok_three, stops_before, stops_record, told_now}
use Rattle.someipctl_audit.proofs.audits.put_audit.Goals as goal

pub loop-file-init : goal.loop-file-init
loop-file-init g c = (
  rw c.requires.first
      (audited_begin (view_asked c.args.asked.now) (map g.R.Read.remaining c.args.sources.now) c.new-recording.result (g.W.Write.contents c.args.writer.now) c.args.buffer.now c.args.auditing.now.audit c.args.gone.now c.new-intake.result
      c.new-recording.ensures c.requires.empty c.requires.begun c.requires.nothing c.new-intake.ensures),
  rw c.requires.nothing.datagrams (omega arith),
)

pub returns-in_err-coming-clause-begun : goal.returns-in_err-coming-clause-begun
returns-in_err-coming-clause-begun g c =
    OnErr-any c.from_residual.result (stops_before (view_asked c.args.asked.now) _ _ c.loop-file.file c.loop-file.recording _ _ _ c.loop-file.buffer c.loop-file.auditing.audit c.loop-file.gone c.loop-file.intake c.loop-file.invariant.0 c.in_err-coming.ensures.stops)

pub returns-in-Fault-clause-puts : goal.returns-in-Fault-clause-puts
returns-in-Fault-clause-puts g c =
    let is = c.loop-file.invariant.0 in
    let comes = comes_own g.R.Read.remaining c.loop-file.sources c.loop-file.file c.index-sources-file.result c.loop-file.recording c.next_coming.new.recording (g.R.Read.remaining c.next_coming.new.source) (Err c.in-Fault.fault ∷ []) c.loop-file-test.true (rw c.in-Fault.is at c.in_ok-coming.ensures.comes) in
    let none = rw c.in-Fault.is at c.in_ok-coming.ensures.ended in
    if_ok_three c.put_end.result _ _ _ _
    (λ shown end faulty left. audit_fault (view_asked c.args.asked.now) (map g.R.Read.remaining c.args.sources.now) (map g.R.Read.remaining c.loop-file.sources) c.loop-file.file c.loop-file.recording c.next_coming.new.recording (g.R.Read.remaining c.next_coming.new.source) _ _ _ _ c.loop-file.buffer c.next_coming.new.buffer _ c.loop-file.auditing.audit c.loop-file.gone c.loop-file.intake c.in-Fault.fault shown
    is (within_map g.R.Read.remaining c.loop-file.sources c.loop-file.file c.loop-file-test.true) comes none c.in_ok-coming.ensures.sends c.left_out.result c.left_out.ensures end faulty (left ∙ c.left_out.ensures))
    (c.put_end.ensures.puts (told_now (view_asked c.args.asked.now) is.done is.reports) is.looked (counts_now (view_asked c.args.asked.now) _ _ _ _ _ _ _ _ _ _ is)) c.put_end.ensures.fault c.put_end.ensures.left_out

pub returns-in-Fault-clause-begun : goal.returns-in-Fault-clause-begun
returns-in-Fault-clause-begun g c =
    let is = c.loop-file.invariant.0 in
    let comes = comes_own g.R.Read.remaining c.loop-file.sources c.loop-file.file c.index-sources-file.result c.loop-file.recording c.next_coming.new.recording (g.R.Read.remaining c.next_coming.new.source) (Err c.in-Fault.fault ∷ []) c.loop-file-test.true (rw c.in-Fault.is at c.in_ok-coming.ensures.comes) in
    let none = rw c.in-Fault.is at c.in_ok-coming.ensures.ended in
    on_err_weaker c.put_end.result
    (audit_fault_stops (view_asked c.args.asked.now) (map g.R.Read.remaining c.args.sources.now) (map g.R.Read.remaining c.loop-file.sources) c.loop-file.file c.loop-file.recording c.next_coming.new.recording (g.R.Read.remaining c.next_coming.new.source) _ _ _ _ c.loop-file.buffer c.next_coming.new.buffer c.loop-file.auditing.audit c.loop-file.gone c.loop-file.intake c.in-Fault.fault is (within_map g.R.Read.remaining c.loop-file.sources c.loop-file.file c.loop-file-test.true) comes none c.in_ok-coming.ensures.sends c.left_out.result c.left_out.ensures)
    (c.put_end.ensures.stops (told_now (view_asked c.args.asked.now) is.done is.reports) is.looked (counts_now (view_asked c.args.asked.now) _ _ _ _ _ _ _ _ _ _ is))

pub loop-file-smaller-in-End : goal.loop-file-smaller-in-End
loop-file-smaller-in-End g c = file_less (length c.loop-file.sources) (length (set c.loop-file.sources c.loop-file.file c.next_coming.new.source)) c.loop-file.file c.loop-file.recording.place c.new-recording-in-End.result.place (length-set c.loop-file.sources c.loop-file.file c.next_coming.new.source) c.loop-file-test.true

pub loop-file-smaller-in-Continue-branch-2 : goal.loop-file-smaller-in-Continue-branch-2
loop-file-smaller-in-Continue-branch-2 g c = record_less (length c.loop-file.sources) (length (set c.loop-file.sources c.loop-file.file c.next_coming.new.source)) c.loop-file.file c.loop-file.recording.place c.next_coming.new.recording.place (length-set c.loop-file.sources c.loop-file.file c.next_coming.new.source) (rw c.in-Record.is at c.in_ok-coming.ensures.further)

pub loop-file-smaller : goal.loop-file-smaller
loop-file-smaller g c = record_less (length c.loop-file.sources) (length (set c.loop-file.sources c.loop-file.file c.next_coming.new.source)) c.loop-file.file c.loop-file.recording.place c.next_coming.new.recording.place (length-set c.loop-file.sources c.loop-file.file c.next_coming.new.source) (rw c.in-Record.is at c.in_ok-coming.ensures.further)

pub loop-file-preserved-in-End : goal.loop-file-preserved-in-End
loop-file-preserved-in-End g c =
    let comes = comes_own g.R.Read.remaining c.loop-file.sources c.loop-file.file c.index-sources-file.result c.loop-file.recording c.next_coming.new.recording (g.R.Read.remaining c.next_coming.new.source) ([]) c.loop-file-test.true (rw c.in-End.is at c.in_ok-coming.ensures.comes) in
    let none = rw c.in-End.is at c.in_ok-coming.ensures.ended in (
      audited_next (view_asked c.args.asked.now) (map g.R.Read.remaining c.args.sources.now) (map g.R.Read.remaining c.loop-file.sources) (map g.R.Read.remaining (set c.loop-file.sources c.loop-file.file c.next_coming.new.source)) c.loop-file.file c.loop-file.recording c.next_coming.new.recording c.new-recording-in-End.result (g.R.Read.remaining c.next_coming.new.source) _ _ _ c.loop-file.buffer c.next_coming.new.buffer c.loop-file.auditing.audit c.loop-file.gone c.loop-file.intake
          c.loop-file.invariant.0 (within_map g.R.Read.remaining c.loop-file.sources c.loop-file.file c.loop-file-test.true) (is_step g.R.Read.remaining c.loop-file.sources c.loop-file.file c.next_coming.new.source c.loop-file-test.true) comes none c.in_ok-coming.ensures.sends c.new-recording-in-End.ensures,
      c.loop-file.invariant.1,
    )

pub put_record-requires : goal.put_record-requires
put_record-requires g c = record { few = c.loop-file.invariant.1 }

pub loop-file-preserved-in-Continue-branch-2 : goal.loop-file-preserved-in-Continue-branch-2
loop-file-preserved-in-Continue-branch-2 g c =
    let taken = sym c.record.ensures ∙ ap (option_map view_record) c.in-Some.is in
    let comes = comes_own g.R.Read.remaining c.loop-file.sources c.loop-file.file c.index-sources-file.result c.loop-file.recording c.next_coming.new.recording (g.R.Read.remaining c.next_coming.new.source) (Ok (view_record c.in-Some.found) ∷ []) c.loop-file-test.true (comes_taken c.loop-file.recording c.next_coming.new.recording _ _ c.in_ok-coming.coming _ c.in-Record.is taken c.in_ok-coming.ensures.comes) in
    let e = c.in_ok-put_record.ensures in (
      rw e.took
          (audited_record (view_asked c.args.asked.now) (map g.R.Read.remaining c.args.sources.now) (map g.R.Read.remaining c.loop-file.sources) (map g.R.Read.remaining (set c.loop-file.sources c.loop-file.file c.next_coming.new.source)) c.loop-file.file c.loop-file.recording c.next_coming.new.recording (g.R.Read.remaining c.next_coming.new.source) _ _ _ _ c.loop-file.buffer c.next_coming.new.buffer c.put_record.new.buffer c.loop-file.auditing.audit c.put_record.new.auditing.audit c.loop-file.gone c.put_record.new.gone c.loop-file.intake (view_record c.in-Some.found)
          c.loop-file.invariant.0 (within_map g.R.Read.remaining c.loop-file.sources c.loop-file.file c.loop-file-test.true) (is_step g.R.Read.remaining c.loop-file.sources c.loop-file.file c.next_coming.new.source c.loop-file-test.true) comes c.in_ok-coming.ensures.sends e.puts),
      e.few,
    )

pub returns-in_err-put_record-clause-begun : goal.returns-in_err-put_record-clause-begun
returns-in_err-put_record-clause-begun g c =
    let taken = sym c.record.ensures ∙ ap (option_map view_record) c.in-Some.is in
    let comes = comes_own g.R.Read.remaining c.loop-file.sources c.loop-file.file c.index-sources-file.result c.loop-file.recording c.next_coming.new.recording (g.R.Read.remaining c.next_coming.new.source) (Ok (view_record c.in-Some.found) ∷ []) c.loop-file-test.true (comes_taken c.loop-file.recording c.next_coming.new.recording _ _ c.in_ok-coming.coming _ c.in-Record.is taken c.in_ok-coming.ensures.comes) in
    OnErr-any c.from_residual-in_err-put_record.result
    (stops_record (view_asked c.args.asked.now) (map g.R.Read.remaining c.args.sources.now) (map g.R.Read.remaining c.loop-file.sources) (map g.R.Read.remaining (set c.loop-file.sources c.loop-file.file c.next_coming.new.source)) c.loop-file.file c.loop-file.recording c.next_coming.new.recording (g.R.Read.remaining c.next_coming.new.source) _ _ _ _ c.loop-file.buffer c.next_coming.new.buffer c.loop-file.auditing.audit c.loop-file.gone c.loop-file.intake (view_record c.in-Some.found)
    c.loop-file.invariant.0 (within_map g.R.Read.remaining c.loop-file.sources c.loop-file.file c.loop-file-test.true) (is_step g.R.Read.remaining c.loop-file.sources c.loop-file.file c.next_coming.new.source c.loop-file-test.true) comes c.in_ok-coming.ensures.sends c.in_err-put_record.ensures.stops)

pub loop-file-preserved : goal.loop-file-preserved
loop-file-preserved g c =
    let none = sym c.record.ensures ∙ ap (option_map view_record) c.in_default.is in
    let comes = comes_own g.R.Read.remaining c.loop-file.sources c.loop-file.file c.index-sources-file.result c.loop-file.recording c.next_coming.new.recording (g.R.Read.remaining c.next_coming.new.source) ([]) c.loop-file-test.true (comes_empty c.loop-file.recording c.next_coming.new.recording _ _ c.in_ok-coming.coming c.in-Record.is none c.in_ok-coming.ensures.comes) in (
      audited_none (view_asked c.args.asked.now) (map g.R.Read.remaining c.args.sources.now) (map g.R.Read.remaining c.loop-file.sources) (map g.R.Read.remaining (set c.loop-file.sources c.loop-file.file c.next_coming.new.source)) c.loop-file.file c.loop-file.recording c.next_coming.new.recording (g.R.Read.remaining c.next_coming.new.source) _ _ _ c.loop-file.buffer c.next_coming.new.buffer c.loop-file.auditing.audit c.loop-file.gone c.loop-file.intake c.loop-file.invariant.0 (within_map g.R.Read.remaining c.loop-file.sources c.loop-file.file c.loop-file-test.true) (is_step g.R.Read.remaining c.loop-file.sources c.loop-file.file c.next_coming.new.source c.loop-file-test.true) comes c.in_ok-coming.ensures.sends,
      c.loop-file.invariant.1,
    )

pub returns-clause-puts : goal.returns-clause-puts
returns-clause-puts g c =
    let is = c.loop-file.invariant.0 in
    if_ok_three c.put_end-2.result _ _ _ _
    (λ shown end faulty left. audit_ends (view_asked c.args.asked.now) (map g.R.Read.remaining c.args.sources.now) (map g.R.Read.remaining c.loop-file.sources) c.loop-file.file c.loop-file.recording _ _ _ c.loop-file.buffer _ c.loop-file.auditing.audit c.loop-file.gone c.loop-file.intake shown
    is (past_map g.R.Read.remaining c.loop-file.sources c.loop-file.file c.loop-file-test.false) c.left_out-2.result c.left_out-2.ensures end faulty (left ∙ c.left_out-2.ensures))
    (c.put_end-2.ensures.puts (told_now (view_asked c.args.asked.now) is.done is.reports) is.looked (counts_now (view_asked c.args.asked.now) _ _ _ _ _ _ _ _ _ _ is)) c.put_end-2.ensures.fault c.put_end-2.ensures.left_out

pub returns-clause-begun : goal.returns-clause-begun
returns-clause-begun g c =
    let is = c.loop-file.invariant.0 in
    on_err_weaker c.put_end-2.result
    (audit_end_stops (view_asked c.args.asked.now) (map g.R.Read.remaining c.args.sources.now) (map g.R.Read.remaining c.loop-file.sources) c.loop-file.file c.loop-file.recording _ _ _ c.loop-file.buffer c.loop-file.auditing.audit c.loop-file.gone c.loop-file.intake is (past_map g.R.Read.remaining c.loop-file.sources c.loop-file.file c.loop-file-test.false) c.left_out-2.result c.left_out-2.ensures)
    (c.put_end-2.ensures.stops (told_now (view_asked c.args.asked.now) is.done is.reports) is.looked (counts_now (view_asked c.args.asked.now) _ _ _ _ _ _ _ _ _ _ is))
