use Rattle.std.proofs.Common.{◌≡◌, ◌+◌, Ok, [], ◌∷◌, ap, sym, ◌∙◌, arith}
use Rattle.std.proofs.lemmas.Result.{on_ok_weaker, on_err_weaker}
use Rattle.std.specs.Prelude.{option_map}
use Rattle.recording.specs.View.{view_record}
use Rattle.recording_packets.specs.View.{view_arrival}
use Rattle.recording_packets.proofs.IntakeLemmas.{frames-more}
use Rattle.someipctl_io.proofs.SendingLemmas.{OnErr-any}
use Rattle.someipctl_show.proofs.KindLemmas.{sends_as, stops_as, stops_none}
use Rattle.someipctl_recordings.specs.Asked.{asked_from}
use Rattle.someipctl_recordings.specs.Gathered.{view_store}
use Rattle.someipctl_recordings.specs.RecordedText.{AreRecorded, IsRecordedText}
use Rattle.someipctl_recordings.specs.RecordingResult.{progress_of, view_asked}
use Rattle.someipctl_recordings.proofs.RecordedLemmas.{after_came, after_none, after_none_came, after_one, asked_none, asked_one, asked_other, recorded_none, recorded_one}
use Rattle.someipctl_recordings.proofs.SomeRecorded.{some_recorded}
use Rattle.someipctl_recordings.proofs.recordings.put_record.Goals as goal

pub returns-in_err-taken-clause-err : goal.returns-in_err-taken-clause-err
returns-in_err-taken-clause-err g c =
    let p = progress_of c.args.recorder.now.shown (view_store g.S.Reassembly.limits g.S.Reassembly.parts c.args.recorder.now.telling.store) in
    let asked = view_asked c.args.asked.now in
    let ds = asked_from asked (record { intake = c.args.intake.now; learner = c.args.recorder.now.learner }) (Ok (view_record c.args.found.now) ∷ []) in
    OnErr-any c.from_residual.result (stops_none (AreRecorded asked p ds) _ _ (some_recorded asked p ds))

pub returns-in_default-clause-ok : goal.returns-in_default-clause-ok
returns-in_default-clause-ok g c =
    let p = progress_of c.args.recorder.now.shown (view_store g.S.Reassembly.limits g.S.Reassembly.parts c.args.recorder.now.telling.store) in
    let none = sym c.in_ok-taken.ensures.arrived ∙ sym c.arrival.ensures ∙ ap (option_map view_arrival) c.in_default.is in
    recorded_none (view_asked c.args.asked.now) p _ (asked_none (view_asked c.args.asked.now) (record { intake = c.args.intake.now; learner = c.args.recorder.now.learner }) (view_record c.args.found.now) none) _ _

pub returns-in_default-clause-progress : goal.returns-in_default-clause-progress
returns-in_default-clause-progress g c =
    let p = progress_of c.args.recorder.now.shown (view_store g.S.Reassembly.limits g.S.Reassembly.parts c.args.recorder.now.telling.store) in
    let none = sym c.in_ok-taken.ensures.arrived ∙ sym c.arrival.ensures ∙ ap (option_map view_arrival) c.in_default.is in
    after_none (view_asked c.args.asked.now) p _ (asked_none (view_asked c.args.asked.now) (record { intake = c.args.intake.now; learner = c.args.recorder.now.learner }) (view_record c.args.found.now) none)

pub returns-in_default-clause-took : goal.returns-in_default-clause-took
returns-in_default-clause-took g c =
    let none = sym c.in_ok-taken.ensures.arrived ∙ sym c.arrival.ensures ∙ ap (option_map view_arrival) c.in_default.is in
    after_none_came (view_asked c.args.asked.now).wanted (record { intake = c.args.intake.now; learner = c.args.recorder.now.learner }) (view_record c.args.found.now) c.take.new.self none c.in_ok-taken.ensures.after

pub returns-in_default-clause-few : goal.returns-in_default-clause-few
returns-in_default-clause-few g c =
    let more = ap (λ s. s.frames) c.in_ok-taken.ensures.after ∙ frames-more (view_asked c.args.asked.now).wanted.packets c.args.intake.now (view_record c.args.found.now) in
    omega (arith, more, c.requires.few)

pub returns-then-not-branch-clause-ok : goal.returns-then-not-branch-clause-ok
returns-then-not-branch-clause-ok g c =
    let p = progress_of c.args.recorder.now.shown (view_store g.S.Reassembly.limits g.S.Reassembly.parts c.args.recorder.now.telling.store) in
    let one = sym c.in_ok-taken.ensures.arrived ∙ sym c.arrival.ensures ∙ ap (option_map view_arrival) c.in-Some.is in
    let other = sym c.in_ok-seeks.ensures.sought ∙ c.if-not-branch.true in
    recorded_none (view_asked c.args.asked.now) p _ (asked_other (view_asked c.args.asked.now) (record { intake = c.args.intake.now; learner = c.args.recorder.now.learner }) (view_record c.args.found.now) (view_arrival c.in-Some.arrival) one other) _ _

pub returns-then-not-branch-clause-progress : goal.returns-then-not-branch-clause-progress
returns-then-not-branch-clause-progress g c =
    let p = progress_of c.args.recorder.now.shown (view_store g.S.Reassembly.limits g.S.Reassembly.parts c.args.recorder.now.telling.store) in
    let one = sym c.in_ok-taken.ensures.arrived ∙ sym c.arrival.ensures ∙ ap (option_map view_arrival) c.in-Some.is in
    let other = sym c.in_ok-seeks.ensures.sought ∙ c.if-not-branch.true in
    after_none (view_asked c.args.asked.now) p _ (asked_other (view_asked c.args.asked.now) (record { intake = c.args.intake.now; learner = c.args.recorder.now.learner }) (view_record c.args.found.now) (view_arrival c.in-Some.arrival) one other)

pub returns-in_err-seeks-clause-err : goal.returns-in_err-seeks-clause-err
returns-in_err-seeks-clause-err g c =
    let p = progress_of c.args.recorder.now.shown (view_store g.S.Reassembly.limits g.S.Reassembly.parts c.args.recorder.now.telling.store) in
    let asked = view_asked c.args.asked.now in
    let ds = asked_from asked (record { intake = c.args.intake.now; learner = c.args.recorder.now.learner }) (Ok (view_record c.args.found.now) ∷ []) in
    OnErr-any c.from_residual-in_err-seeks.result (stops_none (AreRecorded asked p ds) _ _ (some_recorded asked p ds))

pub returns-then-not-branch-clause-took : goal.returns-then-not-branch-clause-took
returns-then-not-branch-clause-took g c =
    let one = sym c.in_ok-taken.ensures.arrived ∙ sym c.arrival.ensures ∙ ap (option_map view_arrival) c.in-Some.is in
    after_came (view_asked c.args.asked.now).wanted (record { intake = c.args.intake.now; learner = c.args.recorder.now.learner }) (view_record c.args.found.now) (view_arrival c.in-Some.arrival) c.take.new.self _ one c.in_ok-taken.ensures.after c.in_ok-seeks.ensures.learned

pub returns-then-not-branch-clause-few : goal.returns-then-not-branch-clause-few
returns-then-not-branch-clause-few g c =
    let more = ap (λ s. s.frames) c.in_ok-taken.ensures.after ∙ frames-more (view_asked c.args.asked.now).wanted.packets c.args.intake.now (view_record c.args.found.now) in
    omega (arith, more, c.requires.few)

pub put_next-requires-clause-few : goal.put_next-requires-clause-few
put_next-requires-clause-few g c =
    let more = ap (λ s. s.frames) c.in_ok-taken.ensures.after ∙ frames-more (view_asked c.args.asked.now).wanted.packets c.args.intake.now (view_record c.args.found.now) in
    omega (arith, more, c.requires.few, c.in_ok-taken.ensures.bounded)

pub returns-clause-ok : goal.returns-clause-ok
returns-clause-ok g c =
    let p = progress_of c.args.recorder.now.shown (view_store g.S.Reassembly.limits g.S.Reassembly.parts c.args.recorder.now.telling.store) in
    let one = sym c.in_ok-taken.ensures.arrived ∙ sym c.arrival.ensures ∙ ap (option_map view_arrival) c.in-Some.is in
    let wanted = sym c.in_ok-seeks.ensures.sought ∙ c.if-not-branch.false in
    let asked = view_asked c.args.asked.now in
    let a = view_arrival c.in-Some.arrival in
    let ds = asked_from asked (record { intake = c.args.intake.now; learner = c.args.recorder.now.learner }) (Ok (view_record c.args.found.now) ∷ []) in
    on_ok_weaker c.put_next.result
    (sends_as (IsRecordedText asked p a) (AreRecorded asked p ds) _ _ _ _ (recorded_one asked p ds a (asked_one asked (record { intake = c.args.intake.now; learner = c.args.recorder.now.learner }) (view_record c.args.found.now) a one wanted)))
    c.put_next.ensures.ok

pub returns-clause-progress : goal.returns-clause-progress
returns-clause-progress g c =
    let p = progress_of c.args.recorder.now.shown (view_store g.S.Reassembly.limits g.S.Reassembly.parts c.args.recorder.now.telling.store) in
    let one = sym c.in_ok-taken.ensures.arrived ∙ sym c.arrival.ensures ∙ ap (option_map view_arrival) c.in-Some.is in
    let wanted = sym c.in_ok-seeks.ensures.sought ∙ c.if-not-branch.false in
    let asked = view_asked c.args.asked.now in
    let a = view_arrival c.in-Some.arrival in
    rw (after_one asked p (asked_from asked (record { intake = c.args.intake.now; learner = c.args.recorder.now.learner }) (Ok (view_record c.args.found.now) ∷ [])) a (asked_one asked (record { intake = c.args.intake.now; learner = c.args.recorder.now.learner }) (view_record c.args.found.now) a one wanted))
    c.put_next.ensures.progress

pub returns-clause-took : goal.returns-clause-took
returns-clause-took g c =
    let one = sym c.in_ok-taken.ensures.arrived ∙ sym c.arrival.ensures ∙ ap (option_map view_arrival) c.in-Some.is in
    let came = after_came (view_asked c.args.asked.now).wanted (record { intake = c.args.intake.now; learner = c.args.recorder.now.learner }) (view_record c.args.found.now) (view_arrival c.in-Some.arrival) c.take.new.self c.seeks.new.learner one c.in_ok-taken.ensures.after c.in_ok-seeks.ensures.learned in
    on_ok_weaker c.put_next.result (λ one. rw c.put_next.ensures.learner came) c.put_next.ensures.one

pub returns-clause-few : goal.returns-clause-few
returns-clause-few g c =
    let more = ap (λ s. s.frames) c.in_ok-taken.ensures.after ∙ frames-more (view_asked c.args.asked.now).wanted.packets c.args.intake.now (view_record c.args.found.now) in
    on_ok_weaker c.put_next.result (λ (is : c.put_next.new.recorder.shown.datagrams ≡ c.args.recorder.now.shown.datagrams + 1). omega (arith, is, more, c.requires.few)) c.put_next.ensures.one

pub returns-clause-err : goal.returns-clause-err
returns-clause-err g c =
    let p = progress_of c.args.recorder.now.shown (view_store g.S.Reassembly.limits g.S.Reassembly.parts c.args.recorder.now.telling.store) in
    let one = sym c.in_ok-taken.ensures.arrived ∙ sym c.arrival.ensures ∙ ap (option_map view_arrival) c.in-Some.is in
    let wanted = sym c.in_ok-seeks.ensures.sought ∙ c.if-not-branch.false in
    let asked = view_asked c.args.asked.now in
    let a = view_arrival c.in-Some.arrival in
    let ds = asked_from asked (record { intake = c.args.intake.now; learner = c.args.recorder.now.learner }) (Ok (view_record c.args.found.now) ∷ []) in
    on_err_weaker c.put_next.result
    (stops_as (IsRecordedText asked p a) (AreRecorded asked p ds) _ _ _ (recorded_one asked p ds a (asked_one asked (record { intake = c.args.intake.now; learner = c.args.recorder.now.learner }) (view_record c.args.found.now) a one wanted)))
    c.put_next.ensures.err
