use Rattle.std.proofs.Common.{refl, sym, ap, subst, ◌∙◌, arith}
use Rattle.std.specs.Prelude.{option_map}
use Rattle.std.proofs.lemmas.Result.{on_ok_weaker, on_err_weaker}
use Rattle.recording.specs.View.{view_record}
use Rattle.recording_packets.specs.View.{view_arrival}
use Rattle.recording_packets.specs.Intake.{arrived}
use Rattle.recording_packets.proofs.IntakeLemmas.{frames-more}
use Rattle.someipctl_io.proofs.SendingLemmas.{OnErr-any, Sends-nil}
use Rattle.someipctl_audit.specs.AskedAudits.{view_asked}
use Rattle.someipctl_audit.specs.Runs.{PutsRecord, StopsRecord}
use Rattle.someipctl_audit.proofs.RunLemmas.{record_stops}
use Rattle.someipctl_audit.proofs.audits.put_record.Goals as goal

pub returns-in_err-taken-clause-stops : goal.returns-in_err-taken-clause-stops
returns-in_err-taken-clause-stops g c =
    OnErr-any c.from_residual.result
    (record_stops (view_asked c.args.asked.now) (arrived (view_asked c.args.asked.now).wanted.packets c.args.intake.now (view_record c.args.found.now)) c.args.auditing.now.audit c.args.gone.now (g.W.Write.contents c.args.writer.now) c.args.buffer.now)

pub returns-in-None-clause-puts : goal.returns-in-None-clause-puts
returns-in-None-clause-puts g c =
    let none = sym c.in_ok-taken.ensures.arrived ∙ sym c.arrival.ensures ∙ ap (option_map view_arrival) c.in-None.is in
    subst (λ given. PutsRecord (view_asked c.args.asked.now) given c.args.auditing.now.audit c.args.auditing.now.audit c.args.gone.now c.args.gone.now (g.W.Write.contents c.args.writer.now) c.args.buffer.now (g.W.Write.contents c.args.writer.now) c.args.buffer.now) (sym none)
    (refl, refl, Sends-nil (g.W.Write.contents c.args.writer.now) c.args.buffer.now)

pub returns-in-None-clause-few : goal.returns-in-None-clause-few
returns-in-None-clause-few g c =
    let more = ap (λ s. s.frames) c.in_ok-taken.ensures.after ∙ frames-more (view_asked c.args.asked.now).wanted.packets c.args.intake.now (view_record c.args.found.now) in
    omega (arith, more, c.requires.few)

pub put_datagram-requires : goal.put_datagram-requires
put_datagram-requires g c =
    let more = ap (λ s. s.frames) c.in_ok-taken.ensures.after ∙ frames-more (view_asked c.args.asked.now).wanted.packets c.args.intake.now (view_record c.args.found.now) in
    omega (arith, more, c.requires.few, c.in_ok-taken.ensures.bounded)

pub returns-in-Some-clause-puts : goal.returns-in-Some-clause-puts
returns-in-Some-clause-puts g c =
    let one = sym c.in_ok-taken.ensures.arrived ∙ sym c.arrival.ensures ∙ ap (option_map view_arrival) c.in-Some.is in
    on_ok_weaker c.put_datagram.result
    (subst (λ given. PutsRecord (view_asked c.args.asked.now) given c.args.auditing.now.audit c.put_datagram.new.auditing.audit c.args.gone.now c.put_datagram.new.gone (g.W.Write.contents c.args.writer.now) c.args.buffer.now (g.W.Write.contents c.put_datagram.new.writer) c.put_datagram.new.buffer) (sym one))
    c.put_datagram.ensures.puts

pub returns-in-Some-clause-few : goal.returns-in-Some-clause-few
returns-in-Some-clause-few g c =
    let more = ap (λ s. s.frames) c.in_ok-taken.ensures.after ∙ frames-more (view_asked c.args.asked.now).wanted.packets c.args.intake.now (view_record c.args.found.now) in
    on_ok_weaker c.put_datagram.result (λ puts. omega (arith, puts.number, more, c.requires.few)) c.put_datagram.ensures.puts

pub returns-in-Some-clause-stops : goal.returns-in-Some-clause-stops
returns-in-Some-clause-stops g c =
    let one = sym c.in_ok-taken.ensures.arrived ∙ sym c.arrival.ensures ∙ ap (option_map view_arrival) c.in-Some.is in
    on_err_weaker c.put_datagram.result
    (subst (λ given. StopsRecord (view_asked c.args.asked.now) given c.args.auditing.now.audit c.args.gone.now (g.W.Write.contents c.args.writer.now) c.args.buffer.now (g.W.Write.contents c.put_datagram.new.writer)) (sym one))
    c.put_datagram.ensures.stops
