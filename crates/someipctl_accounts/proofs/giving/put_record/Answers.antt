use Rattle.std.proofs.Common.{refl, sym, ap, subst, ◌∙◌, arith}
use Rattle.std.specs.Prelude.{option_map}
use Rattle.std.proofs.lemmas.Result.{on_ok_weaker, on_err_weaker}
use Rattle.recording.specs.View.{view_record}
use Rattle.recording_packets.specs.View.{view_arrival, view_chosen}
use Rattle.recording_packets.specs.Intake.{arrived}
use Rattle.recording_packets.proofs.IntakeLemmas.{frames-more}
use Rattle.someipctl_io.proofs.SendingLemmas.{OnErr-any, Sends-nil}
use Rattle.someipctl_accounts.specs.Giving.{PutsRecord, StopsRecord}
use Rattle.someipctl_accounts.proofs.GivingLemmas.{nothing_taken_stops}
use Rattle.someipctl_accounts.proofs.giving.put_record.Goals as goal

pub returns-in_err-taken-clause-stops : goal.returns-in_err-taken-clause-stops
returns-in_err-taken-clause-stops g c =
    OnErr-any c.from_residual.result
    (nothing_taken_stops g.A.Account.takes (arrived (view_chosen c.args.chosen.now) c.args.intake.now (view_record c.args.found.now)) c.args.account.now c.args.going.now (g.W.Write.contents c.args.writer.now) c.args.buffer.now)

pub returns-in-None-clause-puts : goal.returns-in-None-clause-puts
returns-in-None-clause-puts g c =
    let none = sym c.in_ok-taken.ensures.arrived ∙ sym c.arrival.ensures ∙ ap (option_map view_arrival) c.in-None.is in
    subst (λ given. PutsRecord g.A.Account.takes given c.args.account.now c.args.account.now c.args.going.now c.args.going.now (g.W.Write.contents c.args.writer.now) c.args.buffer.now (g.W.Write.contents c.args.writer.now) c.args.buffer.now) (sym none)
    (refl, refl, Sends-nil (g.W.Write.contents c.args.writer.now) c.args.buffer.now)

pub returns-in-None-clause-few : goal.returns-in-None-clause-few
returns-in-None-clause-few g c =
    let more = ap (λ s. s.frames) c.in_ok-taken.ensures.after ∙ frames-more (view_chosen c.args.chosen.now) c.args.intake.now (view_record c.args.found.now) in
    omega (arith, more, c.requires.few)

pub put_arrival-requires : goal.put_arrival-requires
put_arrival-requires g c =
    let more = ap (λ s. s.frames) c.in_ok-taken.ensures.after ∙ frames-more (view_chosen c.args.chosen.now) c.args.intake.now (view_record c.args.found.now) in
    omega (arith, more, c.requires.few, c.in_ok-taken.ensures.bounded)

pub returns-in-Some-clause-puts : goal.returns-in-Some-clause-puts
returns-in-Some-clause-puts g c =
    let one = sym c.in_ok-taken.ensures.arrived ∙ sym c.arrival.ensures ∙ ap (option_map view_arrival) c.in-Some.is in
    on_ok_weaker c.put_arrival.result
    (subst (λ given. PutsRecord g.A.Account.takes given c.args.account.now c.put_arrival.new.account c.args.going.now c.put_arrival.new.going (g.W.Write.contents c.args.writer.now) c.args.buffer.now (g.W.Write.contents c.put_arrival.new.writer) c.put_arrival.new.buffer) (sym one))
    c.put_arrival.ensures.puts

pub returns-in-Some-clause-few : goal.returns-in-Some-clause-few
returns-in-Some-clause-few g c =
    let more = ap (λ s. s.frames) c.in_ok-taken.ensures.after ∙ frames-more (view_chosen c.args.chosen.now) c.args.intake.now (view_record c.args.found.now) in
    on_ok_weaker c.put_arrival.result (λ puts. omega (arith, puts.number, more, c.requires.few)) c.put_arrival.ensures.puts

pub returns-in-Some-clause-stops : goal.returns-in-Some-clause-stops
returns-in-Some-clause-stops g c =
    let one = sym c.in_ok-taken.ensures.arrived ∙ sym c.arrival.ensures ∙ ap (option_map view_arrival) c.in-Some.is in
    on_err_weaker c.put_arrival.result
    (subst (λ given. StopsRecord g.A.Account.takes given c.args.account.now c.args.going.now (g.W.Write.contents c.args.writer.now) c.args.buffer.now (g.W.Write.contents c.put_arrival.new.writer)) (sym one))
    c.put_arrival.ensures.stops
