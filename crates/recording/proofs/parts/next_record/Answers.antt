use Rattle.std.proofs.Common.{◌≡◌, ◌≤◌, ◌∷◌, ◌∙◌, ◌+◌, length, drop, sym, ap, arith, Ok, Option}
use Rattle.std.proofs.lemmas.Result.{err_from_is_err_and}
use Rattle.std.proofs.lemmas.List.{take_rest, length-drop}
use Rattle.recording.specs.declared.packet.Packet.{Packet}
use Rattle.recording.specs.Captured.{RecordValue}
use Rattle.recording.specs.Records.{part_meaning, items_from, items_after}
use Rattle.recording.specs.View.{given_in, record_at, view_record}
use Rattle.recording.proofs.ItemLemmas.{left_none, left_part, fails_last}
use Rattle.recording.proofs.parts.next_record.Goals as goal

pub returns-in_err-part-clause-err : goal.returns-in_err-part-clause-err
returns-in_err-part-clause-err c =
    let p = err_from_is_err_and c.from_residual.result c.from_residual.ensures.1 in
    rw (p.1, p.2) (fails_last c.in_err-part.field-0.0 c.loop-place.format c.loop-place.interfaces.items c.loop-place.place c.args.file.now _ c.loop-place-test.true c.loop-place.invariant.0 (rw take_rest at c.in_err-part.ensures.err))

pub returns-in-Some-clause-found : goal.returns-in-Some-clause-found
returns-in-Some-clause-found c =
    let part = c.in_ok-part.part in
    let e = c.in_ok-part.ensures in
    let rest = drop c.loop-place.place c.args.file.now in
    let meaning : part_meaning c.loop-place.format c.loop-place.interfaces.items c.loop-place.place rest ≡ Ok (given_in rest part.packet) = rw take_rest at e.meaning in
    let given : view_record c.record_at.result ≡ record_at rest c.in-Some.packet = rw take_rest at c.record_at.ensures in
    let within : part.len ≤ length rest = rw take_rest at e.within.1 in (
      sym c.loop-place.invariant.0
          ∙ left_part c.loop-place.format part.format c.loop-place.interfaces.items c.front_part.new.interfaces.items c.loop-place.place (c.loop-place.place + part.len) c.args.file.now (Ok (given_in rest part.packet))
          c.loop-place-test.true meaning (rw take_rest at e.format) (rw take_rest at e.interfaces) (ap (λ n. c.loop-place.place + n) (rw take_rest at e.len))
          ∙ ap (λ (k : Option Packet). items_after (Ok (given_in rest k)) (items_from part.format c.front_part.new.interfaces.items (c.loop-place.place + part.len) (drop (c.loop-place.place + part.len) c.args.file.now))) c.in-Some.is
          ∙ ap (λ (r : RecordValue). Ok r ∷ items_from part.format c.front_part.new.interfaces.items (c.loop-place.place + part.len) (drop (c.loop-place.place + part.len) c.args.file.now)) (sym given),
      omega (arith, within, length-drop c.loop-place.place c.args.file.now, c.loop-place-test.true),
    )

pub loop-place-preserved : goal.loop-place-preserved
loop-place-preserved c =
    let part = c.in_ok-part.part in
    let e = c.in_ok-part.ensures in
    let rest = drop c.loop-place.place c.args.file.now in
    let meaning : part_meaning c.loop-place.format c.loop-place.interfaces.items c.loop-place.place rest ≡ Ok (given_in rest part.packet) = rw take_rest at e.meaning in
    let within : part.len ≤ length rest = rw take_rest at e.within.1 in (
      sym
          (left_part c.loop-place.format part.format c.loop-place.interfaces.items c.front_part.new.interfaces.items c.loop-place.place (c.loop-place.place + part.len) c.args.file.now (Ok (given_in rest part.packet))
          c.loop-place-test.true meaning (rw take_rest at e.format) (rw take_rest at e.interfaces) (ap (λ n. c.loop-place.place + n) (rw take_rest at e.len))
          ∙ ap (λ (k : Option Packet). items_after (Ok (given_in rest k)) (items_from part.format c.front_part.new.interfaces.items (c.loop-place.place + part.len) (drop (c.loop-place.place + part.len) c.args.file.now))) c.in_default.is)
          ∙ c.loop-place.invariant.0,
      omega (arith, within, length-drop c.loop-place.place c.args.file.now, c.loop-place-test.true),
    )

pub returns-clause-found : goal.returns-clause-found
returns-clause-found c =
    sym c.loop-place.invariant.0 ∙ left_none c.loop-place.format c.loop-place.interfaces.items c.loop-place.place c.args.file.now (omega (arith, c.loop-place-test.false))
