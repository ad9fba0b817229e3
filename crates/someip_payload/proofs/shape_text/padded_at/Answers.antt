use Rattle.std.proofs.Common.{◌≡◌, ◌+◌, ◌<◌, length, codes, sym, ap, ◌∙◌, arith}
use Rattle.std.specs.Fmt.{decimal}
use Rattle.std.proofs.lemmas.List.{length-append}
use Rattle.someip_payload_values.proofs.Shapes.{form-FixedText}
use Rattle.someip_payload_values.specs.Data.{padded}
use Rattle.someip_payload.proofs.Converse.{same_first, same_second, not_read}
use Rattle.someip_payload.proofs.Places.{behind_piece}
use Rattle.someip_payload.proofs.ConverseParts.{room_there, no_digit_end}
use Rattle.someip_payload.proofs.ShapePieces.{padded_shape, room_piece}
use Rattle.someip_payload.proofs.shape_text.padded_at.Goals as goal

pub returns-clause-found : goal.returns-clause-found
returns-clause-found c = λ known.
    let from : c.in_ok-from.from ≡ c.args.at + 1 = c.in_ok-from.ensures.end.0 in
    let last : c.in_ok-from.from < c.in_ok-room.last = c.in_ok-room.ensures.end.0 in
    let end : c.in_ok-end.end ≡ c.in_ok-room.last + 1 = c.in_ok-end.ensures.end.0 in
    padded_shape c.args.encoding c.in_ok-room.room _ (room_piece c.args.text.now c.in_ok-room.room c.args.at c.in_ok-from.from c.in_ok-room.last c.in_ok-end.end (omega arith) (omega arith) (omega arith) c.in_ok-from.ensures.found c.in_ok-room.ensures.found c.in_ok-end.ensures.found) c.in_ok-room.ensures.fits

pub returns-in_err-room-clause-only : goal.returns-in_err-room-clause-only
returns-in_err-room-clause-only c = λ f back rest is behind.
    let there = room_there c.args.text.now back rest behind.0 c.args.at c.in_ok-from.from is behind.3 c.in_ok-from.ensures.end.0 in
    absurd (not_read _ _ (c.in_err-room.ensures.only behind.0 62 rest there behind.1 no_digit_end))

pub returns-in_err-end-clause-only : goal.returns-in_err-end-clause-only
returns-in_err-end-clause-only c = λ f back rest is behind.
    let there = room_there c.args.text.now back rest behind.0 c.args.at c.in_ok-from.from is behind.3 c.in_ok-from.ensures.end.0 in
    let read = c.in_ok-room.ensures.only behind.0 62 rest there behind.1 no_digit_end in
    absurd (not_read _ _ (c.in_err-end.ensures.only rest (behind_piece c.args.text.now (decimal behind.0) _ c.in_ok-from.from c.in_ok-room.last there (same_second _ _ _ _ read))))

pub returns-clause-only : goal.returns-clause-only
returns-clause-only c = λ f back rest is behind.
    let there = room_there c.args.text.now back rest behind.0 c.args.at c.in_ok-from.from is behind.3 c.in_ok-from.ensures.end.0 in
    let read = c.in_ok-room.ensures.only behind.0 62 rest there behind.1 no_digit_end in (
      form-FixedText c.args.encoding c.in_ok-room.room ∙ ap (λ n. padded c.args.encoding n) (same_first _ _ _ _ read) ∙ sym behind.2,
      omega (arith, same_second _ _ _ _ read, c.in_ok-from.ensures.end.0, c.in_ok-end.ensures.end.0, ap length behind.3, length-append (decimal behind.0) (codes ">")),
    )
