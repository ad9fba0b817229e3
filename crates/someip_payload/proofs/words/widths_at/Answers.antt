use Rattle.std.proofs.Common.{◌≡◌, ◌+◌, length, Option, Some, Ok, sym, ap, ◌∙◌, arith}
use Rattle.std.proofs.lemmas.List.{length-append}
use Rattle.someip_payload_values.specs.declared.shape.Width.{Width}
use Rattle.someip_payload.specs.ShapeText.{width_text, widths_text}
use Rattle.someip_payload.proofs.Converse.{same_first, same_second, not_read}
use Rattle.someip_payload.proofs.Pieces.{slice_range-append}
use Rattle.someip_payload.proofs.Places.{behind_piece}
use Rattle.someip_payload.proofs.WordTable.{both_widths}
use Rattle.someip_payload.proofs.words.widths_at.Goals as goal

pub returns-clause-found : goal.returns-clause-found
returns-clause-found c =
    rw (← slice_range-append c.args.text.now c.args.at c.in_ok-width.behind c.in_ok-type_width.end c.in_ok-width.ensures.end.0 c.in_ok-type_width.ensures.end.0, c.in_ok-width.ensures.found, c.in_ok-type_width.ensures.found)

pub returns-in_err-type_width-clause-only : goal.returns-in_err-type_width-clause-only
returns-in_err-type_width-clause-only c = λ ws rest is stops.
    let there = both_widths c.args.text.now c.args.at c.in_ok-width.behind c.in_ok-width.width c.in_ok-width.ensures.end.0 c.in_ok-width.ensures.end.1 c.in_ok-width.ensures.found ws rest is stops in
    let read = c.in_ok-width.ensures.only there.0.0 _ there.2 in
    let more = behind_piece c.args.text.now (width_text (Some there.0.0)) _ c.args.at c.in_ok-width.behind there.2 (same_second _ _ _ _ read) in
    absurd (not_read _ _ (c.in_err-type_width.ensures.only there.0.1 rest more))

pub returns-clause-only : goal.returns-clause-only
returns-clause-only c = λ ws rest is stops.
    let there = both_widths c.args.text.now c.args.at c.in_ok-width.behind c.in_ok-width.width c.in_ok-width.ensures.end.0 c.in_ok-width.ensures.end.1 c.in_ok-width.ensures.found ws rest is stops in
    let read = c.in_ok-width.ensures.only there.0.0 _ there.2 in
    let place = same_second _ _ _ _ read in
    let more = behind_piece c.args.text.now (width_text (Some there.0.0)) _ c.args.at c.in_ok-width.behind there.2 place in
    let second = c.in_ok-type_width.ensures.only there.0.1 rest more in
    let first : c.in_ok-width.width ≡ there.0.0 = same_first _ _ _ _ read in
    let type : c.in_ok-type_width.type_width ≡ there.0.1 = same_first _ _ _ _ second in
    let len : length (widths_text ws) ≡ length (width_text (Some there.0.0)) + length (width_text (Some there.0.1)) =
    ap (λ (us : Option (Width × Width)). length (widths_text us)) there.1 ∙ length-append (width_text (Some there.0.0)) (width_text (Some there.0.1)) in
    let end : c.in_ok-type_width.end ≡ c.args.at + length (widths_text ws) = omega (arith, len, place, same_second _ _ _ _ second) in
    let both : Some (c.in_ok-width.width, c.in_ok-type_width.type_width) ≡ ws = (λ i. Some (first i, type i)) ∙ sym there.1 in
    λ i. Ok (both i, end i)
