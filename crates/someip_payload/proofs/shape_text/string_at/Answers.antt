use Rattle.std.proofs.Common.{ℕ, ◌+◌, List, ◌++◌, length, sym, ap, ◌∙◌}
use Rattle.someip_payload.proofs.Converse.{same_first, same_second, not_read, ends_width}
use Rattle.someip_payload.proofs.ConverseParts.{string_is}
use Rattle.someip_payload.proofs.ShapePieces.{string_shape}
use Rattle.someip_payload.proofs.shape_text.string_at.Goals as goal

pub returns-clause-found : goal.returns-clause-found
returns-clause-found c = λ known. string_shape c.args.encoding c.in_ok-width.width _ _ c.or_32.ensures c.in_ok-width.ensures.found

pub returns-in_err-width-clause-only : goal.returns-in_err-width-clause-only
returns-in_err-width-clause-only c = λ f back rest is behind stops.
    absurd (not_read _ _ (c.in_err-width.ensures.only behind.0 rest (is ∙ ap (λ (t : List ℕ). t ++ rest) behind.2) (ends_width rest stops)))

pub returns-clause-only : goal.returns-clause-only
returns-clause-only c = λ f back rest is behind stops.
    let read = c.in_ok-width.ensures.only behind.0 rest (is ∙ ap (λ (t : List ℕ). t ++ rest) behind.2) (ends_width rest stops) in (
      string_is c.args.encoding c.in_ok-width.width behind.0 _ f c.or_32.ensures (same_first _ _ _ _ read) behind.1,
      same_second _ _ _ _ read ∙ ap (λ (t : List ℕ). c.args.at + length t) (sym behind.2),
    )
