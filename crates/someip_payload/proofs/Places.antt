-- Pieces of a text that were read, and what stands behind them.
use Rattle.std.proofs.Common.{◌≡◌, ℕ, ◌+◌, ◌-◌, ◌≤◌, List, ◌++◌, length, drop, slice_range, refl, sym, ap, ◌∙◌, arith}
use Rattle.std.proofs.lemmas.List.{length-take, length-drop, drop-drop, drop_at, take-append-drop}

-- the text from a place on is the piece, and then the rest
pub pieces : (text piece : List ℕ) (at end : ℕ) → at ≤ end → end ≤ length text → slice_range text at end ≡ piece → drop at text ≡ piece ++ drop end text
pieces text piece at end le within is =
    let same : at + (end - at) ≡ end = omega arith in
    let back : drop (end - at) (drop at text) ≡ drop end text = drop-drop (end - at) at text ∙ ap (λ n. drop n text) same in
    sym (take-append-drop (end - at) (drop at text)) ∙ ap (λ (t : List ℕ). t ++ drop (end - at) (drop at text)) is ∙ ap (λ (t : List ℕ). piece ++ t) back

pub piece_end : (text piece : List ℕ) (at end : ℕ) → at ≤ end → end ≤ length text → slice_range text at end ≡ piece → end ≡ at + length piece
piece_end text piece at end le within is = omega (arith, le, within, ap length is, length-take (end - at) (drop at text), length-drop at text)

-- the text after a piece
pub behind_piece : (text piece rest : List ℕ) (at end : ℕ) → drop at text ≡ piece ++ rest → end ≡ at + length piece → drop end text ≡ rest
behind_piece text piece rest at end is place =
    ap (λ n. drop n text) place ∙ sym (drop-drop (length piece) at text) ∙ ap (drop (length piece)) is ∙ drop_at piece rest (length piece) refl
