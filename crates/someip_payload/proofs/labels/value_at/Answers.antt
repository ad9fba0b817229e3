use Rattle.std.proofs.Common.{◌≡◌, ℕ, ◌+◌, ◌<◌, ◌^◌, ◌∷◌, ◌++◌, List, Result, Ok, length, get_or, drop, codes, ◌∙◌, arith}
use Rattle.std.specs.Prelude.{ℤ, pos, negsuc}
use Rattle.std.specs.Fmt.{decimal}
use Rattle.someip_payload.specs.declared.shape_text_error.ShapeTextError.{ShapeTextError}
use Rattle.someip_payload.specs.ShapeText.{IsDigit, IsValue, value_text}
use Rattle.someip_payload.proofs.Decimals.{no_minus_first}
use Rattle.someip_payload.proofs.Places.{behind_piece}
use Rattle.someip_payload.proofs.labels.value_at.Goals as goal

-- a value after its minus sign
below_zero : (r : Result (ℤ × ℕ) ShapeTextError) (text : List ℕ) (at : ℕ) → get_or text at 0 ≡ 45
    → ((n b : ℕ) (rest : List ℕ) → drop (at + 1) text ≡ decimal (n + 1) ++ b ∷ rest → n < 2 ^ 63 → (IsDigit b → ⊥) → r ≡ Ok (negsuc n, at + 1 + length (decimal (n + 1))))
    → (z : ℤ) (b : ℕ) (rest : List ℕ) → drop at text ≡ value_text z ++ b ∷ rest → IsValue z → (IsDigit b → ⊥) → r ≡ Ok (z, at + length (value_text z))
below_zero r text at minus only (pos n) b rest is small stop = absurd (no_minus_first text (b ∷ rest) at n small is minus)
below_zero r text at minus only (negsuc n) b rest is small stop =
    let behind = behind_piece text (codes "-") (decimal (n + 1) ++ b ∷ rest) at (at + 1) is (omega arith) in
    let place : at + 1 + length (decimal (n + 1)) ≡ at + length (codes "-" ++ decimal (n + 1)) = omega arith in
    only n b rest behind small stop ∙ (λ i. Ok (negsuc n, place i))

pub returns-then-has_byte-clause-only : goal.returns-then-has_byte-clause-only
returns-then-has_byte-clause-only c = below_zero c.negative_at.result c.args.text.now c.args.at (c.has_byte.ensures.there c.if-has_byte.true).1 c.negative_at.ensures.only
