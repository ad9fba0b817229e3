use Rattle.std.proofs.Common.{◌≡◌, ℕ, ◌+◌, ◌-◌, ◌<◌, ◌≤◌, ◌∷◌, ◌++◌, List, length, take, drop, slice_range, string_bytes, codes, subst, sym, ap, ◌∙◌, append_assoc, arith}
use Rattle.std.specs.Prelude.{ℤ, pos, negsuc}
use mir.Syntax.{w128}
use mir.Val.{SFits, of_z, to_z}
use Rattle.std.proofs.lemmas.Int.{to_z-of_z}
use Rattle.std.proofs.lemmas.List.{length-append, take_at}
use Rattle.someip_payload.specs.ShapeText.{IsDigit, IsValue, IsTextOfLabel, value_text}
use Rattle.someip_payload.proofs.Converse.{same_first, same_second, not_read}
use Rattle.someip_payload.proofs.NameBytes.{name_len}
use Rattle.someip_payload.proofs.Pieces.{slice_range-append}
use Rattle.someip_payload.proofs.Places.{behind_piece}
use Rattle.someip_payload.proofs.labels.label_at.Goals as goal

-- a value has no more than 128 bits
value_fits : (z : ℤ) → IsValue z → SFits w128 z
value_fits (pos n) small = omega (arith, small)
value_fits (negsuc n) small = omega (arith, small)

value_again : (z : ℤ) → IsValue z → to_z w128 (of_z w128 z) ≡ z
value_again z small = to_z-of_z w128 z (value_fits z small)

no_digit_equals : IsDigit 61 → ⊥
no_digit_equals d = omega (arith, d.1)

label_there : (text front rest : List ℕ) (l : ℤ × List ℕ) (at : ℕ) → drop at text ≡ front ++ rest → IsTextOfLabel l front → drop at text ≡ value_text l.0 ++ 61 ∷ (l.1 ++ rest)
label_there text front rest l at is own = is ∙ ap (λ (t : List ℕ). t ++ rest) own.2 ∙ append_assoc (value_text l.0) (codes "=" ++ l.1) rest

pub returns-clause-found : goal.returns-clause-found
returns-clause-found c =
    let first : c.in_ok-first.first ≡ c.in_ok-value.behind + 1 = c.in_ok-first.ensures.end.0 in
    let ends = c.name_end-end.ensures in
    let some : c.in_ok-first.first < c.name_end-end.result = grind (arith, ends.end.0, c.if-end-first.false) in
    let behind : c.args.at ≤ c.in_ok-value.behind = omega (arith, c.in_ok-value.ensures.end.0) in
    let more : c.in_ok-value.behind ≤ c.in_ok-first.first = omega arith in
    let rest : c.in_ok-first.first ≤ c.name_end-end.result = omega arith in
    let name : string_bytes c.in_ok-name.name ≡ slice_range c.args.text.now c.in_ok-first.first c.name_end-end.result = c.in_ok-name.ensures.ok ∙ c.name_str.ensures in
    let piece : slice_range c.args.text.now c.args.at c.name_end-end.result ≡ value_text c.in_ok-value.value ++ (codes "=" ++ string_bytes c.in_ok-name.name) =
    rw (
      ← slice_range-append c.args.text.now c.args.at c.in_ok-value.behind c.name_end-end.result behind (omega arith),
      ← slice_range-append c.args.text.now c.in_ok-value.behind c.in_ok-first.first c.name_end-end.result more rest,
      c.in_ok-value.ensures.found,
      c.in_ok-first.ensures.found,
      name,
    ) in
    let label : IsTextOfLabel (c.in_ok-value.value, string_bytes c.in_ok-name.name) (slice_range c.args.text.now c.args.at c.name_end-end.result) = (c.in_ok-value.ensures.fits, rw name (ends.found some), piece) in
    subst (λ (z : ℤ). IsTextOfLabel (z, string_bytes c.in_ok-name.name) (slice_range c.args.text.now c.args.at c.name_end-end.result)) (sym (value_again c.in_ok-value.value c.in_ok-value.ensures.fits)) label

pub returns-in_err-first-clause-only : goal.returns-in_err-first-clause-only
returns-in_err-first-clause-only c = λ l front rest is own stops.
    let there = label_there c.args.text.now front rest l c.args.at is own in
    let read = c.in_ok-value.ensures.only l.0 61 (l.1 ++ rest) there own.0 no_digit_equals in
    let equals = behind_piece c.args.text.now (value_text l.0) (61 ∷ (l.1 ++ rest)) c.args.at c.in_ok-value.behind there (same_second _ _ _ _ read) in
    absurd (not_read _ _ (c.in_err-first.ensures.only (l.1 ++ rest) equals))

pub returns-then-end-first-clause-only : goal.returns-then-end-first-clause-only
returns-then-end-first-clause-only c = λ l front rest is own stops.
    let there = label_there c.args.text.now front rest l c.args.at is own in
    let read = c.in_ok-value.ensures.only l.0 61 (l.1 ++ rest) there own.0 no_digit_equals in
    let equals = behind_piece c.args.text.now (value_text l.0) (61 ∷ (l.1 ++ rest)) c.args.at c.in_ok-value.behind there (same_second _ _ _ _ read) in
    let name = behind_piece c.args.text.now (codes "=") (l.1 ++ rest) c.in_ok-value.behind c.in_ok-first.first equals c.in_ok-first.ensures.end.0 in
    let end = c.name_end-end.ensures.only l.1 rest name own.1 stops in
    absurd (omega (arith, end, c.if-end-first.true, (name_len l.1 own.1).0))

pub returns-clause-only : goal.returns-clause-only
returns-clause-only c = λ l front rest is own stops.
    let there = label_there c.args.text.now front rest l c.args.at is own in
    let read = c.in_ok-value.ensures.only l.0 61 (l.1 ++ rest) there own.0 no_digit_equals in
    let place = same_second _ _ _ _ read in
    let equals = behind_piece c.args.text.now (value_text l.0) (61 ∷ (l.1 ++ rest)) c.args.at c.in_ok-value.behind there place in
    let name = behind_piece c.args.text.now (codes "=") (l.1 ++ rest) c.in_ok-value.behind c.in_ok-first.first equals c.in_ok-first.ensures.end.0 in
    let end : c.name_end-end.result ≡ c.in_ok-first.first + length l.1 = c.name_end-end.ensures.only l.1 rest name own.1 stops in
    let len : length l.1 ≡ c.name_end-end.result - c.in_ok-first.first = omega (arith, end) in
    let bytes : string_bytes c.in_ok-name.name ≡ slice_range c.args.text.now c.in_ok-first.first c.name_end-end.result = c.in_ok-name.ensures.ok ∙ c.name_str.ensures in
    let whole : string_bytes c.in_ok-name.name ≡ l.1 = bytes ∙ ap (take (c.name_end-end.result - c.in_ok-first.first)) name ∙ take_at l.1 rest (c.name_end-end.result - c.in_ok-first.first) len in
    let value : c.in_ok-value.value ≡ l.0 = same_first _ _ _ _ read in
    (λ i. ((value_again c.in_ok-value.value c.in_ok-value.ensures.fits ∙ value) i, whole i), omega (arith, end, c.in_ok-first.ensures.end.0, place, ap length own.2, length-append (value_text l.0) (61 ∷ l.1)))
