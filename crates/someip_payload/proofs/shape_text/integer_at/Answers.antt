use Rattle.std.proofs.Common.{◌≡◌, ℕ, ◌+◌, ◌<◌, ◌⊎◌, ⊎_elim, get_or, List, [], ◌∷◌, ◌++◌, length, drop, slice_range, codes, sym, ap, subst, ◌∙◌, append_assoc, arith}
use Rattle.std.specs.Prelude.{ℤ}
use Rattle.std.proofs.lemmas.List.{length-append, append-nil}
use Rattle.someip_payload_values.proofs.Shapes.{form-Enum}
use Rattle.someip_payload_values.specs.Data.{Form, enumerated}
use Rattle.someip_payload_values.specs.declared.shape.Shape.{Shape, Enum}
use Rattle.someip_payload_values.specs.View.{form, labels_of}
use Rattle.someip_payload.specs.ShapeText.{EndsShape, IsTextOfLabels, integer_text, enum_text}
use Rattle.someip_payload.specs.Words.{integer_form, integer_word}
use Rattle.someip_payload.proofs.Converse.{integer_is}
use Rattle.someip_payload.proofs.MemberTexts.{byte_and_rest}
use Rattle.someip_payload.proofs.Pieces.{slice_range-empty, slice_range-byte, slice_range-append}
use Rattle.someip_payload.proofs.Places.{behind_piece}
use Rattle.someip_payload.proofs.shape_text.integer_at.Goals as goal

no_brace : (rest tail : List ℕ) → rest ≡ 123 ∷ tail → EndsShape rest → ⊥
no_brace rest tail is stops = ⊎_elim (λ e. omega (arith, e)) (⊎_elim (λ e. omega (arith, e)) (λ e. omega (arith, e))) (subst EndsShape is stops)

pub returns-then-not-has_byte-clause-found : goal.returns-then-not-has_byte-clause-found
returns-then-not-has_byte-clause-found c = λ known.
    let i = c.args.integer in
    rw (slice_range-empty c.args.text.now c.args.at, append-nil (integer_word i), c.integer_shape-shape.ensures) (integer_text (integer_form i) (integer_word i) (integer_is i))

pub returns-clause-found : goal.returns-clause-found
returns-clause-found c = λ known.
    let i = c.args.integer in
    let brace = c.has_byte.ensures.there c.if-not-has_byte.false in
    let whole = c.in_ok-labels.ensures.found in
    let text = c.args.text.now in
    let own : form (Enum c.in_ok-integers.integers c.in_ok-labels.labels) ≡ enumerated (integer_form i) (labels_of c.in_ok-labels.labels.items) =
    form-Enum c.in_ok-integers.integers c.in_ok-labels.labels ∙ ap (λ (s : Shape). enumerated (form s) (labels_of c.in_ok-labels.labels.items)) c.in_ok-integers.ensures.ok
    ∙ ap (λ (f : Form). enumerated f (labels_of c.in_ok-labels.labels.items)) c.integer_shape-shape.ensures in
    let piece : slice_range text c.args.at c.in_ok-labels.end ≡ codes "{" ++ (whole.0 ++ codes "}") =
    rw (← slice_range-append text c.args.at (c.args.at + 1) c.in_ok-labels.end (omega arith) c.in_ok-labels.ensures.end.0, slice_range-byte text c.args.at brace.0, brace.1, whole.2) in
    rw (own, piece) (enum_text (integer_form i) (integer_word i) (labels_of c.in_ok-labels.labels.items) whole.0 (integer_is i) whole.1)

-- values and their names, behind the word
behind_enum : (text : List ℕ) (at end : ℕ) (g h : Form) (ks : List (ℤ × List ℕ)) (f : Form) (back rest : List ℕ) → at < length text → get_or text at 0 ≡ 123 → h ≡ enumerated g ks
    → ((ls : List (ℤ × List ℕ)) (inside others : List ℕ) → drop (at + 1) text ≡ inside ++ (codes "}" ++ others) → IsTextOfLabels ls inside → (ks ≡ ls) × (end ≡ at + 1 + (length inside + 1)))
    → drop at text ≡ back ++ rest → ((f ≡ g) × (back ≡ [])) ⊎ ((ls : List (ℤ × List ℕ)) × (inside : List ℕ) × IsTextOfLabels ls inside × (f ≡ enumerated g ls) × (back ≡ codes "{" ++ (inside ++ codes "}"))) → EndsShape rest
    → (h ≡ f) × (end ≡ at + length back)
behind_enum text at end g h ks f back rest lt brace made only is behind stops = ⊎_elim bare marked behind
  where
    bare : (f ≡ g) × (back ≡ []) → (h ≡ f) × (end ≡ at + length back)
    bare own =
        let here : rest ≡ 123 ∷ drop (at + 1) text = sym (is ∙ ap (λ (t : List ℕ). t ++ rest) own.1) ∙ byte_and_rest text at 123 lt brace in
        absurd (no_brace rest (drop (at + 1) text) here stops)

    marked : (ls : List (ℤ × List ℕ)) × (inside : List ℕ) × IsTextOfLabels ls inside × (f ≡ enumerated g ls) × (back ≡ codes "{" ++ (inside ++ codes "}")) → (h ≡ f) × (end ≡ at + length back)
    marked own =
        let there : drop at text ≡ 123 ∷ ((own.1 ++ codes "}") ++ rest) = is ∙ ap (λ (t : List ℕ). t ++ rest) own.4 in
        let more = behind_piece text (codes "{") ((own.1 ++ codes "}") ++ rest) at (at + 1) there (omega arith) in
        let read = only own.0 own.1 rest (more ∙ append_assoc own.1 (codes "}") rest) own.2 in
        (made ∙ ap (λ (ls : List (ℤ × List ℕ)). enumerated g ls) read.0 ∙ sym own.3, omega (arith, read.1, ap length own.4, length-append own.1 (codes "}")))

pub returns-clause-only : goal.returns-clause-only
returns-clause-only c = λ f back rest is behind stops.
    let i = c.args.integer in
    let brace = c.has_byte.ensures.there c.if-not-has_byte.false in
    let own : form (Enum c.in_ok-integers.integers c.in_ok-labels.labels) ≡ enumerated (integer_form i) (labels_of c.in_ok-labels.labels.items) =
    form-Enum c.in_ok-integers.integers c.in_ok-labels.labels ∙ ap (λ (s : Shape). enumerated (form s) (labels_of c.in_ok-labels.labels.items)) c.in_ok-integers.ensures.ok
    ∙ ap (λ (g : Form). enumerated g (labels_of c.in_ok-labels.labels.items)) c.integer_shape-shape.ensures in
    behind_enum c.args.text.now c.args.at c.in_ok-labels.end (integer_form i) _ (labels_of c.in_ok-labels.labels.items) f back rest brace.0 brace.1 own c.in_ok-labels.ensures.only is behind stops
