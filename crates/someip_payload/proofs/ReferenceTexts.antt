-- References, part by part: an `@` and a name.
use Rattle.std.proofs.Common.{◌≡◌, ℕ, ◌+◌, ◌-◌, ◌<◌, ◌≤◌, true, Option, Some, Bor, List, [], ◌∷◌, ◌++◌, length, get_or, drop, slice_range, codes, sym, ap, ◌∙◌, arith}
use Rattle.std.proofs.lemmas.List.{length-take, length-drop, take_all, take-append-drop}
use Rattle.std.specs.Option.{option_map}
use Rattle.someip_payload_values.specs.Check.{is_name}
use Rattle.someip_payload_values.specs.Data.{Form}
use Rattle.someip_payload_values.specs.View.{form}
use Rattle.someip_payload_values.specs.declared.shape.Shape.{Shape}
use Rattle.someip_payload.specs.Named.{NamedForms, form_named}
use Rattle.someip_payload.specs.References.{HasNoSign, IsLongestName}
use Rattle.someip_payload.specs.ShapeText.{IsTextIn, reference_text}
use Rattle.someip_payload.proofs.Pieces.{slice_range-byte, slice_range-append}

reference_piece : (text : List ℕ) (at end : ℕ) → at < length text → get_or text at 0 ≡ 64 → at + 1 ≤ end → slice_range text at end ≡ codes "@" ++ slice_range text (at + 1) end
reference_piece text at end lt sign le =
    let one : at ≤ at + 1 = omega arith in
    rw (← slice_range-append text at (at + 1) end one le, slice_range-byte text at lt, sign)

-- what was read is the text of a reference
pub reference_found : (names : NamedForms) (text : List ℕ) (at end : ℕ) (f g : Form) → at < length text → get_or text at 0 ≡ 64 → at + 1 < end → is_name (slice_range text (at + 1) end) ≡ true
    → form_named names (slice_range text (at + 1) end) ≡ Some f → g ≡ f → IsTextIn names g (slice_range text at end)
reference_found names text at end f g lt sign some name stands same =
    let le : at + 1 ≤ end = omega (arith, some) in
    rw (same, reference_piece text at end lt sign le) (reference_text (slice_range text (at + 1) end) f name stands)

-- the shape that was found under a name
pub found_stands : (names : NamedForms) (r : Option (Bor Shape)) (s : Bor Shape) (name n : List ℕ) → option_map (λ x. form x.now) r ≡ form_named names name → r ≡ Some s → name ≡ n → form_named names n ≡ Some (form s.now)
found_stands names r s name n stands is same = ap (form_named names) (sym same) ∙ sym stands ∙ ap (option_map (λ (x : Bor Shape). form x.now)) is

-- ---- the next `@` of a text

no_sign-append : (a b : List ℕ) → HasNoSign a → HasNoSign b → HasNoSign (a ++ b)
no_sign-append [] b none more = more
no_sign-append (x ∷ xs) b none more = (none.0, no_sign-append xs b none.1 more)

pub no_sign-more : (text : List ℕ) (from at : ℕ) → from ≤ at → at < length text → HasNoSign (slice_range text from at) → (get_or text at 0 ≡ 64 → ⊥) → HasNoSign (slice_range text from (at + 1))
no_sign-more text from at le lt none other =
    let one : at ≤ at + 1 = omega arith in
    rw (← slice_range-append text from at (at + 1) le one, slice_range-byte text at lt) (no_sign-append (slice_range text from at) (get_or text at 0 ∷ []) none (other, tt))

pub no_sign-all : (text : List ℕ) (from at : ℕ) → from ≤ at → length text ≤ at → HasNoSign (slice_range text from at) → HasNoSign (drop from text)
no_sign-all text from at le past none =
    let long : length (drop from text) ≤ at - from = omega (arith, length-drop from text, le, past) in
    rw (← take_all (at - from) (drop from text) long) none

-- the name that was read is the longest
pub longest_name : (text : List ℕ) (at end : ℕ) → at ≤ end → end ≤ length text → (at < end → is_name (slice_range text at end) ≡ true)
    → ((n rest : List ℕ) → drop at text ≡ n ++ rest → is_name n ≡ true → at + length n ≤ end) → IsLongestName (drop at text) (slice_range text at end)
longest_name text at end le within found longest =
    let len : length (slice_range text at end) ≡ end - at = omega (arith, length-take (end - at) (drop at text), length-drop at text, le, within) in (
      (drop (end - at) (drop at text), sym (take-append-drop (end - at) (drop at text))),
      λ some. found (omega (arith, some, len)),
      λ m rest is name. omega (arith, longest m rest is name, len),
    )
