-- How texts begin.
use Rattle.std.proofs.Common.{◌≡◌, ℕ, ◌+◌, ◌<◌, ◌≤◌, List, [], ◌∷◌, length, get_or, take, drop, length-drop, ◌-◌, zero, suc, slice_range, true, sym, ap, ◌∙◌, ⊎_elim, arith}
use Rattle.std.specs.Prelude.{Result, Ok, Err, IfOk}
use Rattle.std.specs.List.{AllByRecursion}
use Rattle.std.specs.Str.{bytes_eq}
use Rattle.std.proofs.lemmas.Slice.Eq.{bytes_eq-Decides}
use Rattle.std.proofs.Math.Seq.{take-length}
use Rattle.std.proofs.Math.Nat.{eq-or-lt_of_le}
use Rattle.someip_payload_values.specs.declared.shape.Encoding.TheVariants.{Utf8, Utf16}
use Rattle.someip_payload.specs.declared.words.Integer.TheVariants as integer
use Rattle.someip_payload.specs.declared.words.Word.{Word}
use Rattle.someip_payload.specs.declared.words.Float.TheVariants as floats
use Rattle.someip_payload.specs.declared.words.Word.TheVariants as word
use Rattle.someip_payload.specs.declared.shape_text_error.ShapeTextError.{ShapeTextError}
use Rattle.someip_payload.specs.Words.{word_text}
use Rattle.someip_payload.proofs.Pieces.{slice_range-empty}

pub AllByRecursion-at : {X : Type 0} (P : X → Type 0) (xs : List X) (k : ℕ) (d : X) → k < length xs → AllByRecursion P xs → P (get_or xs k d)
AllByRecursion-at P [] k d lt all = absurd (omega arith)
AllByRecursion-at P (x ∷ xs) zero d lt all = all.0
AllByRecursion-at P (x ∷ xs) (suc k) d lt all = AllByRecursion-at P xs k d (omega arith) all.1

take-rest : (text : List ℕ) (at : ℕ) → take (length text - at) (drop at text) ≡ drop at text
take-rest text at = rw (← length-drop at text, take-length (drop at text))

-- a word that is the front of so many bytes of a text from a place on
pub whole_word : (word bytes text name : List ℕ) (at count : ℕ) → bytes ≡ word → bytes_eq bytes (take count (take (length text - at) (drop at text))) ≡ true → word ≡ name
    → slice_range text at (at + count) ≡ name
whole_word word bytes text name at count is same named =
    let long : (at + count) - at ≡ count = omega arith in
    let front : take count (drop at text) ≡ bytes = ap (take count) (sym (take-rest text at)) ∙ sym ((bytes_eq-Decides bytes (take count (take (length text - at) (drop at text)))).0 same) in
    rw long (front ∙ is ∙ named)

word_text-nonempty : (w : Word) → word_text w ≡ [] → ⊥
word_text-nonempty word.Bool h = cc
word_text-nonempty (word.Integer integer.U8) h = cc
word_text-nonempty (word.Integer integer.U16) h = cc
word_text-nonempty (word.Integer integer.U32) h = cc
word_text-nonempty (word.Integer integer.U64) h = cc
word_text-nonempty (word.Integer integer.I8) h = cc
word_text-nonempty (word.Integer integer.I16) h = cc
word_text-nonempty (word.Integer integer.I32) h = cc
word_text-nonempty (word.Integer integer.I64) h = cc
word_text-nonempty (word.Integer integer.U16Le) h = cc
word_text-nonempty (word.Integer integer.U32Le) h = cc
word_text-nonempty (word.Integer integer.U64Le) h = cc
word_text-nonempty (word.Integer integer.I16Le) h = cc
word_text-nonempty (word.Integer integer.I32Le) h = cc
word_text-nonempty (word.Integer integer.I64Le) h = cc
word_text-nonempty (word.Float floats.F32) h = cc
word_text-nonempty (word.Float floats.F64) h = cc
word_text-nonempty (word.Float floats.F32Le) h = cc
word_text-nonempty (word.Float floats.F64Le) h = cc
word_text-nonempty (word.Text Utf8) h = cc
word_text-nonempty (word.Text Utf16) h = cc
word_text-nonempty (word.FixedText Utf8) h = cc
word_text-nonempty (word.FixedText Utf16) h = cc
word_text-nonempty word.Array h = cc
word_text-nonempty word.Fixed h = cc
word_text-nonempty word.Struct h = cc
word_text-nonempty word.Union h = cc
word_text-nonempty word.Tagged h = cc

-- the place after a word is not the place of the word
pub behind_its_word : (r : Result (Word × ℕ) ShapeTextError) (text : List ℕ) (at high : ℕ) → IfOk r (λ x. (at ≤ x.1) × (x.1 ≤ high))
    → IfOk r (λ x. slice_range text at x.1 ≡ word_text x.0) → IfOk r (λ x. (at < x.1) × (x.1 ≤ high))
behind_its_word (Ok x) text at high bounds found =
    (⊎_elim (λ e. absurd (word_text-nonempty x.0 (sym found ∙ ap (slice_range text at) (sym e) ∙ slice_range-empty text at))) (λ lt. lt) (eq-or-lt_of_le bounds.0), bounds.1)
behind_its_word (Err e) text at high bounds found = tt
