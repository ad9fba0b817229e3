-- The tables of words and of widths, and what is read by them.
use Rattle.std.proofs.Common.{◌≡◌, ℕ, ◌+◌, ◌≤◌, true, false, cond, List, [], ◌∷◌, ◌++◌, length, get_or, drop, slice_range, codes, map, Option, Some, None, refl, sym, ap, subst, append_assoc, ◌∙◌, eqb}
use Rattle.std.specs.Prelude.{Result, Ok, Err, IfOk, IfErr}
use Rattle.std.specs.List.{list_all}
use Rattle.std.specs.Str.{bytes_eq}
use Rattle.std.proofs.lemmas.Bool.{false≢true}
use Rattle.someip_payload_values.specs.Check.{is_later}
use Rattle.someip_payload_values.specs.declared.shape.Encoding.TheVariants.{Utf8, Utf16}
use Rattle.someip_payload_values.specs.declared.shape.Width.{Width}
use Rattle.someip_payload_values.specs.declared.shape.Width.TheVariants.{W8, W16, W32}
use Rattle.someip_payload.specs.declared.shape_text_error.ShapeTextError.{ShapeTextError}
use Rattle.someip_payload.specs.declared.words.Integer.TheVariants as integer
use Rattle.someip_payload.specs.declared.words.Float.TheVariants as floats
use Rattle.someip_payload.specs.declared.words.Word.{Word}
use Rattle.someip_payload.specs.declared.words.Word.TheVariants as word
use Rattle.someip_payload.specs.Fronts.{longest_front, is_word}
use Rattle.someip_payload.specs.ShapeText.{EndsWord, HasNoWidth, width_text, widths_text}
use Rattle.someip_payload.specs.Words.{word_text}
use Rattle.someip_payload.proofs.Fronts.{longest_is}
use Rattle.someip_payload.proofs.Places.{pieces, piece_end}

abbrev table : List (List ℕ × Word)
table =
    (codes "bool", word.Bool) ∷
    (codes "u8", word.Integer integer.U8) ∷
    (codes "u16", word.Integer integer.U16) ∷
    (codes "u32", word.Integer integer.U32) ∷
    (codes "u64", word.Integer integer.U64) ∷
    (codes "i8", word.Integer integer.I8) ∷
    (codes "i16", word.Integer integer.I16) ∷
    (codes "i32", word.Integer integer.I32) ∷
    (codes "i64", word.Integer integer.I64) ∷
    (codes "u16le", word.Integer integer.U16Le) ∷
    (codes "u32le", word.Integer integer.U32Le) ∷
    (codes "u64le", word.Integer integer.U64Le) ∷
    (codes "i16le", word.Integer integer.I16Le) ∷
    (codes "i32le", word.Integer integer.I32Le) ∷
    (codes "i64le", word.Integer integer.I64Le) ∷
    (codes "f32", word.Float floats.F32) ∷
    (codes "f64", word.Float floats.F64) ∷
    (codes "f32le", word.Float floats.F32Le) ∷
    (codes "f64le", word.Float floats.F64Le) ∷
    (codes "utf8", word.Text Utf8) ∷
    (codes "utf16", word.Text Utf16) ∷
    (codes "utf8fix", word.FixedText Utf8) ∷
    (codes "utf16fix", word.FixedText Utf16) ∷
    (codes "array", word.Array) ∷
    (codes "fixed", word.Fixed) ∷
    (codes "struct", word.Struct) ∷
    (codes "union", word.Union) ∷
    (codes "tagged", word.Tagged) ∷
    []

-- the texts of the words
abbrev pub words : List (List ℕ)
words = map (λ (entry : List ℕ × Word). entry.0) table

letters : list_all (λ v. list_all is_later v) words ≡ true
letters = refl

abbrev find : List (List ℕ × Word) → List ℕ → Word
find [] bytes = word.Bool
find (e ∷ es) bytes = cond (bytes_eq e.0 bytes) e.1 (find es bytes)

-- each word is in the table
is_among : (w : Word) → is_word words (word_text w) ≡ true
is_among word.Bool = refl
is_among (word.Integer integer.U8) = refl
is_among (word.Integer integer.U16) = refl
is_among (word.Integer integer.U32) = refl
is_among (word.Integer integer.U64) = refl
is_among (word.Integer integer.I8) = refl
is_among (word.Integer integer.I16) = refl
is_among (word.Integer integer.I32) = refl
is_among (word.Integer integer.I64) = refl
is_among (word.Integer integer.U16Le) = refl
is_among (word.Integer integer.U32Le) = refl
is_among (word.Integer integer.U64Le) = refl
is_among (word.Integer integer.I16Le) = refl
is_among (word.Integer integer.I32Le) = refl
is_among (word.Integer integer.I64Le) = refl
is_among (word.Float floats.F32) = refl
is_among (word.Float floats.F64) = refl
is_among (word.Float floats.F32Le) = refl
is_among (word.Float floats.F64Le) = refl
is_among (word.Text Utf8) = refl
is_among (word.Text Utf16) = refl
is_among (word.FixedText Utf8) = refl
is_among (word.FixedText Utf16) = refl
is_among word.Array = refl
is_among word.Fixed = refl
is_among word.Struct = refl
is_among word.Union = refl
is_among word.Tagged = refl

-- and is found there
word_back : (w : Word) → find table (word_text w) ≡ w
word_back word.Bool = refl
word_back (word.Integer integer.U8) = refl
word_back (word.Integer integer.U16) = refl
word_back (word.Integer integer.U32) = refl
word_back (word.Integer integer.U64) = refl
word_back (word.Integer integer.I8) = refl
word_back (word.Integer integer.I16) = refl
word_back (word.Integer integer.I32) = refl
word_back (word.Integer integer.I64) = refl
word_back (word.Integer integer.U16Le) = refl
word_back (word.Integer integer.U32Le) = refl
word_back (word.Integer integer.U64Le) = refl
word_back (word.Integer integer.I16Le) = refl
word_back (word.Integer integer.I32Le) = refl
word_back (word.Integer integer.I64Le) = refl
word_back (word.Float floats.F32) = refl
word_back (word.Float floats.F64) = refl
word_back (word.Float floats.F32Le) = refl
word_back (word.Float floats.F64Le) = refl
word_back (word.Text Utf8) = refl
word_back (word.Text Utf16) = refl
word_back (word.FixedText Utf8) = refl
word_back (word.FixedText Utf16) = refl
word_back word.Array = refl
word_back word.Fixed = refl
word_back word.Struct = refl
word_back word.Union = refl
word_back word.Tagged = refl

same_word : (w v : Word) → word_text w ≡ word_text v → w ≡ v
same_word w v is = sym (word_back w) ∙ ap (find table) is ∙ word_back v

pub first_word_only : (r : Result (Word × ℕ) ShapeTextError) (text : List ℕ) (at : ℕ) (w : Word) (rest : List ℕ) → drop at text ≡ word_text w ++ rest → EndsWord rest
    → IfOk r (λ x. slice_range text at x.1 ≡ word_text x.0) → IfOk r (λ x. slice_range text at x.1 ≡ longest_front words (drop at text)) → IfOk r (λ x. (at ≤ x.1) × (x.1 ≤ length text))
    → IfErr r (λ e. is_word words (longest_front words (drop at text)) ≡ false) → r ≡ Ok (w, at + length (word_text w))
first_word_only (Ok x) text at w rest is ends found longest bounds none =
    let front : longest_front words (drop at text) ≡ word_text w = ap (longest_front words) is ∙ longest_is words (word_text w) rest letters (is_among w) ends in
    let same : x.0 ≡ w = same_word x.0 w (sym found ∙ longest ∙ front) in
    let end : x.1 ≡ at + length (word_text w) = piece_end text (word_text x.0) at x.1 bounds.0 bounds.1 found ∙ ap (λ v. at + length (word_text v)) same in
    λ i. Ok (same i, end i)
first_word_only (Err e) text at w rest is ends found longest bounds none =
    let front : longest_front words (drop at text) ≡ word_text w = ap (longest_front words) is ∙ longest_is words (word_text w) rest letters (is_among w) ends in
    absurd (false≢true (sym none ∙ ap (is_word words) front ∙ is_among w))

-- ---- widths

abbrev pub widths : List (List ℕ)
widths = codes "/8" ∷ codes "/16" ∷ codes "/32" ∷ []

is_width : (w : Width) → is_word widths (width_text (Some w)) ≡ true
is_width W8 = refl
is_width W16 = refl
is_width W32 = refl

-- it is the longest front, whatever stands after it
longest_width : (w : Width) (rest : List ℕ) → longest_front widths (width_text (Some w) ++ rest) ≡ width_text (Some w)
longest_width W8 rest = refl
longest_width W16 rest = refl
longest_width W32 rest = refl

width_of_text : List ℕ → Option Width
width_of_text bytes = let a = get_or bytes 1 0 in cond (eqb a 56) (Some W8) (cond (eqb a 49) (Some W16) (Some W32))

width_back : (w : Width) → width_of_text (width_text (Some w)) ≡ Some w
unfolding width_of_text
width_back W8 = refl
width_back W16 = refl
width_back W32 = refl

same_width : (w v : Width) → width_text (Some w) ≡ width_text (Some v) → w ≡ v
same_width w v is = let both = sym (width_back w) ∙ ap width_of_text is ∙ width_back v in cc

pub written_width_only : (r : Result (Width × ℕ) ShapeTextError) (text : List ℕ) (at : ℕ) (w : Width) (rest : List ℕ) → drop at text ≡ width_text (Some w) ++ rest
    → IfOk r (λ x. slice_range text at x.1 ≡ width_text (Some x.0)) → IfOk r (λ x. slice_range text at x.1 ≡ longest_front widths (drop at text)) → IfOk r (λ x. (at ≤ x.1) × (x.1 ≤ length text))
    → IfErr r (λ e. is_word widths (longest_front widths (drop at text)) ≡ false) → r ≡ Ok (w, at + length (width_text (Some w)))
written_width_only (Ok x) text at w rest is found longest bounds none =
    let front : longest_front widths (drop at text) ≡ width_text (Some w) = ap (longest_front widths) is ∙ longest_width w rest in
    let same : x.0 ≡ w = same_width x.0 w (sym found ∙ longest ∙ front) in
    let end : x.1 ≡ at + length (width_text (Some w)) = piece_end text (width_text (Some x.0)) at x.1 bounds.0 bounds.1 found ∙ ap (λ v. at + length (width_text (Some v))) same in
    λ i. Ok (same i, end i)
written_width_only (Err e) text at w rest is found longest bounds none =
    let front : longest_front widths (drop at text) ≡ width_text (Some w) = ap (longest_front widths) is ∙ longest_width w rest in
    absurd (false≢true (sym none ∙ ap (is_word widths) front ∙ is_width w))

-- ---- both widths of a union

-- a width goes on
goes_on : (v : Width) (others : List ℕ) → HasNoWidth (width_text (Some v) ++ others) → ⊥
goes_on W8 others stops = stops refl
goes_on W16 others stops = stops refl
goes_on W32 others stops = stops refl

-- where a width was read, both stand
pub both_widths : (text : List ℕ) (at behind : ℕ) (v : Width) → at ≤ behind → behind ≤ length text → slice_range text at behind ≡ width_text (Some v)
    → (ws : Option (Width × Width)) (rest : List ℕ) → drop at text ≡ widths_text ws ++ rest → HasNoWidth rest
    → (us : Width × Width) × (ws ≡ Some us) × (drop at text ≡ width_text (Some us.0) ++ (width_text (Some us.1) ++ rest))
both_widths text at behind v le within found None rest is stops =
    let bytes = pieces text (width_text (Some v)) at behind le within found in
    absurd (goes_on v (drop behind text) (subst HasNoWidth (sym is ∙ bytes) stops))
both_widths text at behind v le within found (Some us) rest is stops = (us, refl, is ∙ append_assoc (width_text (Some us.0)) (width_text (Some us.1)) rest)
