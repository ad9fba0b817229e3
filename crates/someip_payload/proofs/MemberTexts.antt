-- A member of a structure: a name and a colon, or the word of a shape.
use Rattle.std.proofs.Common.{◌≡◌, ℕ, ◌+◌, ◌-◌, ◌<◌, ◌≤◌, ◌^◌, true, Bool, List, ◌∷◌, ◌++◌, length, get_or, take, drop, slice_range, codes, Option, Some, None, Result, Ok, Err, refl, sym, ap, subst, ◌∙◌, ⊎_elim, append_assoc, arith}
use Rattle.std.specs.Prelude.{nat_lt, if◌then◌else◌}
use Rattle.std.proofs.lemmas.Bool.Decides.{nat_tests}
use Rattle.std.proofs.lemmas.List.{length-append, take_at, drop_more}
use Rattle.someip_payload_values.specs.Check.{depth, is_name}
use Rattle.someip_payload_values.specs.Data.{Form, named}
use Rattle.someip_payload_values.specs.View.{form}
use Rattle.someip_payload_values.specs.declared.shape.Encoding.TheVariants.{Utf8, Utf16}
use Rattle.someip_payload_values.specs.declared.shape.Shape.{Shape}
use Rattle.someip_payload.specs.Named.{NamedForms}
use Rattle.someip_payload.specs.declared.shape_text_error.ShapeTextError.{ShapeTextError}
use Rattle.someip_payload.specs.declared.shape_text_error.ShapeTextError.TheVariants.{BadShape, OutOfMemory}
use Rattle.someip_payload.specs.declared.words.Integer.TheVariants as integer
use Rattle.someip_payload.specs.declared.words.Word.{Word}
use Rattle.someip_payload.specs.declared.words.Float.TheVariants as floats
use Rattle.someip_payload.specs.declared.words.Word.TheVariants as word
use Rattle.someip_payload.specs.ShapeText.{IsTextIn, IsTextOfMember, member_text, IsTextOfTagged, tagged_one, tagged_member_text, name_text, with_name, IsNameIfAny, EndsWord, EndsShape, BeginsNoName, IsReadTo, reach}
use Rattle.someip_payload.specs.Words.{word_text}
use Rattle.someip_payload.proofs.Converse.{Split, Refers, split, behind_ends, ends_word_name, ShapeOnly}
use Rattle.someip_payload.proofs.NameBytes.{EndOnly, name_len}
use Rattle.someip_payload.proofs.Places.{behind_piece}

-- ---- the parts of a member

pub member_parts : (names : NamedForms) (f : Form) (text : List ℕ) → IsTextOfMember names f text
    → (name : Option (List ℕ)) × (g : Form) × (shape : List ℕ) × IsNameIfAny name × IsTextIn names g shape × (f ≡ with_name name g) × (text ≡ name_text name ++ shape)
member_parts names f text (member_text name g shape is_name is_text) = (name, g, shape, is_name, is_text, refl, refl)

pub tagged_parts : (names : NamedForms) (id : ℕ) (optional : Bool) (f : Form) (text : List ℕ) → IsTextOfTagged names id optional f text
    → (name : Option (List ℕ)) × (g : Form) × (shape : List ℕ) × IsNameIfAny name × (id < 2 ^ 12) × IsTextIn names g shape × (f ≡ with_name name g) × (text ≡ name_text name ++ tagged_member_text id optional shape)
tagged_parts names id optional f text (tagged_one name n o g shape is_name small is_text) = (name, g, shape, is_name, small, is_text, refl, refl)

pub depth-with_name : (name : Option (List ℕ)) (f : Form) → depth (with_name name f) ≡ depth f
depth-with_name None f = refl
depth-with_name (Some n) f = refl

-- ---- each word is a name

word_is_name : (w : Word) → is_name (word_text w) ≡ true
word_is_name word.Bool = refl
word_is_name (word.Integer integer.U8) = refl
word_is_name (word.Integer integer.U16) = refl
word_is_name (word.Integer integer.U32) = refl
word_is_name (word.Integer integer.U64) = refl
word_is_name (word.Integer integer.I8) = refl
word_is_name (word.Integer integer.I16) = refl
word_is_name (word.Integer integer.I32) = refl
word_is_name (word.Integer integer.I64) = refl
word_is_name (word.Integer integer.U16Le) = refl
word_is_name (word.Integer integer.U32Le) = refl
word_is_name (word.Integer integer.U64Le) = refl
word_is_name (word.Integer integer.I16Le) = refl
word_is_name (word.Integer integer.I32Le) = refl
word_is_name (word.Integer integer.I64Le) = refl
word_is_name (word.Float floats.F32) = refl
word_is_name (word.Float floats.F64) = refl
word_is_name (word.Float floats.F32Le) = refl
word_is_name (word.Float floats.F64Le) = refl
word_is_name (word.Text Utf8) = refl
word_is_name (word.Text Utf16) = refl
word_is_name (word.FixedText Utf8) = refl
word_is_name (word.FixedText Utf16) = refl
word_is_name word.Array = refl
word_is_name word.Fixed = refl
word_is_name word.Struct = refl
word_is_name word.Union = refl
word_is_name word.Tagged = refl

no_colon : (rest tail : List ℕ) → rest ≡ 58 ∷ tail → EndsWord rest → ⊥
no_colon rest tail is ends = (subst EndsWord is ends).1 refl

-- ---- what a read keeps that reaches so far

not_less : (m n : ℕ) → n ≤ m → {X : Type 0} → (a b : X) → (if nat_lt m n then a else b) ≡ b
not_less m n le a b = grind (arith, nat_tests)

pub reach_keeps : (f : Form) (place least : ℕ) (r : Result (Shape × ℕ) ShapeTextError) → least ≤ place → IsReadTo form f place r → IsReadTo form f place (reach least r)
reach_keeps f place least (Ok x) le read = rw (not_less x.1 least (omega (arith, le, read.1))) read
reach_keeps f place least (Err OutOfMemory) le read = tt
reach_keeps f place least (Err (BadShape at)) le bad = absurd bad

-- ---- a member, from the end of the name at its place

-- what is read at a place, where a member stands there
abbrev pub MemberOnly : NamedForms → List ℕ → ℕ → ℕ → Result (Shape × ℕ) ShapeTextError → Type 0
MemberOnly names text at most r = (f : Form) (front rest : List ℕ) → drop at text ≡ front ++ rest → IsTextOfMember names f front → depth f ≤ most → EndsShape rest → IsReadTo form f (at + length front) r

module _ (names : NamedForms) (text : List ℕ) (at end : ℕ) (only : EndOnly text at end) (no_name : BeginsNoName (drop at text) → end ≡ at) where
  -- a shape without a name
  plain_there : (f : Form) (front rest : List ℕ) → drop at text ≡ front ++ rest → IsTextIn names f front → EndsShape rest → (end ≤ at + length front) × ((tail : List ℕ) → drop end text ≡ 58 ∷ tail → ⊥)
  plain_there f front rest is is_text stops = ⊎_elim by_its_word by_its_sign (split names f front is_text)
    where
      by_its_word : Split names f front → (end ≤ at + length front) × ((tail : List ℕ) → drop end text ≡ 58 ∷ tail → ⊥)
      by_its_word s =
          let here : drop at text ≡ word_text s.first ++ (s.back ++ rest) = is ∙ ap (λ (t : List ℕ). t ++ rest) s.is ∙ append_assoc (word_text s.first) s.back rest in
          let ends = behind_ends names s.first f s.back rest s.behind stops in
          let place : end ≡ at + length (word_text s.first) = only (word_text s.first) (s.back ++ rest) here (word_is_name s.first) (ends_word_name (s.back ++ rest) ends) in
          let behind : drop end text ≡ s.back ++ rest = behind_piece text (word_text s.first) (s.back ++ rest) at end here place in (
            omega (arith, place, ap length s.is, length-append (word_text s.first) s.back),
            λ tail colon. no_colon (s.back ++ rest) tail (sym behind ∙ colon) ends,
          )

      by_its_sign : Refers names f front → (end ≤ at + length front) × ((tail : List ℕ) → drop end text ≡ 58 ∷ tail → ⊥)
      by_its_sign r =
          let here : drop at text ≡ 64 ∷ (r.name ++ rest) = is ∙ ap (λ (t : List ℕ). t ++ rest) r.is in
          let same : end ≡ at = no_name (subst BeginsNoName (sym here) refl) in (
            omega (arith, same),
            λ tail colon. omega (arith, ap (λ (t : List ℕ). get_or t 0 0) (sym here ∙ ap (λ n. drop n text) (sym same) ∙ colon)),
          )

  -- a shape with a name
  named_there : (n shape rest : List ℕ) → drop at text ≡ ((n ++ codes ":") ++ shape) ++ rest → is_name n ≡ true → (end ≡ at + length n) × (drop end text ≡ 58 ∷ (shape ++ rest)) × (slice_range text at end ≡ n)
  named_there n shape rest is name =
      let there : drop at text ≡ n ++ (58 ∷ (shape ++ rest)) = is ∙ ap (λ (t : List ℕ). t ++ rest) (append_assoc n (codes ":") shape) ∙ append_assoc n (58 ∷ shape) rest in
      let place : end ≡ at + length n = only n (58 ∷ (shape ++ rest)) there name refl in
      let len : length n ≡ end - at = omega (arith, place) in
      (place, behind_piece text n (58 ∷ (shape ++ rest)) at end there place, ap (take (end - at)) there ∙ take_at n (58 ∷ (shape ++ rest)) (end - at) len)

  -- a colon stands behind the name
  module _ (most : ℕ) (r : Result (Shape × ℕ) ShapeTextError) (tail : List ℕ) (colon : drop end text ≡ 58 ∷ tail)
      (read : (f : Form) (front rest : List ℕ) → drop end text ≡ (codes ":" ++ front) ++ rest → IsTextIn names f front → depth f ≤ most → EndsShape rest → IsReadTo form (named (slice_range text at end) f) (end + (length front + 1)) r) where
    by_name : (name : Option (List ℕ)) (f g : Form) (front shape rest : List ℕ) → drop at text ≡ front ++ rest → IsNameIfAny name → IsTextIn names g shape → f ≡ with_name name g → front ≡ name_text name ++ shape → depth f ≤ most → EndsShape rest
        → IsReadTo form f (at + length front) r
    by_name None f g front shape rest is name is_text same parts deep stops =
        absurd ((plain_there g shape rest (is ∙ ap (λ (t : List ℕ). t ++ rest) parts) is_text stops).1 tail colon)
    by_name (Some n) f g front shape rest is name is_text same parts deep stops =
        let here = named_there n shape rest (is ∙ ap (λ (t : List ℕ). t ++ rest) parts) name in
        let own = read g shape rest here.1 is_text (omega (arith, deep, ap depth same)) stops in
        let whole : named (slice_range text at end) g ≡ f = ap (λ (t : List ℕ). named t g) here.2 ∙ sym same in
        let place : end + (length shape + 1) ≡ at + length front = omega (arith, here.0, ap length parts, length-append (n ++ codes ":") shape, length-append n (codes ":")) in
        subst (λ (h : Form). IsReadTo form h (at + length front) r) whole (subst (λ k. IsReadTo form (named (slice_range text at end) g) k r) place own)

    pub with_colon : MemberOnly names text at most r
    with_colon f front rest is is_member deep stops =
        let own = member_parts names f front is_member in
        by_name own.0 f own.1 front own.2 rest is own.3 own.4 own.5 own.6 deep stops

  -- no name with a colon behind it stands there
  module _ (most : ℕ) (r : Result (Shape × ℕ) ShapeTextError) (none : (tail : List ℕ) → at < end → drop end text ≡ 58 ∷ tail → ⊥) (read : ShapeOnly names text at most r) where
    by_shape : (name : Option (List ℕ)) (f g : Form) (front shape rest : List ℕ) → drop at text ≡ front ++ rest → IsNameIfAny name → IsTextIn names g shape → f ≡ with_name name g → front ≡ name_text name ++ shape → depth f ≤ most → EndsShape rest
        → IsReadTo form f (at + length front) (reach end r)
    by_shape None f g front shape rest is name is_text same parts deep stops =
        let own : IsTextIn names f front = subst (λ (t : List ℕ). IsTextIn names f t) (sym parts) (subst (λ (h : Form). IsTextIn names h shape) (sym same) is_text) in
        reach_keeps f (at + length front) end r (plain_there f front rest is own stops).0 (read f front rest is own deep stops)
    by_shape (Some n) f g front shape rest is name is_text same parts deep stops =
        let here = named_there n shape rest (is ∙ ap (λ (t : List ℕ). t ++ rest) parts) name in
        absurd (none (shape ++ rest) (omega (arith, here.0, (name_len n name).0)) here.1)

    pub without_colon : MemberOnly names text at most (reach end r)
    without_colon f front rest is is_member deep stops =
        let own = member_parts names f front is_member in
        by_shape own.0 f own.1 front own.2 rest is own.3 own.4 own.5 own.6 deep stops

-- a byte and what stands behind it
pub byte_and_rest : (text : List ℕ) (at b : ℕ) → at < length text → get_or text at 0 ≡ b → drop at text ≡ b ∷ drop (at + 1) text
byte_and_rest text at b lt is = drop_more text at 0 lt ∙ ap (λ n. n ∷ drop (at + 1) text) is
