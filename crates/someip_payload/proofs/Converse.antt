-- Each text of a shape is read as it: what stands in a text, part by part.
use Rattle.std.proofs.Common.{◌≡◌, ℕ, ◌+◌, ◌<◌, ◌≤◌, inl, inr, ⊎_elim, IsErrAnd, true, false, ◌⊎◌, List, [], ◌∷◌, ◌++◌, length, get_or, drop, codes, Option, Some, None, refl, sym, ap, subst, ◌∙◌, append_assoc, arith}
use Rattle.std.specs.Prelude.{Result, Ok, Err}
use Rattle.std.specs.Fmt.{decimal}
use Rattle.std.proofs.lemmas.Result.{err_from_is_err_and}
use Rattle.std.proofs.lemmas.List.{length-append, append-nil}
use Rattle.someip_payload_values.specs.declared.shape.Encoding.TheVariants.{Utf8, Utf16}
use Rattle.someip_payload_values.specs.declared.shape.Shape.{Shape}
use Rattle.someip_payload_values.specs.declared.shape.Width.{Width}
use Rattle.someip_payload_values.specs.declared.shape.Width.TheVariants.{W8, W16, W32}
use Rattle.someip_payload.specs.Named.{NamedForms, form_named}
use Rattle.someip_payload.specs.declared.words.Integer.{Integer}
use Rattle.someip_payload.specs.declared.words.Integer.TheVariants as integer
use Rattle.someip_payload.specs.declared.words.Float.{Float}
use Rattle.someip_payload.specs.declared.words.Float.TheVariants as floats
use Rattle.someip_payload.specs.declared.words.Word.{Word}
use Rattle.someip_payload.specs.declared.words.Word.TheVariants as word
use Rattle.someip_payload.specs.declared.shape_text_error.ShapeTextError.{ShapeTextError}
use Rattle.someip_payload.specs.declared.shape_text_error.ShapeTextError.TheVariants.{BadShape, OutOfMemory}
use Rattle.someip_payload_values.specs.Check.{depth, is_later, is_name}
use Rattle.someip_payload_values.specs.Data.{Form, enumerated}
use Rattle.someip_payload.specs.ShapeText.{IsInteger, u8_text, u16_text, u32_text, u64_text, i8_text, i16_text, i32_text, i64_text, u16le_text, u32le_text, u64le_text, i16le_text, i32le_text, i64le_text, IsFloat, f32_text, f64_text, f32le_text, f64le_text, IsTextIn, bool_text, integer_text, float_text, enum_text, utf8_text, utf16_text, utf8fix_text, utf16fix_text, array_text, fixed_text, struct_text, union_text, tagged_text, reference_text, width_text, widths_text, room_text, repeated_text, IsDigit, HasNoWidth, EndsName, EndsWord, EndsShape, IsReadTo}
use Rattle.someip_payload_values.specs.View.{form}
use Rattle.someip_payload.specs.Words.{integer_form, integer_word, float_form, float_word, word_text, Behind}
use Rattle.someip_payload.proofs.Places.{behind_piece}

-- ---- two answers that are one

abbrev pub read_of : {A : Type 0} → A → Result A ShapeTextError
read_of x = Ok x

first_or : {A B : Type 0} → A → Result (A × B) ShapeTextError → A
first_or d (Ok x) = x.0
first_or d (Err e) = d

second_or : {A B : Type 0} → B → Result (A × B) ShapeTextError → B
second_or d (Ok x) = x.1
second_or d (Err e) = d

pub same_first : {A B : Type 0} (a c : A) (b d : B) → read_of {A = A × B} (a, b) ≡ read_of (c, d) → a ≡ c
unfolding first_or
same_first a c b d is = ap (first_or a) is

pub same_second : {A B : Type 0} (a c : A) (b d : B) → read_of {A = A × B} (a, b) ≡ read_of (c, d) → b ≡ d
unfolding second_or
same_second a c b d is = ap (second_or b) is

is_read : {A : Type 0} → Result A ShapeTextError → Type 0
is_read (Ok x) = Unit {0}
is_read (Err e) = ⊥

abbrev pub fault_of : {A : Type 0} → ShapeTextError → Result A ShapeTextError
fault_of e = Err e

pub not_read : {A : Type 0} (e : ShapeTextError) (x : A) → fault_of {A = A} e ≡ read_of x → ⊥
unfolding is_read
not_read e x is = subst is_read (sym is) tt

-- a fault that is passed on as it is
pub passed_on : {A : Type 0} (r : Result A ShapeTextError) (e : ShapeTextError) → IsErrAnd r (λ y. y ≡ e) → r ≡ Err e
passed_on r e is = let p = err_from_is_err_and r is in p.1 ∙ ap fault_of p.2

-- what is read at a place, where a number stands there and no digit after it
abbrev pub NumberOnly : List ℕ → ℕ → ℕ → Result (ℕ × ℕ) ShapeTextError → Type 0
NumberOnly text at limit r = (n b : ℕ) (rest : List ℕ) → drop at text ≡ decimal n ++ b ∷ rest → n < limit → (IsDigit b → ⊥) → r ≡ Ok (n, at + length (decimal n))

-- ---- the words of integers

pub integer_of : (f : Form) (text : List ℕ) → IsInteger f text → (i : Integer) × (f ≡ integer_form i) × (text ≡ integer_word i)
integer_of f text u8_text = (integer.U8, refl, refl)
integer_of f text u16_text = (integer.U16, refl, refl)
integer_of f text u32_text = (integer.U32, refl, refl)
integer_of f text u64_text = (integer.U64, refl, refl)
integer_of f text i8_text = (integer.I8, refl, refl)
integer_of f text i16_text = (integer.I16, refl, refl)
integer_of f text i32_text = (integer.I32, refl, refl)
integer_of f text i64_text = (integer.I64, refl, refl)
integer_of f text u16le_text = (integer.U16Le, refl, refl)
integer_of f text u32le_text = (integer.U32Le, refl, refl)
integer_of f text u64le_text = (integer.U64Le, refl, refl)
integer_of f text i16le_text = (integer.I16Le, refl, refl)
integer_of f text i32le_text = (integer.I32Le, refl, refl)
integer_of f text i64le_text = (integer.I64Le, refl, refl)

pub integer_is : (i : Integer) → IsInteger (integer_form i) (integer_word i)
integer_is integer.U8 = u8_text
integer_is integer.U16 = u16_text
integer_is integer.U32 = u32_text
integer_is integer.U64 = u64_text
integer_is integer.I8 = i8_text
integer_is integer.I16 = i16_text
integer_is integer.I32 = i32_text
integer_is integer.I64 = i64_text
integer_is integer.U16Le = u16le_text
integer_is integer.U32Le = u32le_text
integer_is integer.U64Le = u64le_text
integer_is integer.I16Le = i16le_text
integer_is integer.I32Le = i32le_text
integer_is integer.I64Le = i64le_text

-- ---- and of floats

pub float_of : (f : Form) (text : List ℕ) → IsFloat f text → (x : Float) × (f ≡ float_form x) × (text ≡ float_word x)
float_of f text f32_text = (floats.F32, refl, refl)
float_of f text f64_text = (floats.F64, refl, refl)
float_of f text f32le_text = (floats.F32Le, refl, refl)
float_of f text f64le_text = (floats.F64Le, refl, refl)

pub float_is : (x : Float) → IsFloat (float_form x) (float_word x)
float_is floats.F32 = f32_text
float_is floats.F64 = f64_text
float_is floats.F32Le = f32le_text
float_is floats.F64Le = f64le_text

-- ---- what stands after a shape and after its word

pub ends_word : (rest : List ℕ) → EndsShape rest → EndsWord rest
ends_word [] ends = tt
ends_word (b ∷ rest) ends =
    ⊎_elim (λ e. (ap is_later e, λ h. omega (arith, e, h))) (⊎_elim (λ e. (ap is_later e, λ h. omega (arith, e, h))) (λ e. (ap is_later e, λ h. omega (arith, e, h)))) ends

pub ends_width : (rest : List ℕ) → EndsShape rest → HasNoWidth rest
ends_width [] ends = tt
ends_width (b ∷ rest) ends = λ h. ⊎_elim (λ e. omega (arith, e, h)) (⊎_elim (λ e. omega (arith, e, h)) (λ e. omega (arith, e, h))) ends

-- a slash, a round bracket and an angle bracket end a word
abbrev WordEnd : ℕ → Type 0
WordEnd b = (is_later b ≡ false) × (b ≡ 58 → ⊥)

slash : WordEnd 47
slash = (refl, λ h. omega (arith, h))

bracket : WordEnd 40
bracket = (refl, λ h. omega (arith, h))

brace : WordEnd 123
brace = (refl, λ h. omega (arith, h))

angle : WordEnd 60
angle = (refl, λ h. omega (arith, h))

after_width_ends : (w : Option Width) (rest : List ℕ) → EndsWord rest → EndsWord (width_text w ++ rest)
after_width_ends None rest ends = ends
after_width_ends (Some W8) rest ends = slash
after_width_ends (Some W16) rest ends = slash
after_width_ends (Some W32) rest ends = slash

after_widths_ends : (ws : Option (Width × Width)) (rest : List ℕ) → EndsWord rest → EndsWord (widths_text ws ++ rest)
after_widths_ends None rest ends = ends
after_widths_ends (Some ws) rest ends =
    rw (append_assoc (width_text (Some ws.0)) (width_text (Some ws.1)) rest) (after_width_ends (Some ws.0) (width_text (Some ws.1) ++ rest) (after_width_ends (Some ws.1) rest ends))

behind_width : (w : Option Width) (back inside rest : List ℕ) → back ≡ width_text w ++ inside → EndsWord (inside ++ rest) → EndsWord (back ++ rest)
behind_width w back inside rest is ends =
    subst EndsWord (sym (ap (λ (t : List ℕ). t ++ rest) is ∙ append_assoc (width_text w) inside rest)) (after_width_ends w (inside ++ rest) ends)

pub behind_ends : (names : NamedForms) (w : Word) (f : Form) (back rest : List ℕ) → Behind names w f back → EndsShape rest → EndsWord (back ++ rest)
behind_ends names word.Bool f back rest behind stops = subst EndsWord (sym (ap (λ (t : List ℕ). t ++ rest) behind.1)) (ends_word rest stops)
behind_ends names (word.Integer i) f back rest behind stops =
    ⊎_elim (λ own. subst EndsWord (sym (ap (λ (t : List ℕ). t ++ rest) own.1)) (ends_word rest stops)) (λ own. subst EndsWord (sym (ap (λ (t : List ℕ). t ++ rest) own.4)) brace) behind
behind_ends names (word.Float x) f back rest behind stops = subst EndsWord (sym (ap (λ (t : List ℕ). t ++ rest) behind.1)) (ends_word rest stops)
behind_ends names (word.Text e) f back rest behind stops = subst EndsWord (sym (ap (λ (t : List ℕ). t ++ rest) behind.2)) (after_width_ends behind.0 rest (ends_word rest stops))
behind_ends names (word.FixedText e) f back rest behind stops = subst EndsWord (sym (ap (λ (t : List ℕ). t ++ rest) behind.3)) angle
behind_ends names word.Array f back rest behind stops = behind_width behind.0 back (repeated_text behind.1 behind.3) rest behind.7 angle
behind_ends names word.Fixed f back rest behind stops = behind_width behind.0 back (repeated_text behind.1 behind.3) rest behind.7 angle
behind_ends names word.Struct f back rest behind stops = behind_width behind.0 back (codes "(" ++ (behind.2 ++ codes ")")) rest behind.5 bracket
behind_ends names word.Union f back rest behind stops =
    subst EndsWord (sym (ap (λ (t : List ℕ). t ++ rest) behind.5 ∙ append_assoc (widths_text behind.0) (codes "(" ++ (behind.2 ++ codes ")")) rest)) (after_widths_ends behind.0 (codes "(" ++ (behind.2 ++ codes ")") ++ rest) bracket)
behind_ends names word.Tagged f back rest behind stops = behind_width behind.0 back (codes "(" ++ (behind.2 ++ codes ")")) rest behind.5 bracket

-- ---- a text by its word

-- the word of a text, and what stands after it
pub record Split (names : NamedForms) (f : Form) (text : List ℕ) : Type 0 where
  pub first : Word
  pub back : List ℕ
  pub is : text ≡ word_text first ++ back
  pub behind : Behind names first f back

-- the name that a text refers to
pub record Refers (names : NamedForms) (f : Form) (text : List ℕ) : Type 0 where
  pub name : List ℕ
  pub good : is_name name ≡ true
  pub stands : form_named names name ≡ Some f
  pub is : text ≡ 64 ∷ name

pub split : (names : NamedForms) (f : Form) (text : List ℕ) → IsTextIn names f text → Split names f text ⊎ Refers names f text
split names f text bool_text = inl (record { first = word.Bool; back = []; is = refl; behind = (refl, refl) })
split names f text (integer_text g bytes is) =
    let own = integer_of g bytes is in
    inl (record { first = word.Integer own.0; back = []; is = own.2 ∙ sym (append-nil (integer_word own.0)); behind = inl (own.1, refl) })
split names f text (float_text g bytes is) =
    let own = float_of g bytes is in
    inl (record { first = word.Float own.0; back = []; is = own.2 ∙ sym (append-nil (float_word own.0)); behind = (own.1, refl) })
split names f text (enum_text g bytes ls inside is are) =
    let own = integer_of g bytes is in
    let whole : bytes ++ (codes "{" ++ (inside ++ codes "}")) ≡ integer_word own.0 ++ (codes "{" ++ (inside ++ codes "}")) = ap (λ (t : List ℕ). t ++ (codes "{" ++ (inside ++ codes "}"))) own.2 in
    inl (record { first = word.Integer own.0; back = _; is = whole; behind = inr (ls, inside, are, ap (λ (h : Form). enumerated h ls) own.1, refl) })
split names f text (utf8_text w) = inl (record { first = word.Text Utf8; back = width_text w; is = refl; behind = (w, refl, refl) })
split names f text (utf16_text w) = inl (record { first = word.Text Utf16; back = width_text w; is = refl; behind = (w, refl, refl) })
split names f text (utf8fix_text n small) = inl (record { first = word.FixedText Utf8; back = room_text n; is = refl; behind = (n, small, refl, refl) })
split names f text (utf16fix_text n small) = inl (record { first = word.FixedText Utf16; back = room_text n; is = refl; behind = (n, small, refl, refl) })
split names f text (array_text w n g element small is) = inl (record { first = word.Array; back = _; is = refl; behind = (w, n, g, element, small, is, refl, refl) })
split names f text (fixed_text w n g element small is) = inl (record { first = word.Fixed; back = _; is = refl; behind = (w, n, g, element, small, is, refl, refl) })
split names f text (struct_text w fs members are) = inl (record { first = word.Struct; back = _; is = refl; behind = (w, fs, members, are, refl, refl) })
split names f text (union_text ws vs variants are) = inl (record { first = word.Union; back = _; is = refl; behind = (ws, vs, variants, are, refl, refl) })
split names f text (tagged_text w ms members are) = inl (record { first = word.Tagged; back = _; is = refl; behind = (w, ms, members, are, refl, refl) })
split names f text (reference_text n g good stands) = inr (record { name = n; good = good; stands = stands; is = refl })

abbrev pub word_read : Word → ℕ → Result (Word × ℕ) ShapeTextError
word_read w end = Ok (w, end)

-- the word that stands at a place is the one that was read there
abbrev pub WordOnly : List ℕ → ℕ → Word → ℕ → Type 0
WordOnly text at w end = (v : Word) (others : List ℕ) → drop at text ≡ word_text v ++ others → EndsWord others → word_read w end ≡ Ok (v, at + length (word_text v))

-- what is read at a place, where a shape stands there
abbrev pub ShapeOnly : NamedForms → List ℕ → ℕ → ℕ → Result (Shape × ℕ) ShapeTextError → Type 0
ShapeOnly names text at most r = (f : Form) (front rest : List ℕ) → drop at text ≡ front ++ rest → IsTextIn names f front → depth f ≤ most → EndsShape rest → IsReadTo form f (at + length front) r

-- no `@` stands at a place
abbrev pub NoSign : List ℕ → ℕ → Type 0
NoSign text at = (tail : List ℕ) → drop at text ≡ 64 ∷ tail → ⊥

-- so a text of a shape that stands there begins with a word
pub begins_with_word : (names : NamedForms) (text front rest : List ℕ) (at : ℕ) (f : Form) → NoSign text at → drop at text ≡ front ++ rest → IsTextIn names f front → Split names f front
begins_with_word names text front rest at f none is is_text =
    ⊎_elim (λ (s : Split names f front). s) (λ (r : Refers names f front). absurd (none (r.name ++ rest) (is ∙ ap (λ (t : List ℕ). t ++ rest) r.is))) (split names f front is_text)

-- a shape, read by its word
pub by_word : (names : NamedForms) (text : List ℕ) (at end most : ℕ) (w v : Word) (r : Result (Shape × ℕ) ShapeTextError) → NoSign text at → w ≡ v → WordOnly text at w end
    → ((f : Form) (back rest : List ℕ) → drop end text ≡ back ++ rest → Behind names v f back → depth f ≤ most → EndsShape rest → IsReadTo form f (end + length back) r) → ShapeOnly names text at most r
by_word names text at end most w v r none word only read f front rest is is_text deep stops =
    let s = begins_with_word names text front rest at f none is is_text in
    let here : drop at text ≡ word_text s.first ++ (s.back ++ rest) = is ∙ ap (λ (t : List ℕ). t ++ rest) s.is ∙ append_assoc (word_text s.first) s.back rest in
    let both = only s.first (s.back ++ rest) here (behind_ends names s.first f s.back rest s.behind stops) in
    let first : w ≡ s.first = same_first w s.first end (at + length (word_text s.first)) both in
    let place : end ≡ at + length (word_text s.first) = same_second w s.first end (at + length (word_text s.first)) both in
    let behind : Behind names v f s.back = subst (λ u. Behind names u f s.back) (sym first ∙ word) s.behind in
    let len : end + length s.back ≡ at + length front = omega (arith, place, ap length s.is, length-append (word_text s.first) s.back) in
    subst (λ n. IsReadTo form f n r) len (read f s.back rest (behind_piece text (word_text s.first) (s.back ++ rest) at end here place) behind deep stops)

-- a shape that is its word
pub plain : (names : NamedForms) (text : List ℕ) (at end most : ℕ) (w v : Word) (s : Shape) (g : Form) → NoSign text at → w ≡ v → form s ≡ g
    → ((f : Form) (back : List ℕ) → Behind names v f back → (f ≡ g) × (back ≡ [])) → WordOnly text at w end → ShapeOnly names text at most (Ok (s, end))
plain names text at end most w v s g none word is own only =
    by_word names text at end most w v (Ok (s, end)) none word only (λ f back rest there behind deep stops.
    let whole = own f back behind in
    (is ∙ sym whole.0, omega (arith, ap length whole.1)))

-- a text begins with a word
pub word_there : (names : NamedForms) (text front rest : List ℕ) (at : ℕ) (f : Form) → NoSign text at → drop at text ≡ front ++ rest → IsTextIn names f front → EndsShape rest
    → (w : Word) × (others : List ℕ) × (drop at text ≡ word_text w ++ others) × EndsWord others
word_there names text front rest at f none is is_text stops =
    let s = begins_with_word names text front rest at f none is is_text in
    (s.first, s.back ++ rest, is ∙ ap (λ (t : List ℕ). t ++ rest) s.is ∙ append_assoc (word_text s.first) s.back rest, behind_ends names s.first f s.back rest s.behind stops)

-- ---- a reference

pub ends_word_name : (rest : List ℕ) → EndsWord rest → EndsName rest
ends_word_name [] ends = tt
ends_word_name (b ∷ rest) ends = ends.0

-- no word begins with an `@`
word_first : (w : Word) (others : List ℕ) → get_or (word_text w ++ others) 0 0 ≡ 64 → ⊥
word_first word.Bool others h = omega (arith, h)
word_first (word.Integer integer.U8) others h = omega (arith, h)
word_first (word.Integer integer.U16) others h = omega (arith, h)
word_first (word.Integer integer.U32) others h = omega (arith, h)
word_first (word.Integer integer.U64) others h = omega (arith, h)
word_first (word.Integer integer.I8) others h = omega (arith, h)
word_first (word.Integer integer.I16) others h = omega (arith, h)
word_first (word.Integer integer.I32) others h = omega (arith, h)
word_first (word.Integer integer.I64) others h = omega (arith, h)
word_first (word.Integer integer.U16Le) others h = omega (arith, h)
word_first (word.Integer integer.U32Le) others h = omega (arith, h)
word_first (word.Integer integer.U64Le) others h = omega (arith, h)
word_first (word.Integer integer.I16Le) others h = omega (arith, h)
word_first (word.Integer integer.I32Le) others h = omega (arith, h)
word_first (word.Integer integer.I64Le) others h = omega (arith, h)
word_first (word.Float floats.F32) others h = omega (arith, h)
word_first (word.Float floats.F64) others h = omega (arith, h)
word_first (word.Float floats.F32Le) others h = omega (arith, h)
word_first (word.Float floats.F64Le) others h = omega (arith, h)
word_first (word.Text Utf8) others h = omega (arith, h)
word_first (word.Text Utf16) others h = omega (arith, h)
word_first (word.FixedText Utf8) others h = omega (arith, h)
word_first (word.FixedText Utf16) others h = omega (arith, h)
word_first word.Array others h = omega (arith, h)
word_first word.Fixed others h = omega (arith, h)
word_first word.Struct others h = omega (arith, h)
word_first word.Union others h = omega (arith, h)
word_first word.Tagged others h = omega (arith, h)

no_word_sign : (w : Word) (others tail : List ℕ) → word_text w ++ others ≡ 64 ∷ tail → ⊥
no_word_sign w others tail is = word_first w others (ap (λ (t : List ℕ). get_or t 0 0) is)

-- a shape that no word begins, read by its name
pub by_reference : (names : NamedForms) (text tail : List ℕ) (at most : ℕ) (r : Result (Shape × ℕ) ShapeTextError) → drop at text ≡ 64 ∷ tail
    → ((n rest : List ℕ) (f : Form) → drop at text ≡ 64 ∷ (n ++ rest) → is_name n ≡ true → form_named names n ≡ Some f → depth f ≤ most → EndsName rest → IsReadTo form f (at + (length n + 1)) r) → ShapeOnly names text at most r
by_reference names text tail at most r sign read f front rest is is_text deep stops =
    ⊎_elim (λ (s : Split names f front). absurd (no_word s)) referred (split names f front is_text)
  where
    no_word : Split names f front → ⊥
    no_word s = no_word_sign s.first (s.back ++ rest) tail (sym (is ∙ ap (λ (t : List ℕ). t ++ rest) s.is ∙ append_assoc (word_text s.first) s.back rest) ∙ sign)

    referred : Refers names f front → IsReadTo form f (at + length front) r
    referred own =
        let place : at + (length own.name + 1) ≡ at + length front = omega (arith, ap length own.is) in
        subst (λ k. IsReadTo form f k r) place (read own.name rest f (is ∙ ap (λ (t : List ℕ). t ++ rest) own.is) own.good own.stands deep (ends_word_name rest (ends_word rest stops)))

-- no fault of the text
pub memory_of : {X Y : Type 0} (view : X → Y) (y : Y) (end : ℕ) (e : ShapeTextError) → IsReadTo view y end (fault_of e) → e ≡ OutOfMemory
memory_of view y end OutOfMemory memory = refl
memory_of view y end (BadShape at) bad = absurd bad
