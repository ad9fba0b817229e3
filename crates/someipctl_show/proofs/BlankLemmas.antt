-- The text of a shape has no space, so a line `payload SHAPE HEX` is parted at its first one after the word.
use Rattle.std.proofs.Common.{◌≡◌, ◌==◌, ◌||◌, ◌&&◌, ltb, ◌<◌, ◌≤◌, ◌^◌, ℕ, suc, ◌+◌, Bool, true, false, List, [], ◌∷◌, ◌++◌, length, take, drop, codes, Option, None, Some, Err, refl, sym, ap, subst, ◌∙◌, arith, length-append}
use Rattle.std.specs.Prelude.{ℤ, pos, negsuc}
use Rattle.std.specs.List.{list_all, list_any, position_or_len, before_first, after_first}
use Rattle.std.specs.Fmt.{decimal}
use Rattle.std.specs.Char.{digit_value}
use Rattle.std.specs.Str.Parse.{AllDigits}
use Rattle.std.proofs.lemmas.Bool.{and_parts, eqb-true}
use Rattle.std.proofs.lemmas.Fmt.{decimal_is_IsNumeral}
use Rattle.std.proofs.lemmas.List.Folds.{list_any-append}
use Rattle.someip_payload_values.specs.Check.{depth, is_first, is_later, is_name}
use Rattle.someip_payload_values.specs.Data.{Form, Forms, Variants, Members}
use Rattle.someip_payload_values.specs.View.{form}
use Rattle.someip_payload_values.specs.declared.Shape.{Shape}
use Rattle.someip_payload.specs.declared.ShapeTextError.{ShapeTextError}
use Rattle.someip_payload.specs.declared.ShapeTextError.TheVariants as shapes
use Rattle.someipctl_show.specs.declared.vector_lines.LineFault.TheVariants.{Bad}
use Rattle.someipctl_show.specs.Payload.{argument_bytes}
use Rattle.someipctl_show.specs.VectorLines.{AreArguments, fault_of_shape}
use Rattle.someip_payload_values.specs.declared.shape.Width.{Width}
use Rattle.someip_payload_values.specs.declared.shape.Width.TheVariants.{W8, W16, W32}
use Rattle.someip_payload.specs.ShapeText.{IsFloat, f32_text, f64_text, f32le_text, f64le_text, float_text, IsReadAs, width_text, repeated_text, IsInteger, u8_text, u16_text, u32_text, u64_text, i8_text, i16_text, i32_text, i64_text, u16le_text, u32le_text, u64le_text, i16le_text, i32le_text, i64le_text, widths_text, room_text, IsTextOfLabel, IsTextOfLabels, last_label, next_label, value_text, IsValue, IsTextOf, bool_text, integer_text, enum_text, utf8_text, utf16_text, utf8fix_text, utf16fix_text, array_text, fixed_text, struct_text, union_text, tagged_text, reference_text, mark_text, tagged_member_text, name_text, IsNameIfAny, IsTextOfTagged, tagged_one, IsTextOfTaggedMembers, last_tagged, next_tagged, IsTextOfMember, member_text, IsTextOfMembers, last_member, next_member, IsTextOfVariants, last_variant, next_variant}

abbrev pub is_blank : ℕ → Bool
is_blank b = b == 32

-- a text without a space
abbrev pub IsUnparted : List ℕ → Type 0
IsUnparted text = list_any is_blank text ≡ false

both : (xs ys : List ℕ) → IsUnparted xs → IsUnparted ys → IsUnparted (xs ++ ys)
both xs ys left right = list_any-append is_blank xs ys ∙ rw (left, right) refl

digit_unparted : (c : ℕ) (cs : List ℕ) (blank : Bool) → is_blank c ≡ blank → AllDigits 10 (c ∷ cs) → IsUnparted cs → IsUnparted (c ∷ cs)
digit_unparted c cs true is digits rest =
    let IsSmall : ℕ → Type 0 = λ b. digit_value b < 10 in
    let same : c ≡ 32 = eqb-true c 32 is in
    absurd (omega (arith, subst IsSmall same digits.0))
digit_unparted c cs false is digits rest = rw is rest

digits_unparted : (ds : List ℕ) → AllDigits 10 ds → IsUnparted ds
digits_unparted [] digits = refl
digits_unparted (c ∷ cs) digits = digit_unparted c cs (is_blank c) refl digits (digits_unparted cs digits.1)

long_unparted : (n : ℕ) → n < 2 ^ 64 → IsUnparted (decimal n)
long_unparted n fits = digits_unparted (decimal n) (decimal_is_IsNumeral n (omega (arith, fits))).0.1

decimal_unparted : (n : ℕ) → n < 2 ^ 32 → IsUnparted (decimal n)
decimal_unparted n fits = long_unparted n (omega (arith, fits))

width_unparted : (w : Option Width) → IsUnparted (width_text w)
width_unparted None = refl
width_unparted (Some W8) = refl
width_unparted (Some W16) = refl
width_unparted (Some W32) = refl

-- a text between two others without a space
between : (front text rest : List ℕ) → IsUnparted front → IsUnparted text → IsUnparted rest → IsUnparted (front ++ (text ++ rest))
between front text rest first middle last = both front (text ++ rest) first (both text rest middle last)

repeated_unparted : (n : ℕ) (text : List ℕ) → n < 2 ^ 32 → IsUnparted text → IsUnparted (repeated_text n text)
repeated_unparted n text fits h =
    between (codes "<") (decimal n) (codes "," ++ (text ++ codes ">")) refl (decimal_unparted n fits) (between (codes ",") text (codes ">") refl h refl)

number_unparted : (n : ℕ) (text : List ℕ) → n < 2 ^ 32 → IsUnparted text → IsUnparted (decimal n ++ (codes ":" ++ text))
number_unparted n text fits h = between (decimal n) (codes ":") text (decimal_unparted n fits) refl h

mark_unparted : (optional : Bool) → IsUnparted (mark_text optional)
mark_unparted true = refl
mark_unparted false = refl

member_unparted : (id : ℕ) (optional : Bool) (text : List ℕ) → id < 2 ^ 12 → IsUnparted text → IsUnparted (tagged_member_text id optional text)
member_unparted id optional text fits h =
    both (decimal id) (mark_text optional ++ (codes ":" ++ text)) (decimal_unparted id (omega (arith, fits))) (between (mark_text optional) (codes ":") text (mark_unparted optional) refl h)

-- a name has no space
later_unparted : (b : ℕ) (bs : List ℕ) (blank : Bool) → is_blank b ≡ blank → is_later b ≡ true → IsUnparted bs → IsUnparted (b ∷ bs)
later_unparted b bs true is later rest =
    let same : b ≡ 32 = eqb-true b 32 is in
    let never : is_later 32 ≡ true = rw same at later in
    absurd cc
later_unparted b bs false is later rest = rw is rest

all_unparted : (bs : List ℕ) → list_all is_later bs ≡ true → IsUnparted bs
all_unparted [] later = refl
all_unparted (b ∷ bs) later = let p = and_parts (is_later b) (list_all is_later bs) later in later_unparted b bs (is_blank b) refl p.0 (all_unparted bs p.1)

first_is_later : (b : ℕ) → is_first b ≡ true → is_later b ≡ true
first_is_later b first = rw first refl

whole_unparted : (n : List ℕ) → is_name n ≡ true → IsUnparted n
whole_unparted [] is = refl
whole_unparted (b ∷ bs) is =
    let p = and_parts (is_first b) (list_all is_later bs && ltb (length bs) 64) is in
    let q = and_parts (list_all is_later bs) (ltb (length bs) 64) p.1 in
    later_unparted b bs (is_blank b) refl (first_is_later b p.0) (all_unparted bs q.0)

name_unparted : (name : Option (List ℕ)) → IsNameIfAny name → IsUnparted (name_text name)
name_unparted None is = refl
name_unparted (Some n) is = both n (codes ":") (whole_unparted n is) refl

integer_unparted : (f : Form) (text : List ℕ) → IsInteger f text → IsUnparted text
integer_unparted f text u8_text = refl
integer_unparted f text u16_text = refl
integer_unparted f text u32_text = refl
integer_unparted f text u64_text = refl
integer_unparted f text i8_text = refl
integer_unparted f text i16_text = refl
integer_unparted f text i32_text = refl
integer_unparted f text i64_text = refl
integer_unparted f text u16le_text = refl
integer_unparted f text u32le_text = refl
integer_unparted f text u64le_text = refl
integer_unparted f text i16le_text = refl
integer_unparted f text i32le_text = refl
integer_unparted f text i64le_text = refl

float_unparted : (f : Form) (text : List ℕ) → IsFloat f text → IsUnparted text
float_unparted f text f32_text = refl
float_unparted f text f64_text = refl
float_unparted f text f32le_text = refl
float_unparted f text f64le_text = refl

value_unparted : (z : ℤ) → IsValue z → IsUnparted (value_text z)
value_unparted (pos n) is = long_unparted n (omega (arith, is))
value_unparted (negsuc n) is = both (codes "-") (decimal (n + 1)) refl (long_unparted (n + 1) (omega (arith, is)))

label_unparted : (l : ℤ × List ℕ) (text : List ℕ) → IsTextOfLabel l text → IsUnparted text
label_unparted l text (is, good, same) = rw same (between (value_text l.0) (codes "=") l.1 (value_unparted l.0 is) refl (whole_unparted l.1 good))

labels_unparted : (ls : List (ℤ × List ℕ)) (text : List ℕ) → IsTextOfLabels ls text → IsUnparted text
labels_unparted ls text (last_label l inner h) = label_unparted l inner h
labels_unparted ls text (next_label l ms inner others h more) = between inner (codes ",") others (label_unparted l inner h) refl (labels_unparted ms others more)

widths_unparted : (ws : Option (Width × Width)) → IsUnparted (widths_text ws)
widths_unparted None = refl
widths_unparted (Some ws) = both (width_text (Some ws.0)) (width_text (Some ws.1)) (width_unparted (Some ws.0)) (width_unparted (Some ws.1))

room_unparted : (n : ℕ) → n < 2 ^ 32 → IsUnparted (room_text n)
room_unparted n fits = between (codes "<") (decimal n) (codes ">") refl (decimal_unparted n fits) refl

mutual
  pub shape_unparted : (f : Form) (text : List ℕ) → IsTextOf f text → IsUnparted text
  shape_unparted f text bool_text = refl
  shape_unparted f text (integer_text g inner h) = integer_unparted g inner h
  shape_unparted f text (float_text g inner h) = float_unparted g inner h
  shape_unparted f text (enum_text g word ls inner h labels) =
      both word (codes "{" ++ (inner ++ codes "}")) (integer_unparted g word h) (between (codes "{") inner (codes "}") refl (labels_unparted ls inner labels) refl)
  shape_unparted f text (utf8_text w) = both (codes "utf8") (width_text w) refl (width_unparted w)
  shape_unparted f text (utf16_text w) = both (codes "utf16") (width_text w) refl (width_unparted w)
  shape_unparted f text (utf8fix_text n fits) = both (codes "utf8fix") (room_text n) refl (room_unparted n fits)
  shape_unparted f text (utf16fix_text n fits) = both (codes "utf16fix") (room_text n) refl (room_unparted n fits)
  shape_unparted f text (array_text w n e inner fits h) =
      between (codes "array") (width_text w) (repeated_text n inner) refl (width_unparted w) (repeated_unparted n inner fits (shape_unparted e inner h))
  shape_unparted f text (fixed_text w n e inner fits h) =
      between (codes "fixed") (width_text w) (repeated_text n inner) refl (width_unparted w) (repeated_unparted n inner fits (shape_unparted e inner h))
  shape_unparted f text (struct_text w fs inner h) =
      between (codes "struct") (width_text w) (codes "(" ++ (inner ++ codes ")")) refl (width_unparted w)
      (between (codes "(") inner (codes ")") refl (members_unparted fs inner h) refl)
  shape_unparted f text (union_text ws vs inner h) =
      between (codes "union") (widths_text ws) (codes "(" ++ (inner ++ codes ")")) refl (widths_unparted ws) (between (codes "(") inner (codes ")") refl (variants_unparted vs inner h) refl)
  shape_unparted f text (tagged_text w ms inner h) =
      between (codes "tagged") (width_text w) (codes "(" ++ (inner ++ codes ")")) refl (width_unparted w)
      (between (codes "(") inner (codes ")") refl (tagged_unparted ms inner h) refl)
  shape_unparted f text (reference_text n g good stands) = both (codes "@") n refl (whole_unparted n good)

  members_unparted : (fs : Forms) (text : List ℕ) → IsTextOfMembers [] fs text → IsUnparted text
  members_unparted fs text (last_member f inner h) = one_unparted f inner h
  members_unparted fs text (next_member f gs inner others h more) =
      between inner (codes ",") others (one_unparted f inner h) refl (members_unparted gs others more)

  one_unparted : (f : Form) (text : List ℕ) → IsTextOfMember [] f text → IsUnparted text
  one_unparted f text (member_text name g inner is h) = both (name_text name) inner (name_unparted name is) (shape_unparted g inner h)

  variants_unparted : (vs : Variants) (text : List ℕ) → IsTextOfVariants [] vs text → IsUnparted text
  variants_unparted vs text (last_variant n f inner fits h) = number_unparted n inner fits (shape_unparted f inner h)
  variants_unparted vs text (next_variant n f ws inner others fits h more) =
      between (decimal n ++ (codes ":" ++ inner)) (codes ",") others (number_unparted n inner fits (shape_unparted f inner h)) refl (variants_unparted ws others more)

  tagged_unparted : (ms : Members) (text : List ℕ) → IsTextOfTaggedMembers [] ms text → IsUnparted text
  tagged_unparted ms text (last_tagged id optional f inner h) = one_tagged id optional f inner h
  tagged_unparted ms text (next_tagged id optional f ns inner others h more) = between inner (codes ",") others (one_tagged id optional f inner h) refl (tagged_unparted ns others more)

  one_tagged : (id : ℕ) (optional : Bool) (f : Form) (text : List ℕ) → IsTextOfTagged [] id optional f text → IsUnparted text
  one_tagged id optional f text (tagged_one name at may g inner is fits h) =
      both (name_text name) (tagged_member_text at may inner) (name_unparted name is) (member_unparted at may inner fits (shape_unparted g inner h))

-- ---- parting a line

first_step : (b : ℕ) (text rest : List ℕ) (blank : Bool) → is_blank b ≡ blank → IsUnparted (b ∷ text)
    → (IsUnparted text → position_or_len is_blank (text ++ (codes " " ++ rest)) ≡ length text)
    → position_or_len is_blank ((b ∷ text) ++ (codes " " ++ rest)) ≡ suc (length text)
first_step b text rest true is h first = absurd (let none : (is_blank b || list_any is_blank text) ≡ false = h in cc)
first_step b text rest false is h first =
    let none : (is_blank b || list_any is_blank text) ≡ false = h in
    let more : 1 + length text ≡ suc (length text) = omega arith in
    rw is (ap (λ n. 1 + n) (first (rw is at none)) ∙ more)

-- the first space stands after a text without one
pub first_blank : (text rest : List ℕ) → IsUnparted text → position_or_len is_blank (text ++ (codes " " ++ rest)) ≡ length text
first_blank [] rest h = refl
first_blank (b ∷ text) rest h = first_step b text rest (is_blank b) refl h (first_blank text rest)

long_enough : (text s h : List ℕ) → text ≡ s ++ (codes " " ++ h) → length s < length text
long_enough text s h is = rw is (omega (arith, length-append s (codes " " ++ h)))

-- a text without a space is no two parts
pub unparted_text : (text s h : List ℕ) → position_or_len is_blank text ≡ length text → text ≡ s ++ (codes " " ++ h) → IsUnparted s → ⊥
unparted_text text s h all is h2 =
    let first : position_or_len is_blank text ≡ length s = ap (position_or_len is_blank) is ∙ first_blank s h h2 in
    absurd (omega (arith, all, first, long_enough text s h is))

-- the parts of a text are those around its first space
pub parts_are : (text s h p q : List ℕ) → p ≡ before_first is_blank text → q ≡ after_first is_blank text → text ≡ s ++ (codes " " ++ h) → IsUnparted s
    → (p ≡ s) × (q ≡ h)
parts_are text s h p q before after is unparted =
    let first : position_or_len is_blank text ≡ length s = ap (position_or_len is_blank) is ∙ first_blank s h unparted in (
      before ∙ ap (λ n. take n text) first ∙ ap (take (length s)) is ∙ take_front s (codes " " ++ h),
      after ∙ ap (λ n. drop (n + 1) text) first ∙ ap (drop (length s + 1)) is ∙ drop_part s h,
    )
  where
    take_front : (xs ys : List ℕ) → take (length xs) (xs ++ ys) ≡ xs
    take_front [] ys = refl
    take_front (x ∷ xs) ys = ap (λ t. x ∷ t) (take_front xs ys)

    drop_part : (xs ys : List ℕ) → drop (length xs + 1) (xs ++ (codes " " ++ ys)) ≡ ys
    drop_part [] ys = refl
    drop_part (x ∷ xs) ys = let e : length (x ∷ xs) + 1 ≡ suc (length xs + 1) = omega arith in rw e (drop_part xs ys)

-- ---- the arguments of a line `payload SHAPE HEX`

-- a text without a space says no arguments
pub unparted_says_none : (text : List ℕ) (shape : Form) (bytes : List ℕ) → position_or_len is_blank text ≡ length text → AreArguments text shape bytes → ⊥
unparted_says_none text shape bytes all says = unparted_text text says.0 says.1 all says.2 (shape_unparted shape says.0 says.3)

-- nor does one whose SHAPE is not read
pub bad_shape_says_none : (text p q : List ℕ) (e : ShapeTextError) → p ≡ before_first is_blank text → q ≡ after_first is_blank text → fault_of_shape e ≡ Bad
    → ((f : Form) → IsTextOf f p → depth f ≤ 64 → IsReadAs {X = Shape} form f (Err e)) → (shape : Form) (bytes : List ℕ) → depth shape ≤ 64 → AreArguments text shape bytes → ⊥
bad_shape_says_none text p q (shapes.BadShape place) before after bad only shape bytes shallow says =
    let parts = parts_are text says.0 says.1 p q before after says.2 (shape_unparted shape says.0 says.3) in
    only shape (subst (IsTextOf shape) (sym parts.0) says.3) shallow
bad_shape_says_none text p q shapes.OutOfMemory before after bad only shape bytes shallow says = absurd (cc bad)

-- nor one whose HEX is none
pub bad_hex_says_none : (text p q : List ℕ) → p ≡ before_first is_blank text → q ≡ after_first is_blank text → argument_bytes q ≡ None
    → (shape : Form) (bytes : List ℕ) → AreArguments text shape bytes → ⊥
bad_hex_says_none text p q before after none shape bytes says =
    let parts = parts_are text says.0 says.1 p q before after says.2 (shape_unparted shape says.0 says.3) in
    let some : None ≡ Some bytes = sym none ∙ (ap argument_bytes parts.1 ∙ says.4) in absurd (cc some)
