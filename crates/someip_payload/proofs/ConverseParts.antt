-- Each text of a shape is read as it: what its parts are read as.
use Rattle.std.proofs.Common.{◌≡◌, ℕ, ◌+◌, ◌-◌, ◌<◌, ◌≤◌, ◌^◌, Vec, Global, Result, Ok, Err, IfOk, List, ◌∷◌, ◌++◌, length, drop, codes, Option, Some, None, inr, refl, sym, ap, ◌∙◌, append_assoc, arith}
use Rattle.std.specs.Fmt.{decimal}
use Rattle.std.specs.declared.boxed.Box.{Box}
use Rattle.std.proofs.lemmas.List.{length-append}
use Rattle.someip_payload_values.specs.declared.shape.Shape.{Shape, Text, Array, Struct, Tagged}
use Rattle.someip_payload_values.specs.declared.shape.Member.{Member}
use Rattle.someip_payload_values.specs.declared.shape.Encoding.{Encoding}
use Rattle.someip_payload_values.specs.declared.shape.Width.{Width}
use Rattle.someip_payload.specs.Named.{NamedForms}
use Rattle.someip_payload.specs.declared.words.Integer.{Integer}
use Rattle.someip_payload.specs.declared.words.Integer.TheVariants as integer
use Rattle.someip_payload.specs.declared.words.Float.{Float}
use Rattle.someip_payload.specs.declared.words.Float.TheVariants as floats
use Rattle.someip_payload.specs.declared.words.Word.{Word}
use Rattle.someip_payload.specs.declared.shape_text_error.ShapeTextError.{ShapeTextError}
use Rattle.someip_payload_values.specs.Check.{depth, deepest_variant}
use Rattle.someip_payload_values.specs.Data.{Form, string, array, fixed, «struct», tagged, Forms, Variants, Members}
use Rattle.someip_payload.specs.ShapeText.{IsDigit, HasNoWidth, EndsShape, IsReadTo, width_text, widths_text, or_32, union_of, repeated_text, room_text}
use Rattle.someip_payload_values.specs.View.{form, forms, all_members}
use Rattle.someip_payload.specs.Words.{Behind, integer_form, float_form}
use Rattle.someip_payload.proofs.Converse.{read_of, same_first, same_second, NumberOnly, WordOnly, NoSign, ShapeOnly, by_word}
use Rattle.someip_payload.proofs.Places.{behind_piece}
use Rattle.someip_payload_values.proofs.Shapes.{form-Text, form-Array, form-Struct, form-Tagged, some_depth}

-- two pieces in front of the rest
split_front : (bytes back rest a b : List ℕ) → bytes ≡ back ++ rest → back ≡ a ++ b → bytes ≡ a ++ (b ++ rest)
split_front bytes back rest a b is parts = is ∙ ap (λ (t : List ℕ). t ++ rest) parts ∙ append_assoc a b rest

-- a shape with shapes inside it, read by its word
pub inner : (names : NamedForms) (text : List ℕ) (at end most : ℕ) (w v : Word) (r : Result (Shape × ℕ) ShapeTextError) → NoSign text at → w ≡ v → WordOnly text at w end
    → ((f : Form) (back rest : List ℕ) → drop end text ≡ back ++ rest → Behind names v f back → depth f ≤ (most - 1) + 1 → IsReadTo form f (end + length back) r) → ShapeOnly names text at most r
inner names text at end most w v r none word only read =
    by_word names text at end most w v r none word only (λ f back rest there behind deep stops. read f back rest there behind (omega (arith, deep, some_depth f)))

-- ---- shapes of their parts

pub array_is : (w v : Option Width) (meant : Width) (n m : ℕ) (b : Box Shape Global) (f g : Form) → meant ≡ or_32 w → w ≡ v → n ≡ m → form b.value ≡ g → f ≡ array (or_32 v) m g → form (Array meant n b) ≡ f
array_is w v meant n m b f g is same number element what = let own = form-Array meant n b in let width = ap or_32 same in cc

pub string_is : (e : Encoding) (w v : Option Width) (meant : Width) (f : Form) → meant ≡ or_32 w → w ≡ v → f ≡ string e (or_32 v) → form (Text e meant) ≡ f
string_is e w v meant f is same what = let own = form-Text e meant in let width = ap or_32 same in cc

pub struct_is : (w v : Option Width) (ss : Vec Shape Global) (f : Form) (fs : Forms) → w ≡ v → forms ss.items ≡ fs → f ≡ «struct» v fs → form (Struct w ss) ≡ f
struct_is w v ss f fs same members what = let own = form-Struct w ss in cc

pub fixed_is : (w v : Option Width) (n m : ℕ) (f g h : Form) → w ≡ v → n ≡ m → g ≡ h → f ≡ fixed v m h → fixed w n g ≡ f
fixed_is w v n m f g h same number element what = cc

pub union_is : (us ws : Option (Width × Width)) (f : Form) (vs zs : Variants) → us ≡ ws → vs ≡ zs → f ≡ union_of ws zs → union_of us vs ≡ f
union_is us ws f vs zs same variants what = (λ i. union_of (same i) (variants i)) ∙ sym what

pub tagged_is : (w v : Option Width) (meant : Width) (mm : Vec Member Global) (f : Form) (ms : Members) → meant ≡ or_32 w → w ≡ v → all_members mm.items ≡ ms → f ≡ tagged (or_32 v) ms → form (Tagged meant mm) ≡ f
tagged_is w v meant mm f ms is same members what = let own = form-Tagged meant mm in let width = ap or_32 same in cc

-- ---- what a part begins with

pub stops_repeated : (n : ℕ) (element rest : List ℕ) → HasNoWidth (repeated_text n element ++ rest)
stops_repeated n element rest = λ e. omega (arith, e)

pub stops_bracket : (inside rest : List ℕ) → HasNoWidth ((codes "(" ++ inside) ++ rest)
stops_bracket inside rest = λ e. omega (arith, e)

pub stops_end : (rest : List ℕ) → EndsShape (codes ">" ++ rest)
stops_end rest = inr (inr refl)

pub no_digit_comma : IsDigit 44 → ⊥
no_digit_comma d = omega (arith, d.0)

pub no_digit_mark : IsDigit 63 → ⊥
no_digit_mark d = omega (arith, d.1)

pub no_digit_colon : IsDigit 58 → ⊥
no_digit_colon d = omega (arith, d.1)

-- ---- a width, and what stands after it

-- the width that was read, the place after it, and what stands there
pub after_width : (text back rest tail : List ℕ) (at from : ℕ) (width w : Option Width) → drop at text ≡ back ++ rest → back ≡ width_text w ++ tail → HasNoWidth (tail ++ rest)
    → ((v : Option Width) (others : List ℕ) → drop at text ≡ width_text v ++ others → HasNoWidth others → read_of {A = Option Width × ℕ} (width, from) ≡ Ok (v, at + length (width_text v)))
    → (width ≡ w) × (from ≡ at + length (width_text w)) × (drop from text ≡ tail ++ rest)
after_width text back rest tail at from width w is parts stops only =
    let here = split_front (drop at text) back rest (width_text w) tail is parts in
    let read = only w (tail ++ rest) here stops in
    let place = same_second _ _ _ _ read in
    (same_first _ _ _ _ read, place, behind_piece text (width_text w) (tail ++ rest) at from here place)

-- the widths that were read, the place after them, and what stands there
pub after_widths : (text back rest tail : List ℕ) (at from : ℕ) (widths ws : Option (Width × Width)) → drop at text ≡ back ++ rest → back ≡ widths_text ws ++ tail → HasNoWidth (tail ++ rest)
    → ((vs : Option (Width × Width)) (others : List ℕ) → drop at text ≡ widths_text vs ++ others → HasNoWidth others → read_of {A = Option (Width × Width) × ℕ} (widths, from) ≡ Ok (vs, at + length (widths_text vs)))
    → (widths ≡ ws) × (from ≡ at + length (widths_text ws)) × (drop from text ≡ tail ++ rest)
after_widths text back rest tail at from widths ws is parts stops only =
    let here = split_front (drop at text) back rest (widths_text ws) tail is parts in
    let read = only ws (tail ++ rest) here stops in
    let place = same_second _ _ _ _ read in
    (same_first _ _ _ _ read, place, behind_piece text (widths_text ws) (tail ++ rest) at from here place)

-- ---- a number of repetitions and what is repeated

pub after_open : (text element rest : List ℕ) (n at from : ℕ) → drop at text ≡ repeated_text n element ++ rest → from ≡ at + 1 → drop from text ≡ decimal n ++ 44 ∷ ((element ++ codes ">") ++ rest)
after_open text element rest n at from is place =
    behind_piece text (codes "<") ((decimal n ++ (codes "," ++ (element ++ codes ">"))) ++ rest) at from is place ∙ append_assoc (decimal n) (codes "," ++ (element ++ codes ">")) rest

-- the number that was read, the place after it, and what stands there
pub after_count : (text element rest : List ℕ) (n at from number comma : ℕ) → drop at text ≡ repeated_text n element ++ rest → from ≡ at + 1 → n < 2 ^ 32 → NumberOnly text from (2 ^ 32) (Ok (number, comma))
    → (number ≡ n) × (comma ≡ from + length (decimal n)) × (drop comma text ≡ 44 ∷ ((element ++ codes ">") ++ rest))
after_count text element rest n at from number comma is opened small only =
    let here = after_open text element rest n at from is opened in
    let read = only n 44 ((element ++ codes ">") ++ rest) here small no_digit_comma in
    let place = same_second _ _ _ _ read in
    (same_first _ _ _ _ read, place, behind_piece text (decimal n) _ from comma here place)

pub after_comma : (text element rest : List ℕ) (comma first : ℕ) → drop comma text ≡ 44 ∷ ((element ++ codes ">") ++ rest) → first ≡ comma + 1 → drop first text ≡ element ++ (codes ">" ++ rest)
after_comma text element rest comma first is place = behind_piece text (codes ",") ((element ++ codes ">") ++ rest) comma first is place ∙ append_assoc element (codes ">") rest

pub length-repeated : (n : ℕ) (element : List ℕ) → length (repeated_text n element) ≡ length (decimal n) + length element + 3
length-repeated n element =
    let a : length (decimal n ++ (codes "," ++ (element ++ codes ">"))) ≡ length (decimal n) + length (codes "," ++ (element ++ codes ">")) = length-append (decimal n) (codes "," ++ (element ++ codes ">")) in
    let b : length (element ++ codes ">") ≡ length element + 1 = length-append element (codes ">") in
    omega (arith, a, b)

-- ---- brackets

pub after_bracket : (text inside rest : List ℕ) (at first : ℕ) → drop at text ≡ (codes "(" ++ (inside ++ codes ")")) ++ rest → first ≡ at + 1 → drop first text ≡ inside ++ (codes ")" ++ rest)
after_bracket text inside rest at first is place = behind_piece text (codes "(") ((inside ++ codes ")") ++ rest) at first is place ∙ append_assoc inside (codes ")") rest

-- ---- how deep shapes lie that were read

pub within_more : (r : Result (Shape × ℕ) ShapeTextError) (k n : ℕ) → k ≤ n → IfOk r (λ x. depth (form x.0) ≤ k) → IfOk r (λ x. depth (form x.0) ≤ n)
within_more (Ok x) k n le within = omega (arith, le, within)
within_more (Err e) k n le within = tt

-- ---- a number in angle brackets

pub room_there : (text back rest : List ℕ) (n at from : ℕ) → drop at text ≡ back ++ rest → back ≡ room_text n → from ≡ at + 1 → drop from text ≡ decimal n ++ 62 ∷ rest
room_there text back rest n at from is same place =
    behind_piece text (codes "<") ((decimal n ++ codes ">") ++ rest) at from (is ∙ ap (λ (t : List ℕ). t ++ rest) same) place ∙ append_assoc (decimal n) (codes ">") rest

pub no_digit_end : IsDigit 62 → ⊥
no_digit_end d = omega (arith, d.1)

pub integer_depth : (i : Integer) → depth (integer_form i) ≡ 1
integer_depth integer.U8 = refl
integer_depth integer.U16 = refl
integer_depth integer.U32 = refl
integer_depth integer.U64 = refl
integer_depth integer.I8 = refl
integer_depth integer.I16 = refl
integer_depth integer.I32 = refl
integer_depth integer.I64 = refl
integer_depth integer.U16Le = refl
integer_depth integer.U32Le = refl
integer_depth integer.U64Le = refl
integer_depth integer.I16Le = refl
integer_depth integer.I32Le = refl
integer_depth integer.I64Le = refl

pub float_depth : (x : Float) → depth (float_form x) ≡ 1
float_depth floats.F32 = refl
float_depth floats.F64 = refl
float_depth floats.F32Le = refl
float_depth floats.F64Le = refl

pub union_depth : (ws : Option (Width × Width)) (vs : Variants) → depth (union_of ws vs) ≡ deepest_variant vs + 1
union_depth None vs = refl
union_depth (Some ws) vs = refl
