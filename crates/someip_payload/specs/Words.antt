-- The words that a shape's text begins with.
use Rattle.std.specs.Prelude.{◌≡◌, ℕ, ℤ, ◌<◌, ◌^◌, ◌⊎◌, List, [], ◌++◌, Option, codes}
use Rattle.someip_payload_values.specs.Data.{Form, bool, unsigned, signed, float, u8, u16, u32, u64, i8, i16, i32, i64, string, padded, array, fixed, «struct», tagged, enumerated, Forms, Variants, Members}
use Rattle.someip_payload_values.specs.Floats.{single, double}
use Rattle.someip_payload_values.specs.declared.number.Order.TheVariants.{Big, Little}
use Rattle.someip_payload_values.specs.declared.number.Size.TheVariants.{S16, S32, S64}
use Rattle.someip_payload_values.specs.declared.shape.Encoding.TheVariants.{Utf8, Utf16}
use Rattle.someip_payload_values.specs.declared.shape.Width.{Width}
use Rattle.someip_payload.specs.Named.{NamedForms}
use Rattle.someip_payload.specs.ShapeText.{IsTextIn, IsTextOfMembers, IsTextOfVariants, IsTextOfTaggedMembers, IsTextOfLabels, width_text, widths_text, or_32, union_of, room_text, repeated_text}
use Rattle.someip_payload.specs.declared.words.Integer.{Integer}
use Rattle.someip_payload.specs.declared.words.Integer.TheVariants as integer
use Rattle.someip_payload.specs.declared.words.Float.{Float}
use Rattle.someip_payload.specs.declared.words.Float.TheVariants as floats
use Rattle.someip_payload.specs.declared.words.Word.{Word}
use Rattle.someip_payload.specs.declared.words.Word.TheVariants as word

abbrev pub integer_word : Integer → List ℕ
integer_word integer.U8 = codes "u8"
integer_word integer.U16 = codes "u16"
integer_word integer.U32 = codes "u32"
integer_word integer.U64 = codes "u64"
integer_word integer.I8 = codes "i8"
integer_word integer.I16 = codes "i16"
integer_word integer.I32 = codes "i32"
integer_word integer.I64 = codes "i64"
integer_word integer.U16Le = codes "u16le"
integer_word integer.U32Le = codes "u32le"
integer_word integer.U64Le = codes "u64le"
integer_word integer.I16Le = codes "i16le"
integer_word integer.I32Le = codes "i32le"
integer_word integer.I64Le = codes "i64le"

abbrev pub integer_form : Integer → Form
integer_form integer.U8 = u8
integer_form integer.U16 = u16
integer_form integer.U32 = u32
integer_form integer.U64 = u64
integer_form integer.I8 = i8
integer_form integer.I16 = i16
integer_form integer.I32 = i32
integer_form integer.I64 = i64
integer_form integer.U16Le = unsigned Little S16
integer_form integer.U32Le = unsigned Little S32
integer_form integer.U64Le = unsigned Little S64
integer_form integer.I16Le = signed Little S16
integer_form integer.I32Le = signed Little S32
integer_form integer.I64Le = signed Little S64

abbrev pub float_word : Float → List ℕ
float_word floats.F32 = codes "f32"
float_word floats.F64 = codes "f64"
float_word floats.F32Le = codes "f32le"
float_word floats.F64Le = codes "f64le"

abbrev pub float_form : Float → Form
float_form floats.F32 = float Big single
float_form floats.F64 = float Big double
float_form floats.F32Le = float Little single
float_form floats.F64Le = float Little double

abbrev pub word_text : Word → List ℕ
word_text word.Bool = codes "bool"
word_text (word.Integer i) = integer_word i
word_text (word.Float x) = float_word x
word_text (word.Text Utf8) = codes "utf8"
word_text (word.Text Utf16) = codes "utf16"
word_text (word.FixedText Utf8) = codes "utf8fix"
word_text (word.FixedText Utf16) = codes "utf16fix"
word_text word.Array = codes "array"
word_text word.Fixed = codes "fixed"
word_text word.Struct = codes "struct"
word_text word.Union = codes "union"
word_text word.Tagged = codes "tagged"

-- what stands after the word in a text of the form
abbrev pub Behind : NamedForms → Word → Form → List ℕ → Type 0
Behind names word.Bool f back = (f ≡ bool) × (back ≡ [])
Behind names (word.Integer i) f back =
    ((f ≡ integer_form i) × (back ≡ []))
    ⊎ ((ls : List (ℤ × List ℕ)) × (text : List ℕ) × IsTextOfLabels ls text × (f ≡ enumerated (integer_form i) ls) × (back ≡ codes "{" ++ (text ++ codes "}")))
Behind names (word.Float x) f back = (f ≡ float_form x) × (back ≡ [])
Behind names (word.Text e) f back = (w : Option Width) × (f ≡ string e (or_32 w)) × (back ≡ width_text w)
Behind names (word.FixedText e) f back = (n : ℕ) × (n < 2 ^ 32) × (f ≡ padded e n) × (back ≡ room_text n)
Behind names word.Array f back =
    (w : Option Width) × (n : ℕ) × (g : Form) × (text : List ℕ) × (n < 2 ^ 32) × IsTextIn names g text
    × (f ≡ array (or_32 w) n g) × (back ≡ width_text w ++ repeated_text n text)
Behind names word.Fixed f back =
    (w : Option Width) × (n : ℕ) × (g : Form) × (text : List ℕ) × (n < 2 ^ 32) × IsTextIn names g text
    × (f ≡ fixed w n g) × (back ≡ width_text w ++ repeated_text n text)
Behind names word.Struct f back =
    (w : Option Width) × (fs : Forms) × (text : List ℕ) × IsTextOfMembers names fs text
    × (f ≡ «struct» w fs) × (back ≡ width_text w ++ (codes "(" ++ (text ++ codes ")")))
Behind names word.Union f back =
    (ws : Option (Width × Width)) × (vs : Variants) × (text : List ℕ) × IsTextOfVariants names vs text
    × (f ≡ union_of ws vs) × (back ≡ widths_text ws ++ (codes "(" ++ (text ++ codes ")")))
Behind names word.Tagged f back =
    (w : Option Width) × (ms : Members) × (text : List ℕ) × IsTextOfTaggedMembers names ms text
    × (f ≡ tagged (or_32 w) ms) × (back ≡ width_text w ++ (codes "(" ++ (text ++ codes ")")))
