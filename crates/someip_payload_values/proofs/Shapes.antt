-- Slices of shapes and of variants, as what they stand for.
use Rattle.std.proofs.Common.{◌≡◌, ℕ, ◌+◌, ◌<◌, ◌==◌, not, true, Vec, Box, Global, Option, Some, None, String, string_bytes, rules, List, [], ◌∷◌, length, drop, get_or, refl, arith}
use Rattle.std.proofs.lemmas.Bool.Decides.{nat_tests}
use Rattle.std.proofs.lemmas.List.{drop_more}
use Rattle.std.specs.Prelude.{ℤ, Bool as Bit}
use Rattle.someip_payload_values.specs.declared.shape.Encoding.{Encoding}
use Rattle.someip_payload_values.specs.declared.shape.Width.{Width}
use Rattle.someip_payload_values.specs.declared.shape.Width.TheVariants.{W32}
use Rattle.someip_payload_values.specs.declared.number.Order.TheVariants.{Big, Little}
use Rattle.someip_payload_values.specs.declared.number.Size.TheVariants.{S16, S32, S64}
use Rattle.someip_payload_values.specs.declared.shape.Shape.{Shape, Bool, U8, U16, U32, U64, I8, I16, I32, I64, U16Le, U32Le, U64Le, I16Le, I32Le, I64Le, F32, F64, F32Le, F64Le, Text, FixedText, Array, Fixed, FramedFixed, Struct, Union, SizedUnion, Tagged, Named, Enum, the_lemmas}
use Rattle.someip_payload_values.specs.declared.shape.Member.{Member, out-Member}
use Rattle.someip_payload_values.specs.declared.value.Value.{Value, Bool as BoolValue, Uint, Int, F32 as SingleValue, F64 as DoubleValue, Text as TextValue, List as ListValue, Struct as StructValue, Union as UnionValue, Tagged as TaggedValue, the_lemmas as value_lemmas}
use Rattle.someip_payload_values.specs.Data.{Form, bool, u8, u16, u32, u64, i8, i16, i32, i64, form_then, variant, member_then, unsigned, signed, float, string, padded, array, fixed, «struct», union, tagged, named, enumerated, truth, uint, int, real, phrase, list, tuple, chosen, slotted}
use Rattle.someip_payload_values.specs.Floats.{single, double}
use Rattle.someip_payload_values.specs.Check.{depth, has_members, has_variants, has_tagged_members}
use Rattle.someip_payload_values.specs.View.{form, forms, all_variants, all_members, labels_of, data_of, data_of_all, data_of_choice, slots_of}

pub has_members_of : (ss : List Shape) → has_members (forms ss) ≡ not (length ss == 0)
has_members_of [] = refl
has_members_of (s ∷ ss) = grind (arith, nat_tests)

pub has_some_members : (ss : List Shape) → 0 < length ss → has_members (forms ss) ≡ true
has_some_members [] some = absurd (omega arith)
has_some_members (s ∷ ss) some = refl

pub has_variants_of : (vs : List (ℕ × Shape)) → has_variants (all_variants vs) ≡ not (length vs == 0)
has_variants_of [] = refl
has_variants_of (v ∷ vs) = grind (arith, nat_tests)

-- the shape at an index, and those after it
pub forms-drop : (ss : List Shape) (i : ℕ) (s : Shape) → i < length ss → forms (drop i ss) ≡ form_then (form (get_or ss i s)) (forms (drop (i + 1) ss))
forms-drop ss i s h = rw (drop_more ss i s h)

pub all_variants-drop : (vs : List (ℕ × Shape)) (i : ℕ) (v : ℕ × Shape) → i < length vs
    → all_variants (drop i vs) ≡ variant (get_or vs i v).0 (form (get_or vs i v).1) (all_variants (drop (i + 1) vs))
all_variants-drop vs i v h = rw (drop_more vs i v h)

pub all_members-drop : (ms : List Member) (i : ℕ) (m : Member) → i < length ms
    → all_members (drop i ms) ≡ member_then (out-Member (get_or ms i m)).id (out-Member (get_or ms i m)).is_optional (form (out-Member (get_or ms i m)).shape) (all_members (drop (i + 1) ms))
all_members-drop ms i m h = rw (drop_more ms i m h) (search (rules, the_lemmas))

pub form-Union : (vs : Vec (ℕ × Shape) Global) → form (Union vs) ≡ union W32 W32 (all_variants vs.items)
form-Union vs = search (rules, the_lemmas)

pub data_of-Some : (kind : ℕ) (v : Box Value Global) → data_of (UnionValue (Some (kind, v))) ≡ chosen kind (data_of v.value)
data_of-Some kind v = search (rules, value_lemmas)

pub data_of-Union : (o : Option (ℕ × Box Value Global)) → data_of (UnionValue o) ≡ data_of_choice o
data_of-Union None = search (rules, value_lemmas)
data_of-Union (Some v) = search (rules, value_lemmas)

pub form-Text : (encoding : Encoding) (width : Width) → form (Text encoding width) ≡ string encoding width
form-Text encoding width = search (rules, the_lemmas)

pub data_of-Text : (s : String Global) → data_of (TextValue s) ≡ phrase (string_bytes s)
data_of-Text s = search (rules, value_lemmas)

pub has_tagged_members_of : (ms : List Member) → has_tagged_members (all_members ms) ≡ not (length ms == 0)
has_tagged_members_of [] = refl
has_tagged_members_of (m ∷ ms) = grind (arith, nat_tests)

pub form-Tagged : (width : Width) (ms : Vec Member Global) → form (Tagged width ms) ≡ tagged width (all_members ms.items)
form-Tagged width ms = search (rules, the_lemmas)

pub data_of-Tagged : (ss : Vec (Option Value) Global) → data_of (TaggedValue ss) ≡ slotted (slots_of ss.items)
data_of-Tagged ss = search (rules, value_lemmas)

pub form-Bool : form Bool ≡ bool
form-Bool = search (rules, the_lemmas)

pub form-U8 : form U8 ≡ u8
form-U8 = search (rules, the_lemmas)

pub form-U16 : form U16 ≡ u16
form-U16 = search (rules, the_lemmas)

pub form-U32 : form U32 ≡ u32
form-U32 = search (rules, the_lemmas)

pub form-U64 : form U64 ≡ u64
form-U64 = search (rules, the_lemmas)

pub form-I8 : form I8 ≡ i8
form-I8 = search (rules, the_lemmas)

pub form-I16 : form I16 ≡ i16
form-I16 = search (rules, the_lemmas)

pub form-I32 : form I32 ≡ i32
form-I32 = search (rules, the_lemmas)

pub form-I64 : form I64 ≡ i64
form-I64 = search (rules, the_lemmas)

pub form-U16Le : form U16Le ≡ unsigned Little S16
form-U16Le = search (rules, the_lemmas)

pub form-U32Le : form U32Le ≡ unsigned Little S32
form-U32Le = search (rules, the_lemmas)

pub form-U64Le : form U64Le ≡ unsigned Little S64
form-U64Le = search (rules, the_lemmas)

pub form-I16Le : form I16Le ≡ signed Little S16
form-I16Le = search (rules, the_lemmas)

pub form-I32Le : form I32Le ≡ signed Little S32
form-I32Le = search (rules, the_lemmas)

pub form-I64Le : form I64Le ≡ signed Little S64
form-I64Le = search (rules, the_lemmas)

pub form-F32 : form F32 ≡ float Big single
form-F32 = search (rules, the_lemmas)

pub form-F64 : form F64 ≡ float Big double
form-F64 = search (rules, the_lemmas)

pub form-F32Le : form F32Le ≡ float Little single
form-F32Le = search (rules, the_lemmas)

pub form-F64Le : form F64Le ≡ float Little double
form-F64Le = search (rules, the_lemmas)

pub form-FixedText : (encoding : Encoding) (n : ℕ) → form (FixedText encoding n) ≡ padded encoding n
form-FixedText encoding n = search (rules, the_lemmas)

pub form-FramedFixed : (width : Width) (n : ℕ) (element : Box Shape Global) → form (FramedFixed width n element) ≡ fixed (Some width) n (form element.value)
form-FramedFixed width n element = search (rules, the_lemmas)

pub form-SizedUnion : (width type : Width) (vs : Vec (ℕ × Shape) Global) → form (SizedUnion width type vs) ≡ union width type (all_variants vs.items)
form-SizedUnion width type vs = search (rules, the_lemmas)

pub form-Named : (name : String Global) (f : Box Shape Global) → form (Named name f) ≡ named (string_bytes name) (form f.value)
form-Named name f = search (rules, the_lemmas)

pub form-Enum : (f : Box Shape Global) (labels : Vec (ℤ × String Global) Global) → form (Enum f labels) ≡ enumerated (form f.value) (labels_of labels.items)
form-Enum f labels = search (rules, the_lemmas)

pub form-Array : (width : Width) (most : ℕ) (element : Box Shape Global) → form (Array width most element) ≡ array width most (form element.value)
form-Array width most element = search (rules, the_lemmas)

pub form-Fixed : (n : ℕ) (element : Box Shape Global) → form (Fixed n element) ≡ fixed None n (form element.value)
form-Fixed n element = search (rules, the_lemmas)

pub form-Struct : (width : Option Width) (ss : Vec Shape Global) → form (Struct width ss) ≡ «struct» width (forms ss.items)
form-Struct width ss = search (rules, the_lemmas)

pub data_of-Bool : (b : Bit) → data_of (BoolValue b) ≡ truth b
data_of-Bool b = search (rules, value_lemmas)

pub data_of-Uint : (n : ℕ) → data_of (Uint n) ≡ uint n
data_of-Uint n = search (rules, value_lemmas)

pub data_of-Int : (z : ℤ) → data_of (Int z) ≡ int z
data_of-Int z = search (rules, value_lemmas)

pub data_of-F32 : (bits : ℕ) → data_of (SingleValue bits) ≡ real single bits
data_of-F32 bits = search (rules, value_lemmas)

pub data_of-F64 : (bits : ℕ) → data_of (DoubleValue bits) ≡ real double bits
data_of-F64 bits = search (rules, value_lemmas)

pub data_of-List : (vs : Vec Value Global) → data_of (ListValue vs) ≡ list (data_of_all vs.items)
data_of-List vs = search (rules, value_lemmas)

pub data_of-Struct : (vs : Vec Value Global) → data_of (StructValue vs) ≡ tuple (data_of_all vs.items)
data_of-Struct vs = search (rules, value_lemmas)

-- each form is one level deep at least
pub some_depth : (f : Form) → 0 < depth f
some_depth (named n f) = some_depth f
some_depth (enumerated f labels) = some_depth f
some_depth (array width most element) = omega arith
some_depth (fixed width n element) = omega arith
some_depth («struct» width fs) = omega arith
some_depth (union width type vs) = omega arith
some_depth (tagged width ms) = omega arith
some_depth bool = omega arith
some_depth (unsigned order size) = omega arith
some_depth (signed order size) = omega arith
some_depth (float order p) = omega arith
some_depth (string encoding width) = omega arith
some_depth (padded encoding n) = omega arith
