-- What shapes and values stand for.
use Rattle.std.specs.Prelude.{ℕ, ℤ, Bool, List, [], ◌∷◌, map, Option, Some, None, Box, String, string_bytes}
use Rattle.std.specs.declared.alloc.Global.{Global}
use Rattle.someip_payload_values.specs.Data.{Form, bool, unsigned, signed, float, string, padded, array, fixed, «struct», union, tagged, named, enumerated, Forms, no_forms, form_then, Variants, no_variants, variant, Members, no_members, member_then, Data, truth, uint, int, real, phrase, list, tuple, nothing, chosen, slotted, Items, no_items, item, Slots, no_slots, present, absent}
use Rattle.someip_payload_values.specs.Floats.{single, double}
use Rattle.someip_payload_values.specs.declared.number.Order.TheVariants.{Big, Little}
use Rattle.someip_payload_values.specs.declared.shape.Width.TheVariants.{W32}
use Rattle.someip_payload_values.specs.declared.number.Size.TheVariants.{S8, S16, S32, S64}
use Rattle.someip_payload_values.specs.declared.shape.Shape.{Shape, fold-Shape}
use Rattle.someip_payload_values.specs.declared.shape.Shape.TheOpen.{Shape-F, Member-F}
use Rattle.someip_payload_values.specs.declared.shape.Member.{Member, fold-Member}
use Rattle.someip_payload_values.specs.declared.value.Value.{Value, fold-Value}
use Rattle.someip_payload_values.specs.declared.value.Value.TheOpen.{Value-F}

abbrev pub forms_of : List Form → Forms
forms_of [] = no_forms
forms_of (f ∷ fs) = form_then f (forms_of fs)

abbrev pub variants_of : List (ℕ × Form) → Variants
variants_of [] = no_variants
variants_of (v ∷ vs) = variant v.0 v.1 (variants_of vs)

-- a member of a tagged structure: its Data ID, whether it may be absent, and its form
pub record OneMember : Type 0 where
  pub id : ℕ
  pub optional : Bool
  pub form : Form

abbrev pub members_of : List OneMember → Members
members_of [] = no_members
members_of (m ∷ ms) = member_then m.id m.optional m.form (members_of ms)

abbrev pub as_items : List Data → Items
as_items [] = no_items
as_items (d ∷ ds) = item d (as_items ds)

abbrev pub as_slots : List (Option Data) → Slots
as_slots [] = no_slots
as_slots (Some d ∷ ds) = present d (as_slots ds)
as_slots (None ∷ ds) = absent (as_slots ds)

-- the values that have a name, each with it
abbrev pub labels_of : List (ℤ × String Global) → List (ℤ × List ℕ)
labels_of labels = map (λ l. (l.0, string_bytes l.1)) labels

-- one level, with each shape inside already seen
abbrev pub form_step : Shape-F Form OneMember → Form
form_step Shape-F.Bool = bool
form_step Shape-F.U8 = unsigned Big S8
form_step Shape-F.U16 = unsigned Big S16
form_step Shape-F.U32 = unsigned Big S32
form_step Shape-F.U64 = unsigned Big S64
form_step Shape-F.I8 = signed Big S8
form_step Shape-F.I16 = signed Big S16
form_step Shape-F.I32 = signed Big S32
form_step Shape-F.I64 = signed Big S64
form_step Shape-F.U16Le = unsigned Little S16
form_step Shape-F.U32Le = unsigned Little S32
form_step Shape-F.U64Le = unsigned Little S64
form_step Shape-F.I16Le = signed Little S16
form_step Shape-F.I32Le = signed Little S32
form_step Shape-F.I64Le = signed Little S64
form_step Shape-F.F32 = float Big single
form_step Shape-F.F64 = float Big double
form_step Shape-F.F32Le = float Little single
form_step Shape-F.F64Le = float Little double
form_step (Shape-F.Text encoding w) = string encoding w
form_step (Shape-F.FixedText encoding n) = padded encoding n
form_step (Shape-F.Array w max f) = array w max f.value
form_step (Shape-F.Fixed n f) = fixed None n f.value
form_step (Shape-F.FramedFixed w n f) = fixed (Some w) n f.value
form_step (Shape-F.Struct w fs) = «struct» w (forms_of fs.items)
form_step (Shape-F.Union vs) = union W32 W32 (variants_of vs.items)
form_step (Shape-F.SizedUnion w t vs) = union w t (variants_of vs.items)
form_step (Shape-F.Tagged w ms) = tagged w (members_of ms.items)
form_step (Shape-F.Named name f) = named (string_bytes name) f.value
form_step (Shape-F.Enum f labels) = enumerated f.value (labels_of labels.items)

abbrev pub member_step : Member-F Form OneMember → OneMember
member_step m = record { id = m.id; optional = m.is_optional; form = m.shape }

-- what a shape stands for
abbrev pub form : Shape → Form
form = fold-Shape Form OneMember form_step member_step

abbrev pub one_member : Member → OneMember
one_member = fold-Member Form OneMember form_step member_step

abbrev pub forms : List Shape → Forms
forms ss = forms_of (map form ss)

abbrev pub all_variants : List (ℕ × Shape) → Variants
all_variants vs = variants_of (map (λ v. (v.0, form v.1)) vs)

abbrev pub all_members : List Member → Members
all_members ms = members_of (map one_member ms)

abbrev pub data_step : Value-F Data → Data
data_step (Value-F.Bool b) = truth b
data_step (Value-F.Uint n) = uint n
data_step (Value-F.Int z) = int z
data_step (Value-F.F32 bits) = real single bits
data_step (Value-F.F64 bits) = real double bits
data_step (Value-F.Text s) = phrase (string_bytes s)
data_step (Value-F.List ds) = list (as_items ds.items)
data_step (Value-F.Struct ds) = tuple (as_items ds.items)
data_step (Value-F.Union None) = nothing
data_step (Value-F.Union (Some v)) = chosen v.0 v.1.value
data_step (Value-F.Tagged ds) = slotted (as_slots ds.items)

-- what a value stands for
abbrev pub data_of : Value → Data
data_of = fold-Value Data data_step

abbrev pub data_of_choice : Option (ℕ × Box Value Global) → Data
data_of_choice None = nothing
data_of_choice (Some v) = chosen v.0 (data_of v.1.value)

abbrev pub data_of_all : List Value → Items
data_of_all vs = as_items (map data_of vs)

abbrev pub slot_of : Option Value → Option Data
slot_of None = None
slot_of (Some v) = Some (data_of v)

abbrev pub slots_of : List (Option Value) → Slots
slots_of vs = as_slots (map slot_of vs)
