-- The JSON tokens that are written of a value.
use Rattle.std.specs.Prelude.{◌≡◌, ℕ, Bool, true, false, List, [], ◌∷◌, ◌++◌, codes, decimal}
use Rattle.json.specs.Token.{Token}
use Rattle.json.specs.Tree.{json_tokens}
use Rattle.json.specs.Written.{Written}
use Rattle.someip_payload_values.specs.Data as values
use Rattle.someip_payload_values.specs.Data.{Form, Forms, Data, Slots, no_slots, present, absent}
use Rattle.someip_payload_values.specs.ToldText.{IsToldOf, AreToldOf, AreSlotsToldOf, SaysData}
use Rattle.someip_payload_values.specs.ValueText.{first_form, other_forms, first_member, other_members}
use Rattle.someipctl_io.specs.ValueObjects.{key_in, float_json, value_json}

-- some tokens are written behind others
pub record Adds (old new : Written) (added : List Token) : Type 0 where
  pub before : new.before ≡ old.before
  pub tokens : new.tokens ≡ old.tokens ++ added

-- tokens of a kind are written
abbrev pub AddsSome : Written → Written → (List Token → Type 0) → Type 0
AddsSome old new Says = (added : List Token) × Says added × Adds old new added

-- ---- what tokens say

-- a value of a form
abbrev pub SaysJson : Form → Data → List Token → Type 0
SaysJson f d added = (told : Data) × IsToldOf d told × (added ≡ json_tokens (value_json f told))

-- a float, by a text that says it
abbrev pub SaysFloat : Data → List Token → Type 0
SaysFloat d added = (text : List ℕ) × SaysData values.bool d text × (added ≡ json_tokens (float_json text))

-- the elements of an array without its brackets
abbrev pub element_tokens : Form → values.Items → List Token
element_tokens f values.no_items = []
element_tokens f (values.item d ds) = json_tokens (value_json f d) ++ element_tokens f ds

abbrev pub SaysElements : Form → values.Items → List Token → Type 0
SaysElements f ds added = (told : values.Items) × AreToldOf ds told × (added ≡ element_tokens f told)

-- the key of a member, where members have keys
abbrev pub key_tokens : Bool → Form → List Token
key_tokens true f = Token.key (key_in f) ∷ []
key_tokens false f = []

-- the members of a structure, with keys or without
abbrev pub member_tokens : Bool → Forms → values.Items → List Token
member_tokens named fs values.no_items = []
member_tokens named fs (values.item d ds) = key_tokens named (first_form fs) ++ (json_tokens (value_json (first_form fs) d) ++ member_tokens named (other_forms fs) ds)

abbrev pub SaysMembers : Bool → Forms → values.Items → List Token → Type 0
SaysMembers named fs ds added = (told : values.Items) × AreToldOf ds told × (added ≡ member_tokens named fs told)

-- the members of a tagged structure
abbrev pub slot_tokens : Bool → values.Members → Slots → List Token
slot_tokens named ms no_slots = []
slot_tokens named ms (present d ss) = key_tokens named (first_member ms) ++ (json_tokens (value_json (first_member ms) d) ++ slot_tokens named (other_members ms) ss)
slot_tokens named ms (absent ss) = key_tokens named (first_member ms) ++ (Token.null ∷ slot_tokens named (other_members ms) ss)

abbrev pub SaysSlots : Bool → values.Members → Slots → List Token → Type 0
SaysSlots named ms ss added = (told : Slots) × AreSlotsToldOf ss told × (added ≡ slot_tokens named ms told)

-- the brackets of a structure with keys or without
abbrev pub begin_token : Bool → Token
begin_token true = Token.begin_object
begin_token false = Token.begin_array

abbrev pub end_token : Bool → Token
end_token true = Token.end_object
end_token false = Token.end_array

-- tokens of a kind between brackets
abbrev pub Between : Bool → (List Token → Type 0) → List Token → Type 0
Between named Says added = (inner : List Token) × Says inner × (added ≡ begin_token named ∷ (inner ++ end_token named ∷ []))

-- a variant up to its value
abbrev pub variant_tokens : ℕ → List Token
variant_tokens kind = Token.begin_object ∷ Token.key (codes "variant") ∷ Token.number (decimal kind) ∷ Token.key (codes "value") ∷ []

-- a variant with its type number
abbrev pub SaysVariant : ℕ → (List Token → Type 0) → List Token → Type 0
SaysVariant kind Says added = (inner : List Token) × Says inner × (added ≡ variant_tokens kind ++ (inner ++ Token.end_object ∷ []))
