-- The fields of the line of the value of a message, as the members of an object.
use Rattle.std.specs.Prelude.{ℕ, ◌≡◌, ◌+◌, nat_lt, if◌then◌else◌, List, [], ◌∷◌, ◌++◌, length, codes, Option, Some, None, Result, Ok, Err}
use Rattle.someip_wire.specs.Spelling.{MessageValue}
use Rattle.someip_payload_values.specs.declared.error.PayloadError.{PayloadError}
use Rattle.someip_payload_values.specs.Data.{Form, Data}
use Rattle.someip_payload_values.specs.Names.{fault_name, fault_place}
use Rattle.someip_payload_values.specs.ToldText.{IsToldOf}
use Rattle.someip_payload_codec.specs.Reading.{decoded}
use Rattle.someipctl_io.specs.declared.form.Form.TheVariants.{Json}
use Rattle.someipctl_io.specs.ToldLines.{ToldField, field, field_text, fields_text, text as told_text, number, value}
use Rattle.someipctl_show.specs.types.Types.{TypedMessageValue, TypesValue, table_for}

-- the name of a value, if it has one
abbrev pub name_fields : Option (List ℕ) → List ToldField
name_fields None = []
name_fields (Some name) = field (codes " ") (codes "name") (told_text name) ∷ []

-- how many of the payload's bytes the value takes, where it does not take all
abbrev pub used_fields : ℕ → ℕ → List ToldField
used_fields used all = if nat_lt used all then field (codes " used ") (codes "used") (number used) ∷ field (codes " of ") (codes "of") (number all) ∷ [] else []

-- a told value that takes so many of all bytes
abbrev pub read_fields : Option (List ℕ) → Form → Data → ℕ → ℕ → List ToldField
read_fields name f told used all = name_fields name ++ (field (codes " ") (codes "value") (value f told) ∷ used_fields used all)

-- a fault, and its place in the datagram
abbrev pub fault_fields : List ℕ → ℕ → List ToldField
fault_fields name place = field (codes " fault ") (codes "fault") (told_text name) ∷ field (codes " at ") (codes "at") (number place) ∷ []

-- the fields of what is read of a payload, or of its first fault; a header of 16 bytes stands in front of the payload, at the place
abbrev pub AreDecodedFields : ℕ → Option (List ℕ) → Form → ℕ → Result (Data × ℕ) PayloadError → List ToldField → Type 0
AreDecodedFields place name f all (Ok (d, used)) fields = (told : Data) × IsToldOf d told × (fields ≡ read_fields name f told used all)
AreDecodedFields place name f all (Err fault) fields = fields ≡ fault_fields (fault_name fault) (place + 16 + fault_place fault)

-- the fields of a payload by the table that names its message, which begins at the place in its datagram
abbrev pub ArePayloadFields : TypedMessageValue → ℕ → List ℕ → List ToldField → Type 0
ArePayloadFields t place payload fields = AreDecodedFields place t.name t.form (length payload) (decoded t.form payload) fields

abbrev pub AreFieldsBy : Option TypedMessageValue → ℕ → List ℕ → List ToldField → Type 0
AreFieldsBy None place payload fields = fields ≡ []
AreFieldsBy (Some t) place payload fields = ArePayloadFields t place payload fields

-- the fields of the line of a message's value, in which that begins at the place: none where no table names it
abbrev pub AreValueFields : TypesValue → ℕ → MessageValue → List ToldField → Type 0
AreValueFields types place m fields = AreFieldsBy (table_for types m.header) place m.payload fields

-- the text of such fields
abbrev pub IsFieldsText : (List ToldField → Type 0) → List ℕ → Type 0
IsFieldsText Are text = (fields : List ToldField) × Are fields × (text ≡ fields_text Json fields)

-- the same behind another text
abbrev pub IsFieldsBehind : List ℕ → (List ToldField → Type 0) → List ℕ → Type 0
IsFieldsBehind before Are text = (fields : List ToldField) × Are fields × (text ≡ before ++ fields_text Json fields)

-- the field of a value behind another text
abbrev pub IsValueField : List ℕ → Form → Data → List ℕ → Type 0
IsValueField before f d text = (told : Data) × IsToldOf d told × (text ≡ before ++ field_text Json (field (codes " ") (codes "value") (value f told)))
