-- The line of the value of a message.
use Rattle.std.specs.Prelude.{ℕ, ◌≡◌, ◌+◌, Bool, true, false, nat_lt, if◌then◌else◌, List, [], ◌++◌, length, codes, decimal, Option, Some, None, Result, Ok, Err}
use Rattle.someip_wire.specs.declared.header.Header.{Header}
use Rattle.someip_wire.specs.Spelling.{MessageValue}
use Rattle.someip_payload_values.specs.declared.error.PayloadError.{PayloadError}
use Rattle.someip_payload_values.specs.Data.{Form, Data}
use Rattle.someip_payload_values.specs.ToldText.{SaysData, has_float}
use Rattle.someip_payload_values.specs.Names.{fault_name, fault_place}
use Rattle.someip_payload_codec.specs.Reading.{decoded}
use Rattle.someipctl_show.specs.types.Types.{TypedMessageValue, TypesValue, table_for}

-- a name in front of a text, if there is one
abbrev pub name_text : Option (List ℕ) → List ℕ
name_text None = []
name_text (Some name) = name ++ codes " "

-- how many of the payload's bytes the value takes, where it does not take all
abbrev pub used_text : ℕ → ℕ → List ℕ
used_text used all = if nat_lt used all then codes " used " ++ decimal used ++ codes " of " ++ decimal all else []

-- the line of a value, told in this text, that takes so many of all bytes, in the k-th datagram
abbrev pub read_line : ℕ → Option (List ℕ) → List ℕ → ℕ → ℕ → List ℕ
read_line k name told used all = decimal k ++ codes " value " ++ name_text name ++ told ++ used_text used all ++ codes "\n"

-- the line of a fault at a place of the k-th datagram
abbrev pub fault_line : ℕ → List ℕ → ℕ → List ℕ
fault_line k name place = decimal k ++ codes " value fault " ++ name ++ codes " at " ++ decimal place ++ codes "\n"

-- a line of a value of a form that takes so many of all bytes
abbrev pub IsReadLine : ℕ → Option (List ℕ) → Form → Data → ℕ → ℕ → List ℕ → Type 0
IsReadLine k name f d used all line = (told : List ℕ) × SaysData f d told × (line ≡ read_line k name told used all)

-- a line of what is read of a payload, or the line of its first fault; a header of 16 bytes stands in front of the payload,
-- at the place
abbrev pub IsDecodedLine : ℕ → ℕ → Option (List ℕ) → Form → ℕ → Result (Data × ℕ) PayloadError → List ℕ → Type 0
IsDecodedLine k place name f all (Ok (d, used)) line = IsReadLine k name f d used all line
IsDecodedLine k place name f all (Err fault) line = line ≡ fault_line k (fault_name fault) (place + 16 + fault_place fault)

-- a line of a payload by the table that names its message, in the k-th datagram, in which the message begins at the place
abbrev pub IsPayloadLine : TypedMessageValue → ℕ → ℕ → List ℕ → List ℕ → Type 0
IsPayloadLine t k place payload line = IsDecodedLine k place t.name t.form (length payload) (decoded t.form payload) line

-- what was read is a fault
abbrev pub is_fault : Result (Data × ℕ) PayloadError → Bool
is_fault (Ok read) = false
is_fault (Err fault) = true

abbrev pub IsLineBy : Option TypedMessageValue → ℕ → ℕ → List ℕ → List ℕ → Type 0
IsLineBy None k place payload line = line ≡ []
IsLineBy (Some t) k place payload line = IsPayloadLine t k place payload line

abbrev pub fault_by : Option TypedMessageValue → List ℕ → Bool
fault_by None payload = false
fault_by (Some t) payload = is_fault (decoded t.form payload)

-- a line of a message of the k-th datagram, in which it begins at the place: an empty one where no table names it
abbrev pub IsValueLine : TypesValue → ℕ → ℕ → MessageValue → List ℕ → Type 0
IsValueLine types k place m line = IsLineBy (table_for types m.header) k place m.payload line

-- a table names the message, and its payload has a fault
abbrev pub has_value_fault : TypesValue → MessageValue → Bool
has_value_fault types m = fault_by (table_for types m.header) m.payload

-- by no table is a payload read as a value with a float in it
abbrev pub TellNoFloats : TypesValue → Type 0
TellNoFloats types = (h : Header) (t : TypedMessageValue) (payload : List ℕ) (d : Data) (used : ℕ) → table_for types h ≡ Some t → decoded t.form payload ≡ Ok (d, used) → has_float d ≡ false
