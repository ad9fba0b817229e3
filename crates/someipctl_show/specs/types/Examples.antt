-- Types, messages and trees, for laws by example.
use Rattle.std.specs.Prelude.{◌≡◌, ◌↔◌, pos, ℕ, codes, List, [], ◌∷◌, ◌++◌, Option, Some, None}
use Rattle.toml.specs.Data.{string, integer, Data, array, table, no_items, item, no_members, member}
use Rattle.someip_wire.specs.declared.header.MessageType.{MessageType}
use Rattle.someip_wire.specs.declared.header.MessageType.TheVariants.{Notification}
use Rattle.someip_wire.specs.Spelling.{MessageValue}
use Rattle.someip_payload_values.specs.Data.{«struct», named, enumerated, float, u8, u16, no_forms, form_then}
use Rattle.someip_payload_values.specs.declared.number.Order.TheVariants.{Big}
use Rattle.someip_payload_values.specs.Floats.{single}
use Rattle.someipctl_show.specs.types.Types.{TypedMessageValue, TypesValue}
use Rattle.someipctl_show.specs.types.ValueLine.{IsValueLine}

-- messages of a type with the Message ID 1234 8001, whose payload is a number of 16 bits and one of 8
abbrev pub speed_of : MessageType → Option (List ℕ) → TypedMessageValue
speed_of kind name = record { service = 0x1234; method = 0x8001; kind = kind; form = «struct» None (form_then u16 (form_then u8 no_forms)); name = name }

-- events are such, and their value is called speed
abbrev pub speed_types : TypesValue
speed_types = speed_of Notification (Some (codes "speed")) ∷ []

-- the same with names of the members, and of two numbers of the second
abbrev pub named_types : TypesValue
named_types = record {
  service = 0x1234;
  method = 0x8001;
  kind = Notification;
  name = Some (codes "speed");
  form = «struct» None (form_then (named (codes "speed") u16) (
      form_then (named (codes "gear") (enumerated u8 ((pos 0, codes "P") ∷ ((pos 3, codes "D") ∷ [])))) no_forms));
} ∷ []

-- a message of a type with a Message ID and a payload
abbrev pub message_with : MessageType → ℕ → List ℕ → MessageValue
message_with kind method payload = record {
  header = record { service = 0x1234; method = method; client = 0; session = 1; interface = 1; kind = kind; code = record { 0 = 0 } };
  payload = payload;
}

-- the event with a payload
abbrev pub event_with : List ℕ → MessageValue
event_with payload = message_with Notification 0x8001 payload

-- ---- trees

-- a file of one key, and one of a table of messages with one key
abbrev pub keyed : List ℕ → Data → Data
keyed key d = table (member key d no_members)

abbrev pub file_with : Data → Data
file_with d = keyed (codes "message") (array (item d no_items))

-- the table that says the types above, by rising keys
abbrev pub speed_data : Data
speed_data = table (
    member (codes "method") (integer (pos 0x8001)) (
    member (codes "name") (string (codes "speed")) (
    member (codes "service") (integer (pos 0x1234)) (
    member (codes "shape") (string (codes "struct(u16,u8)")) (
    member (codes "type") (string (codes "NOTIFICATION")) no_members)))))

-- ---- texts

abbrev pub line : List ℕ → List ℕ
line text = text ++ 10 ∷ []

-- the text of those types, and some further line
abbrev pub speed_text : List ℕ → List ℕ
speed_text more =
    line (codes "[[message]]") ++ line (codes "service = 0x1234") ++ line (codes "method = 0x8001") ++ line (codes "type = \"NOTIFICATION\"")
    ++ line (codes "shape = \"struct(u16,u8)\"") ++ line (codes "name = \"speed\"") ++ more

-- events are a float in 32 bits, without a name
abbrev pub float_types : TypesValue
float_types = record { service = 0x1234; method = 0x8001; kind = Notification; form = float Big single; name = None } ∷ []

-- the message has this line of its value, and no other
abbrev pub IsOnlyLine : TypesValue → ℕ → ℕ → MessageValue → List ℕ → Type 0
IsOnlyLine types k place m text = (line : List ℕ) → (IsValueLine types k place m line ↔ (line ≡ text))
