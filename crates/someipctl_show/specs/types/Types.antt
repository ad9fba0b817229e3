-- What a types file says, as plain values.
use Rattle.std.specs.Prelude.{ℕ, ◌==◌, ◌&&◌, Bool, List, Option, find}
use Rattle.someip_wire.specs.declared.header.MessageType.{MessageType}
use Rattle.someip_wire.specs.declared.header.Header.{Header}
use Rattle.someip_wire.specs.Kinds.{kind_byte}
use Rattle.someip_payload_values.specs.Data.{Form}

-- the payload of the messages of a service, a method or event and a type has a form, and its value may have a name
pub record TypedMessageValue : Type 0 where
  pub service : ℕ
  pub method : ℕ
  pub kind : MessageType
  pub form : Form
  pub name : Option (List ℕ)

-- the tables of a types file
abbrev pub TypesValue : Type 0
TypesValue = List TypedMessageValue

-- a table names the messages with a header: service, method and type are the same
abbrev pub is_for : Header → TypedMessageValue → Bool
is_for h t = (h.service == t.service) && ((h.method == t.method) && (kind_byte h.kind == kind_byte t.kind))

-- the table that names the messages with a header, if there is one
abbrev pub table_for : TypesValue → Header → Option TypedMessageValue
table_for types h = find (is_for h) types
