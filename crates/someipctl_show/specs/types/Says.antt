-- What a types file says.
use Rattle.std.specs.Prelude.{ℕ, ◌-◌, ◌≤◌, ◌≡◌, false, codes, List, [], ◌∷◌, Option, Some, Ok, IsSomeAnd}
use Rattle.std.specs.Option.{option_map}
use Rattle.toml.specs.Data.{Data, table}
use Rattle.toml.specs.Parse.{parse_document}
use Rattle.someip_payload_values.specs.Data.{Form}
use Rattle.someip_payload_values.specs.Check.{checked}
use Rattle.someip_payload.specs.Named.{NamedForms}
use Rattle.someip_payload.specs.ShapeText.{IsTextIn}
use Rattle.someipctl_show.specs.types.Types.{TypedMessageValue, TypesValue}
use Rattle.someipctl_show.specs.types.GoodTypes.{has_clash}
use Rattle.someipctl_show.specs.types.Keys.{id_at, text_at, kind_at, label_at}
use Rattle.someipctl_show.specs.types.Names.{NamesOf, left_by, written_in}
use Rattle.someipctl_show.specs.types.References.{written_out}
use Rattle.someipctl_show.specs.types.Tables.{message_tables, has_unknown_key}

-- a text is that of a form, one that payloads can have, and so many forms may be written out for the names in it
pub record IsShapeText (names : NamedForms) (left : ℕ) (text : List ℕ) (f : Form) : Type 0 where
  pub few : written_out names text ≤ left
  pub says : IsTextIn names f text
  pub good : checked f ≡ Ok tt

-- the form whose text stands at the key `shape` of a table
abbrev pub SaysForm : NamedForms → ℕ → Data → Form → Type 0
SaysForm names left d f = (text : List ℕ) × (text_at (codes "shape") d ≡ Some text) × IsShapeText names left text f

-- what a table says: the values at its keys
pub record SaysTable (names : NamedForms) (left : ℕ) (d : Data) (t : TypedMessageValue) : Type 0 where
  pub service : id_at (codes "service") d ≡ Some t.service
  pub method : id_at (codes "method") d ≡ Some t.method
  pub kind : kind_at d ≡ Some t.kind
  pub form : SaysForm names left d t.form
  pub name : label_at d ≡ Some t.name

-- how many forms may still be written out after a table, and after tables
abbrev pub left_after : NamedForms → ℕ → Data → ℕ
left_after names left d = left - written_in names (text_at (codes "shape") d)

abbrev pub left_after_all : NamedForms → ℕ → List Data → ℕ
left_after_all names left [] = left
left_after_all names left (d ∷ ds) = left_after_all names (left_after names left d) ds

-- what tables say, each of them, where so many forms may be written out for names
abbrev pub SaysEach : NamedForms → ℕ → List Data → TypesValue → Type 0
SaysEach names left [] [] = Unit {0}
SaysEach names left (d ∷ ds) (t ∷ types) = SaysTable names left d t × SaysEach names (left_after names left d) ds types
SaysEach names left _ _ = ⊥

-- what the tables of a tree say, before keys and clashes are judged
abbrev pub SaysTables : NamedForms → ℕ → Data → TypesValue → Type 0
SaysTables names left tree types = (ds : List Data) × (message_tables tree ≡ Some ds) × SaysEach names left ds types

-- what a tree says: its tables do, by what the names of the tree stand for; each key is one of the format, and no two
-- tables name the same messages
pub record SaysTypes (tree : Data) (types : TypesValue) : Type 0 where
  pub texts : Data
  pub names : NamedForms
  pub named : NamesOf tree texts names
  pub tables : SaysTables names (left_by names texts) tree types
  pub known : has_unknown_key tree ≡ false
  pub apart : has_clash types ≡ false

-- the tree of a text, if it is TOML
abbrev pub tree_of : List ℕ → Option Data
tree_of text = option_map table (parse_document text)

-- what a text says
abbrev pub TextSays : List ℕ → TypesValue → Type 0
TextSays text types = IsSomeAnd (tree_of text) (λ tree. SaysTypes tree types)
