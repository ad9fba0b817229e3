-- The faults of a types file, and where they are.
use Rattle.std.specs.Prelude.{ℕ, suc, ◌+◌, ◌<◌, ◌≤◌, ◌⊎◌, ◌≡◌, true, false, codes, List, ◌∷◌, ◌++◌, length, Option, Some, None, Result, Ok, Err, IsSomeAnd, string_bytes}
use Rattle.std.specs.List.{list_any}
use Rattle.toml.specs.Data.{Data, Members, get, as_str, as_table}
use Rattle.someip_payload_values.specs.Check.{depth, is_name}
use Rattle.someip_payload_values.specs.Data.{Form}
use Rattle.someip_payload.specs.Named.{NamedForms, form_named}
use Rattle.someip_payload.specs.ShapeText.{IsTextIn}
use Rattle.someipctl_show.specs.declared.types.key_error.KeyError.{KeyError}
use Rattle.someipctl_show.specs.declared.types.key_error.KeyError.TheVariants as parts
use Rattle.someipctl_show.specs.declared.types.error.TypesError.{TypesError}
use Rattle.someipctl_show.specs.declared.types.error.TypesError.TheVariants.{NotToml, File, Types, Named, Message, OutOfMemory}
use Rattle.someipctl_show.specs.types.Types.{TypedMessageValue, TypesValue}
use Rattle.someipctl_show.specs.types.GoodTypes.{same_messages, has_clash}
use Rattle.someipctl_show.specs.types.Keys.{FailsBy, id_at, kind_at, label_at, text_at}
use Rattle.someipctl_show.specs.types.Names.{AllStand, GoesDown, first_bad, Leads, NamesOf, left_by, most_written, types_at, written_now}
use Rattle.someipctl_show.specs.types.References.{KnowsAll, RefersFirst, references, written_out}
use Rattle.someipctl_show.specs.types.Says.{SaysForm, SaysEach, left_after_all}
use Rattle.someipctl_show.specs.types.Tables.{message_tables, file_keys, table_keys, is_table, is_unknown, has_unknown, has_key, keys_in, number_of}

-- ---- one table

-- there is no form of this kind, which the key `shape` is told of
abbrev pub NoForm : (Form → Type 0) → List ℕ → Type 0
NoForm Says key = (key ≡ codes "shape") × ((f : Form) → Says f → ⊥)

-- a table says nothing at a key, where so many forms may be written out for names
pub data FailsAt (names : NamedForms) (left : ℕ) (d : Data) : List ℕ → Type 0 where
  no_service : id_at (codes "service") d ≡ None → FailsAt names left d (codes "service")
  no_method : id_at (codes "method") d ≡ None → FailsAt names left d (codes "method")
  no_type : kind_at d ≡ None → FailsAt names left d (codes "type")
  no_shape : ((f : Form) → SaysForm names left d f → ⊥) → FailsAt names left d (codes "shape")
  no_name : label_at d ≡ None → FailsAt names left d (codes "name")

-- a table has no unknown key, or has this one
abbrev pub IsUnknownIn : List (List ℕ) → Data → Option (List ℕ) → Type 0
IsUnknownIn known d None = has_unknown known d ≡ false
IsUnknownIn known d (Some key) = (is_unknown known key ≡ true) × (has_key key d ≡ true)

-- no table has an unknown key, or one has this one
abbrev pub IsUnknownAmong : List Data → Option (List ℕ) → Type 0
IsUnknownAmong ds None = list_any (has_unknown table_keys) ds ≡ false
IsUnknownAmong ds (Some key) = (is_unknown table_keys key ≡ true) × (list_any (has_key key) ds ≡ true)

-- ---- one of the tables

-- the n-th of all, counted from 1, after those before it
abbrev pub IsNth : {A : Type 0} → ℕ → List A → A → List A → Type 0
IsNth n before x all = (n ≡ suc (length before)) × ((rest : List _) × (all ≡ before ++ x ∷ rest))

-- what is told of the text of a shape: it refers to this name, which stands for no form, after names that do; or else too
-- many forms would be written out; or all that it refers to stand for forms
abbrev pub TextTold : NamedForms → ℕ → List ℕ → KeyError → Type 0
TextTold names left text (parts.Unknown key) = RefersFirst names text (string_bytes key) × (form_named names (string_bytes key) ≡ None)
TextTold names left text parts.TooMany = KnowsAll names (references text) × (left < written_out names text)
TextTold names left text (parts.BadText place) = KnowsAll names (references text)
TextTold names left text parts.BadShape = KnowsAll names (references text)
TextTold names left text error = Unit {0}

abbrev pub ShapeTold : NamedForms → ℕ → Data → KeyError → Type 0
ShapeTold names left d error = (text : List ℕ) → text_at (codes "shape") d ≡ Some text → TextTold names left text error

-- the n-th table says nothing at the key that is told, and each before it says something
abbrev pub FirstFails : NamedForms → ℕ → List Data → ℕ → KeyError → Type 0
FirstFails names left ds n error =
    (before : List Data) × (d : Data) × IsNth n before d ds × ((types : TypesValue) × SaysEach names left before types)
    × FailsBy (FailsAt names (left_after_all names left before) d) error × ShapeTold names (left_after_all names left before) d error

-- the n-th table is the first that has the key that is told, which no table may have
abbrev pub FirstHasUnknown : List Data → ℕ → KeyError → Type 0
FirstHasUnknown ds n (parts.UnknownKey key) = (is_unknown table_keys (string_bytes key) ≡ true) × (number_of (string_bytes key) ds ≡ Some n)
FirstHasUnknown ds n error = ⊥

-- the n-th table names the same messages as one before it, and no two before it do
abbrev pub FirstClashes : TypesValue → ℕ → KeyError → Type 0
FirstClashes types n parts.Clash = (before : TypesValue) × (t : TypedMessageValue) × IsNth n before t types × (list_any (λ s. same_messages s t) before ≡ true) × (has_clash before ≡ false)
FirstClashes types n error = ⊥

-- an error tells the number of a table for which this holds, or that memory ran out
abbrev pub TellsTable : (ℕ → KeyError → Type 0) → TypesError → Type 0
TellsTable Fails (Message n error) = Fails n error
TellsTable Fails OutOfMemory = Unit {0}
TellsTable Fails error = ⊥

-- an error of the n-th table
abbrev pub in_message : ℕ → KeyError → TypesError
in_message n parts.OutOfMemory = OutOfMemory
in_message n error = Message n error

-- ---- names

-- the text of a name is written out as too many forms: where just these names stand for forms, and all that it refers to
-- are among them, more than may be are written out with it
pub record WritesTooMany (types : Data) (names : NamedForms) (name : List ℕ) : Type 0 where
  pub text : List ℕ
  pub is : text_at name types ≡ Some text
  pub known : KnowsAll names (references text)
  pub new : form_named names name ≡ None
  pub many : most_written < written_now names types + written_out names text

-- all that the text of a name refers to stand for forms, and yet it is the text of no form
pub record SaysNoForm (types : Data) (names : NamedForms) (name : List ℕ) : Type 0 where
  pub text : List ℕ
  pub is : text_at name types ≡ Some text
  pub known : KnowsAll names (references text)
  pub none : (f : Form) → IsTextIn names f text → depth f ≤ 64 → ⊥

-- the text of a name has the fault that is told, where these names stand for forms: after some of them it refers to a name
-- that has no text, or to one that leads back to it; or it is written out as too many forms, or is the text of none
abbrev pub TextFails : Data → NamedForms → List ℕ → KeyError → Type 0
TextFails types names name (parts.Unknown key) =
    (text : List ℕ) × (text_at name types ≡ Some text) × RefersFirst names text (string_bytes key) × (text_at (string_bytes key) types ≡ None)
TextFails types names name (parts.Cycle key) =
    (text : List ℕ) × (text_at name types ≡ Some text) × RefersFirst names text (string_bytes key) × Leads types (string_bytes key) name
TextFails types names name parts.TooMany = WritesTooMany types names name
TextFails types names name (parts.BadText place) = SaysNoForm types names name
TextFails types names name error = ⊥

-- the text of a name has the fault that is told, and none has one before it: the first name, by rising bytes, that is none of
-- some names that stand for forms, goes down to it
pub record FailsFirst (types : Data) (name : List ℕ) (error : KeyError) : Type 0 where
  pub names : NamedForms
  pub stand : AllStand types names
  pub key : List ℕ
  pub before : List (List ℕ)
  pub after : List (List ℕ)
  pub is : keys_in (as_table types) ≡ before ++ key ∷ after
  pub known : KnowsAll names before
  pub down : GoesDown types names key name
  pub fails : TextFails types names name error

-- of a table the first member that is no text by a name has this key, which is no name
abbrev pub IsFirstNoName : Members → List ℕ → Type 0
IsFirstNoName ms key = (d : Data) × (first_bad ms ≡ Some (key, d)) × (is_name key ≡ false)

-- it has this name, and its value is no text
abbrev pub IsFirstNoText : Members → List ℕ → Type 0
IsFirstNoText ms name = (d : Data) × (first_bad ms ≡ Some (name, d)) × (is_name name ≡ true) × (as_str d ≡ None)

-- the table of names in a tree
abbrev pub HasTypes : Data → Members → Type 0
HasTypes tree ms = (types : Data) × (get (codes "types") tree ≡ Some types) × (as_table types ≡ Some ms)

-- a name has the fault that is told: its value is the first that is no text, or its text has it
abbrev pub NameFails : Data → List ℕ → KeyError → Type 0
NameFails tree name (parts.WrongKind key) = (key.now ≡ codes "shape") × ((ms : Members) × HasTypes tree ms × IsFirstNoText ms name)
NameFails tree name error = (types : Data) × (types_at tree ≡ Some types) × FailsFirst types name error

-- the table of names has this key as the first that is no name
abbrev pub NamesFail : Data → KeyError → Type 0
NamesFail tree (parts.UnknownKey key) = (ms : Members) × HasTypes tree ms × IsFirstNoName ms (string_bytes key)
NamesFail tree error = ⊥

-- the value at `types` is no table
abbrev pub HasNoTypes : Data → Type 0
HasNoTypes tree = (d : Data) × (get (codes "types") tree ≡ Some d) × (is_table d ≡ false)

-- the names of a tree have the fault that is told, or memory ran out
abbrev pub NamesHaveFault : Data → TypesError → Type 0
NamesHaveFault tree (File (parts.WrongKind key)) = (key.now ≡ codes "types") × HasNoTypes tree
NamesHaveFault tree (Types error) = NamesFail tree error
NamesHaveFault tree (Named name error) = NameFails tree (string_bytes name) error
NamesHaveFault tree OutOfMemory = Unit {0}
NamesHaveFault tree error = ⊥

-- ---- the file

-- the file, or the n-th of its tables as the first, has the key that is told, which it may not have; or memory ran out
abbrev pub TellsUnknown : Data → List Data → TypesError → Type 0
TellsUnknown tree ds (File (parts.UnknownKey key)) = IsUnknownIn file_keys tree (Some (string_bytes key))
TellsUnknown tree ds (Message n error) = FirstHasUnknown ds n error
TellsUnknown tree ds OutOfMemory = Unit {0}
TellsUnknown tree ds error = ⊥

-- the file itself has the fault that is told: `types` is no table, or `message` is no list of tables, or it has this key,
-- which it may not have
abbrev pub FileFails : Data → KeyError → Type 0
FileFails tree (parts.WrongKind key) = ((key.now ≡ codes "types") × HasNoTypes tree) ⊎ ((key.now ≡ codes "message") × (message_tables tree ≡ None))
FileFails tree (parts.UnknownKey key) = IsUnknownIn file_keys tree (Some (string_bytes key))
FileFails tree error = ⊥

-- the n-th of the tables has the fault that is told: a key that it may not have, or messages that are named before, or else
-- it says nothing at a key
abbrev pub TableFails : NamedForms → ℕ → List Data → ℕ → KeyError → Type 0
TableFails names left ds n (parts.UnknownKey key) = FirstHasUnknown ds n (parts.UnknownKey key)
TableFails names left ds n parts.Clash = (types : TypesValue) × SaysEach names left ds types × FirstClashes types n parts.Clash
TableFails names left ds n error = FirstFails names left ds n error

-- the n-th of the tables of a tree has the fault that is told, by what its names stand for
pub record MessageFails (tree : Data) (n : ℕ) (error : KeyError) : Type 0 where
  pub texts : Data
  pub names : NamedForms
  pub named : NamesOf tree texts names
  pub tables : List Data
  pub listed : message_tables tree ≡ Some tables
  pub fails : TableFails names (left_by names texts) tables n error

-- a tree has the fault that is told, or memory ran out
abbrev pub HasFault : Data → TypesError → Type 0
HasFault tree NotToml = ⊥
HasFault tree (File error) = FileFails tree error
HasFault tree (Types error) = NamesFail tree error
HasFault tree (Named name error) = NameFails tree (string_bytes name) error
HasFault tree (Message n error) = MessageFails tree n error
HasFault tree OutOfMemory = Unit {0}

-- the same of a text, which is no TOML where the error says so
abbrev pub TextHasFault : Option Data → TypesError → Type 0
TextHasFault tree NotToml = tree ≡ None
TextHasFault tree OutOfMemory = Unit {0}
TextHasFault tree error = IsSomeAnd tree (λ d. HasFault d error)

-- ---- what is read

-- these types were read, unless memory ran out
abbrev pub IsReadUnlessMemory : TypesValue → Result TypesValue TypesError → Type 0
IsReadUnlessMemory types (Ok read) = read ≡ types
IsReadUnlessMemory types (Err OutOfMemory) = Unit {0}
IsReadUnlessMemory types (Err error) = ⊥
