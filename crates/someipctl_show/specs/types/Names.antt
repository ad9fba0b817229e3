-- What the names of a types file stand for.
use Rattle.std.specs.Prelude.{◌≡◌, ℕ, ◌+◌, ◌-◌, ◌≤◌, ◌&&◌, if◌then◌else◌, Bool, true, codes, List, Option, Some, None}
use Rattle.std.specs.Option.{is_some}
use Rattle.toml.specs.Data.{Data, table, Members, no_members, member, get, as_table, as_str}
use Rattle.someip_payload_values.specs.Check.{depth, is_name}
use Rattle.someip_payload_values.specs.Data.{Form}
use Rattle.someip_payload.specs.Named.{NamedForms, form_named}
use Rattle.someip_payload.specs.ShapeText.{IsTextIn}
use Rattle.someipctl_show.specs.types.Keys.{◌>>=◌, text_at}
use Rattle.someipctl_show.specs.types.References.{references, IsOneOf, RefersFirst, Knows, written_out}

-- ---- the texts of names

-- each key is a name, and each value a text
abbrev pub are_texts : Members → Bool
are_texts no_members = true
are_texts (member key d ms) = (is_name key && is_some (as_str d)) && are_texts ms

-- the first member, by rising keys, of which this is not so
abbrev pub first_bad : Members → Option (List ℕ × Data)
first_bad no_members = None
first_bad (member key d ms) = if is_name key && is_some (as_str d) then first_bad ms else Some (key, d)

-- the table, if it has texts by names
abbrev pub only_texts : Members → Option Data
only_texts ms = if are_texts ms then Some (table ms) else None

-- the texts that were found, and none where the key is absent
abbrev pub texts_of : Option Data → Option Data
texts_of None = Some (table no_members)
texts_of (Some d) = as_table d >>= only_texts

-- the texts at the key `types` of a types file, by their names
abbrev pub types_at : Data → Option Data
types_at tree = texts_of (get (codes "types") tree)

-- ---- what names stand for

-- a name stands for a form: its text says the form by names that stand for what they stand for. At most 64 forms lie
-- inside each other
pub data StandsFor (types : Data) : List ℕ → Form → Type 0 where
  stands_for : (name text : List ℕ) (names : NamedForms) (f : Form) → text_at name types ≡ Some text
      → ((m : List ℕ) (g : Form) → form_named names m ≡ Some g → StandsFor types m g)
      → IsTextIn names f text → depth f ≤ 64 → StandsFor types name f

-- these names stand for these forms, each for no other
pub record AllStand (types : Data) (names : NamedForms) : Type 0 where
  pub stand : (n : List ℕ) (f : Form) → form_named names n ≡ Some f → StandsFor types n f
  pub only : (n : List ℕ) (f g : Form) → form_named names n ≡ Some f → StandsFor types n g → g ≡ f

-- these are all names
abbrev pub AreAll : Data → NamedForms → Type 0
AreAll types names = (n text : List ℕ) → text_at n types ≡ Some text → Knows names n

-- a name refers to a name, or to one that leads to it
pub data Leads (types : Data) : List ℕ → List ℕ → Type 0 where
  itself : (n : List ℕ) → Leads types n n
  onward : (n m k text : List ℕ) → text_at n types ≡ Some text → IsOneOf m (references text) → Leads types m k → Leads types n k

-- the same, each time by the first name that is none of these
pub data GoesDown (types : Data) (names : NamedForms) : List ℕ → List ℕ → Type 0 where
  arrived : (n : List ℕ) → GoesDown types names n n
  further : (n m k text : List ℕ) → text_at n types ≡ Some text → RefersFirst names text m → GoesDown types names m k → GoesDown types names n k

-- ---- how many forms are written out

-- the most forms that may be written out for names
abbrev pub most_written : ℕ
most_written = 65536

-- how many are written out in the text of a value
abbrev pub written_in : NamedForms → Option (List ℕ) → ℕ
written_in names None = 0
written_in names (Some text) = written_out names text

-- how many are written out in the texts of those names that stand for a form
abbrev pub written_by : NamedForms → Members → ℕ
written_by names no_members = 0
written_by names (member key d ms) = (if is_some (form_named names key) then written_in names (as_str d) else 0) + written_by names ms

abbrev pub written_now : NamedForms → Data → ℕ
written_now names (table ms) = written_by names ms
written_now names _ = 0

-- how many may still be written out after the texts of names
abbrev pub left_by : NamedForms → Data → ℕ
left_by names types = most_written - written_now names types

-- the names of a tree: all that there are, each with the form that it stands for, and not too many forms in all
pub record NamesOf (tree types : Data) (names : NamedForms) : Type 0 where
  pub texts : types_at tree ≡ Some types
  pub stand : AllStand types names
  pub all : AreAll types names
  pub few : written_now names types ≤ most_written
