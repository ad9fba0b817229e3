-- The tables of a types file.
use Rattle.std.specs.Prelude.{ℕ, Bool, not, ◌||◌, if◌then◌else◌, codes, bytes_eq, is_some, List, [], ◌∷◌, Option, Some, None}
use Rattle.std.specs.List.{list_all, list_any, position_from}
use Rattle.std.specs.Option.{option_map}
use Rattle.toml.specs.Data.{Data, Items, no_items, item, Members, no_members, member, get, as_array, as_table}
use Rattle.someipctl_show.specs.types.Keys.{◌>>=◌}

-- ---- lists of tables

-- the elements of an array
abbrev pub elements : Items → List Data
elements no_items = []
elements (item d ds) = d ∷ elements ds

abbrev pub as_list : Data → Option (List Data)
as_list d = option_map elements (as_array d)

abbrev pub is_table : Data → Bool
is_table d = is_some (as_table d)

-- the list, if each element is a table
abbrev pub only_tables : List Data → Option (List Data)
only_tables ds = if list_all is_table ds then Some ds else None

-- the tables that were found, and none where the key is absent
abbrev pub tables_of : Option Data → Option (List Data)
tables_of None = Some []
tables_of (Some d) = as_list d >>= only_tables

-- the tables at the key `message` of a types file, which may be absent
abbrev pub message_tables : Data → Option (List Data)
message_tables tree = tables_of (get (codes "message") tree)

-- ---- known keys

-- the keys that the file may have, and those of a table
abbrev pub file_keys : List (List ℕ)
file_keys = codes "message" ∷ codes "types" ∷ []

abbrev pub table_keys : List (List ℕ)
table_keys = codes "service" ∷ codes "method" ∷ codes "type" ∷ codes "shape" ∷ codes "name" ∷ []

-- the keys that a table has
abbrev pub keys_of_members : Members → List (List ℕ)
keys_of_members no_members = []
keys_of_members (member key d ms) = key ∷ keys_of_members ms

abbrev pub keys_in : Option Members → List (List ℕ)
keys_in None = []
keys_in (Some ms) = keys_of_members ms

-- a table has a key that is none of these
abbrev pub is_unknown : List (List ℕ) → List ℕ → Bool
is_unknown known key = not (list_any (bytes_eq key) known)

abbrev pub has_unknown : List (List ℕ) → Data → Bool
has_unknown known d = list_any (is_unknown known) (keys_in (as_table d))

-- a table has a key
abbrev pub has_key : List ℕ → Data → Bool
has_key key d = is_some (get key d)

-- the number of the first table that has a key, counted from 1
abbrev pub number_of : List ℕ → List Data → Option ℕ
number_of key ds = position_from (has_key key) 1 ds

abbrev pub or_empty : Option (List Data) → List Data
or_empty None = []
or_empty (Some ds) = ds

-- the file, or one of its tables, has a key that it may not have
abbrev pub has_unknown_key : Data → Bool
has_unknown_key tree = has_unknown file_keys tree || list_any (has_unknown table_keys) (or_empty (message_tables tree))
