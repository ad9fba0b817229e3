-- The lists at the keys of a table of TOML.
use Rattle.std.specs.Prelude.{ℕ, if◌then◌else◌, List, [], ◌∷◌, Option, Some, None, is_some, Bool}
use Rattle.std.specs.List.{list_all}
use Rattle.std.specs.Option.{option_map}
use Rattle.toml.specs.Data.{Data, Items, no_items, item, get, as_array, as_table, as_integer}
use Rattle.someip_world_setup_keys.specs.Keys.{◌>>=◌, within}

-- what is found at each element, if it is found at all of them
unfoldable pub found_at_each : {A B : Type 0} → (A → Option B) → List A → Option (List B)
found_at_each f [] = Some []
found_at_each f (x ∷ xs) = f x >>= λ y. found_at_each f xs >>= λ ys. Some (y ∷ ys)

-- the elements of an array
abbrev pub elements : Items → List Data
elements no_items = []
elements (item d ds) = d ∷ elements ds

abbrev pub as_list : Data → Option (List Data)
as_list d = option_map elements (as_array d)

-- the list, if each element is a table, or an integer
abbrev pub is_table : Data → Bool
is_table d = is_some (as_table d)

abbrev pub is_integer : Data → Bool
is_integer d = is_some (as_integer d)

abbrev pub only_tables : List Data → Option (List Data)
only_tables ds = if list_all is_table ds then Some ds else None

abbrev pub only_integers : List Data → Option (List Data)
only_integers ds = if list_all is_integer ds then Some ds else None

abbrev pub tables_of : Data → Option (List Data)
tables_of d = as_list d >>= only_tables

abbrev pub integers_of : Data → Option (List Data)
integers_of d = as_list d >>= only_integers

-- none where the key is absent
abbrev pub or_none : (Data → Option (List Data)) → Option Data → Option (List Data)
or_none f None = Some []
or_none f (Some d) = f d

abbrev pub tables_at : List ℕ → Data → Option (List Data)
tables_at key d = get key d >>= tables_of

abbrev pub tables_or_none : List ℕ → Data → Option (List Data)
tables_or_none key d = or_none tables_of (get key d)

abbrev pub integers_at : List ℕ → Data → Option (List Data)
integers_at key d = get key d >>= integers_of

abbrev pub integers_or_none : List ℕ → Data → Option (List Data)
integers_or_none key d = or_none integers_of (get key d)

-- the IDs of a list, each in a range
abbrev pub id_of : ℕ → ℕ → Data → Option ℕ
id_of low high d = as_integer d >>= within low high

abbrev pub ids_of : ℕ → ℕ → List Data → Option (List ℕ)
ids_of low high = found_at_each (id_of low high)
