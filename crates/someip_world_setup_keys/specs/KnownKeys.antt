-- The keys that the tables of a setup may have.
use Rattle.std.specs.Prelude.{ℕ, Bool, not, ◌||◌, codes, bytes_eq, List, [], ◌∷◌, Option, None, Some}
use Rattle.std.specs.List.{list_any, flat_map}
use Rattle.toml.specs.Data.{Data, Members, no_members, member, get, as_table}
use Rattle.someip_world_setup_keys.specs.declared.unknown.Subject.{Subject}
use Rattle.someip_world_setup_keys.specs.declared.unknown.Subject.TheVariants as subjects
use Rattle.someip_world_setup_keys.specs.Lists.{as_list}

-- the keys that a table about each subject may have
abbrev pub known_keys : Subject → List (List ℕ)
known_keys subjects.Setup =
    codes "group" ∷ codes "initial_min" ∷ codes "initial_max" ∷ codes "base" ∷ codes "repetitions" ∷ codes "cyclic"
    ∷ codes "message_limit" ∷ codes "slots" ∷ codes "peers" ∷ codes "reassembly_timeout" ∷ codes "call_timeout" ∷ codes "node" ∷ []
known_keys subjects.Node = codes "name" ∷ codes "address" ∷ codes "client_id" ∷ codes "client_port" ∷ codes "delay" ∷ codes "liar" ∷ codes "offer" ∷ codes "want" ∷ []
known_keys subjects.Offer =
    codes "service" ∷ codes "instance" ∷ codes "major" ∷ codes "minor" ∷ codes "ttl" ∷ codes "port"
    ∷ codes "methods" ∷ codes "oneways" ∷ codes "events" ∷ codes "subscribers" ∷ []
known_keys subjects.Want = codes "service" ∷ codes "instance" ∷ codes "major" ∷ codes "ttl" ∷ codes "groups" ∷ []
known_keys subjects.Event = codes "id" ∷ codes "groups" ∷ []
known_keys subjects.Eventgroup = codes "id" ∷ codes "events" ∷ []

abbrev pub is_known_key : Subject → List ℕ → Bool
is_known_key subject key = list_any (bytes_eq key) (known_keys subject)

-- the keys that a table has
abbrev pub keys_of_members : Members → List (List ℕ)
keys_of_members no_members = []
keys_of_members (member key d ms) = key ∷ keys_of_members ms

abbrev pub keys_in : Option Members → List (List ℕ)
keys_in None = []
keys_in (Some ms) = keys_of_members ms

abbrev pub keys_of : Data → List (List ℕ)
keys_of d = keys_in (as_table d)

-- a table has a key that one about its subject may not have
abbrev pub has_unknown : Subject → Data → Bool
has_unknown subject d = list_any (λ key. not (is_known_key subject key)) (keys_of d)

-- the elements of the list at a key of a table, and those of several tables
abbrev pub or_empty : Option (List Data) → List Data
or_empty None = []
or_empty (Some ds) = ds

abbrev pub elements_of : Option Data → List Data
elements_of None = []
elements_of (Some d) = or_empty (as_list d)

abbrev pub listed_at : List ℕ → Data → List Data
listed_at key d = elements_of (get key d)

abbrev pub listed_in : List ℕ → List Data → List Data
listed_in key ds = flat_map (listed_at key) ds

-- the tables of a setup
abbrev pub listed_nodes : Data → List Data
listed_nodes tree = listed_at (codes "node") tree

abbrev pub listed_offers : Data → List Data
listed_offers tree = listed_in (codes "offer") (listed_nodes tree)

abbrev pub listed_wants : Data → List Data
listed_wants tree = listed_in (codes "want") (listed_nodes tree)

abbrev pub listed_events : Data → List Data
listed_events tree = listed_in (codes "events") (listed_offers tree)

abbrev pub listed_eventgroups : Data → List Data
listed_eventgroups tree = listed_in (codes "groups") (listed_wants tree)

-- one of the tables has a key that it may not have
abbrev pub has_unknown_key : Data → Bool
has_unknown_key tree =
    has_unknown subjects.Setup tree
    || list_any (has_unknown subjects.Node) (listed_nodes tree)
    || list_any (has_unknown subjects.Offer) (listed_offers tree)
    || list_any (has_unknown subjects.Want) (listed_wants tree)
    || list_any (has_unknown subjects.Event) (listed_events tree)
    || list_any (has_unknown subjects.Eventgroup) (listed_eventgroups tree)
