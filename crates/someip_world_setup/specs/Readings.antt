-- What a text says.
use Rattle.std.specs.Prelude.{◌≡◌, ℕ, true, List, map, if◌then◌else◌, Option, Some, None, IsSomeAnd}
use Rattle.std.specs.Option.{option_map}
use Rattle.toml.specs.Data.{Data, table}
use Rattle.toml.specs.Parse.{parse_document}
use Rattle.someip_world_setup_keys.specs.declared.error.SetupError.{SetupError}
use Rattle.someip_world_setup_keys.specs.declared.error.SetupError.TheVariants.{NotToml, Missing, WrongKind, OutOfRange, UnknownKey, Clash, OutOfMemory}
use Rattle.someip_world_setup_keys.specs.Keys.{◌>>=◌}
use Rattle.someip_world_setup_keys.specs.KnownKeys.{has_unknown_key}
use Rattle.someip_world_setup_keys.specs.SaidByKeys.{said_setup}
use Rattle.someip_world_setup_keys.specs.Values.{SetupValue, common_view}
use Rattle.someip_world_setup_keys.specs.Clashes.{has_clash}
use Rattle.someip_world_setup.specs.GoodSetups.{Network}
use Rattle.someip_world_setup.specs.NodesMade.{made_view, node_made}

-- the tree of a text, if it is TOML
abbrev pub tree_of : List ℕ → Option Data
tree_of text = option_map table (parse_document text)

-- the setup that a tree says, if each key is one of the format and no values clash
abbrev pub without_clash : SetupValue → Option SetupValue
without_clash v = if has_clash v then None else Some v

abbrev pub sound_setup_of : Data → Option SetupValue
sound_setup_of tree = if has_unknown_key tree then None else said_setup tree >>= without_clash

-- the setup that a text says
abbrev pub setup_of_text : List ℕ → Option SetupValue
setup_of_text text = tree_of text >>= sound_setup_of

-- a network has the values that were read, and the nodes that are made of them
abbrev pub HasValues : Network → SetupValue → Type 0
HasValues network v = (common_view network.common ≡ v.common) × (map made_view network.nodes ≡ map (node_made network.common) v.nodes)

-- ---- faults

-- an error, but for memory, comes only where a setup is not said
abbrev pub IsOwed : Option SetupValue → SetupError → Type 0
IsOwed said OutOfMemory = Unit {0}
IsOwed said error = said ≡ None

-- a tree may be refused by an error: no values can be read of it, whichever of the three that is told by; or it has an
-- unknown key; or the values that are read clash
abbrev pub HasFault : Data → SetupError → Type 0
HasFault tree (Missing key) = said_setup tree ≡ None
HasFault tree (WrongKind key) = said_setup tree ≡ None
HasFault tree (OutOfRange key) = said_setup tree ≡ None
HasFault tree (UnknownKey key) = has_unknown_key tree ≡ true
HasFault tree (Clash key) = IsSomeAnd (said_setup tree) (λ v. has_clash v ≡ true)
HasFault tree OutOfMemory = Unit {0}
HasFault tree NotToml = ⊥

-- the same of a text, which is no TOML where the error says so
abbrev pub TextHasFault : Option Data → SetupError → Type 0
TextHasFault tree NotToml = tree ≡ None
TextHasFault tree OutOfMemory = Unit {0}
TextHasFault tree error = IsSomeAnd tree (λ d. HasFault d error)
