-- The configuration of a node that a setup's text names.
use Rattle.std.specs.Prelude.{◌≡◌, ℕ, Bool, not, ◌&&◌, IsUtf8, true, bytes_eq, string_bytes, List, [], ◌∷◌, if◌then◌else◌, Option, None, Some, IsSomeAnd}
use Rattle.toml.specs.Data.{Data}
use Rattle.someip_node_rules.specs.trails.Copies.{IsCopy}
use Rattle.someip_node_rules.specs.declared.config.Config.{Config}
use Rattle.someip_world_setup_keys.specs.declared.error.SetupError.{SetupError}
use Rattle.someip_world_setup_keys.specs.declared.error.SetupError.TheVariants as setup
use Rattle.someip_world_setup.specs.declared.setup_node.SetupNode.{SetupNode}
use Rattle.someip_world_setup_keys.specs.Clashes.{has_clash}
use Rattle.someip_world_setup_keys.specs.KnownKeys.{has_unknown_key}
use Rattle.someip_world_setup_keys.specs.Made.{config_made, config_view}
use Rattle.someip_world_setup.specs.Readings.{setup_of_text, tree_of}
use Rattle.someip_world_setup_keys.specs.SaidByKeys.{said_setup}
use Rattle.someip_world_setup_keys.specs.Values.{CommonValue, NodeValue, SetupValue, common_view}
use Rattle.someip_c_node.specs.declared.config.Delays.{Delays}
use Rattle.someip_c_node.specs.declared.outcome.Outcome.{Outcome}
use Rattle.someip_c_node.specs.declared.outcome.Outcome.TheVariants.{Clash, Missing, NoSuchNode, NotText, NotToml, OutOfMemory, OutOfRange, UnknownKey, WrongKind}

-- the node of a name, among those of a setup. A liar is none
abbrev pub named : List ℕ → List NodeValue → Option NodeValue
named name [] = None
named name (node ∷ nodes) = if bytes_eq node.name name && not node.liar then Some node else named name nodes

-- the same among the nodes that were made
abbrev pub is_node_of : List ℕ → SetupNode → Bool
is_node_of name node = bytes_eq (string_bytes node.name) name && not node.is_liar

abbrev pub first_named : List ℕ → List SetupNode → Option SetupNode
first_named name [] = None
first_named name (node ∷ nodes) = if is_node_of name node then Some node else first_named name nodes

-- a configuration has the values that a setup says of a node, and those that all its nodes share
abbrev pub IsConfigOf : SetupValue → NodeValue → Config → Type 0
IsConfigOf said node config = (common_view config.common ≡ said.common) × (config_view config ≡ config_made config.common node)

-- it is that of the node of a name
abbrev pub IsNamedIn : List ℕ → Config → SetupValue → Type 0
IsNamedIn name config said = IsSomeAnd (named name said.nodes) (λ node. IsConfigOf said node config)

-- it is that of the node of a name in the setup that a text says
abbrev pub IsConfigIn : List ℕ → List ℕ → Config → Type 0
IsConfigIn text name config = IsSomeAnd (setup_of_text text) (IsNamedIn name config)

-- it is a copy of that of the node of a name
abbrev pub IsCopyIn : List ℕ → List SetupNode → Config → Type 0
IsCopyIn name nodes config = IsSomeAnd (first_named name nodes) (λ node. IsCopy node.config config)

-- ---- delays

-- the least and the greatest delay before the first Offers and Finds
abbrev pub delays_of : CommonValue → Delays
delays_of common = record { least_ms = common.initial_min; greatest_ms = common.initial_max }

-- those of the setup that a text says
abbrev pub AreDelaysIn : List ℕ → Delays → Type 0
AreDelaysIn text delays = IsSomeAnd (setup_of_text text) (λ said. delays ≡ delays_of said.common)

-- ---- refusals

-- no node has the name, or memory ran out
abbrev pub IsLacking : List ℕ → List SetupNode → Outcome → Type 0
IsLacking name nodes OutOfMemory = Unit {0}
IsLacking name nodes NoSuchNode = first_named name nodes ≡ None
IsLacking name nodes outcome = ⊥

-- why a text says no setup
abbrev pub fault_outcome : SetupError → Outcome
fault_outcome setup.NotToml = NotToml
fault_outcome (setup.Missing key) = Missing
fault_outcome (setup.WrongKind key) = WrongKind
fault_outcome (setup.OutOfRange key) = OutOfRange
fault_outcome (setup.UnknownKey key) = UnknownKey
fault_outcome (setup.Clash key) = Clash
fault_outcome setup.OutOfMemory = OutOfMemory

-- the fault of a tree that an outcome tells
abbrev pub HasFaultOf : Outcome → Data → Type 0
HasFaultOf Missing tree = said_setup tree ≡ None
HasFaultOf WrongKind tree = said_setup tree ≡ None
HasFaultOf OutOfRange tree = said_setup tree ≡ None
HasFaultOf UnknownKey tree = has_unknown_key tree ≡ true
HasFaultOf Clash tree = IsSomeAnd (said_setup tree) (λ v. has_clash v ≡ true)
HasFaultOf outcome tree = ⊥

-- a text is refused: it says no setup, with the fault that is told; or its setup has no node of the name; or memory ran out
abbrev pub IsRefused : List ℕ → List ℕ → Outcome → Type 0
IsRefused text name OutOfMemory = Unit {0}
IsRefused text name NoSuchNode = IsSomeAnd (setup_of_text text) (λ said. named name said.nodes ≡ None)
IsRefused text name NotToml = (setup_of_text text ≡ None) × (tree_of text ≡ None)
IsRefused text name outcome = (setup_of_text text ≡ None) × IsSomeAnd (tree_of text) (HasFaultOf outcome)

-- a text says no setup: it is not UTF-8, or has the fault that is told, or memory ran out
abbrev pub IsUnread : List ℕ → Outcome → Type 0
IsUnread text NotText = IsUtf8 text → ⊥
IsUnread text NoSuchNode = ⊥
IsUnread text outcome = IsUtf8 text × IsRefused text [] outcome
