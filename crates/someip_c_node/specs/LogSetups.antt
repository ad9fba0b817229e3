-- The setup to play the log of a node again with.
use Rattle.std.specs.Prelude.{◌≡◌, ◌<◌, ◌+◌, ◌||◌, ◌⊎◌, ℕ, Bool, true, false, not, List, [], ◌∷◌, ◌++◌, filter, map, codes, decimal, bytes_eq, length, string_bytes, IsSomeAnd}
use Rattle.std.specs.List.{list_any, range_with_len}
use Rattle.std.specs.declared.net.ipv4_addr.Ipv4Addr.{Ipv4Addr}
use Rattle.someip_node_rules.specs.declared.config.Config.{Config}
use Rattle.someip_node_rules.specs.rules.Handling.{same_address}
use Rattle.someip_world_setup.specs.declared.setup_node.SetupNode.{SetupNode}
use Rattle.someip_world_setup.specs.Readings.{setup_of_text}
use Rattle.someip_world_setup_keys.specs.Clashes.{has_repeat}
use Rattle.someip_world_setup_keys.specs.Made.{config_view}
use Rattle.someip_world_setup_keys.specs.Values.{NodeValue, SetupValue}
use Rattle.someip_c_node.specs.declared.endpoint.Endpoint.{Endpoint}
use Rattle.someip_c_node.specs.declared.outcome.Outcome.{Outcome}
use Rattle.someip_c_node.specs.declared.outcome.Outcome.TheVariants.{Clash, OutOfRange}
use Rattle.someip_c_node.specs.Starts.{IsNotStarted}
use Rattle.someip_c_node.specs.Texts.{IsConfigIn}

-- ---- names

-- p1, p2 and so on
abbrev pub liar_name : ℕ → List ℕ
liar_name number = codes "p" ++ decimal number

-- a name of these is not the node's
abbrev pub is_other : List ℕ → List ℕ → Bool
is_other name liar = not (bytes_eq liar name)

-- those of p1, p2, .., one more than so many, that are not the node's name
abbrev pub liar_names : List ℕ → ℕ → List (List ℕ)
liar_names name count = filter (is_other name) (map liar_name (range_with_len 1 (count + 1)))

-- ---- rows

-- what a setup says of a node beside its configuration, and its address
pub record NodeRow : Type 0 where
  pub name : List ℕ
  pub address : Ipv4Addr
  pub delay : ℕ
  pub liar : Bool

abbrev pub row_of : NodeValue → NodeRow
row_of node = record { name = node.name; address = node.address; delay = node.delay; liar = node.liar }

-- the same of a node that was made
abbrev pub made_row : SetupNode → NodeRow
made_row node = record { name = string_bytes node.name; address = node.config.address; delay = node.delay; liar = node.is_liar }

-- the node that is logged
abbrev pub own_row : List ℕ → ℕ → Config → NodeRow
own_row name delay config = record { name = name; address = config.address; delay = delay; liar = false }

-- the liar at a peer's address
abbrev pub liar_row : ℕ → List ℕ → Endpoint → NodeRow
liar_row delay name peer = record { name = name; address = record { octets = peer.address }; delay = delay; liar = true }

-- the liars of some names, one at each address
abbrev pub liar_rows : ℕ → List (List ℕ) → List Endpoint → List NodeRow
liar_rows delay names [] = []
liar_rows delay [] (peer ∷ peers) = []
liar_rows delay (name ∷ names) (peer ∷ peers) = liar_row delay name peer ∷ liar_rows delay names peers

-- ---- the setup

-- it has the node, with this delay, and a liar at each address
abbrev pub HasRows : List ℕ → ℕ → List (List ℕ) → List Endpoint → Config → SetupValue → Type 0
HasRows name delay names peers config said = map row_of said.nodes ≡ own_row name delay config ∷ liar_rows config.common.initial_min_ms names peers

-- a text says so, and the node has the same configuration in it
abbrev pub IsLogIn : List ℕ → ℕ → List (List ℕ) → List Endpoint → Config → List ℕ → Type 0
IsLogIn name delay names peers config log = IsConfigIn log name config × IsSomeAnd (setup_of_text log) (HasRows name delay names peers config)

-- the text of the log's setup: in it the node of a name has the configuration that it has in another text's setup, with a delay, and
-- beside it stand liars alone, one at the address of each peer
abbrev pub IsLogOf : List ℕ → List ℕ → ℕ → List Endpoint → List ℕ → Type 0
IsLogOf text name delay peers log = (config : Config) × (IsConfigIn text name config × IsLogIn name delay (liar_names name (length peers)) peers config log)

-- the nodes that were made have these rows, and the first one the configuration
abbrev pub HasMadeRows : List ℕ → ℕ → List (List ℕ) → List Endpoint → Config → List SetupNode → Type 0
HasMadeRows name delay names peers config [] = ⊥
HasMadeRows name delay names peers config (node ∷ nodes) =
    (made_row node ≡ own_row name delay node.config) × ((config_view node.config ≡ config_view config) × (map made_row nodes ≡ liar_rows config.common.initial_min_ms names peers))

-- ---- refusals

-- the address of a peer, and whether that is this one
abbrev pub address_of : Endpoint → Ipv4Addr
address_of peer = record { octets = peer.address }

abbrev pub is_at : Ipv4Addr → Endpoint → Bool
is_at address peer = same_address address (address_of peer)

-- one of the peers is at an address
abbrev pub is_taken : Ipv4Addr → List Endpoint → Bool
is_taken address peers = list_any (is_at address) peers

-- a peer is at the address of the group, or of the node, or of another peer
abbrev pub have_equal_addresses : Config → List Endpoint → Bool
have_equal_addresses config peers =
    (is_taken config.common.group peers || is_taken config.address peers) || has_repeat (λ peer. is_at (address_of peer)) peers

-- peers have no such setup: there are more than fit beside the node, or two of one address
abbrev pub IsFaultOfPeers : Config → List Endpoint → Outcome → Type 0
IsFaultOfPeers config peers OutOfRange = 63 < length peers
IsFaultOfPeers config peers Clash = have_equal_addresses config peers ≡ true
IsFaultOfPeers config peers outcome = ⊥

-- why there is no text: the node is not started so either, or it is the fault of the peers
abbrev pub IsNoLog : List ℕ → List ℕ → ℕ → List Endpoint → Outcome → Type 0
IsNoLog text name delay peers outcome =
    IsNotStarted text name delay outcome ⊎ ((config : Config) × IsConfigIn text name config × IsFaultOfPeers config peers outcome)
