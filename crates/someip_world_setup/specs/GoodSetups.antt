-- What every setup keeps.
use Rattle.std.specs.Prelude.{ℕ, ◌≡◌, Bool, true, false, ◌&&◌, nat_le, List, [], ◌∷◌, map, length, bytes_eq, string_bytes, refl}
use Rattle.std.specs.List.{All, flat_map}
use Rattle.std.specs.declared.net.ipv4_addr.Ipv4Addr.{Ipv4Addr}
use Rattle.sd_core.specs.declared.keys.InstanceId.{InstanceId}
use Rattle.sd_core.specs.declared.phases.Phases.{Phases}
use Rattle.someip_node_rules.specs.declared.config.Common.{Common}
use Rattle.someip_node_rules.specs.forms.GoodConfigs.{is_within, is_good_common, is_good, is_good_delay}
use Rattle.someip_node_rules.specs.rules.Handling.{same_address}
use Rattle.std.specs.Coded.{Coded, code_by, coded×, coded_list}
use Rattle.someip_node_rules.specs.contracts.config.Common as common
use Rattle.someip_world_setup.specs.contracts.setup_node.SetupNode as node
use Rattle.someip_world_setup.specs.declared.setup_node.SetupNode.{SetupNode}
use Rattle.someip_world_setup_keys.specs.Keys.{is_name}
use Rattle.someip_world_setup_keys.specs.Clashes.{has_repeat, same_instance}

-- what the nodes of a network share, and the nodes
pub record Network : Type 0 where
  pub common : Common
  pub nodes : List SetupNode

-- a network is stored as the pair of the two
abbrev pub coded_network : Coded Network
coded_network = code_by (Common × List SetupNode) (coded× common.the_row.coded (coded_list node.the_row.coded)) (λ n. (n.common, n.nodes)) (λ p. record { common = p.0; nodes = p.1 }) (λ _. refl)

-- the delays after the first one
abbrev pub is_good_phases : Phases → Bool
is_good_phases phases = is_within 1 60000 phases.base && nat_le phases.repetitions 16 && is_within 1 3600000 phases.cyclic

-- a node can be started: its configuration, which is that of the network, and its delay are in range, and nothing in it clashes;
-- a liar offers and wants nothing
pub record IsGoodNode (common : Common) (node : SetupNode) : Type 0 where
  pub name : is_name (string_bytes node.name) ≡ true
  pub shared : node.config.common ≡ common
  pub config : is_good node.config ≡ true
  pub delay : is_good_delay node.config node.delay ≡ true
  pub bare : node.is_liar ≡ true → (node.config.offers.entries ≡ []) × (node.config.wants.entries ≡ [])

abbrev pub names_of : List SetupNode → List (List ℕ)
names_of nodes = map (λ n. string_bytes n.name) nodes

abbrev pub addresses_of : List SetupNode → List Ipv4Addr
addresses_of nodes = map (λ n. n.config.address) nodes

-- the instances that a node offers
abbrev pub instances_of : SetupNode → List InstanceId
instances_of node = map (λ e. e.0) node.config.offers.entries

-- the values of a network are in range, each node can be started, no two nodes have one name or one address, none has that of the group, and no instance is offered twice
pub record IsGoodNetwork (network : Network) : Type 0 where
  pub common : is_good_common network.common ≡ true
  pub phases : is_good_phases network.common.phases ≡ true
  pub count : is_within 1 64 (length network.nodes) ≡ true
  pub nodes : All (IsGoodNode network.common) network.nodes
  pub names : has_repeat bytes_eq (names_of network.nodes) ≡ false
  pub addresses : has_repeat same_address (network.common.group ∷ addresses_of network.nodes) ≡ false
  pub instances : has_repeat same_instance (flat_map instances_of network.nodes) ≡ false
