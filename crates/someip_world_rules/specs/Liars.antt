-- Which addresses are those of liars. Datagrams, peers and the keys of exchanges have addresses, and no two nodes share one.
use Rattle.std.specs.Prelude.{◌≡◌, ℕ, Bool, true, false, List, slice_get, Some}
use Rattle.std.specs.List.{AllByRecursion}
use Rattle.std.specs.Option.{option_map_or}
use Rattle.std.specs.Net.Socket.{v4_ip}
use Rattle.std.specs.declared.net.ipv4_addr.Ipv4Addr.{Ipv4Addr}
use Rattle.someip_node_rules.specs.rules.Inputs.{Input, Datagram}
use Rattle.someip_node_rules.specs.declared.config.Config.{Config}
use Rattle.someip_world_setup.specs.declared.setup_node.SetupNode.{SetupNode}

-- at a place of the setup stands a liar
abbrev pub is_liar_at : List SetupNode → ℕ → Bool
is_liar_at nodes place = option_map_or (λ n. n.is_liar) (slice_get nodes place) false

-- an address is that of a liar
pub record IsOfLiar (nodes : List SetupNode) (configs : List Config) (address : Ipv4Addr) : Type 0 where
  pub place : ℕ
  pub lies : is_liar_at nodes place ≡ true
  pub config : Config
  pub here : slice_get configs place ≡ Some config
  pub at : config.address ≡ address

-- an address is that of no liar
abbrev pub IsHonest : List SetupNode → List Config → Ipv4Addr → Type 0
IsHonest nodes configs address = IsOfLiar nodes configs address → ⊥

-- a setup has no liars
abbrev pub HasNoLiars : List SetupNode → Type 0
HasNoLiars nodes = AllByRecursion (λ n. n.is_liar ≡ false) nodes

-- an input is a datagram from a liar
abbrev pub IsFromLiar : List SetupNode → List Config → Input → Type 0
IsFromLiar nodes configs (Datagram from to bytes) = IsOfLiar nodes configs (v4_ip from)
IsFromLiar nodes configs input = ⊥
