-- What the laws ask of the addresses of the nodes of a run.
use Rattle.std.specs.Prelude.{◌≡◌, ◌≢◌, ℕ, List, Some, slice_get}
use Rattle.std.specs.declared.net.ipv4_addr.Ipv4Addr.{Ipv4Addr}
use Rattle.someip_node_rules.specs.declared.config.Config.{Config}

-- an address is that of a node
abbrev pub IsOfNode : List Config → Ipv4Addr → Type 0
IsOfNode configs address = (place : ℕ) × (config : Config) × (slice_get configs place ≡ Some config) × (config.address ≡ address)

-- nodes at different places have different addresses
abbrev pub HaveOwnAddresses : List Config → Type 0
HaveOwnAddresses configs =
    (p q : ℕ) (c d : Config) → slice_get configs p ≡ Some c → slice_get configs q ≡ Some d → c.address ≡ d.address → p ≡ q

-- no node has the address of the group of any node
abbrev pub AreOffGroup : List Config → Type 0
AreOffGroup configs =
    (address : Ipv4Addr) (config : Config) (place : ℕ) → IsOfNode configs address → slice_get configs place ≡ Some config
    → address ≢ config.common.group
