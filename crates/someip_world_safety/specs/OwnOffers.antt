-- What the laws ask of what the nodes of a run offer.
use Rattle.std.specs.Prelude.{◌≡◌, ℕ, List, Some, slice_get}
use Rattle.std.specs.List.{Contains}
use Rattle.std.specs.Net.Socket.{v4_ip}
use Rattle.sd_core.specs.declared.keys.InstanceId.{InstanceId}
use Rattle.someip_node_rules.specs.declared.config.Config.{Config}
use Rattle.someip_node_rules.specs.declared.config.OfferedService.{OfferedService}
use Rattle.someip_node_rules.specs.forms.Setups.{offered_as}

-- each offer of a configuration is at the node's own address, and is the only one of its instance
abbrev pub OffersAtOwn : Config → Type 0
OffersAtOwn config =
    (instance : InstanceId) (service : OfferedService) → Contains config.offers.entries (instance, service)
    → (v4_ip service.rules.endpoint ≡ config.address) × (offered_as config instance ≡ Some service)

-- so it is at all nodes
abbrev pub HaveOwnOffers : List Config → Type 0
HaveOwnOffers configs = (place : ℕ) (config : Config) → slice_get configs place ≡ Some config → OffersAtOwn config

-- at each node, instances that are offered at one endpoint are one
abbrev pub HaveOwnPorts : List Config → Type 0
HaveOwnPorts configs =
    (place : ℕ) (config : Config) → slice_get configs place ≡ Some config → (a b : InstanceId) (s t : OfferedService)
    → offered_as config a ≡ Some s → offered_as config b ≡ Some t → s.rules.endpoint ≡ t.rules.endpoint → a ≡ b
