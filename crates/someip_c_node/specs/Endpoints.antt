-- The endpoints of a node.
use Rattle.std.specs.Prelude.{◌≡◌, Option, Some, None, ℕ, List, [], ◌∷◌, ◌++◌, map}
use Rattle.std.specs.declared.net.socket_addr.SocketAddrV4.{SocketAddrV4}
use Rattle.sd_core.specs.declared.keys.InstanceId.{InstanceId}
use Rattle.someip_node_rules.specs.declared.config.Config.{Config}
use Rattle.someip_node_rules.specs.declared.config.OfferedService.{OfferedService}
use Rattle.someip_node_rules.specs.forms.Setups.{client_endpoint, discovery_endpoint, group_endpoint}
use Rattle.someip_c_node.specs.Records.{endpoint_of}
use Rattle.someip_c_node.specs.declared.endpoint.Endpoint.{Endpoint}
use Rattle.someip_c_node.specs.declared.outcome.Outcome.{Outcome}
use Rattle.someip_c_node.specs.declared.outcome.Outcome.TheVariants.{Done, NothingLeft}
use Rattle.someip_c_node.specs.declared.own_endpoint.EndpointKind.{EndpointKind}
use Rattle.someip_c_node.specs.declared.own_endpoint.EndpointKind.TheVariants.{Discovery, Client, Instance, Group}
use Rattle.someip_c_node.specs.declared.own_endpoint.OwnEndpoint.{OwnEndpoint}

-- the number by which C is told what is at an endpoint
abbrev pub kind_number : EndpointKind → ℕ
kind_number Discovery = 1
kind_number Client = 2
kind_number Instance = 3
kind_number Group = 4

-- no instance
abbrev pub no_instance : InstanceId
no_instance = record { service = 0; instance = 0 }

-- an endpoint at which no instance is reached
abbrev pub plain_endpoint : EndpointKind → SocketAddrV4 → OwnEndpoint
plain_endpoint kind socket = record { kind = kind; socket = socket; instance = no_instance }

-- that of an instance that is offered
abbrev pub offered_endpoint : InstanceId × OfferedService → OwnEndpoint
offered_endpoint offer = record { kind = Instance; socket = offer.1.rules.endpoint; instance = offer.0 }

-- the endpoints of a node: Service Discovery, the client, the instances that it offers, by rising service and instance, and the
-- multicast group
abbrev pub endpoints_of : Config → List OwnEndpoint
endpoints_of config =
    plain_endpoint Discovery (discovery_endpoint config)
    ∷ plain_endpoint Client (client_endpoint config)
    ∷ (map offered_endpoint config.offers.entries ++ (plain_endpoint Group (group_endpoint config) ∷ []))

-- ---- as an endpoint is told

-- an endpoint in plain numbers
pub record ToldEndpoint : Type 0 where
  pub endpoint : Endpoint
  pub kind : ℕ
  pub service : ℕ
  pub instance : ℕ

-- these numbers
abbrev pub told_at : Endpoint → ℕ → ℕ → ℕ → ToldEndpoint
told_at endpoint kind service instance = record { endpoint = endpoint; kind = kind; service = service; instance = instance }

-- an endpoint of a node, and what is there
abbrev pub plain_of : OwnEndpoint → ToldEndpoint
plain_of own = told_at (endpoint_of own.socket) (kind_number own.kind) own.instance.service own.instance.instance

-- an endpoint is told, or that there is none, and then nothing changes
abbrev pub TellsEndpoint : Option OwnEndpoint → ToldEndpoint → Outcome → ToldEndpoint → Type 0
TellsEndpoint (Some own) before outcome told = (outcome ≡ Done) × (told ≡ plain_of own)
TellsEndpoint None before outcome told = (outcome ≡ NothingLeft) × (told ≡ before)
