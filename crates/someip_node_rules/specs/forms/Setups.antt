-- What a node is set up with, and what is asked of that.
use Rattle.std.specs.Prelude.{ℕ, Bool, false, List, map, Option, is_some}
use Rattle.std.specs.List.{list_any}
use Rattle.std.specs.Option.{option_map_or}
use Rattle.std.specs.Ordering.{nat_cmp}
use Rattle.std.specs.FinMap as finite
use Rattle.std.specs.FinMap.{FinMap}
use Rattle.std.specs.BTreeMap as tree
use Rattle.std.specs.BTreeSet.{contains}
use Rattle.std.specs.declared.net.socket_addr.SocketAddrV4.{SocketAddrV4}
use Rattle.someip_tables.specs.Tables.{map_of}
use Rattle.someip_reassembly.specs.Parts.{Limits}
use Rattle.sd_core.specs.declared.eventgroup.Eventgroup.{Eventgroup}
use Rattle.sd_core.specs.declared.keys.InstanceId.{InstanceId}
use Rattle.sd_core.specs.Keys.{instance_cmp}
use Rattle.someip_rpc.specs.declared.call.ClientRules.{ClientRules}
use Rattle.someip_node_rules.specs.declared.config.Config.{Config}
use Rattle.someip_node_rules.specs.declared.config.OfferedService.{OfferedService}
use Rattle.someip_node_rules.specs.declared.config.WantedService.{WantedService}

-- ---- endpoints

-- the UDP port of Service Discovery
abbrev pub discovery_port : ℕ
discovery_port = 30490

-- a port of the node
abbrev pub own_endpoint : Config → ℕ → SocketAddrV4
own_endpoint config port = record { ip = config.address; port = port }

-- the node's client, its Service Discovery, and that of all nodes
abbrev pub client_endpoint : Config → SocketAddrV4
client_endpoint config = own_endpoint config config.client_port

abbrev pub discovery_endpoint : Config → SocketAddrV4
discovery_endpoint config = own_endpoint config discovery_port

abbrev pub group_endpoint : Config → SocketAddrV4
group_endpoint config = record { ip = config.common.group; port = discovery_port }

-- ---- instances

-- an instance that the node offers
abbrev pub offered_as : Config → InstanceId → Option OfferedService
offered_as config instance = tree.get instance_cmp config.offers instance

-- an instance that it wants
abbrev pub wanted_as : Config → InstanceId → Option WantedService
wanted_as config instance = tree.get instance_cmp config.wants instance

-- the instances that it wants, by rising instance
abbrev pub wanted_instances : Config → List InstanceId
wanted_instances config = map (λ e. e.0) config.wants.entries

-- the ports of the instances that it offers
abbrev pub ports_of : Config → FinMap nat_cmp InstanceId
ports_of config = map_of nat_cmp (map (λ e. (e.1.rules.endpoint.port, e.0)) config.offers.entries)

-- the instance at a port
abbrev pub instance_at : Config → ℕ → Option InstanceId
instance_at config port = finite.get (ports_of config) port

-- ---- eventgroups

-- an event that an instance offers belongs to an eventgroup
abbrev pub has_eventgroup : OfferedService → ℕ → Bool
has_eventgroup service eventgroup = list_any (λ e. contains nat_cmp e.1 eventgroup) service.rules.events.entries

-- the node may subscribe to an eventgroup
abbrev pub is_wanted_eventgroup : Config → Eventgroup → Bool
is_wanted_eventgroup config eventgroup =
    option_map_or (λ want. is_some (tree.get nat_cmp want.groups eventgroup.id)) (wanted_as config eventgroup.instance) false

-- ---- what the parts of the node are bound by

abbrev pub limits_of : Config → Limits
limits_of config = record { slots = config.common.slots; limit = config.common.message_limit; timeout = config.common.reassembly_timeout_ms }

abbrev pub client_rules : Config → ClientRules
client_rules config = record {
  client = config.client_id;
  endpoint = client_endpoint config;
  message_limit = config.common.message_limit;
  call_timeout_ms = config.common.call_timeout_ms;
}
