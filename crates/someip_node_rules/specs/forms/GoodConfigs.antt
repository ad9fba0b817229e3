-- Which values a node may be set up with.
use Rattle.std.specs.Prelude.{ℕ, ◌==◌, nat_le, Bool, not, ◌&&◌, length}
use Rattle.std.specs.List.{list_all, list_any}
use Rattle.std.specs.BTreeSet.{BTreeSet, contains}
use Rattle.std.specs.Ordering.{nat_cmp}
use Rattle.std.specs.FinMap as finite
use Rattle.std.specs.Net.Socket.{v4_ip, v4_port}
use Rattle.sd_core.specs.declared.keys.InstanceId.{InstanceId}
use Rattle.someip_node_rules.specs.declared.config.Common.{Common}
use Rattle.someip_node_rules.specs.declared.config.Config.{Config}
use Rattle.someip_node_rules.specs.declared.config.OfferedService.{OfferedService}
use Rattle.someip_node_rules.specs.declared.config.WantedService.{WantedService}
use Rattle.someip_node_rules.specs.rules.Handling.{same_address}
use Rattle.someip_node_rules.specs.forms.Setups.{discovery_port, ports_of}

-- a number lies between two others, or is one of them
abbrev pub is_within : ℕ → ℕ → ℕ → Bool
is_within low high n = nat_le low n && nat_le n high

-- the greatest limit that a message may have, in bytes of its payload
abbrev pub greatest_message_limit : ℕ
greatest_message_limit = 1048576

-- the delays, limits and timeouts of all nodes
abbrev pub is_good_common : Common → Bool
is_good_common common =
    nat_le common.initial_min_ms common.initial_max_ms && nat_le common.initial_max_ms 60000
    && is_within 1400 greatest_message_limit common.message_limit && is_within 1 1024 common.slots && is_within 1 1024 common.peers
    && is_within 1 3600000 common.reassembly_timeout_ms && is_within 1 3600000 common.call_timeout_ms

-- a port is not 0, and not that of Service Discovery
abbrev pub is_good_port : ℕ → Bool
is_good_port port = not (port == 0) && not (port == discovery_port)

-- Service IDs and Instance IDs, and IDs of eventgroups, are none of the two that stand for none and for any
abbrev pub is_good_id : ℕ → Bool
is_good_id = is_within 1 0xFFFE

abbrev pub is_good_instance : InstanceId → Bool
is_good_instance instance = is_good_id instance.service && is_good_id instance.instance

-- an Event ID is from 8000 to FFFE
abbrev pub is_good_event : ℕ → Bool
is_good_event = is_within 0x8000 0xFFFE

-- it belongs to an eventgroup, and to none without an ID
abbrev pub has_good_eventgroups : ℕ × BTreeSet ℕ → Bool
has_good_eventgroups event = is_good_event event.0 && not (length event.1.keys == 0) && list_all is_good_id event.1.keys

-- Method IDs are up to 7FFF
abbrev pub are_good_methods : BTreeSet ℕ → Bool
are_good_methods methods = list_all (λ m. nat_le m 0x7FFF) methods.keys

-- an instance that a node offers, under its own ID and at the node's address
abbrev pub is_good_offer : Config → InstanceId × OfferedService → Bool
is_good_offer config offer =
    is_good_instance offer.0
    && (offer.1.rules.service == offer.0.service) && (offer.1.rules.instance == offer.0.instance)
    && nat_le offer.1.rules.major 0xFE && nat_le offer.1.minor 0xFFFFFFFE && not (offer.1.ttl == 0)
    && same_address (v4_ip offer.1.rules.endpoint) config.address
    && is_good_port (v4_port offer.1.rules.endpoint) && not (v4_port offer.1.rules.endpoint == config.client_port)
    && are_good_methods offer.1.rules.methods && are_good_methods offer.1.rules.oneways
    && not (list_any (contains nat_cmp offer.1.rules.methods) offer.1.rules.oneways.keys)
    && list_all has_good_eventgroups offer.1.rules.events.entries && is_within 1 1024 offer.1.subscribers

-- an eventgroup that a node may subscribe to
abbrev pub is_good_eventgroup : ℕ × BTreeSet ℕ → Bool
is_good_eventgroup eventgroup = is_good_id eventgroup.0 && list_all is_good_event eventgroup.1.keys

-- an instance that it wants
abbrev pub is_good_want : InstanceId × WantedService → Bool
is_good_want want = is_good_instance want.0 && nat_le want.1.major 0xFE && not (want.1.ttl == 0) && list_all is_good_eventgroup want.1.groups.entries

-- no two instances have one port
abbrev pub has_own_ports : Config → Bool
has_own_ports config = finite.len (ports_of config) == length config.offers.entries

-- a node may be set up with this
abbrev pub is_good : Config → Bool
is_good config =
    is_good_common config.common && not (same_address config.address config.common.group) && is_good_port config.client_port
    && list_all (is_good_offer config) config.offers.entries && list_all is_good_want config.wants.entries && has_own_ports config

-- a delay lies in the range that the set-up gives
abbrev pub is_good_delay : Config → ℕ → Bool
is_good_delay config delay = is_within config.common.initial_min_ms config.common.initial_max_ms delay
