-- Which values of a setup clash.
use Rattle.std.specs.Prelude.{ℕ, Bool, false, not, ◌&&◌, ◌||◌, ◌==◌, List, [], ◌∷◌, ◌++◌, length, map, bytes_eq}
use Rattle.std.specs.List.{list_any, flat_map}
use Rattle.std.specs.Ordering.{eq_by_cmp, nat_cmp}
use Rattle.std.specs.declared.net.ipv4_addr.Ipv4Addr.{Ipv4Addr}
use Rattle.sd_core.specs.declared.keys.InstanceId.{InstanceId}
use Rattle.sd_core.specs.Keys.{instance_cmp}
use Rattle.someip_node_rules.specs.rules.Handling.{same_address}
use Rattle.someip_world_setup_keys.specs.Values.{ListedValue, OfferValue, WantValue, NodeValue, SetupValue}
use Rattle.someip_node_rules.specs.forms.Setups.{discovery_port}

-- one of a list is the same as a later one
abbrev pub has_repeat : {A : Type 0} → (A → A → Bool) → List A → Bool
has_repeat same [] = false
has_repeat same (x ∷ xs) = list_any (same x) xs || has_repeat same xs

abbrev pub same_number : ℕ → ℕ → Bool
same_number = eq_by_cmp nat_cmp

abbrev pub same_instance : InstanceId → InstanceId → Bool
same_instance = eq_by_cmp instance_cmp

-- ---- names and addresses

-- two nodes have one name
abbrev pub has_equal_names : List NodeValue → Bool
has_equal_names nodes = has_repeat bytes_eq (map (λ n. n.name) nodes)

-- the address of the multicast group, and then those of the nodes
abbrev pub taken_addresses : Ipv4Addr → List NodeValue → List Ipv4Addr
taken_addresses group nodes = group ∷ map (λ n. n.address) nodes

-- two nodes have one address, or one has that of the group
abbrev pub has_equal_addresses : Ipv4Addr → List NodeValue → Bool
has_equal_addresses group nodes = has_repeat same_address (taken_addresses group nodes)

-- ---- ports

-- the port of Service Discovery, that of a node's client, and those of its offers
abbrev pub taken_ports : NodeValue → List ℕ
taken_ports node = discovery_port ∷ node.client_port ∷ map (λ o. o.port) node.offers

-- a node has a port twice, or that of Service Discovery
abbrev pub has_equal_ports : NodeValue → Bool
has_equal_ports node = has_repeat same_number (taken_ports node)

-- ---- instances

abbrev pub offered_id : OfferValue → InstanceId
offered_id o = record { service = o.service; instance = o.instance }

abbrev pub wanted_id : WantValue → InstanceId
wanted_id w = record { service = w.service; instance = w.instance }

abbrev pub offered_by : NodeValue → List InstanceId
offered_by node = map offered_id node.offers

abbrev pub wanted_by : NodeValue → List InstanceId
wanted_by node = map wanted_id node.wants

-- an instance is offered twice, by one node or by two
abbrev pub has_equal_offers : List NodeValue → Bool
has_equal_offers nodes = has_repeat same_instance (flat_map offered_by nodes)

-- a node wants an instance twice
abbrev pub has_equal_wants : NodeValue → Bool
has_equal_wants node = has_repeat same_instance (wanted_by node)

-- ---- IDs

-- an ID stands twice in the eventgroups of an event, or in the events of an eventgroup
abbrev pub has_equal_members : ListedValue → Bool
has_equal_members l = has_repeat same_number l.members

-- an ID stands twice in a list of events, or of eventgroups, or twice among those that belong to one of the list
abbrev pub has_equal_ids : List ListedValue → Bool
has_equal_ids ls = has_repeat same_number (map (λ l. l.id) ls) || list_any has_equal_members ls

-- a method is declared twice, whether for one type or for both, or an ID stands twice in the events
abbrev pub has_equal_ids_offered : OfferValue → Bool
has_equal_ids_offered o = has_repeat same_number (o.methods ++ o.oneways) || has_equal_ids o.events

-- an ID stands twice in the eventgroups
abbrev pub has_equal_ids_wanted : WantValue → Bool
has_equal_ids_wanted w = has_equal_ids w.groups

-- it does so in an offer or in a want of a node
abbrev pub has_equal_ids_of : NodeValue → Bool
has_equal_ids_of node = list_any has_equal_ids_offered node.offers || list_any has_equal_ids_wanted node.wants

-- ---- liars

-- a liar offers an instance
abbrev pub has_liar_offers : NodeValue → Bool
has_liar_offers node = node.liar && not (length node.offers == 0)

-- a liar wants an instance
abbrev pub has_liar_wants : NodeValue → Bool
has_liar_wants node = node.liar && not (length node.wants == 0)

-- it does one of both
abbrev pub has_liar_tables : NodeValue → Bool
has_liar_tables node = has_liar_offers node || has_liar_wants node

-- ---- the setup

-- two values of a setup clash
abbrev pub has_clash : SetupValue → Bool
has_clash setup =
    has_equal_names setup.nodes
    || has_equal_addresses setup.common.group setup.nodes
    || list_any has_equal_ports setup.nodes
    || has_equal_offers setup.nodes
    || list_any has_equal_wants setup.nodes
    || list_any has_equal_ids_of setup.nodes
    || list_any has_liar_tables setup.nodes
