-- Small setups and trees, for laws by example.
use Rattle.std.specs.Prelude.{ℕ, true, false, codes, List, [], ◌∷◌, ◌++◌}
use Rattle.std.specs.List.{flat_map}
use Rattle.std.specs.declared.net.ipv4_addr.Ipv4Addr.{Ipv4Addr}
use Rattle.toml.specs.Data.{Data, array, table, no_items, item, no_members, member}
use Rattle.someip_world_setup_keys.specs.Values.{OfferValue, WantValue, NodeValue, SetupValue}

-- ---- setups

-- 192.168.0 and a last number
abbrev pub local_address : ℕ → Ipv4Addr
local_address last = record { octets = 192 ∷ 168 ∷ 0 ∷ last ∷ [] }

-- an offer of an instance of service 1111 at a port, with methods and oneways, and one event
abbrev pub offer_with : ℕ → ℕ → List ℕ → List ℕ → OfferValue
offer_with instance port methods oneways = record {
  service = 0x1111;
  instance = instance;
  major = 1;
  minor = 0;
  ttl = 3;
  port = port;
  methods = methods;
  oneways = oneways;
  events = record { id = 0x8001; members = 1 ∷ [] } ∷ [];
  subscribers = 16;
}

abbrev pub offer_at : ℕ → ℕ → OfferValue
offer_at instance port = offer_with instance port [] []

-- an instance of service 1111 and one of its eventgroups are wanted
abbrev pub want_with : ℕ → WantValue
want_with instance = record { service = 0x1111; instance = instance; major = 1; ttl = 3; groups = record { id = 1; members = 0x8001 ∷ [] } ∷ [] }

-- a node at an address, with the port of its client
abbrev pub node_with : List ℕ → ℕ → ℕ → List OfferValue → List WantValue → NodeValue
node_with name last client_port offers wants = record {
  name = name;
  address = local_address last;
  client_id = 0x0101;
  client_port = client_port;
  delay = 10;
  liar = false;
  offers = offers;
  wants = wants;
}

-- the same as a liar
abbrev pub lying : NodeValue → NodeValue
lying node = record node { liar = true }

-- nodes with a multicast group, and defaults
abbrev pub setup_with : Ipv4Addr → List NodeValue → SetupValue
setup_with group nodes = record {
  common = record {
    group = group;
    initial_min = 10;
    initial_max = 100;
    phases = record { base = 30; repetitions = 3; cyclic = 1000 };
    message_limit = 65536;
    slots = 16;
    peers = 64;
    reassembly_timeout = 1000;
    call_timeout = 2000;
  };
  nodes = nodes;
}

-- one node at 192.168.0.1, with a multicast group
abbrev pub alone_with : Ipv4Addr → SetupValue
alone_with group = setup_with group (node_with (codes "a") 1 40000 [] [] ∷ [])

-- the multicast group of these setups, 239.0.0.1
abbrev pub group_address : Ipv4Addr
group_address = record { octets = 239 ∷ 0 ∷ 0 ∷ 1 ∷ [] }

-- the group 239.0.0.1, the node a with some offers, and a node beside it
abbrev pub offering : List OfferValue → SetupValue
offering offers = setup_with group_address (node_with (codes "a") 1 40000 offers [] ∷ node_with (codes "b") 2 40001 [] [] ∷ [])

-- the node a with one offer, and another node
abbrev pub beside : NodeValue → SetupValue
beside other = setup_with group_address (node_with (codes "a") 1 40000 (offer_with 1 30509 (0x0421 ∷ []) (0x0422 ∷ []) ∷ []) [] ∷ other ∷ [])

-- the other node has some offers or wants
abbrev pub also_offering : List OfferValue → SetupValue
also_offering offers = beside (node_with (codes "b") 2 40001 offers [])

abbrev pub wanting : List WantValue → SetupValue
wanting wants = beside (node_with (codes "b") 2 40001 [] wants)

-- ---- trees

-- a table of one key, and a list of one element
abbrev pub keyed : List ℕ → Data → Data
keyed key d = table (member key d no_members)

abbrev pub single : Data → Data
single d = array (item d no_items)

-- a setup of one node, with one offer, or one want
abbrev pub tree_with_node : Data → Data
tree_with_node d = keyed (codes "node") (single d)

abbrev pub tree_with_offer : Data → Data
tree_with_offer d = tree_with_node (keyed (codes "offer") (single d))

abbrev pub tree_with_want : Data → Data
tree_with_want d = tree_with_node (keyed (codes "want") (single d))

-- an event of the offer, or an eventgroup of the want
abbrev pub tree_with_event : Data → Data
tree_with_event d = tree_with_offer (keyed (codes "events") (single d))

abbrev pub tree_with_eventgroup : Data → Data
tree_with_eventgroup d = tree_with_want (keyed (codes "groups") (single d))

-- ---- texts

-- a group, some further lines, and a node with nothing but the keys that are needed
abbrev pub text_with : List ℕ → List ℕ → List ℕ
text_with group more =
    codes "group='" ++ group ++ codes "'" ++ 10 ∷ more
    ++ codes "node=[{name='a',address='192.168.0.1',client_id=257,client_port=40000}]"

-- a server, and a client that wants its instance and eventgroup
abbrev pub lines : List (List ℕ) → List ℕ
lines = flat_map (λ line. line ++ 10 ∷ [])

abbrev pub two_nodes : List ℕ
two_nodes =
    lines (codes "group = \"239.0.0.1\"" ∷ [])
    ++ lines (codes "[[node]]" ∷ codes "name = \"a\"" ∷ codes "address = \"192.168.0.1\"" ∷ codes "client_id = 0x0101" ∷ codes "client_port = 40000" ∷ [])
    ++ lines (codes "[[node.offer]]" ∷ codes "service = 0x1111" ∷ codes "instance = 1" ∷ codes "major = 1" ∷ codes "ttl = 3" ∷ codes "port = 30509" ∷ [])
    ++ lines (codes "methods = [0x0421]" ∷ codes "oneways = [0x0422]" ∷ codes "events = [{ id = 0x8001, groups = [1] }]" ∷ [])
    ++ lines (codes "[[node]]" ∷ codes "name = \"b\"" ∷ codes "address = \"192.168.0.2\"" ∷ codes "client_id = 0x0101" ∷ codes "client_port = 40001" ∷ [])
    ++ lines (codes "[[node.want]]" ∷ codes "service = 0x1111" ∷ codes "instance = 1" ∷ codes "major = 1" ∷ codes "ttl = 3" ∷ codes "groups = [{ id = 1, events = [0x8001] }]" ∷ [])
