-- A node that offers an instance, and messages that come to it, as examples.
use Rattle.std.specs.Prelude.{◌≡◌, ℕ, List, [], ◌∷◌}
use Rattle.std.specs.BTreeMap.{BTreeMap}
use Rattle.std.specs.BTreeSet.{BTreeSet}
use Rattle.std.specs.declared.net.ipv4_addr.Ipv4Addr.{Ipv4Addr}
use Rattle.std.specs.declared.net.socket_addr.SocketAddrV4.{SocketAddrV4}
use Rattle.sd_wire.specs.declared.entry.EventgroupEntry.{EventgroupEntry}
use Rattle.sd_wire.specs.declared.entry.EventgroupKind.TheVariants.{Subscribe}
use Rattle.sd_wire.specs.contents.Values.{EntryValue}
use Rattle.someip_node_rules.specs.forms.Entries.{ack_entry}
use Rattle.sd_core.specs.declared.keys.InstanceId.{InstanceId}
use Rattle.someip_node_rules.specs.declared.config.Config.{Config}
use Rattle.someip_node_rules.specs.declared.config.OfferedService.{OfferedService}
use Rattle.someip_node_rules.specs.forms.Setups.{discovery_port}

-- ---- a node that offers an instance

-- the node 192.168.0.1, its instance, and the client of the node 192.168.0.2
abbrev pub server_address : Ipv4Addr
server_address = record { octets = 192 ∷ 168 ∷ 0 ∷ 1 ∷ [] }

abbrev pub server : SocketAddrV4
server = record { ip = server_address; port = 30509 }

abbrev pub client : SocketAddrV4
client = record { ip = record { octets = 192 ∷ 168 ∷ 0 ∷ 2 ∷ [] }; port = 40001 }

abbrev pub instance : InstanceId
instance = record { service = 0x1111; instance = 1 }

-- Service Discovery of a node
abbrev pub discovery_at : Ipv4Addr → SocketAddrV4
discovery_at address = record { ip = address; port = discovery_port }

-- the instance has the method 0421 and the oneway 0422
abbrev pub service : BTreeMap ℕ (BTreeSet ℕ) → OfferedService
service events = record {
  rules = record {
    service = 0x1111;
    instance = 1;
    major = 1;
    endpoint = server;
    methods = record { keys = 0x0421 ∷ [] };
    oneways = record { keys = 0x0422 ∷ [] };
    events = events;
  };
  minor = 0;
  ttl = 3;
  subscribers = 16;
}

-- a node is set up to offer it, and no other
pub record IsServer (config : Config) : Type 0 where
  pub events : BTreeMap ℕ (BTreeSet ℕ)
  pub address : config.address ≡ server_address
  pub client_port : config.client_port ≡ 40000
  pub offers : config.offers.entries ≡ (instance, service events) ∷ []

-- ---- messages without a payload

-- a message of the client's for a method, of a type, with the first session
abbrev pub asking : ℕ → ℕ → List ℕ
asking method kind = 0x11 ∷ 0x11 ∷ 4 ∷ method ∷ 0 ∷ 0 ∷ 0 ∷ 8 ∷ 1 ∷ 2 ∷ 0 ∷ 1 ∷ 1 ∷ 1 ∷ kind ∷ 0 ∷ []

-- ---- a Subscribe whose run passes the options

-- it asks for the eventgroup 0001 of the instance, for 3 seconds
abbrev pub subscribe_head : EventgroupEntry
subscribe_head = record { kind = Subscribe; service = 0x1111; instance = 1; major = 1; ttl = 3; counter = 0; eventgroup = 1 }

-- the entry of its Nack
abbrev pub nack_answer : EntryValue
nack_answer = ack_entry subscribe_head 0
