-- What a setup says, as plain values.
use Rattle.std.specs.Prelude.{ℕ, Bool, List, map, string_bytes}
use Rattle.std.specs.declared.net.ipv4_addr.Ipv4Addr.{Ipv4Addr}
use Rattle.sd_core.specs.declared.phases.Phases.{Phases}
use Rattle.someip_node_rules.specs.declared.config.Common.{Common}
use Rattle.someip_world_setup_keys.specs.declared.parts.Listed.{Listed}
use Rattle.someip_world_setup_keys.specs.declared.parts.OfferParts.{OfferParts}
use Rattle.someip_world_setup_keys.specs.declared.parts.WantParts.{WantParts}
use Rattle.someip_world_setup_keys.specs.declared.parts.NodeParts.{NodeParts}
use Rattle.someip_world_setup_keys.specs.declared.parts.SetupParts.{SetupParts}

-- an event with its eventgroups, or an eventgroup with its events
pub record ListedValue : Type 0 where
  pub id : ℕ
  pub members : List ℕ

pub record OfferValue : Type 0 where
  pub service : ℕ
  pub instance : ℕ
  pub major : ℕ
  pub minor : ℕ
  pub ttl : ℕ
  pub port : ℕ
  pub methods : List ℕ
  pub oneways : List ℕ
  pub events : List ListedValue
  pub subscribers : ℕ

pub record WantValue : Type 0 where
  pub service : ℕ
  pub instance : ℕ
  pub major : ℕ
  pub ttl : ℕ
  pub groups : List ListedValue

pub record NodeValue : Type 0 where
  pub name : List ℕ
  pub address : Ipv4Addr
  pub client_id : ℕ
  pub client_port : ℕ
  pub delay : ℕ
  pub liar : Bool
  pub offers : List OfferValue
  pub wants : List WantValue

-- the delays after the first one
pub record PhasesValue : Type 0 where
  pub base : ℕ
  pub repetitions : ℕ
  pub cyclic : ℕ

-- what all nodes share
pub record CommonValue : Type 0 where
  pub group : Ipv4Addr
  pub initial_min : ℕ
  pub initial_max : ℕ
  pub phases : PhasesValue
  pub message_limit : ℕ
  pub slots : ℕ
  pub peers : ℕ
  pub reassembly_timeout : ℕ
  pub call_timeout : ℕ

pub record SetupValue : Type 0 where
  pub common : CommonValue
  pub nodes : List NodeValue

-- the program's values as these
abbrev pub listed_view : Listed → ListedValue
listed_view l = record { id = l.id; members = l.members.items }

abbrev pub offer_view : OfferParts → OfferValue
offer_view o = record {
  service = o.id.service;
  instance = o.id.instance;
  major = o.major;
  minor = o.minor;
  ttl = o.ttl;
  port = o.port;
  methods = o.methods.items;
  oneways = o.oneways.items;
  events = map listed_view o.events.items;
  subscribers = o.subscribers;
}

abbrev pub want_view : WantParts → WantValue
want_view w = record {
  service = w.id.service;
  instance = w.id.instance;
  major = w.major;
  ttl = w.ttl;
  groups = map listed_view w.groups.items;
}

abbrev pub node_view : NodeParts → NodeValue
node_view n = record {
  name = string_bytes n.name;
  address = n.address;
  client_id = n.client_id;
  client_port = n.client_port;
  delay = n.delay;
  liar = n.is_liar;
  offers = map offer_view n.offers.items;
  wants = map want_view n.wants.items;
}

abbrev pub phases_view : Phases → PhasesValue
phases_view p = record { base = p.base; repetitions = p.repetitions; cyclic = p.cyclic }

abbrev pub common_view : Common → CommonValue
common_view c = record {
  group = c.group;
  initial_min = c.initial_min_ms;
  initial_max = c.initial_max_ms;
  phases = phases_view c.phases;
  message_limit = c.message_limit;
  slots = c.slots;
  peers = c.peers;
  reassembly_timeout = c.reassembly_timeout_ms;
  call_timeout = c.call_timeout_ms;
}

abbrev pub parts_view : SetupParts → SetupValue
parts_view s = record { common = common_view s.common; nodes = map node_view s.nodes.items }
