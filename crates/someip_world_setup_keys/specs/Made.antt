-- The configurations that are made of what a setup says, with each set and map as the list of its entries.
use Rattle.std.specs.Prelude.{ℕ, List, [], ◌∷◌, map}
use Rattle.std.specs.declared.cmp.Ordering.{Ordering}
use Rattle.std.specs.Ordering.{nat_cmp}
use Rattle.std.specs.BTreeMap.{insert_entry}
use Rattle.std.specs.BTreeSet.{BTreeSet, insert_key}
use Rattle.std.specs.declared.net.ipv4_addr.Ipv4Addr.{Ipv4Addr}
use Rattle.std.specs.declared.net.socket_addr.SocketAddrV4.{SocketAddrV4}
use Rattle.sd_core.specs.declared.keys.InstanceId.{InstanceId}
use Rattle.sd_core.specs.Keys.{instance_cmp}
use Rattle.someip_node_rules.specs.declared.config.Common.{Common}
use Rattle.someip_node_rules.specs.declared.config.Config.{Config}
use Rattle.someip_node_rules.specs.declared.config.OfferedService.{OfferedService}
use Rattle.someip_node_rules.specs.declared.config.WantedService.{WantedService}
use Rattle.someip_world_setup_keys.specs.Values.{ListedValue, OfferValue, WantValue, NodeValue}

-- keys, with further ones at their places in the order, and entries, with further ones
abbrev pub with_keys : List ℕ → List ℕ → List ℕ
with_keys keys [] = keys
with_keys keys (k ∷ ks) = with_keys (insert_key nat_cmp keys k) ks

abbrev pub with_entries : {K X : Type 0} → (K → K → Ordering) → List (K × X) → List (K × X) → List (K × X)
with_entries cmp entries [] = entries
with_entries cmp entries (e ∷ es) = with_entries cmp (insert_entry cmp entries e.0 e.1) es

-- the entries of a map, with each value as a plain one
abbrev pub plain_entries : {K X Y : Type 0} → (X → Y) → List (K × X) → List (K × Y)
plain_entries f = map (λ e. (e.0, f e.1))

-- ---- what is made

pub record OfferMade : Type 0 where
  pub service : ℕ
  pub instance : ℕ
  pub major : ℕ
  pub endpoint : SocketAddrV4
  pub methods : List ℕ
  pub oneways : List ℕ
  pub events : List (ℕ × List ℕ)
  pub minor : ℕ
  pub ttl : ℕ
  pub subscribers : ℕ

pub record WantMade : Type 0 where
  pub major : ℕ
  pub ttl : ℕ
  pub groups : List (ℕ × List ℕ)

pub record ConfigMade : Type 0 where
  pub common : Common
  pub address : Ipv4Addr
  pub client_id : ℕ
  pub client_port : ℕ
  pub offers : List (InstanceId × OfferMade)
  pub wants : List (InstanceId × WantMade)

-- ---- the program's values as these

abbrev pub keys_of_set : BTreeSet ℕ → List ℕ
keys_of_set s = s.keys

abbrev pub offered_view : OfferedService → OfferMade
offered_view o = record {
  service = o.rules.service;
  instance = o.rules.instance;
  major = o.rules.major;
  endpoint = o.rules.endpoint;
  methods = o.rules.methods.keys;
  oneways = o.rules.oneways.keys;
  events = plain_entries keys_of_set o.rules.events.entries;
  minor = o.minor;
  ttl = o.ttl;
  subscribers = o.subscribers;
}

abbrev pub wanted_view : WantedService → WantMade
wanted_view w = record { major = w.major; ttl = w.ttl; groups = plain_entries keys_of_set w.groups.entries }

abbrev pub config_view : Config → ConfigMade
config_view c = record {
  common = c.common;
  address = c.address;
  client_id = c.client_id;
  client_port = c.client_port;
  offers = plain_entries offered_view c.offers.entries;
  wants = plain_entries wanted_view c.wants.entries;
}

-- ---- of what they are made

abbrev pub set_of : List ℕ → List ℕ
set_of = with_keys []

abbrev pub keyed_list : ListedValue → ℕ × List ℕ
keyed_list l = (l.id, set_of l.members)

abbrev pub lists_of : List ListedValue → List (ℕ × List ℕ)
lists_of ls = with_entries nat_cmp [] (map keyed_list ls)

abbrev pub offer_made : Ipv4Addr → OfferValue → OfferMade
offer_made address o = record {
  service = o.service;
  instance = o.instance;
  major = o.major;
  endpoint = record { ip = address; port = o.port };
  methods = set_of o.methods;
  oneways = set_of o.oneways;
  events = lists_of o.events;
  minor = o.minor;
  ttl = o.ttl;
  subscribers = o.subscribers;
}

abbrev pub keyed_offer : Ipv4Addr → OfferValue → InstanceId × OfferMade
keyed_offer address o = (record { service = o.service; instance = o.instance }, offer_made address o)

abbrev pub want_made : WantValue → WantMade
want_made w = record { major = w.major; ttl = w.ttl; groups = lists_of w.groups }

abbrev pub keyed_want : WantValue → InstanceId × WantMade
keyed_want w = (record { service = w.service; instance = w.instance }, want_made w)

abbrev pub offers_made : Ipv4Addr → List OfferValue → List (InstanceId × OfferMade)
offers_made address os = with_entries instance_cmp [] (map (keyed_offer address) os)

abbrev pub wants_made : List WantValue → List (InstanceId × WantMade)
wants_made ws = with_entries instance_cmp [] (map keyed_want ws)

abbrev pub config_made : Common → NodeValue → ConfigMade
config_made common n = record {
  common = common;
  address = n.address;
  client_id = n.client_id;
  client_port = n.client_port;
  offers = offers_made n.address n.offers;
  wants = wants_made n.wants;
}
