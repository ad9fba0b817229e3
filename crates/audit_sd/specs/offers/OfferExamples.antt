-- Offers of two nodes.
use Rattle.std.specs.Prelude.{ℕ, [], ◌∷◌, None, Some}
use Rattle.std.specs.declared.net.ipv4_addr.Ipv4Addr.{Ipv4Addr}
use Rattle.std.specs.declared.net.socket_addr.SocketAddrV4.{SocketAddrV4}
use Rattle.audit_sd.specs.declared.offers.entry.OfferEntry.{OfferEntry}
use Rattle.someip_tables.specs.declared.deadline.Deadline.TheVariants.{At}
use Rattle.someip_tables.specs.declared.hashed.origin.Origin.{Origin}
use Rattle.audit_sd.specs.declared.offers.entry.Standing.{Standing}
use Rattle.audit_sd.specs.declared.offers.key.OfferKey.{OfferKey}
use Rattle.audit_sd.specs.offers.OfferHistories.{Event, Entry, BeganAgain}

-- 192.168.0.n
abbrev pub node : ℕ → Ipv4Addr
node n = record { octets = 192 ∷ 168 ∷ 0 ∷ n ∷ [] }

abbrev pub endpoint : ℕ → ℕ → SocketAddrV4
endpoint n port = record { ip = node n; port = port }

-- datagram k of a node to the group
abbrev pub from_node : ℕ → ℕ → Origin
from_node k n = record { numbers = record { datagram = k; frame = k }; from = endpoint n 30490; to = record { ip = record { octets = 224 ∷ 244 ∷ 224 ∷ 245 ∷ [] }; port = 30490 } }

-- instance 1 of a service, major version 1
abbrev pub service : ℕ → OfferKey
service id = record { service = id; instance = 1; major = 1 }

-- datagram k: node n offers service 4096 at an endpoint, for so many seconds
abbrev pub offer_at : ℕ → ℕ → SocketAddrV4 → ℕ → OfferEntry
offer_at k n place ttl = record { key = service 4096; endpoint = Some place; ttl = ttl; origin = from_node k n }

-- at a port of its own
abbrev pub offer : ℕ → ℕ → ℕ → ℕ → OfferEntry
offer k n port ttl = offer_at k n (endpoint n port) ttl

-- without an endpoint
abbrev pub offer_nowhere : ℕ → ℕ → ℕ → OfferEntry
offer_nowhere k n ttl = record { key = service 4096; endpoint = None; ttl = ttl; origin = from_node k n }

-- datagram k: a node offers it no more
abbrev pub stop : ℕ → ℕ → OfferEntry
stop k n = record { key = service 4096; endpoint = None; ttl = 0; origin = from_node k n }

-- an offer that stands until a moment
abbrev pub standing_at : SocketAddrV4 → Origin → ℕ → Standing
standing_at place origin at = record { endpoint = place; origin = origin; until = At at }

-- an entry comes at a moment
abbrev pub comes : ℕ → OfferEntry → Event
comes at entry = record { at = at; shown = Entry entry }

-- a node begins again at a moment
abbrev pub begins_again : ℕ → ℕ → Event
begins_again at n = record { at = at; shown = BeganAgain (node n) }
