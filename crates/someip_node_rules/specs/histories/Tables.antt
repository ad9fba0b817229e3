-- What a node keeps: the answers to all questions to what it met.
use Rattle.std.specs.Prelude.{ℕ, List, Option, None, Some, is_some, Bool}
use Rattle.std.specs.Option.{option_map}
use Rattle.std.specs.FinMap as finite
use Rattle.std.specs.Coded.{Coded}
use Rattle.std.specs.FinMap.{FinMap}
use Rattle.std.specs.declared.net.ipv4_addr.Ipv4Addr.{Ipv4Addr}
use Rattle.std.specs.declared.net.socket_addr.SocketAddrV4.{SocketAddrV4}
use Rattle.someip_tables.specs.Endpoints.{address_cmp, coded_address}
use Rattle.someip_tables.specs.Lastings.{expired, unexpired}
use Rattle.someip_reassembly.specs.Parts.{Parts}
use Rattle.sd_session.specs.declared.stamp.Stamp.{Stamp}
use Rattle.sd_session.specs.Peers.{Held, coded_stamp, coded_stamps}
use Rattle.sd_session.specs.Sessions.{first}
use Rattle.sd_core.specs.declared.keys.InstanceId.{InstanceId}
use Rattle.sd_core.specs.declared.received.KnownOffer.{KnownOffer}
use Rattle.sd_core.specs.OfferTables.{OfferTable}
use Rattle.sd_core.specs.SeekTables.{SeekTable, known_at}
use Rattle.sd_core.specs.SubscriberTables.{SubscriberMap}
use Rattle.sd_core.specs.WishTables.{Wishes}
use Rattle.someip_rpc.specs.Calls.{Client, Pending}
use Rattle.someip_rpc.specs.Servers.{Server}
use Rattle.someip_node_rules.specs.declared.config.Config.{Config}

pub record Tables : Type 0 where
  -- what the node was started with
  pub config : Config
  -- the milliseconds since then
  pub clock : ℕ
  -- the messages that have come in part
  pub parts : Parts
  -- the last stamps of each peer
  pub peers : Held
  -- the stamp of the next message of Service Discovery to the group, and to each peer that was sent one
  pub multicast : Stamp
  pub unicast : FinMap address_cmp Stamp
  -- the instances that it offers, and those that it wants
  pub offers : OfferTable
  pub seek : SeekTable
  -- the subscriptions that it accepted, and those that it wished
  pub subscribers : SubscriberMap
  pub wishes : Wishes
  -- its calls, and the requests and events of its instances
  pub client : Client
  pub server : Server

-- the stamp of the next message to a peer
abbrev pub stamp_or_first : Option Stamp → Stamp
stamp_or_first None = first
stamp_or_first (Some stamp) = stamp

abbrev pub stamp_for : FinMap address_cmp Stamp → Ipv4Addr → Stamp
stamp_for unicast peer = stamp_or_first (finite.get unicast peer)

-- the offer that is known of an instance
abbrev pub known_offer : Tables → InstanceId → Option KnownOffer
known_offer t instance = known_at t.clock (finite.get t.seek.known instance)

abbrev pub known_peer : Tables → InstanceId → Option Ipv4Addr
known_peer t instance = option_map (λ known. known.peer) (known_offer t instance)

abbrev pub known_endpoint : Tables → InstanceId → Option SocketAddrV4
known_endpoint t instance = option_map (λ known. known.endpoint) (known_offer t instance)

-- the instances whose known offer has passed at a moment, by rising instance
abbrev pub passed_instances : ℕ → Tables → List InstanceId
passed_instances now t = finite.keys (expired now t.seek.known)

-- the subscriptions that are live
abbrev pub live_subscribers : Tables → SubscriberMap
live_subscribers t = unexpired t.clock t.subscribers

-- the calls that wait for their answer
abbrev pub waiting_calls : Tables → Pending
waiting_calls t = unexpired t.clock t.client.pending

-- an instance is offered
abbrev pub is_up : Tables → InstanceId → Bool
is_up t instance = is_some (finite.get t.offers.up instance)

-- ---- codes, by which a proof tells values apart

abbrev pub coded_held : Coded Held
coded_held = finite.code coded_address coded_stamps

abbrev pub coded_stamps_to : Coded (FinMap address_cmp Stamp)
coded_stamps_to = finite.code coded_address coded_stamp
