-- What a client met that wished an eventgroup, as examples.
use Rattle.std.specs.Prelude.{ℕ, suc, true, List, [], ◌∷◌, Option, Some}
use Rattle.std.specs.declared.net.ipv4_addr.Ipv4Addr.{Ipv4Addr}
use Rattle.std.specs.declared.net.socket_addr.SocketAddrV4.{SocketAddrV4}
use Rattle.someip_tables.specs.declared.deadline.Deadline.{Deadline}
use Rattle.sd_core.specs.declared.eventgroup.Eventgroup.{Eventgroup}
use Rattle.sd_core.specs.declared.keys.InstanceId.{InstanceId}
use Rattle.sd_core.specs.declared.received.ReceivedOffer.{ReceivedOffer}
use Rattle.sd_core.specs.declared.wish.Stage.TheVariants.{Begun, Waiting}
use Rattle.sd_core.specs.declared.wish.SubscribeAnswer.{SubscribeAnswer}
use Rattle.sd_core.specs.declared.wish.Wish.{Wish}
use Rattle.someip_node_rules.specs.histories.Items.{Item, AckCame, OfferCounted, Ticked, Wished}

-- a server, its instance, and an eventgroup of that
abbrev pub offering_peer : Ipv4Addr
offering_peer = record { octets = 10 ∷ 0 ∷ 0 ∷ 2 ∷ [] }

abbrev pub other_peer : Ipv4Addr
other_peer = record { octets = 10 ∷ 0 ∷ 0 ∷ 3 ∷ [] }

abbrev pub offering_endpoint : SocketAddrV4
offering_endpoint = record { ip = offering_peer; port = 40000 }

abbrev pub wished_instance : InstanceId
wished_instance = record { service = 0x1234; instance = 1 }

abbrev pub wished_eventgroup : Eventgroup
wished_eventgroup = record { instance = wished_instance; id = 1 }

-- an Offer of the server with a TTL, and its Ack of a Subscribe with a counter
abbrev pub offer_for : ℕ → ReceivedOffer
offer_for ttl = record { instance = wished_instance; major = 1; ttl = ttl; endpoint = Some offering_endpoint; peer = offering_peer }

abbrev pub ack_of : ℕ → SubscribeAnswer
ack_of counter = record { eventgroup = wished_eventgroup; has_wanted_major = true; peer = offering_peer; counter = counter }

-- the eventgroup was wished, and then its instance was offered with a TTL
abbrev pub subscribing_with : ℕ → List Item
subscribing_with ttl = OfferCounted (offer_for ttl) offering_endpoint ∷ Wished wished_eventgroup ∷ []

-- the Subscribe was acknowledged for 3 seconds, and some milliseconds went by
abbrev pub acked_after : ℕ → ℕ → List Item
acked_after ttl ms = Ticked ms ∷ AckCame (ack_of 0) 3 ∷ subscribing_with ttl

-- a subscription with a counter was begun at the server, and stands until a deadline if it was acknowledged
abbrev pub begun_with : ℕ → Option Deadline → Wish
begun_with counter until = record { stage = Begun (record { peer = offering_peer; counter = counter; until = until }); next_counter = suc counter }

-- none stands, and the next counter is this
abbrev pub waiting_with : ℕ → Wish
waiting_with counter = record { stage = Waiting; next_counter = counter }
