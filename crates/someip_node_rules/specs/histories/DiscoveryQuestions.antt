-- The questions of messages: what has come in part, what was heard of peers, and the stamps of what goes out.
use Rattle.std.specs.Prelude.{ℕ, ◌+◌, if◌then◌else◌, List, [], ◌∷◌, filter, length, Option, None, Some}
use Rattle.std.specs.List.{flat_map}
use Rattle.std.specs.Ordering.{eq_by_cmp}
use Rattle.std.specs.FinMap as finite
use Rattle.std.specs.FinMap.{FinMap}
use Rattle.std.specs.declared.net.ipv4_addr.Ipv4Addr.{Ipv4Addr}
use Rattle.someip_tables.specs.Endpoints.{address_cmp}
use Rattle.someip_reassembly.specs.SegmentOffers.{parts_after, parts_less}
use Rattle.someip_reassembly.specs.Parts.{Limits, Parts, parts_at}
use Rattle.sd_session.specs.declared.peers.Stamps.{Stamps}
use Rattle.sd_session.specs.declared.stamp.Stamp.{Stamp}
use Rattle.sd_session.specs.Peers.{Held, stamps_after, stamps_or_none}
use Rattle.sd_session.specs.Sessions.{after_uses}
use Rattle.someip_node_rules.specs.histories.Items.{Item, GroupAddressed, MessageTaken, PeerAddressed, PeerHeard, SegmentOffered, Ticked}
use Rattle.someip_node_rules.specs.histories.Questions.{clock_at, latest, table_of}

-- ---- the messages that have come in part

abbrev pub parts_by : Limits → Item → ℕ → Parts → Parts
parts_by limits (Ticked ms) now parts = parts_at limits (now + ms) parts
parts_by limits (SegmentOffered o) now parts = parts_after limits now o parts
parts_by limits (MessageTaken key) now parts = parts_less parts key
parts_by limits item now parts = parts

abbrev pub parts_in : Limits → List Item → Parts
parts_in limits [] = finite.empty
parts_in limits (item ∷ before) = parts_by limits item (clock_at before) (parts_in limits before)

-- ---- peers

-- the peer that an item is a message of
abbrev pub peer_heard : Item → List Ipv4Addr
peer_heard (PeerHeard peer channel stamp) = peer ∷ []
peer_heard item = []

-- the last stamp of a peer on each channel, from its last reboot on
abbrev pub stamps_by : Item → List Item → Ipv4Addr → Option Stamps → Option Stamps
stamps_by (PeerHeard peer channel stamp) before q stood =
    if eq_by_cmp address_cmp q peer then Some (stamps_after channel stamp (stamps_or_none stood)) else stood
stamps_by item before q stood = stood

abbrev pub stamps_at : List Item → Ipv4Addr → Option Stamps
stamps_at = latest stamps_by (λ _. None)

abbrev pub peers_in : List Item → Held
peers_in items = table_of (flat_map peer_heard items) (stamps_at items)

-- ---- the stamps of the next messages of Service Discovery

-- a message went to the group
abbrev pub group_addressed : Item → List (Unit {0})
group_addressed GroupAddressed = tt ∷ []
group_addressed item = []

-- the stamp of the next message to the group: as many went out before it
abbrev pub multicast_in : List Item → Stamp
multicast_in items = after_uses (length (flat_map group_addressed items))

-- the peer that a message went to
abbrev pub peer_addressed : Item → List Ipv4Addr
peer_addressed (PeerAddressed peer) = peer ∷ []
peer_addressed item = []

-- how many messages went to a peer
abbrev pub messages_to : List Item → Ipv4Addr → ℕ
messages_to items peer = length (filter (eq_by_cmp address_cmp peer) (flat_map peer_addressed items))

-- the stamps of the next messages to the peers that one went to
abbrev pub unicast_in : List Item → FinMap address_cmp Stamp
unicast_in items = table_of (flat_map peer_addressed items) (λ peer. Some (after_uses (messages_to items peer)))
