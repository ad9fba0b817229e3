-- The rules of what a client learns from the entries of Service Discovery: Offers, Acks and Nacks (SOME/IP Service
-- Discovery Protocol, "Offer Service entry", "Subscribe Eventgroup Acknowledgement entry", "Detection of reboots").
use Rattle.std.specs.Prelude.{ℕ, ◌==◌, Bool, false, if◌then◌else◌, List, [], ◌∷◌, map, Option, None, Some}
use Rattle.std.specs.List.{flat_map}
use Rattle.std.specs.Option.{option_map_or}
use Rattle.std.specs.Ordering.{eq_by_cmp}
use Rattle.std.specs.FinMap as finite
use Rattle.std.specs.declared.net.ipv4_addr.Ipv4Addr.{Ipv4Addr}
use Rattle.std.specs.declared.net.socket_addr.SocketAddrV4.{SocketAddrV4}
use Rattle.sd_wire.specs.declared.entry.EventgroupEntry.{EventgroupEntry}
use Rattle.sd_wire.specs.declared.entry.ServiceEntry.{ServiceEntry}
use Rattle.sd_wire.specs.contents.Values.{EntryValue}
use Rattle.sd_session.specs.declared.peers.Seen.{Seen}
use Rattle.sd_session.specs.declared.peers.Seen.TheVariants.{Same}
use Rattle.sd_session.specs.declared.peers.Seen.TheVariants as seen_as
use Rattle.sd_session.specs.declared.stamp.Channel.{Channel}
use Rattle.sd_session.specs.declared.stamp.Stamp.{Stamp}
use Rattle.sd_session.specs.Peers.{stamps_of, told_by}
use Rattle.sd_core.specs.declared.eventgroup.Eventgroup.{Eventgroup}
use Rattle.sd_core.specs.declared.keys.InstanceId.{InstanceId}
use Rattle.sd_core.specs.declared.received.Counted.{Counted}
use Rattle.sd_core.specs.declared.received.Counted.TheVariants.{New, Moved}
use Rattle.sd_core.specs.declared.received.Counted.TheVariants as known_as
use Rattle.sd_core.specs.declared.received.ReceivedOffer.{ReceivedOffer}
use Rattle.sd_core.specs.declared.received.Uncounted.{Uncounted}
use Rattle.sd_core.specs.declared.received.Uncounted.TheVariants.{Unwanted}
use Rattle.sd_core.specs.declared.received.Uncounted.TheVariants as left_out
use Rattle.sd_core.specs.declared.wish.Acked.{Acked}
use Rattle.sd_core.specs.declared.wish.Acked.TheVariants.{Renewed}
use Rattle.sd_core.specs.declared.wish.Acked.TheVariants as acked_as
use Rattle.sd_core.specs.declared.wish.OutgoingSubscribe.{OutgoingSubscribe}
use Rattle.sd_core.specs.declared.wish.SubscribeAnswer.{SubscribeAnswer}
use Rattle.sd_core.specs.Keys.{instance_cmp}
use Rattle.sd_core.specs.SeekTables.{counted_as, is_stopped, known_of, uncounted}
use Rattle.sd_core.specs.Wishes.{is_answered, is_with, told_by_ack, wish_of}
use Rattle.sd_core.specs.WishTables.{begun_where, subscribes}
use Rattle.someip_node_rules.specs.declared.drops.DropReason.TheVariants.{NoEndpoint, NotPending, OtherPeer}
use Rattle.someip_node_rules.specs.declared.output.Output.{Output}
use Rattle.someip_node_rules.specs.declared.output.Output.TheVariants.{Dropped, Gone, Known, Rebooted, Subscribed, Unsubscribed}
use Rattle.someip_node_rules.specs.forms.Entries.{subscribe_entry}
use Rattle.someip_node_rules.specs.histories.Items.{AckCame, NackCame, OfferCounted, OfferWithdrawn, PeerHeard, PeerRebooted}
use Rattle.someip_node_rules.specs.rules.Outcomes.{Outcome, dropped, endings, meets, nothing, unsubscribed}
use Rattle.someip_node_rules.specs.forms.Outputs.{Tells}
use Rattle.someip_node_rules.specs.forms.Setups.{client_endpoint, wanted_as, wanted_instances}
use Rattle.someip_node_rules.specs.histories.Tables.{Tables, known_offer}

-- ---- peers

-- what ends as a peer began again: what was learned from it
abbrev pub reboot_endings : Ipv4Addr → Tables → List Output
reboot_endings peer t =
    endings (wanted_instances t.config) (finite.keys (known_of peer t.clock t.seek))
    (finite.keys (begun_where (λ eventgroup beginning. is_with peer beginning) t.wishes))

-- a message of a peer came, by what it shows: a reboot is told first, and then what ends by it
abbrev pub hearing_by : Ipv4Addr → Channel → Stamp → Seen → Tables → Outcome
hearing_by peer channel stamp Same t = meets (PeerHeard peer channel stamp ∷ []) []
hearing_by peer channel stamp seen_as.Rebooted t = meets (PeerRebooted peer ∷ PeerHeard peer channel stamp ∷ []) (Rebooted peer ∷ reboot_endings peer t)

-- a message of a peer came on a channel: where it shows that the peer rebooted, what was learned from the peer ends
abbrev pub hearing : Ipv4Addr → Channel → Stamp → Tables → Outcome
hearing peer channel stamp t = hearing_by peer channel stamp (told_by channel stamp (stamps_of t.peers peer)) t

-- ---- Offers

-- an Offer, as it is learned from
abbrev pub received_offer : Ipv4Addr → ServiceEntry → Option SocketAddrV4 → ReceivedOffer
received_offer peer head endpoint = record {
  instance = record { service = head.service; instance = head.instance };
  major = head.major;
  ttl = head.ttl;
  endpoint = endpoint;
  peer = peer;
}

-- a Subscribe that an Offer or a wish brings about
abbrev pub subscribe_to : Tables → OutgoingSubscribe → List EntryValue
subscribe_to t subscribe =
    option_map_or (λ want. subscribe_entry (client_endpoint t.config) want.major want.ttl subscribe.eventgroup subscribe.counter ∷ [])
    (wanted_as t.config subscribe.eventgroup.instance) []

-- the offer is told if it is new, or has another endpoint
abbrev pub known_told : InstanceId → SocketAddrV4 → Counted → List Output
known_told instance endpoint New = Known instance endpoint ∷ []
known_told instance endpoint Moved = Known instance endpoint ∷ []
known_told instance endpoint known_as.Renewed = []

-- an Offer with this endpoint counts: each wished eventgroup of its instance sends a Subscribe
abbrev pub offer_counts : ReceivedOffer → SocketAddrV4 → Tables → Outcome
offer_counts offer endpoint t = record {
  items = OfferCounted offer endpoint ∷ [];
  given = map Tells (known_told offer.instance endpoint (counted_as endpoint (known_offer t offer.instance)));
  replies = flat_map (subscribe_to t) (subscribes t.clock offer.instance offer.peer t.wishes);
}

-- an Offer does not count: one of an instance that is not wanted is passed over, and any other is dropped
abbrev pub uncounted_by : Uncounted → Outcome
uncounted_by Unwanted = nothing
uncounted_by left_out.NoEndpoint = dropped NoEndpoint
uncounted_by left_out.OtherPeer = dropped OtherPeer

-- an Offer counts, unless there is a cause why it does not
abbrev pub offer_by : ReceivedOffer → Option Uncounted → Tables → Outcome
offer_by offer None t = option_map_or (λ endpoint. offer_counts offer endpoint t) offer.endpoint nothing
offer_by offer (Some cause) t = uncounted_by cause

-- an Offer comes
abbrev pub offer : ReceivedOffer → Tables → Outcome
offer o t = offer_by o (uncounted o t.clock t.seek) t

-- what ends with the known offer of an instance
abbrev pub offer_endings : InstanceId → Tables → List Output
offer_endings instance t =
    Gone instance
    ∷ unsubscribed (finite.keys (begun_where (λ eventgroup beginning. eq_by_cmp instance_cmp eventgroup.instance instance) t.wishes))

-- a StopOffer comes: it ends the known offer of its instance, if that peer made it
abbrev pub stop_offer : InstanceId → ℕ → Ipv4Addr → Tables → Outcome
stop_offer instance major peer t =
    if is_stopped instance major peer t.clock t.seek then meets (OfferWithdrawn instance ∷ []) (offer_endings instance t) else nothing

-- ---- Acks and Nacks

-- the eventgroup that an entry is about
abbrev pub eventgroup_in : EventgroupEntry → Eventgroup
eventgroup_in head = record { instance = record { service = head.service; instance = head.instance }; id = head.eventgroup }

-- an Ack or a Nack, as it is taken
abbrev pub answer_in : Ipv4Addr → EventgroupEntry → Tables → SubscribeAnswer
answer_in peer head t = record {
  eventgroup = eventgroup_in head;
  has_wanted_major = option_map_or (λ want. want.major == head.major) (wanted_as t.config (eventgroup_in head).instance) false;
  peer = peer;
  counter = head.counter;
}

-- what is told of an Ack
abbrev pub ack_told : Eventgroup → ℕ → Acked → List Output
ack_told eventgroup counter acked_as.Subscribed = Subscribed eventgroup counter ∷ []
ack_told eventgroup counter Renewed = []
ack_told eventgroup counter acked_as.NotPending = Dropped NotPending ∷ []

-- an Ack comes
abbrev pub ack_by : SubscribeAnswer → ℕ → Tables → Outcome
ack_by answer ttl t =
    meets (AckCame answer ttl ∷ [])
    (ack_told answer.eventgroup answer.counter (told_by_ack t.clock answer (wish_of (finite.get t.wishes answer.eventgroup)).stage))

-- the entry of an Ack comes from a peer
abbrev pub ack : Ipv4Addr → EventgroupEntry → Tables → Outcome
ack peer head t = ack_by (answer_in peer head t) head.ttl t

-- what is told of a Nack, which ended a subscription or did not
abbrev pub nack_told : Eventgroup → Bool → List Output
nack_told eventgroup ended = if ended then Unsubscribed eventgroup ∷ [] else Dropped NotPending ∷ []

-- a Nack comes
abbrev pub nack_by : SubscribeAnswer → Tables → Outcome
nack_by answer t =
    meets (NackCame answer ∷ [])
    (nack_told answer.eventgroup (is_answered t.clock answer (wish_of (finite.get t.wishes answer.eventgroup)).stage))

-- the entry of a Nack comes from a peer
abbrev pub nack : Ipv4Addr → EventgroupEntry → Tables → Outcome
nack peer head t = nack_by (answer_in peer head t) t
