-- What a node meets, and how it changes the node's tables.
use Rattle.std.specs.Prelude.{ℕ, ◌+◌, not}
use Rattle.std.specs.FinMap as finite
use Rattle.std.specs.declared.net.ipv4_addr.Ipv4Addr.{Ipv4Addr}
use Rattle.std.specs.declared.net.socket_addr.SocketAddrV4.{SocketAddrV4}
use Rattle.someip_tables.specs.Deadlines.{deadline_after}
use Rattle.someip_tables.specs.Lastings.{unexpired}
use Rattle.someip_reassembly.specs.declared.key.ReassemblyKey.{ReassemblyKey}
use Rattle.someip_reassembly.specs.SegmentOffers.{SegmentOffer, parts_after}
use Rattle.someip_reassembly.specs.SegmentOffers.{parts_less}
use Rattle.someip_reassembly.specs.Parts.{parts_at}
use Rattle.sd_session.specs.declared.stamp.Channel.{Channel}
use Rattle.sd_session.specs.declared.stamp.Stamp.{Stamp}
use Rattle.sd_session.specs.Peers.{stamps_after, stamps_of}
use Rattle.sd_session.specs.Sessions.{following}
use Rattle.sd_core.specs.declared.eventgroup.Eventgroup.{Eventgroup}
use Rattle.sd_core.specs.declared.keys.InstanceId.{InstanceId}
use Rattle.sd_core.specs.declared.received.ReceivedOffer.{ReceivedOffer}
use Rattle.sd_core.specs.declared.subscription.Subscription.{Subscription}
use Rattle.sd_core.specs.declared.wish.SubscribeAnswer.{SubscribeAnswer}
use Rattle.someip_tables.specs.Changed.{changed_at}
use Rattle.sd_core.specs.Endings.{ends_at}
use Rattle.sd_core.specs.OfferTables.{after_tick, without}
use Rattle.sd_core.specs.SeekTables.{seek_after_tick, learned, forgetting}
use Rattle.sd_core.specs.SubscriberTables.{is_of_instance, is_of_peer, subscribed_until}
use Rattle.sd_core.specs.Wishes.{acked_wish, is_with, nacked_wish, unwished, wished_with, wish_of}
use Rattle.sd_core.specs.WishTables.{ended_where, offered}
use Rattle.someip_rpc.specs.declared.call.Call.{Call}
use Rattle.someip_rpc.specs.declared.ids.CallKey.{CallKey}
use Rattle.someip_rpc.specs.declared.ids.EventId.{EventId}
use Rattle.someip_rpc.specs.declared.request.Asked.{Asked}
use Rattle.someip_rpc.specs.Calls.{called}
use Rattle.someip_rpc.specs.Sessions.{next_of}
use Rattle.someip_node_rules.specs.forms.Setups.{client_rules, limits_of}
use Rattle.someip_node_rules.specs.histories.Tables.{Tables, known_peer, passed_instances, stamp_for}
use Rattle.std.specs.Ordering.{eq_by_cmp}
use Rattle.sd_core.specs.Keys.{instance_cmp}

pub data Item : Type 0 where
  -- the clock went on by so many milliseconds
  Ticked : ℕ → Item
  -- a segment was offered
  SegmentOffered : SegmentOffer → Item
  -- the whole message under a key was taken
  MessageTaken : ReassemblyKey → Item
  -- a peer began again, and a message of a peer came on a channel
  PeerRebooted : Ipv4Addr → Item
  PeerHeard : Ipv4Addr → Channel → Stamp → Item
  -- an Offer counted, with the endpoint that it has, and a StopOffer ended the known offer of an instance
  OfferCounted : ReceivedOffer → SocketAddrV4 → Item
  OfferWithdrawn : InstanceId → Item
  -- a Subscribe was accepted with a TTL, and a StopSubscribe came
  SubscriptionAccepted : Subscription → ℕ → Item
  SubscriptionStopped : Subscription → Item
  -- an Ack came with a TTL, and a Nack
  AckCame : SubscribeAnswer → ℕ → Item
  NackCame : SubscribeAnswer → Item
  -- a message of Service Discovery was sent to the group, and to a peer
  GroupAddressed : Item
  PeerAddressed : Ipv4Addr → Item
  -- the application called an endpoint with a session, and the answer to a call was taken
  Called : Call → SocketAddrV4 → ℕ → Item
  AnswerTaken : CallKey → Item
  -- a request was handed up under the next token, and was answered
  Requested : Asked → Item
  Answered : ℕ → Item
  -- the application published an event
  Published : EventId → Item
  -- it wished an eventgroup, and took the wish back
  Wished : Eventgroup → Item
  Unwished : Eventgroup → Item
  -- it stopped the offer of an instance
  OfferStopped : InstanceId → Item

-- how an item changes the tables
abbrev pub changed : Tables → Item → Tables
changed t (Ticked ms) = record t {
  clock = t.clock + ms;
  parts = parts_at (limits_of t.config) (t.clock + ms) t.parts;
  offers = after_tick t.config.common.phases (t.clock + ms) t.offers;
  seek = seek_after_tick t.config.common.phases (t.clock + ms) t.seek;
  subscribers = unexpired (t.clock + ms) t.subscribers;
  wishes = ended_where (ends_at (t.clock + ms) (passed_instances (t.clock + ms) t)) t.wishes;
  client = record t.client { pending = unexpired (t.clock + ms) t.client.pending };
}
changed t (SegmentOffered o) = record t { parts = parts_after (limits_of t.config) t.clock o t.parts }
changed t (MessageTaken key) = record t { parts = parts_less t.parts key }
changed t (PeerRebooted peer) = record t {
  seek = forgetting peer t.clock t.seek;
  subscribers = finite.retain_keys t.subscribers (λ s. not (is_of_peer peer s));
  wishes = ended_where (λ eventgroup beginning. is_with peer beginning) t.wishes;
}
changed t (PeerHeard peer channel stamp) = record t { peers = finite.insert t.peers peer (stamps_after channel stamp (stamps_of t.peers peer)) }
changed t (OfferCounted offer endpoint) = record t {
  seek = learned offer endpoint t.clock t.seek;
  wishes = offered t.clock offer.instance offer.peer t.wishes;
}
changed t (OfferWithdrawn instance) = record t {
  seek = record t.seek { known = finite.remove t.seek.known instance };
  wishes = ended_where (λ eventgroup beginning. eq_by_cmp instance_cmp eventgroup.instance instance) t.wishes;
}
changed t (SubscriptionAccepted s ttl) = record t { subscribers = subscribed_until s (deadline_after t.clock ttl) t.clock t.subscribers }
changed t (SubscriptionStopped s) = record t { subscribers = finite.remove t.subscribers s }
changed t (AckCame answer ttl) = record t { wishes = changed_at answer.eventgroup (acked_wish t.clock answer ttl) t.wishes }
changed t (NackCame answer) = record t { wishes = changed_at answer.eventgroup (nacked_wish t.clock answer) t.wishes }
changed t GroupAddressed = record t { multicast = following t.multicast }
changed t (PeerAddressed peer) = record t { unicast = finite.insert t.unicast peer (following (stamp_for t.unicast peer)) }
changed t (Called call peer session) = record t { client = called (client_rules t.config) call peer session t.clock t.client }
changed t (AnswerTaken key) = record t { client = record t.client { pending = finite.remove t.client.pending key } }
changed t (Requested request) = record t {
  server = record t.server { requests = finite.insert t.server.requests t.server.next request; next = t.server.next + 1 };
}
changed t (Answered token) = record t { server = record t.server { requests = finite.remove t.server.requests token } }
changed t (Published event) = record t {
  server = record t.server { sessions = finite.insert t.server.sessions event (next_of t.server.sessions event) };
}
changed t (Wished eventgroup) = record t {
  wishes = finite.insert t.wishes eventgroup (wished_with t.clock (known_peer t eventgroup.instance) (wish_of (finite.get t.wishes eventgroup)));
}
changed t (Unwished eventgroup) = record t { wishes = changed_at eventgroup unwished t.wishes }
changed t (OfferStopped instance) = record t {
  offers = without instance t.offers;
  subscribers = finite.retain_keys t.subscribers (λ s. not (is_of_instance instance s));
}
