-- Which rules an input brings about, after which others, and what of the input they are about.
use Rattle.std.specs.Prelude.{◌≡◌, ◌⊎◌, ◌+◌, ℕ, IsTrue, List, [], ◌∷◌, ◌++◌, Option, Some}
use Rattle.std.specs.List.{AllByRecursion, Contains}
use Rattle.std.specs.Net.Socket.{v4_ip}
use Rattle.std.specs.declared.net.ipv4_addr.Ipv4Addr.{Ipv4Addr}
use Rattle.std.specs.declared.net.socket_addr.SocketAddrV4.{SocketAddrV4}
use Rattle.someip_wire.specs.declared.header.Header.{Header}
use Rattle.someip_wire.specs.declared.header.MessageType.TheVariants.{Notification}
use Rattle.sd_wire.specs.declared.entry.ServiceEntry.{ServiceEntry}
use Rattle.sd_wire.specs.contents.Kinds.{is_ack, is_find, is_nack, is_offer, is_stop_offer, is_stop_subscribe, is_subscribe}
use Rattle.sd_wire.specs.contents.Values.{EntryValue, SdValue}
use Rattle.sd_session.specs.declared.stamp.Channel.{Channel}
use Rattle.sd_core.specs.declared.eventgroup.Eventgroup.{Eventgroup}
use Rattle.sd_core.specs.declared.keys.InstanceId.{InstanceId}
use Rattle.sd_core.specs.declared.wish.Beginning.{Beginning}
use Rattle.someip_node_rules.specs.declared.target.Target.TheVariants.{Instance, Client, Discovery}
use Rattle.someip_node_rules.specs.rules.ClientSubscribing.{standing_of, stop_subscribe_of, wish_entries}
use Rattle.someip_node_rules.specs.rules.Offering.{stop_offer_of}
use Rattle.someip_node_rules.specs.rules.Handling.{target_of}
use Rattle.someip_node_rules.specs.histories.History.{History, answers_of}
use Rattle.someip_node_rules.specs.rules.Inputs.{Input, Datagram, Tick, Call, Answer, Publish, PublishTo, Subscribe, Unsubscribe, StopOffer}
use Rattle.someip_node_rules.specs.rules.Learning.{received_offer}
use Rattle.someip_node_rules.specs.trails.Packets.{Packet, Came, HasDiscovery, HasEventgroupEntry, HasSegment, HasServiceEntry, HasSubscribe}
use Rattle.someip_node_rules.specs.rules.Plans.{Rule, Drops, TakesSegment, TakesRequest, TakesAnswer, TakesEvent, Hears, TakesFind, TakesOffer, TakesStopOffer, TakesSubscribe, TakesStopSubscribe, TakesAck, TakesNack, Announces, RepliesTo, Ticks, Calls, Answers, Publishes, PublishesTo, Wishes, TakesBack, Stops}
use Rattle.someip_node_rules.specs.trails.Replies.{IsDue, IsReply}
use Rattle.someip_node_rules.specs.histories.Tables.{Tables, known_peer}
use Rattle.someip_node_rules.specs.trails.Trails.{Done, after, met_by, outcome_of, trail_of}

-- ---- datagrams

-- the rules of the entries in a datagram: each is about an entry of its kind, and about the peer that sent it
abbrev pub OfEntry : Packet → Rule → Type 0
OfEntry p (TakesFind head) = IsTrue (is_find head) × ((endpoint : Option SocketAddrV4) × HasServiceEntry p head endpoint)
OfEntry p (TakesOffer offer) =
    (head : ServiceEntry) × IsTrue (is_offer head) × HasServiceEntry p head offer.endpoint
    × (offer ≡ received_offer (v4_ip p.from) head offer.endpoint)
OfEntry p (TakesStopOffer instance major peer) =
    (head : ServiceEntry) × IsTrue (is_stop_offer head) × ((endpoint : Option SocketAddrV4) × HasServiceEntry p head endpoint)
    × (instance ≡ record { service = head.service; instance = head.instance }) × (major ≡ head.major) × (peer ≡ v4_ip p.from)
OfEntry p (TakesSubscribe peer head endpoint) = IsTrue (is_subscribe head) × (peer ≡ v4_ip p.from) × HasSubscribe p head endpoint
OfEntry p (TakesStopSubscribe peer head endpoint) =
    IsTrue (is_stop_subscribe head) × (peer ≡ v4_ip p.from) × HasEventgroupEntry p head endpoint
OfEntry p (TakesAck peer head) =
    IsTrue (is_ack head) × (peer ≡ v4_ip p.from) × ((endpoint : Option SocketAddrV4) × HasEventgroupEntry p head endpoint)
OfEntry p (TakesNack peer head) =
    IsTrue (is_nack head) × (peer ≡ v4_ip p.from) × ((endpoint : Option SocketAddrV4) × HasEventgroupEntry p head endpoint)
OfEntry p r = ⊥

-- a reply was given for an entry in a datagram, by one of the rules that were done before, at the history where that was done
pub record RepliesToEntry (p : Packet) (earlier : List Done) (reply : EntryValue) : Type 0 where
  pub done : Done
  pub among : Contains earlier done
  pub entry : OfEntry p done.by
  pub gave : Contains (outcome_of done).replies reply
  pub says : IsReply done.by (answers_of done.before.state) reply

-- The rules that a datagram brings about, once others were done. A message goes to where the datagram arrived: to an
-- instance, to the client, which takes a NOTIFICATION as an event and any other as an answer, or to Service Discovery
abbrev pub OfDatagram : History → Packet → Rule → List Done → Type 0
OfDatagram h p (Drops reason) earlier = Unit {0}
OfDatagram h p (TakesSegment offer) earlier = (header : Header) × HasSegment p header offer
OfDatagram h p (TakesRequest instance from header payload) earlier =
    (from ≡ p.from) × (target_of h.config p.to ≡ Instance instance) × Came p header payload earlier
OfDatagram h p (TakesAnswer from header payload) earlier = (from ≡ p.from) × (target_of h.config p.to ≡ Client) × Came p header payload earlier
OfDatagram h p (TakesEvent from header payload) earlier =
    (from ≡ p.from) × (target_of h.config p.to ≡ Client) × (header.kind ≡ Notification) × Came p header payload earlier
OfDatagram h p (Hears peer channel stamp) earlier =
    (peer ≡ v4_ip p.from) × (target_of h.config p.to ≡ Discovery channel)
    × ((v : SdValue) × HasDiscovery p stamp.session v × (stamp.reboot ≡ v.flags.reboot))
OfDatagram h p (RepliesTo peer entries) earlier = (peer ≡ v4_ip p.from) × AllByRecursion (RepliesToEntry p earlier) entries
OfDatagram h p r earlier = ((channel : Channel) × (target_of h.config p.to ≡ Discovery channel)) × OfEntry p r

-- ---- all inputs

-- the clock goes on, and what is due goes to the group
abbrev pub OfTick : ℕ → History → Rule → List Done → Type 0
OfTick ms h r earlier =
    ((r ≡ Ticks ms) × (earlier ≡ []))
    ⊎ ((entries : List EntryValue) × (r ≡ Announces entries) × AllByRecursion (IsDue ((answers_of h).clock + ms) (answers_of h)) entries)

-- a wish is noted, and the peer whose offer is known gets its Subscribe
abbrev pub OfSubscribe : Eventgroup → History → Rule → List Done → Type 0
OfSubscribe eventgroup h r earlier =
    ((r ≡ Wishes eventgroup) × (earlier ≡ []))
    ⊎ ((peer : Ipv4Addr) × (known_peer (answers_of h) eventgroup.instance ≡ Some peer) × (r ≡ RepliesTo peer (wish_entries eventgroup (answers_of h))))

-- the peer of the subscription that stands gets its StopSubscribe, and the wish is taken back
abbrev pub OfUnsubscribe : Eventgroup → History → Rule → List Done → Type 0
OfUnsubscribe eventgroup h r earlier =
    (r ≡ TakesBack eventgroup (standing_of eventgroup (answers_of h)))
    ⊎ ((beginning : Beginning) × (standing_of eventgroup (answers_of h) ≡ Some beginning)
    × (r ≡ RepliesTo beginning.peer (stop_subscribe_of (answers_of h) eventgroup beginning.counter)) × (earlier ≡ []))

-- the group gets the StopOffer, and the offer is stopped
abbrev pub OfStopOffer : InstanceId → History → Rule → List Done → Type 0
OfStopOffer instance h r earlier = (r ≡ Stops instance) ⊎ ((r ≡ Announces (stop_offer_of (answers_of h) instance)) × (earlier ≡ []))

-- the rules that an input brings about in a step from a history, each once others were done
abbrev pub Brings : History → Input → Rule → List Done → Type 0
Brings h (Datagram from to bytes) r earlier = OfDatagram h (record { from = from; to = to; bytes = bytes }) r earlier
Brings h (Tick ms) r earlier = OfTick ms h r earlier
Brings h (Call kind instance method payload) r earlier = (r ≡ Calls kind instance method payload) × (earlier ≡ [])
Brings h (Answer token reply payload) r earlier = (r ≡ Answers token reply payload) × (earlier ≡ [])
Brings h (Publish instance event payload) r earlier = (r ≡ Publishes instance event payload) × (earlier ≡ [])
Brings h (PublishTo instance eventgroup endpoint event payload) r earlier = (r ≡ PublishesTo instance endpoint event payload) × (earlier ≡ [])
Brings h (Subscribe eventgroup) r earlier = OfSubscribe eventgroup h r earlier
Brings h (Unsubscribe eventgroup) r earlier = OfUnsubscribe eventgroup h r earlier
Brings h (StopOffer instance) r earlier = OfStopOffer instance h r earlier

-- a rule that was done in a step, after those before it and at what these met: brought about by the input
pub record WasBrought (h : History) (input : Input) (done : Done) : Type 0 where
  pub earlier : List Done
  pub later : List Done
  pub trail : trail_of h input ≡ earlier ++ done ∷ later
  pub at : done.before.state ≡ after h (met_by earlier)
  pub brings : Brings h input done.by earlier

-- a rule was done in a step of which this holds, by the tables where it was done
pub record WasDone (h : History) (input : Input) (Holds : Rule → Tables → Type 0) : Type 0 where
  pub done : Done
  pub among : Contains (trail_of h input) done
  pub brought : WasBrought h input done
  pub holds : Holds done.by (answers_of done.before.state)
