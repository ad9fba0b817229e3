-- What an entry that is sent says of the rule that gave it, and of what the node met before.
use Rattle.std.specs.Prelude.{◌≡◌, ◌⊎◌, ℕ, List, Option, None, Some}
use Rattle.std.specs.List.{Contains}
use Rattle.std.specs.FinMap as finite
use Rattle.std.specs.declared.net.ipv4_addr.Ipv4Addr.{Ipv4Addr}
use Rattle.std.specs.declared.net.socket_addr.SocketAddrV4.{SocketAddrV4}
use Rattle.sd_wire.specs.declared.entry.EventgroupEntry.{EventgroupEntry}
use Rattle.sd_wire.specs.contents.Values.{EntryValue}
use Rattle.sd_core.specs.declared.error.Cause.{Cause}
use Rattle.sd_core.specs.declared.keys.InstanceId.{InstanceId}
use Rattle.sd_core.specs.declared.wish.OutgoingSubscribe.{OutgoingSubscribe}
use Rattle.sd_core.specs.OfferTables.{answering}
use Rattle.sd_core.specs.SeekTables.{uncounted}
use Rattle.sd_core.specs.Sendings.{due_at}
use Rattle.sd_core.specs.SubscriberTables.{nack_cause}
use Rattle.sd_core.specs.WishTables.{subscribes}
use Rattle.someip_node_rules.specs.declared.config.OfferedService.{OfferedService}
use Rattle.someip_node_rules.specs.declared.config.WantedService.{WantedService}
use Rattle.someip_node_rules.specs.forms.Entries.{ack_entry, find_entry, offer_entry, subscribe_entry}
use Rattle.someip_node_rules.specs.rules.Plans.{Rule, TakesFind, TakesOffer, TakesSubscribe}
use Rattle.someip_node_rules.specs.forms.Setups.{client_endpoint, offered_as, wanted_as}
use Rattle.someip_node_rules.specs.rules.Offering.{sought_by}
use Rattle.someip_node_rules.specs.rules.ServerSubscribing.{rules_for, subscribe_in}
use Rattle.someip_node_rules.specs.histories.Tables.{Tables, live_subscribers}

-- the Offer of one of these instances, as the node is set up to offer it
abbrev pub IsOfferOf : Tables → List InstanceId → EntryValue → Type 0
IsOfferOf t instances entry =
    (instance : InstanceId) × (service : OfferedService) × Contains instances instance × (offered_as t.config instance ≡ Some service)
    × (entry ≡ offer_entry instance service.ttl service)

-- the Find of one of these instances, as the node is set up to want it
abbrev pub IsFindOf : Tables → List InstanceId → EntryValue → Type 0
IsFindOf t instances entry =
    (instance : InstanceId) × (want : WantedService) × Contains instances instance × (wanted_as t.config instance ≡ Some want)
    × (entry ≡ find_entry instance want.major)

-- one of these Subscribes, as the node is set up to want its eventgroup
abbrev pub IsSubscribeOf : Tables → List OutgoingSubscribe → EntryValue → Type 0
IsSubscribeOf t subscribes entry =
    (subscribe : OutgoingSubscribe) × (want : WantedService) × Contains subscribes subscribe
    × (wanted_as t.config subscribe.eventgroup.instance ≡ Some want)
    × (entry ≡ subscribe_entry (client_endpoint t.config) want.major want.ttl subscribe.eventgroup subscribe.counter)

-- the Ack of a Subscribe with an endpoint that nothing speaks against, or its Nack
abbrev pub IsAnswerOf : Tables → Ipv4Addr → EventgroupEntry → Option SocketAddrV4 → EntryValue → Type 0
IsAnswerOf t peer head endpoint entry =
    ((subscriber : SocketAddrV4) × (endpoint ≡ Some subscriber)
    × (nack_cause (rules_for head t) (subscribe_in peer head endpoint) (live_subscribers t) ≡ None) × (entry ≡ ack_entry head head.ttl))
    ⊎ ((cause : Cause) × (nack_cause (rules_for head t) (subscribe_in peer head endpoint) (live_subscribers t) ≡ Some cause)
    × (entry ≡ ack_entry head 0))

-- which entries are replied to, and by what: a Find by the Offers that it asks for, an Offer that counts by the Subscribes
-- that are wished, and a Subscribe by its Ack or Nack
abbrev pub IsReply : Rule → Tables → EntryValue → Type 0
IsReply (TakesFind head) t reply = IsOfferOf t (finite.keys (answering (sought_by head) t.offers)) reply
IsReply (TakesOffer offer) t reply =
    (uncounted offer t.clock t.seek ≡ None) × IsSubscribeOf t (subscribes t.clock offer.instance offer.peer t.wishes) reply
IsReply (TakesSubscribe peer head endpoint) t reply = IsAnswerOf t peer head endpoint reply
IsReply r t reply = ⊥

-- an Offer or a Find that is due at a moment
abbrev pub IsDue : ℕ → Tables → EntryValue → Type 0
IsDue now t entry = IsOfferOf t (finite.keys (due_at now t.offers.up)) entry ⊎ IsFindOf t (finite.keys (due_at now t.seek.finding)) entry
