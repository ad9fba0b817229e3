-- What an entry of Service Discovery shows of offers and of subscriptions (SOME/IP Service Discovery Protocol, "Entry Format",
-- "Service Discovery Communication Behavior").
use Rattle.std.specs.Prelude.{ℕ, ◌==◌, if◌then◌else◌, Option, None, Some}
use Rattle.std.specs.declared.net.ipv4_addr.Ipv4Addr.{Ipv4Addr}
use Rattle.std.specs.declared.net.socket_addr.SocketAddrV4.{SocketAddrV4}
use Rattle.sd_wire.specs.contents.Endpoints.{first_udp_endpoint, options_of}
use Rattle.sd_wire.specs.contents.Values.{ReadValue, bad_run, good}
use Rattle.sd_wire.specs.declared.entry.EntryHead.{EntryHead}
use Rattle.sd_wire.specs.declared.entry.EntryHead.TheVariants.{Service, Eventgroup}
use Rattle.sd_wire.specs.declared.entry.EventgroupEntry.{EventgroupEntry}
use Rattle.sd_wire.specs.declared.entry.EventgroupKind.{EventgroupKind}
use Rattle.sd_wire.specs.declared.entry.EventgroupKind.TheVariants.{Ack, Subscribe}
use Rattle.sd_wire.specs.declared.entry.ServiceEntry.{ServiceEntry}
use Rattle.sd_wire.specs.declared.entry.ServiceKind.{ServiceKind}
use Rattle.sd_wire.specs.declared.entry.ServiceKind.TheVariants.{Find, Offer}
use Rattle.someip_tables.specs.declared.hashed.origin.Origin.{Origin}
use Rattle.audit_services.specs.declared.offered.OfferTerms.{OfferTerms}
use Rattle.audit_services.specs.declared.offered.Offered.{Offered}
use Rattle.audit_services.specs.declared.shown.Shown.{Shown}
use Rattle.audit_services.specs.declared.shown.Shown.TheVariants.{KeyBegins, KeyEnds, PlaceEnds, PlaceGoesOn}
use Rattle.audit_services.specs.declared.subscribed.Asked.{Asked}
use Rattle.audit_services.specs.declared.subscribed.NoTerms.{NoTerms}
use Rattle.audit_services.specs.declared.subscribed.Place.{Place}
use Rattle.audit_services.specs.declared.subscribed.Subscribed.{Subscribed}
use Rattle.audit_services.specs.declared.why.Why.TheVariants as why
use Rattle.audit_services.specs.SubscribedKeys.{place_at}
use Rattle.someip_audit.specs.SdEntries.{destination, sender}

-- what is shown of offers, and of subscriptions
abbrev pub OfferShown : Type 0
OfferShown = Shown Ipv4Addr Offered OfferTerms

abbrev pub SubscriptionShown : Type 0
SubscriptionShown = Shown Place Subscribed NoTerms

-- ---- entries about an instance

-- what is offered, and by whom
abbrev pub offered : Origin → ServiceEntry → Offered
offered origin entry = record { service = entry.service; instance = entry.instance; major = entry.major; sender = sender origin }

-- an Offer begins, or goes on. Without an IPv4 endpoint over UDP it says nothing
abbrev pub offer_begins : Origin → ServiceEntry → Option SocketAddrV4 → Option OfferShown
offer_begins origin entry None = None
offer_begins origin entry (Some endpoint) = Some (KeyBegins (offered origin entry) (record { minor = entry.minor; endpoint = endpoint }) entry.ttl)

-- a StopOffer, an Offer with the TTL 0, ends
abbrev pub offer_by_kind : ServiceKind → Origin → ServiceEntry → Option SocketAddrV4 → Option OfferShown
offer_by_kind Find origin entry endpoint = None
offer_by_kind Offer origin entry endpoint = if entry.ttl == 0 then Some (KeyEnds (offered origin entry) why.Stopped) else offer_begins origin entry endpoint

-- and all subscriptions to what was offered end with it
abbrev pub withdrawn : Origin → ServiceEntry → SubscriptionShown
withdrawn origin entry = PlaceEnds (place_at (sender origin) entry.service entry.instance entry.major None) why.Offer

abbrev pub withdrawn_by_kind : ServiceKind → Origin → ServiceEntry → Option SubscriptionShown
withdrawn_by_kind Find origin entry = None
withdrawn_by_kind Offer origin entry = if entry.ttl == 0 then Some (withdrawn origin entry) else None

-- ---- entries about an eventgroup

-- the subscription of the sender of a Subscribe
abbrev pub subscribed : Origin → EventgroupEntry → SocketAddrV4 → Subscribed
subscribed origin entry endpoint = record {
  service = entry.service;
  instance = entry.instance;
  major = entry.major;
  server = destination origin;
  eventgroup = entry.eventgroup;
  client = sender origin;
  counter = entry.counter;
  endpoint = endpoint;
}

-- a Subscribe begins, or goes on; a StopSubscribe, one with the TTL 0, ends. Without an IPv4 endpoint over UDP it says nothing
abbrev pub asks : Origin → EventgroupEntry → Option SocketAddrV4 → Option SubscriptionShown
asks origin entry None = None
asks origin entry (Some endpoint) =
    if entry.ttl == 0 then Some (KeyEnds (subscribed origin entry endpoint) why.Stopped) else Some (KeyBegins (subscribed origin entry endpoint) (record {}) entry.ttl)

-- what an answer of the sender is for, which names no endpoint
abbrev pub answered : Origin → EventgroupEntry → Place
answered origin entry =
    place_at (sender origin) entry.service entry.instance entry.major
    (Some (record { eventgroup = entry.eventgroup; client = destination origin; counter = entry.counter }))

-- after an Ack it goes on for the TTL of that; a Nack, one with the TTL 0, ends it
abbrev pub answers : Origin → EventgroupEntry → SubscriptionShown
answers origin entry = if entry.ttl == 0 then PlaceEnds (answered origin entry) why.Refused else PlaceGoesOn (answered origin entry) entry.ttl

abbrev pub group_by_kind : EventgroupKind → Origin → EventgroupEntry → Option SocketAddrV4 → Option SubscriptionShown
group_by_kind Subscribe origin entry endpoint = asks origin entry endpoint
group_by_kind Ack origin entry endpoint = Some (answers origin entry)

-- ---- any entry

-- with the first IPv4 endpoint over UDP among its options, if it has one
abbrev pub offer_by : Origin → EntryHead → Option SocketAddrV4 → Option OfferShown
offer_by origin (Service entry) endpoint = offer_by_kind entry.kind origin entry endpoint
offer_by origin (Eventgroup entry) endpoint = None

abbrev pub subscription_by : Origin → EntryHead → Option SocketAddrV4 → Option SubscriptionShown
subscription_by origin (Service entry) endpoint = withdrawn_by_kind entry.kind origin entry
subscription_by origin (Eventgroup entry) endpoint = group_by_kind entry.kind origin entry endpoint

-- one whose run of options goes past those of the message has none
abbrev pub offer_shown : Origin → ReadValue → Option OfferShown
offer_shown origin (good entry) = offer_by origin entry.head (first_udp_endpoint (options_of entry))
offer_shown origin (bad_run head) = offer_by origin head None

abbrev pub subscription_shown : Origin → ReadValue → Option SubscriptionShown
subscription_shown origin (good entry) = subscription_by origin entry.head (first_udp_endpoint (options_of entry))
subscription_shown origin (bad_run head) = subscription_by origin head None
