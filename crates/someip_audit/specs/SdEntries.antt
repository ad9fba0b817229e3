-- Messages and entries of Service Discovery, as the books take them (SOME/IP Service Discovery, "Entry Format").
use Rattle.std.specs.Prelude.{ℕ, ◌==◌, Bool, true, false, not, ◌&&◌, ◌||◌, if◌then◌else◌, Option, None, Some}
use Rattle.std.specs.List.{list_any}
use Rattle.std.specs.declared.net.ipv4_addr.Ipv4Addr.{Ipv4Addr}
use Rattle.std.specs.declared.net.socket_addr.SocketAddrV4.{SocketAddrV4}
use Rattle.std.specs.Net.Socket.{v4_ip}
use Rattle.sd_wire.specs.declared.entry.EntryHead.{EntryHead}
use Rattle.sd_wire.specs.declared.entry.EntryHead.TheVariants.{Service, Eventgroup}
use Rattle.sd_wire.specs.declared.entry.EventgroupEntry.{EventgroupEntry}
use Rattle.sd_wire.specs.declared.entry.EventgroupKind.{EventgroupKind}
use Rattle.sd_wire.specs.declared.entry.EventgroupKind.TheVariants as kinds
use Rattle.sd_wire.specs.declared.entry.ServiceEntry.{ServiceEntry}
use Rattle.sd_wire.specs.declared.entry.ServiceKind.{ServiceKind}
use Rattle.sd_wire.specs.declared.entry.ServiceKind.TheVariants.{Find, Offer}
use Rattle.sd_wire.specs.contents.Values.{EntryValue}
use Rattle.sd_wire.specs.declared.endpoint.Protocol.{Protocol}
use Rattle.sd_wire.specs.declared.flags.SdFlags.{SdFlags}
use Rattle.sd_wire.specs.declared.option.SdOption.{SdOption}
use Rattle.sd_wire.specs.declared.option.SdOption.TheVariants.{Endpoint4, Endpoint6}
use Rattle.someip_tables.specs.declared.hashed.origin.Origin.{Origin}
use Rattle.audit_sd.specs.declared.sessions.message.SdMessage.{SdMessage}
use Rattle.audit_sd.specs.declared.offers.entry.OfferEntry.{OfferEntry}
use Rattle.audit_sd.specs.declared.offers.key.OfferKey.{OfferKey}
use Rattle.audit_sd.specs.declared.servers.key.ServerKey.{ServerKey}
use Rattle.audit_sd.specs.declared.servers.offer.Served.{Served}
use Rattle.audit_sd.specs.declared.servers.offer.ServerOffer.{ServerOffer}
use Rattle.audit_sd.specs.declared.subscriptions.entry.EntryKind.{EntryKind}
use Rattle.audit_sd.specs.declared.subscriptions.entry.EntryKind.TheVariants.{Answer, Subscribe}
use Rattle.audit_sd.specs.declared.subscriptions.entry.SubscribeEntry.{SubscribeEntry}
use Rattle.audit_sd.specs.declared.subscriptions.key.SubscriptionKey.{SubscriptionKey}
use Rattle.audit_sd.specs.declared.receivers.entry.ReceiverEntry.{ReceiverEntry}
use Rattle.audit_sd.specs.declared.receivers.entry.WithdrawnOffer.{WithdrawnOffer}
use Rattle.audit_endpoints.specs.NamedEndpoints.{is_offer, subscribes}
use Rattle.someip_audit.specs.declared.finding.ServiceInstance.{ServiceInstance}

-- the address that a datagram was sent from, and the one that it was sent to
abbrev pub sender : Origin → Ipv4Addr
sender origin = v4_ip origin.from

abbrev pub destination : Origin → Ipv4Addr
destination origin = v4_ip origin.to

-- a message with this session and these flags, which comes at a moment, as far as its sessions go
abbrev pub sd_message : ℕ → Origin → ℕ → SdFlags → SdMessage
sd_message now origin session flags = record { at = now; from = sender origin; to = destination origin; stamp = record { session = session; reboot = flags.reboot } }

-- the instance that an entry is about
abbrev pub offer_key : ServiceEntry → OfferKey
offer_key entry = record { service = entry.service; instance = entry.instance; major = entry.major }

-- an Offer or a StopOffer, with the first IPv4 endpoint over UDP among its options, if it has one
abbrev pub offer_entry : Origin → ServiceEntry → Option SocketAddrV4 → OfferEntry
offer_entry origin entry endpoint = record { key = offer_key entry; endpoint = endpoint; ttl = entry.ttl; origin = origin }

-- the server of a service at an endpoint
abbrev pub server_key : ℕ → SocketAddrV4 → ServerKey
server_key service endpoint = record { service = service; endpoint = endpoint }

-- what an offer offers of its service
abbrev pub served_by : OfferKey → Served
served_by key = record { instance = key.instance; major = key.major }

-- an Offer with an endpoint, as far as it names a server
abbrev pub server_offer : OfferEntry → SocketAddrV4 → ServerOffer
server_offer entry endpoint =
    record { server = server_key entry.key.service endpoint; served = served_by entry.key; ttl = entry.ttl; sender = v4_ip entry.origin.from }

-- the offer that a StopOffer withdraws
abbrev pub withdrawn_offer : Origin → ServiceEntry → WithdrawnOffer
withdrawn_offer origin entry = record { server = sender origin; service = entry.service; instance = entry.instance; major = entry.major }

-- the subscription of a client at a server that an entry is about
abbrev pub subscription : Ipv4Addr → Ipv4Addr → EventgroupEntry → SubscriptionKey
subscription client server entry = record {
  client = client;
  server = server;
  service = entry.service;
  instance = entry.instance;
  major = entry.major;
  eventgroup = entry.eventgroup;
  counter = entry.counter;
}

-- a Subscribe goes from the client to the server, and its answer the other way
abbrev pub subscription_of : EventgroupKind → Origin → EventgroupEntry → SubscriptionKey
subscription_of kinds.Subscribe origin entry = subscription (sender origin) (destination origin) entry
subscription_of kinds.Ack origin entry = subscription (destination origin) (sender origin) entry

abbrev pub subscription_key : Origin → EventgroupEntry → SubscriptionKey
subscription_key origin entry = subscription_of entry.kind origin entry

-- an Ack and a Nack are answers
abbrev pub kind_of : EventgroupKind → EntryKind
kind_of kinds.Subscribe = Subscribe
kind_of kinds.Ack = Answer

-- an entry of an eventgroup, as to its answer
abbrev pub subscribe_entry : Origin → EventgroupEntry → SubscribeEntry
subscribe_entry origin entry = record { key = subscription_key origin entry; kind = kind_of entry.kind; ttl = entry.ttl; origin = origin }

-- and as to who is subscribed, with the first IPv4 endpoint over UDP among its options, if it has one
abbrev pub receiver_entry : SubscribeEntry → Option SocketAddrV4 → ReceiverEntry
receiver_entry entry endpoint = record { key = entry.key; kind = entry.kind; ttl = entry.ttl; endpoint = endpoint }

-- ---- the endpoints that are needed

-- the instance that an entry is about
abbrev pub instance_of : EntryHead → ServiceInstance
instance_of (Service entry) = record { service = entry.service; instance = entry.instance }
instance_of (Eventgroup entry) = record { service = entry.service; instance = entry.instance }

-- an entry is an Offer, a Subscribe or a StopSubscribe, and no Find, StopOffer or answer
abbrev pub needs_endpoint : EntryHead → Bool
needs_endpoint (Service entry) = is_offer entry
needs_endpoint (Eventgroup entry) = subscribes entry.kind

-- a transport protocol that SOME/IP goes over: TCP (06) or UDP (11)
abbrev pub is_transport : Protocol → Bool
is_transport protocol = protocol.0 == 0x06 || protocol.0 == 0x11

-- an option is an endpoint over one of them, of IPv4 or of IPv6 (types 04 and 06)
abbrev pub is_endpoint : SdOption → Bool
is_endpoint (Endpoint4 e) = is_transport e.protocol
is_endpoint (Endpoint6 e) = is_transport e.protocol
is_endpoint _ = false

-- an entry needs an endpoint, and none of the options of its two runs is one
abbrev pub lacks_endpoint : EntryValue → Bool
lacks_endpoint entry = needs_endpoint entry.head && not (list_any is_endpoint entry.first || list_any is_endpoint entry.second)

-- an entry with this head is an Offer
abbrev pub offers_by : EntryHead → Bool
offers_by (Service entry) = is_offer entry
offers_by (Eventgroup entry) = false
