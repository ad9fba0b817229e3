-- What a message of Service Discovery shows over all books.
use Rattle.std.specs.Prelude.{◌≡◌, ℕ, ◌==◌, Bool, true, false, if◌then◌else◌, List, [], ◌∷◌, ◌++◌, Option, None, Some, option_map}
use Rattle.std.specs.declared.net.ipv4_addr.Ipv4Addr.{Ipv4Addr}
use Rattle.std.specs.declared.net.socket_addr.SocketAddrV4.{SocketAddrV4}
use Rattle.sd_wire.specs.declared.entry.EntryHead.{EntryHead}
use Rattle.sd_wire.specs.declared.entry.EntryHead.TheVariants.{Service, Eventgroup}
use Rattle.sd_wire.specs.declared.entry.ServiceEntry.{ServiceEntry}
use Rattle.sd_wire.specs.declared.entry.ServiceKind.{ServiceKind}
use Rattle.sd_wire.specs.declared.entry.ServiceKind.TheVariants.{Find, Offer}
use Rattle.sd_wire.specs.contents.Endpoints.{first_udp_endpoint, options_of}
use Rattle.sd_wire.specs.contents.Values.{ReadValue, SdValue, good, bad_run}
use Rattle.someip_tables.specs.declared.hashed.origin.Origin.{Origin}
use Rattle.audit_sd.specs.declared.sessions.message.SdMessage.{SdMessage}
use Rattle.audit_sd.specs.declared.sessions.finding.Finding.{Finding as SessionFinding}
use Rattle.audit_sd.specs.declared.sessions.finding.Finding.TheVariants as sessions
use Rattle.audit_sd.specs.sessions.SessionBooks as session_book
use Rattle.audit_sd.specs.declared.offers.entry.OfferEntry.{OfferEntry}
use Rattle.audit_sd.specs.declared.offers.entry.Standing.{Standing}
use Rattle.audit_sd.specs.declared.offers.key.OfferKey.{OfferKey}
use Rattle.audit_sd.specs.offers.OfferTables as offers
use Rattle.audit_sd.specs.servers.ServerTables as servers
use Rattle.audit_sd.specs.declared.subscriptions.entry.SubscribeEntry.{SubscribeEntry}
use Rattle.audit_sd.specs.subscriptions.SubscribeTables as subscriptions
use Rattle.audit_sd.specs.declared.receivers.entry.ReceiverEntry.{ReceiverEntry}
use Rattle.audit_sd.specs.declared.receivers.entry.WithdrawnOffer.{WithdrawnOffer}
use Rattle.audit_sd.specs.receivers.ReceiverTables as receivers
use Rattle.audit_sd.specs.declared.subscriptions.key.SubscriptionKey.{SubscriptionKey}
use Rattle.audit_traffic.specs.cycles.CycleTables as cycles
use Rattle.audit_traffic.specs.cycles.CycleTables.{Cycles}
use Rattle.audit_traffic.specs.sequence.Sequences as events
use Rattle.audit_traffic.specs.sequence.Sequences.{Sequence}
use Rattle.audit_endpoints.specs.NamedEndpoints.{named_endpoint}
use Rattle.audit_endpoints.specs.WatchedEndpoints as watching
use Rattle.audit_endpoints.specs.declared.finding.Finding.{Finding as EndpointFinding}
use Rattle.someip_audit.specs.declared.finding.Finding.{Finding}
use Rattle.someip_audit.specs.declared.finding.Finding.TheVariants as findings
use Rattle.someip_audit.specs.BooksHeld.{Held}
use Rattle.someip_audit.specs.SdEntries.{instance_of, lacks_endpoint, offer_entry, offers_by, receiver_entry, sd_message, served_by, server_key, server_offer, subscribe_entry, withdrawn_offer}
use Rattle.audit_endpoints.specs.NamedEndpoints.{named_endpoint}

-- what the books hold, and what was told so far
pub record Work : Type 0 where
  pub held : Held
  pub told : List Finding

abbrev pub working : Held → List Finding → Work
working held told = record { held = held; told = told }

-- one more is told, or nothing
abbrev pub with_told : Option Finding → List Finding → List Finding
with_told None told = told
with_told (Some finding) told = told ++ finding ∷ []

-- ---- its sessions

-- a sender began again: what it offered and subscribed, and what was subscribed at it, ends, and the servers of its newest Offers
-- and the events from it and to it are forgotten
abbrev pub begun_again : Ipv4Addr → Held → Held
begun_again address held =
    record held {
      offers = offers.without_sender address held.offers;
      servers = servers.without_sender address held.servers;
      subscriptions = subscriptions.without address held.subscriptions;
      receivers = receivers.without address held.receivers;
      events = events.without address held.events;
      cycles = cycles.without address held.cycles;
    }

-- so it is where the sessions show a reboot
abbrev pub after_session : Option SessionFinding → Ipv4Addr → Held → Held
after_session (Some sessions.Reboot) address held = begun_again address held
after_session _ address held = held

abbrev pub session_shown : SdMessage → Work → Work
session_shown message work = record {
  held = after_session (session_book.told_by message work.held.sessions) message.from (record work.held { sessions = session_book.sessions_after message work.held.sessions });
  told = with_told (option_map findings.Session (session_book.told_by message work.held.sessions)) work.told;
}

-- ---- one entry

-- an Offer or a StopOffer
abbrev pub offer_shown : ℕ → OfferEntry → Work → Work
offer_shown now entry work = record {
  held = record work.held { offers = offers.after_entry now entry work.held.offers };
  told = with_told (option_map (findings.Offer entry.key) (offers.told_by entry work.held.offers)) work.told;
}

-- and what is subscribed at an offer that a StopOffer withdraws ends, and the events of its service may go to nobody
abbrev pub withdrawn : WithdrawnOffer → Work → Work
withdrawn offer work =
    record work {
      held = record work.held { receivers = receivers.without_offer offer work.held.receivers; events = events.after_withdrawal offer.server offer.service work.held.events; cycles = cycles.without_service offer.server offer.service work.held.cycles };
    }

-- that there is no room for a server is told
abbrev pub told_of_servers : Bool → Option Finding
told_of_servers true = Some findings.ServersFull
told_of_servers false = None

-- an Offer with an endpoint names a server
abbrev pub server_shown : ℕ → OfferEntry → Option SocketAddrV4 → Work → Work
server_shown now entry None work = work
server_shown now entry (Some endpoint) work = record {
  held = record work.held { servers = servers.after_offer now (server_offer entry endpoint) work.held.servers };
  told = with_told (told_of_servers (servers.tells_full (server_offer entry endpoint) work.held.servers)) work.told;
}

-- the server has ended at the endpoint of an offer that a StopOffer ends
abbrev pub server_ended : OfferKey → Option Standing → Held → Held
server_ended key None held = held
server_ended key (Some offer) held = record held { servers = servers.after_stop (server_key key.service offer.endpoint) (served_by key) held.servers }

abbrev pub ended_shown : OfferEntry → Work → Work
ended_shown entry work = record work { held = server_ended entry.key (offers.ended_by entry work.held.offers) work.held }

-- an Offer: what the offers show, and then the servers
abbrev pub offered_shown : ℕ → OfferEntry → Work → Work
offered_shown now entry work = server_shown now entry entry.endpoint (offer_shown now entry work)

-- a StopOffer, which shows nothing: it ends its offer, and the server at the endpoint of that
abbrev pub stop_shown : ℕ → WithdrawnOffer → OfferEntry → Work → Work
stop_shown now offer entry work = withdrawn offer (offer_shown now entry (ended_shown entry work))

-- a Find shows nothing
abbrev pub service_shown : ServiceKind → ℕ → Origin → ServiceEntry → Option SocketAddrV4 → Work → Work
service_shown Find now origin entry endpoint work = work
service_shown Offer now origin entry endpoint work =
    if entry.ttl == 0 then stop_shown now (withdrawn_offer origin entry) (offer_entry origin entry endpoint) work
    else offered_shown now (offer_entry origin entry endpoint) work

-- an entry of an eventgroup, as to its answer
abbrev pub subscribe_shown : ℕ → SubscribeEntry → Work → Work
subscribe_shown now entry work = record {
  held = record work.held { subscriptions = subscriptions.after_entry now entry work.held.subscriptions };
  told = with_told (option_map (findings.Subscription entry.key) (subscriptions.told_by entry work.held.subscriptions)) work.told;
}

-- and as to who is subscribed
abbrev pub receiver_shown : ℕ → ReceiverEntry → Work → Work
receiver_shown now entry work = record {
  held = record work.held { receivers = receivers.after_entry now entry work.held.receivers };
  told = with_told (option_map (findings.Receiver entry.key) (receivers.told_by entry work.held.receivers)) work.told;
}

-- where a subscription ends its events are watched no more
abbrev pub unwatched_if : Bool → SubscriptionKey → Cycles → Cycles
unwatched_if ends key book = if ends then cycles.without_subscribed key.server key.service key.client book else book

-- where a subscription begins or ends the events of its service from its server to its client may have gone to nobody
abbrev pub disturbed_if : Bool → SubscriptionKey → Sequence → Sequence
disturbed_if begins_or_ends key book = if begins_or_ends then events.after_change key.client key.server key.service book else book

-- what the entry begins or ends: a renewal changes nothing
abbrev pub changed : SubscribeEntry → Option SocketAddrV4 → Work → Work
changed entry endpoint work = record work {
  held = record work.held {
    events = disturbed_if (receivers.begins_or_ends (receiver_entry entry endpoint) work.held.receivers.standing) entry.key work.held.events;
    cycles = unwatched_if (receivers.ends (receiver_entry entry endpoint) work.held.receivers) entry.key work.held.cycles;
  };
}

-- the books take an entry of an eventgroup: its subscription may begin or end, and it shows what is told as to its answer, and then as to who
-- is subscribed
abbrev pub group_taken : ℕ → SubscribeEntry → Option SocketAddrV4 → Work → Work
group_taken now entry endpoint work = receiver_shown now (receiver_entry entry endpoint) (subscribe_shown now entry (changed entry endpoint work))

-- an answer that nobody asked for is told as that
abbrev pub told_unasked : ℕ → SubscribeEntry → Held → Option Finding
told_unasked now entry held = option_map (findings.Subscription entry.key) (subscriptions.unasked_by now entry held.subscriptions)

abbrev pub unasked_shown : ℕ → SubscribeEntry → Work → Work
unasked_shown now entry work = record work { told = with_told (told_unasked now entry work.held) work.told }

-- an entry of an eventgroup comes: that nobody asked for it is told first
abbrev pub group_shown : ℕ → SubscribeEntry → Option SocketAddrV4 → Work → Work
group_shown now entry endpoint work = group_taken now entry endpoint (unasked_shown now entry work)

-- an entry with the first IPv4 endpoint over UDP among its options, if it has one
abbrev pub head_shown : ℕ → Origin → EntryHead → Option SocketAddrV4 → Work → Work
head_shown now origin (Service entry) endpoint work = service_shown entry.kind now origin entry endpoint work
head_shown now origin (Eventgroup entry) endpoint work = group_shown now (subscribe_entry origin entry) endpoint work

-- that no more endpoints are learnt is told
abbrev pub told_of_endpoint : Option EndpointFinding → Option Finding
told_of_endpoint None = None
told_of_endpoint (Some shown) = Some findings.EndpointsFull

-- the endpoint that an entry names is learnt
abbrev pub endpoint_shown : Option SocketAddrV4 → Work → Work
endpoint_shown None work = work
endpoint_shown (Some endpoint) work = record {
  held = record work.held { watched = watching.once_named endpoint work.held.watched };
  told = with_told (told_of_endpoint (watching.told_of_endpoint endpoint work.held.watched)) work.told;
}

-- and then what it shows
abbrev pub good_shown : ℕ → Origin → EntryHead → Option SocketAddrV4 → Work → Work
good_shown now origin head endpoint work = head_shown now origin head endpoint (endpoint_shown (named_endpoint head endpoint) work)

-- of an entry whose runs pass the options none is known
abbrev pub taken_shown : ℕ → Origin → ReadValue → Work → Work
taken_shown now origin (good entry) work = good_shown now origin entry.head (first_udp_endpoint (options_of entry)) work
taken_shown now origin (bad_run head) work = head_shown now origin head None work

-- the head of an entry
abbrev pub head_of : ReadValue → EntryHead
head_of (good entry) = entry.head
head_of (bad_run head) = head

-- that an Offer was seen is kept
abbrev pub offer_noted : ReadValue → Held → Held
offer_noted entry held = if offers_by (head_of entry) then record held { is_offered = true } else held

-- what its options show: that one of its runs passes the options, or that it needs an endpoint and has none
abbrev pub told_of_options : ReadValue → Option Finding
told_of_options (good entry) = if lacks_endpoint entry then Some (findings.NoEndpoint (instance_of entry.head)) else None
told_of_options (bad_run head) = Some (findings.BadRun (instance_of head))

abbrev pub options_shown : ReadValue → Work → Work
options_shown entry work = record work { told = with_told (told_of_options entry) work.told }

-- an entry comes: whether it is an Offer is kept, and what its options show is told first
abbrev pub entry_shown : ℕ → Origin → ReadValue → Work → Work
entry_shown now origin entry work = taken_shown now origin entry (options_shown entry (record work { held = offer_noted entry work.held }))

-- ---- the message

-- its entries, in order
abbrev pub entries_shown : ℕ → Origin → List ReadValue → Work → Work
entries_shown now origin [] work = work
entries_shown now origin (entry ∷ entries) work = entries_shown now origin entries (entry_shown now origin entry work)

-- its sessions, and then its entries
abbrev pub sd_shown : ℕ → Origin → ℕ → SdValue → Work → Work
sd_shown now origin session sd work = entries_shown now origin sd.entries (session_shown (sd_message now origin session sd.flags) work)

-- ---- what was told where memory ran out

-- a list is the beginning of another
abbrev pub IsFront : List Finding → List Finding → Type 0
IsFront front all = (rest : List Finding) × (front ++ rest ≡ all)

-- what was told before, and of what is told a beginning
abbrev pub IsBegun : List Finding → List Finding → List Finding → Type 0
IsBegun before told all = IsFront before told × IsFront told all
