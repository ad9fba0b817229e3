-- What findings are about, and which of them are told.
use Rattle.std.specs.Prelude.{◌≡◌, ℕ, Bool, true, false, ◌==◌, ◌&&◌, ◌||◌, List, Option, Some, None}
use Rattle.std.specs.List.{list_any}
use Rattle.std.specs.Int.{w32, from_be_bytes}
use Rattle.std.specs.Net.Addr.{ipv4_octets}
use Rattle.std.specs.Net.Socket.{v4_ip}
use Rattle.std.specs.declared.net.socket_addr.SocketAddrV4.{SocketAddrV4}
use Rattle.recording.specs.declared.Time.{Time}
use Rattle.someip_wire.specs.declared.Header.{Header}
use Rattle.audit_traffic.specs.declared.calls.CallFinding.{CallFinding}
use Rattle.audit_traffic.specs.declared.calls.CallFinding.TheVariants as calls
use Rattle.audit_traffic.specs.declared.sequence.Finding.{Finding as EventFinding}
use Rattle.audit_traffic.specs.declared.sequence.Finding.TheVariants as events
use Rattle.audit_sd.specs.declared.offers.Finding.{Finding as OfferFinding}
use Rattle.audit_sd.specs.declared.offers.Finding.TheVariants as offers
use Rattle.audit_sd.specs.declared.receivers.Finding.{Finding as ReceiverFinding}
use Rattle.audit_sd.specs.declared.receivers.Finding.TheVariants as receivers
use Rattle.audit_sd.specs.declared.servers.Finding.{Finding as ServerFinding}
use Rattle.audit_sd.specs.declared.servers.Finding.TheVariants as servers
use Rattle.audit_sd.specs.declared.sessions.Finding.{Finding as SessionFinding}
use Rattle.audit_sd.specs.declared.sessions.Finding.TheVariants as sessions
use Rattle.audit_sd.specs.declared.subscriptions.Finding.{Finding as SubscribeFinding}
use Rattle.audit_sd.specs.declared.subscriptions.Finding.TheVariants as subscriptions
use Rattle.someip_tables.specs.declared.hashed.Origin.{Origin}
use Rattle.someip_audit.specs.declared.Finding.{Finding}
use Rattle.someip_audit.specs.declared.Finding.TheVariants as findings
use Rattle.someip_audit.specs.declared.FellDue.{FellDue}
use Rattle.someip_audit.specs.declared.FellDue.TheVariants as due
use Rattle.someipctl_show.specs.declared.services.AskedService.{AskedService}
use Rattle.someipctl_audit.specs.declared.subject.Subject.{Subject}
use Rattle.someipctl_recordings.specs.Wanted.{WantedValue, is_in_span}

-- ---- what a finding is about

-- nothing that it names; a service; a method or an event of it; and a call with its Client ID
abbrev pub about_nothing : Subject
about_nothing = record { service = None; method = None; client = None }

abbrev pub about_service : ℕ → Subject
about_service service = record { service = Some service; method = None; client = None }

abbrev pub about_event : ℕ → ℕ → Subject
about_event service event = record { service = Some service; method = Some event; client = None }

abbrev pub about_call : (service method client : ℕ) → Subject
about_call service method client = record { service = Some service; method = Some method; client = Some client }

-- that a book is full is about the audit itself, and has no subject
abbrev pub subject_of_session : SessionFinding → Option Subject
subject_of_session sessions.Full = None
subject_of_session _ = Some about_nothing

abbrev pub subject_of_offer : ℕ → OfferFinding → Option Subject
subject_of_offer service offers.Full = None
subject_of_offer service _ = Some (about_service service)

abbrev pub subject_of_subscription : ℕ → SubscribeFinding → Option Subject
subject_of_subscription service subscriptions.Full = None
subject_of_subscription service _ = Some (about_service service)

abbrev pub subject_of_receivers : Subject → ReceiverFinding → Option Subject
subject_of_receivers subject receivers.Full = None
subject_of_receivers subject _ = Some subject

abbrev pub subject_of_call : Header → CallFinding → Option Subject
subject_of_call h calls.Full = None
subject_of_call h _ = Some (about_call h.service h.method h.client)

abbrev pub subject_of_event : ℕ → ℕ → EventFinding → Option Subject
subject_of_event service event events.EventsFull = None
subject_of_event service event events.GapsFull = None
subject_of_event service event _ = Some (about_event service event)

-- an Interface Version is one of a server, whatever client the message is of
abbrev pub subject_of_server : Header → ServerFinding → Subject
subject_of_server h (servers.Interface expected) = about_event h.service h.method
subject_of_server h servers.NotOffered = about_call h.service h.method h.client

abbrev pub subject : Finding → Option Subject
subject (findings.Malformed fault) = Some about_nothing
subject (findings.MalformedSd fault) = Some about_nothing
subject (findings.BadRun about) = Some (about_service about.service)
subject (findings.NoEndpoint about) = Some (about_service about.service)
subject (findings.NoTpHeader place) = Some about_nothing
subject (findings.Session shown) = subject_of_session shown
subject (findings.Offer key shown) = subject_of_offer key.service shown
subject (findings.Subscription key shown) = subject_of_subscription key.service shown
subject (findings.Receiver key shown) = subject_of_receivers (about_service key.service) shown
subject (findings.Call h shown) = subject_of_call h shown
subject (findings.Error h) = Some (about_call h.service h.method h.client)
subject (findings.Server h shown) = Some (subject_of_server h shown)
subject (findings.Event delivery shown) = subject_of_receivers (about_event delivery.service delivery.event) shown
subject (findings.EventSession flow session shown) = subject_of_event flow.service flow.event shown
subject (findings.Segment h refusal) = Some (about_call h.service h.method h.client)
subject findings.EndpointsFull = None
subject findings.WaysFull = None
subject findings.ServersFull = None
subject findings.CyclesFull = None

-- what fell due is about a call, a message, an offer, a subscription or an event
abbrev pub subject_of_due : FellDue → Subject
subject_of_due (due.Unanswered told) = about_call told.call.service told.call.method told.call.client
subject_of_due (due.Missing told) = about_call told.key.service told.key.method told.key.client
subject_of_due (due.Expired told) = about_service told.key.service
subject_of_due (due.SubscribeUnanswered told) = about_service told.key.service
subject_of_due (due.EventLost told) = about_event told.shown_by.service told.shown_by.event
subject_of_due (due.Silent told) = about_event told.flow.service told.flow.event

-- ---- which are told

-- a number that is asked for is named
abbrev pub is_named : ℕ → Option ℕ → Bool
is_named asked None = false
is_named asked (Some n) = asked == n

-- the method that is asked for is named, where one is
abbrev pub names_method : Option ℕ → Option ℕ → Bool
names_method None method = true
names_method (Some asked) method = is_named asked method

abbrev pub names_service : Subject → AskedService → Bool
names_service s asked = is_named asked.service s.service && names_method asked.method s.method

-- a subject is of one of the services; without services each is
abbrev pub is_of_services : Option (List AskedService) → Subject → Bool
is_of_services None s = true
is_of_services (Some services) s = list_any (names_service s) services

-- it is of the client
abbrev pub is_of_client : Option ℕ → Subject → Bool
is_of_client None s = true
is_of_client (Some client) s = is_named client s.client

-- an address as a number, the highest byte first
abbrev pub number_of_ip : SocketAddrV4 → ℕ
number_of_ip e = from_be_bytes w32 (ipv4_octets (v4_ip e))

-- its datagram came from or went to one of the addresses
abbrev pub is_of_addresses : Option (List ℕ) → Origin → Bool
is_of_addresses None origin = true
is_of_addresses (Some addresses) origin =
    list_any (λ a. a == number_of_ip origin.from) addresses || list_any (λ a. a == number_of_ip origin.to) addresses

-- no service, client, address or time is named
pub record ChoosesNone (w : WantedValue) : Type 0 where
  pub no_services : w.services ≡ None
  pub no_client : w.client ≡ None
  pub no_addresses : w.addresses ≡ None
  pub no_from : w.from ≡ None
  pub no_until : w.until ≡ None

-- a finding about a subject is told, where its line has this time and its datagram this origin; one about the audit itself always
-- is
abbrev pub is_told : WantedValue → Option Time → Origin → Option Subject → Bool
is_told w time origin None = true
is_told w time origin (Some s) =
    is_of_services w.services s && is_of_client w.client s && is_of_addresses w.addresses origin && is_in_span w.from w.until time
