-- What the lines of an audit tell, field by field.
use Rattle.std.specs.Prelude.{ℕ, Bool, true, false, List, [], ◌∷◌, ◌++◌, codes, Option, Some, ◌==◌, if◌then◌else◌}
use Rattle.recording.specs.declared.Time.{Time}
use Rattle.someip_tables.specs.declared.hashed.Origin.{Origin}
use Rattle.someip_wire.specs.declared.Header.{Header}
use Rattle.someip_wire.specs.Faults as wire
use Rattle.someip_reassembly.specs.Names.{error_name}
use Rattle.sd_wire.specs.decoding.Faults as sd
use Rattle.audit_traffic.specs.declared.calls.CallFinding.{CallFinding}
use Rattle.audit_traffic.specs.declared.calls.CallFinding.TheVariants as calls
use Rattle.audit_traffic.specs.declared.events.EventFlow.{EventFlow}
use Rattle.audit_traffic.specs.declared.sequence.Finding.{Finding as EventFinding}
use Rattle.audit_traffic.specs.declared.sequence.Finding.TheVariants as events
use Rattle.audit_sd.specs.declared.offers.OfferKey.{OfferKey}
use Rattle.audit_sd.specs.declared.offers.Finding.{Finding as OfferFinding}
use Rattle.audit_sd.specs.declared.offers.Finding.TheVariants as offers
use Rattle.audit_sd.specs.declared.receivers.Finding.{Finding as ReceiverFinding}
use Rattle.audit_sd.specs.declared.receivers.Finding.TheVariants as receivers
use Rattle.audit_sd.specs.declared.servers.Finding.{Finding as ServerFinding}
use Rattle.audit_sd.specs.declared.servers.Finding.TheVariants as servers
use Rattle.audit_sd.specs.declared.sessions.Finding.{Finding as SessionFinding}
use Rattle.audit_sd.specs.declared.sessions.Finding.TheVariants as sessions
use Rattle.audit_sd.specs.declared.subscriptions.SubscriptionKey.{SubscriptionKey}
use Rattle.audit_sd.specs.declared.subscriptions.Finding.{Finding as SubscribeFinding}
use Rattle.audit_sd.specs.declared.subscriptions.Finding.TheVariants as subscriptions
use Rattle.someip_audit.specs.declared.Finding.{Finding}
use Rattle.someip_audit.specs.declared.Finding.TheVariants as findings
use Rattle.someip_audit.specs.declared.ServiceInstance.{ServiceInstance}
use Rattle.someip_audit.specs.declared.FellDue.{FellDue}
use Rattle.someip_audit.specs.declared.FellDue.TheVariants as due
use Rattle.someipctl_io.specs.ToldLines.{text, number, millis, id, byte, endpoint, mark, ToldField, ToldHead, ToldLine, field}
use Rattle.someipctl_io.specs.ToldItems.{datagram_field}
use Rattle.someipctl_recordings.specs.Origins.{frame_field, said_of_time}
use Rattle.audit_rules.specs.declared.kind.Kind.{Kind}
use Rattle.audit_rules.specs.Kinds.{kind_name, kind_words}
use Rattle.someipctl_audit.specs.Said.{said, said_of_due}

-- ---- the head

-- the time, or that there is none
abbrev pub time_field : Option Time → ToldField
time_field time = field [] (codes "time") (said_of_time time)

-- where a datagram came from, and where it went to
abbrev pub endpoint_fields : Origin → List ToldField
endpoint_fields origin = field (codes " ") (codes "from") (endpoint origin.from) ∷ field (codes " ") (codes "to") (endpoint origin.to) ∷ []

-- the packet, if it is asked for, and the time
abbrev pub origin_fields : Bool → Option Time → Origin → List ToldField
origin_fields true time origin = frame_field origin.numbers.frame ∷ time_field time ∷ []
origin_fields false time origin = time_field time ∷ []

-- that it is allowed, where it is
abbrev pub allowed_field : Bool → List ToldField
allowed_field true = field (codes " allowed") (codes "allowed") mark ∷ []
allowed_field false = []

-- what stands before what is said
abbrev pub audit_head : Bool → Bool → Option Time → Origin → ToldHead
audit_head frames allowed time origin = record {
  number = datagram_field origin.numbers.datagram ∷ [];
  origin = origin_fields frames time origin;
  place = endpoint_fields origin ++ allowed_field allowed;
}

-- ---- fields of findings

-- a fault, and its place in the datagram
abbrev pub malformed_fields : List ℕ → ℕ → List ToldField
malformed_fields name place = field (codes " ") (codes "name") (text name) ∷ field (codes " at ") (codes "at") (number place) ∷ []

-- the table that is full
abbrev pub full_fields : List ℕ → List ToldField
full_fields name = field (codes " ") (codes "name") (text name) ∷ []

-- the Message ID and the Request ID of a message, the first of them behind this
abbrev pub call_fields : List ℕ → (service method client session : ℕ) → List ToldField
call_fields lead service method client session =
    field lead (codes "service") (id service)
    ∷ field (codes ".") (codes "method") (id method)
    ∷ field (codes " client ") (codes "client") (id client)
    ∷ field (codes " session ") (codes "session") (id session) ∷ []

abbrev pub header_fields : List ℕ → Header → List ToldField
header_fields lead h = call_fields lead h.service h.method h.client h.session

-- the return code of an answer, and its call
abbrev pub error_fields : Header → List ToldField
error_fields h = field (codes " ") (codes "code") (byte h.code.0) ∷ header_fields (codes " ") h

-- the version of a message, the one that was expected, and its Message ID
abbrev pub interface_fields : ℕ → Header → List ToldField
interface_fields expected h =
    field (codes " ") (codes "interface") (byte h.interface)
    ∷ field (codes " expected ") (codes "expected") (byte expected)
    ∷ field (codes " ") (codes "service") (id h.service)
    ∷ field (codes ".") (codes "method") (id h.method) ∷ []

-- an instance of a service
abbrev pub instance_fields : ServiceInstance → List ToldField
instance_fields about = field (codes " ") (codes "service") (id about.service) ∷ field (codes ".") (codes "instance") (id about.instance) ∷ []

-- an offer
abbrev pub offer_fields : OfferKey → List ToldField
offer_fields key =
    field (codes " ") (codes "service") (id key.service) ∷ field (codes ".") (codes "instance") (id key.instance) ∷ field (codes " major ") (codes "major") (byte key.major) ∷ []

-- a subscription
abbrev pub subscription_fields : SubscriptionKey → List ToldField
subscription_fields key =
    field (codes " ") (codes "service") (id key.service)
    ∷ field (codes ".") (codes "instance") (id key.instance)
    ∷ field (codes " major ") (codes "major") (byte key.major)
    ∷ field (codes " group ") (codes "group") (id key.eventgroup)
    ∷ field (codes " counter ") (codes "counter") (number key.counter) ∷ []

-- an event of a service
abbrev pub event_fields : (service event : ℕ) → List ToldField
event_fields service event = field (codes " ") (codes "service") (id service) ∷ field (codes ".") (codes "event") (id event) ∷ []

-- a session, the last of several, and the one that was expected
abbrev pub session_field : ℕ → ToldField
session_field session = field (codes " session ") (codes "session") (id session)

abbrev pub last_field : ℕ → ToldField
last_field last = field (codes " to ") (codes "last") (id last)

abbrev pub expected_field : ℕ → ToldField
expected_field expected = field (codes " expected ") (codes "expected") (id expected)

-- ---- what a datagram shows

abbrev pub fields_of_session : SessionFinding → List ToldField
fields_of_session sessions.Reboot = []
fields_of_session (sessions.NotNext stamp expected) = field (codes " ") (codes "session") (id stamp.session) ∷ expected_field expected.session ∷ []
fields_of_session (sessions.Overtaken stamp) = session_field stamp.session ∷ []
fields_of_session sessions.Full = full_fields (codes "sessions")

abbrev pub fields_of_offer : OfferKey → OfferFinding → List ToldField
fields_of_offer key offers.Moved = offer_fields key
fields_of_offer key offers.Full = full_fields (codes "offers")

abbrev pub fields_of_subscription : SubscriptionKey → SubscribeFinding → List ToldField
fields_of_subscription key subscriptions.Nack = subscription_fields key
fields_of_subscription key subscriptions.UnaskedAck = subscription_fields key
fields_of_subscription key subscriptions.UnaskedNack = subscription_fields key
fields_of_subscription key subscriptions.Full = full_fields (codes "subscriptions")

-- an event of a service, by its receivers
abbrev pub fields_of_receivers : ℕ → ℕ → ReceiverFinding → List ToldField
fields_of_receivers service event receivers.Unsubscribed = event_fields service event
fields_of_receivers service event receivers.Full = full_fields (codes "receivers")

abbrev pub fields_of_call : Header → CallFinding → List ToldField
fields_of_call h calls.KeyReused = header_fields (codes " ") h
fields_of_call h (calls.Late ms) = field (codes " ") (codes "ms") (number ms) ∷ header_fields (codes " ms ") h
fields_of_call h calls.Repeated = header_fields (codes " ") h
fields_of_call h calls.Unasked = header_fields (codes " ") h
fields_of_call h calls.Full = full_fields (codes "calls")

-- a message, by its server
abbrev pub fields_of_server : Header → ServerFinding → List ToldField
fields_of_server h (servers.Interface expected) = interface_fields expected h
fields_of_server h servers.NotOffered = header_fields (codes " ") h

abbrev pub fields_of_event : EventFlow → ℕ → EventFinding → List ToldField
fields_of_event flow session events.Repeated = event_fields flow.service flow.event ++ session_field session ∷ []
fields_of_event flow session events.Overtaken = event_fields flow.service flow.event ++ session_field session ∷ []
fields_of_event flow session events.EventsFull = full_fields (codes "events")
fields_of_event flow session events.GapsFull = full_fields (codes "gaps")

-- what is told of a finding behind its kind
abbrev pub finding_fields : Finding → List ToldField
finding_fields (findings.Malformed fault) = malformed_fields (wire.fault_name fault) (wire.fault_place fault)
finding_fields (findings.MalformedSd fault) = malformed_fields (sd.fault_name fault) (sd.fault_place fault)
finding_fields (findings.BadRun about) = instance_fields about
finding_fields (findings.NoEndpoint about) = instance_fields about
finding_fields (findings.NoTpHeader place) = malformed_fields (codes "NoHeader") place
finding_fields (findings.Session shown) = fields_of_session shown
finding_fields (findings.Offer key shown) = fields_of_offer key shown
finding_fields (findings.Subscription key shown) = fields_of_subscription key shown
finding_fields (findings.Receiver key shown) = fields_of_receivers key.service key.eventgroup shown
finding_fields (findings.Call h shown) = fields_of_call h shown
finding_fields (findings.Error h) = error_fields h
finding_fields (findings.Server h shown) = fields_of_server h shown
finding_fields (findings.Event delivery shown) = fields_of_receivers delivery.service delivery.event shown
finding_fields (findings.EventSession flow session shown) = fields_of_event flow session shown
finding_fields (findings.Segment h refusal) = field (codes " ") (codes "name") (text (error_name refusal)) ∷ header_fields (codes " ") h
finding_fields findings.EndpointsFull = full_fields (codes "endpoints")
finding_fields findings.WaysFull = full_fields (codes "ways")
finding_fields findings.ServersFull = full_fields (codes "servers")
finding_fields findings.CyclesFull = full_fields (codes "cycles")

-- ---- what fell due

-- a session that did not come, or the first and the last of a run
abbrev pub lost_fields : ℕ → ℕ → List ToldField
lost_fields first last = if first == last then session_field first ∷ [] else session_field first ∷ last_field last ∷ []

-- for how many milliseconds an event did not come
abbrev pub silent_fields : EventFlow → ℕ → List ToldField
silent_fields flow silent_ms = event_fields flow.service flow.event ++ field (codes " for ") (codes "ms") (millis silent_ms) ∷ []

-- what is told of it behind its kind
abbrev pub due_fields : FellDue → List ToldField
due_fields (due.Unanswered told) = call_fields (codes " ") told.call.service told.call.method told.call.client told.call.session
due_fields (due.Missing told) = call_fields (codes " ") told.key.service told.key.method told.key.client told.key.session
due_fields (due.Expired told) = offer_fields told.key
due_fields (due.SubscribeUnanswered told) = subscription_fields told.key
due_fields (due.EventLost told) = event_fields told.shown_by.service told.shown_by.event ++ lost_fields told.key.session told.key.last
due_fields (due.Silent told) = silent_fields told.flow told.silent_ms

-- ---- lines

-- a line of a kind
abbrev pub kind_told : Kind → List ToldField → ToldLine
kind_told kind fields = record { kind = kind_name kind; word = Some (kind_words kind); fields = fields }

-- the line of a finding, and that of what fell due
abbrev pub finding_told : Finding → ToldLine
finding_told finding = kind_told (said finding).kind (finding_fields finding)

abbrev pub due_told : FellDue → ToldLine
due_told told = kind_told (said_of_due told).kind (due_fields told)
