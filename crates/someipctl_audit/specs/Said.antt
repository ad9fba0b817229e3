-- What the line of a finding says.
use Rattle.std.specs.Prelude.{ℕ, List, [], ◌∷◌, codes, decimal, ◌==◌, if◌then◌else◌}
use Rattle.someip_wire.specs.declared.Header.{Header}
use Rattle.someip_wire.specs.Faults as wire
use Rattle.someip_reassembly.specs.Names.{error_name}
use Rattle.sd_wire.specs.decoding.Faults as sd
use Rattle.audit_traffic.specs.declared.calls.CallFinding.{CallFinding}
use Rattle.audit_traffic.specs.declared.calls.CallFinding.TheVariants as calls
use Rattle.audit_traffic.specs.declared.events.EventFlow.{EventFlow}
use Rattle.audit_traffic.specs.declared.sequence.Finding.{Finding as EventFinding}
use Rattle.audit_traffic.specs.declared.sequence.Finding.TheVariants as events
use Rattle.audit_sd.specs.declared.offers.OfferKey.{OfferKey}
use Rattle.audit_sd.specs.declared.offers.Finding.{Finding as OfferFinding}
use Rattle.audit_sd.specs.declared.offers.Finding.TheVariants as offers
use Rattle.audit_sd.specs.declared.receivers.Finding.{Finding as ReceiverFinding}
use Rattle.audit_sd.specs.declared.receivers.Finding.TheVariants as receivers
use Rattle.audit_sd.specs.declared.servers.Finding.{Finding as ServerFinding}
use Rattle.audit_sd.specs.declared.servers.Finding.TheVariants as servers
use Rattle.audit_sd.specs.declared.sessions.Finding.{Finding as SessionFinding}
use Rattle.audit_sd.specs.declared.sessions.Finding.TheVariants as sessions
use Rattle.audit_sd.specs.declared.subscriptions.SubscriptionKey.{SubscriptionKey}
use Rattle.audit_sd.specs.declared.subscriptions.Finding.{Finding as SubscribeFinding}
use Rattle.audit_sd.specs.declared.subscriptions.Finding.TheVariants as subscriptions
use Rattle.someip_audit.specs.declared.Finding.{Finding}
use Rattle.someip_audit.specs.declared.Finding.TheVariants as findings
use Rattle.someip_audit.specs.declared.ServiceInstance.{ServiceInstance}
use Rattle.someip_audit.specs.declared.FellDue.{FellDue}
use Rattle.someip_audit.specs.declared.FellDue.TheVariants as due
use Rattle.someip_texts.specs.Words.{hex2, hex4, ids_text}
use Rattle.someipctl_io.specs.Words.{ended}
use Rattle.audit_rules.specs.declared.kind.Kind.{Kind}
use Rattle.audit_rules.specs.declared.kind.Kind.TheVariants as kinds
use Rattle.audit_rules.specs.Kinds.{kind_words}

-- what is said of a finding: its kind, and the words after those of the kind
pub record Said : Type 0 where
  pub kind : Kind
  pub words : List (List ℕ)

abbrev pub says : Kind → List (List ℕ) → Said
says kind words = record { kind = kind; words = words }

-- the end of its line
abbrev pub said_text : Said → List ℕ
said_text said = ended (kind_words said.kind ∷ said.words)

-- ---- the words

-- a fault, and its place in the datagram
abbrev pub fault_words : List ℕ → ℕ → List (List ℕ)
fault_words name place = name ∷ codes "at" ∷ decimal place ∷ []

-- the Message ID and the Request ID of a message
abbrev pub call_words : (service method client session : ℕ) → List (List ℕ)
call_words service method client session = ids_text service method ∷ codes "client" ∷ hex4 client ∷ codes "session" ∷ hex4 session ∷ []

abbrev pub header_words : Header → List (List ℕ)
header_words h = call_words h.service h.method h.client h.session

-- an instance of a service
abbrev pub instance_words : ServiceInstance → List (List ℕ)
instance_words about = ids_text about.service about.instance ∷ []

-- an offer
abbrev pub offer_words : OfferKey → List (List ℕ)
offer_words key = ids_text key.service key.instance ∷ codes "major" ∷ hex2 key.major ∷ []

-- a subscription
abbrev pub subscription_words : SubscriptionKey → List (List ℕ)
subscription_words key =
    ids_text key.service key.instance ∷ codes "major" ∷ hex2 key.major ∷ codes "group" ∷ hex4 key.eventgroup ∷ codes "counter" ∷ decimal key.counter ∷ []

-- ---- what a datagram shows

-- a table is full
abbrev pub full : List ℕ → Said
full name = says kinds.Full (name ∷ [])

abbrev pub said_of_session : SessionFinding → Said
said_of_session sessions.Reboot = says kinds.Reboot []
said_of_session (sessions.NotNext stamp expected) = says kinds.SdSession (hex4 stamp.session ∷ codes "expected" ∷ hex4 expected.session ∷ [])
said_of_session (sessions.Overtaken stamp) = says kinds.SdOvertaken (codes "session" ∷ hex4 stamp.session ∷ [])
said_of_session sessions.Full = full (codes "sessions")

abbrev pub said_of_offer : OfferKey → OfferFinding → Said
said_of_offer key offers.Moved = says kinds.OfferMoved (offer_words key)
said_of_offer key offers.Full = full (codes "offers")

abbrev pub said_of_subscription : SubscriptionKey → SubscribeFinding → Said
said_of_subscription key subscriptions.Nack = says kinds.Nack (subscription_words key)
said_of_subscription key subscriptions.UnaskedAck = says kinds.UnaskedAck (subscription_words key)
said_of_subscription key subscriptions.UnaskedNack = says kinds.UnaskedNack (subscription_words key)
said_of_subscription key subscriptions.Full = full (codes "subscriptions")

-- an event of a service, by its receivers
abbrev pub said_of_receivers : ℕ → ℕ → ReceiverFinding → Said
said_of_receivers service event receivers.Unsubscribed = says kinds.EventUnsubscribed (ids_text service event ∷ [])
said_of_receivers service event receivers.Full = full (codes "receivers")

abbrev pub said_of_call : Header → CallFinding → Said
said_of_call h calls.KeyReused = says kinds.KeyReused (header_words h)
said_of_call h (calls.Late ms) = says kinds.Late (decimal ms ∷ codes "ms" ∷ header_words h)
said_of_call h calls.Repeated = says kinds.Repeated (header_words h)
said_of_call h calls.Unasked = says kinds.Unasked (header_words h)
said_of_call h calls.Full = full (codes "calls")

-- a message, by its server
abbrev pub said_of_server : Header → ServerFinding → Said
said_of_server h (servers.Interface expected) = says kinds.Interface (hex2 h.interface ∷ codes "expected" ∷ hex2 expected ∷ ids_text h.service h.method ∷ [])
said_of_server h servers.NotOffered = says kinds.NotOffered (header_words h)

abbrev pub said_of_event : EventFlow → ℕ → EventFinding → Said
said_of_event flow session events.Repeated = says kinds.EventRepeated (ids_text flow.service flow.event ∷ codes "session" ∷ hex4 session ∷ [])
said_of_event flow session events.Overtaken = says kinds.EventOvertaken (ids_text flow.service flow.event ∷ codes "session" ∷ hex4 session ∷ [])
said_of_event flow session events.EventsFull = full (codes "events")
said_of_event flow session events.GapsFull = full (codes "gaps")

-- what is said of a finding
abbrev pub said : Finding → Said
said (findings.Malformed fault) = says kinds.Malformed (fault_words (wire.fault_name fault) (wire.fault_place fault))
said (findings.MalformedSd fault) = says kinds.Malformed (fault_words (sd.fault_name fault) (sd.fault_place fault))
said (findings.BadRun about) = says kinds.BadRun (instance_words about)
said (findings.NoEndpoint about) = says kinds.NoEndpoint (instance_words about)
said (findings.NoTpHeader place) = says kinds.Malformed (fault_words (codes "NoHeader") place)
said (findings.Session shown) = said_of_session shown
said (findings.Offer key shown) = said_of_offer key shown
said (findings.Subscription key shown) = said_of_subscription key shown
said (findings.Receiver key shown) = said_of_receivers key.service key.eventgroup shown
said (findings.Call h shown) = said_of_call h shown
said (findings.Error h) = says kinds.Error (hex2 h.code.0 ∷ header_words h)
said (findings.Server h shown) = said_of_server h shown
said (findings.Event delivery shown) = said_of_receivers delivery.service delivery.event shown
said (findings.EventSession flow session shown) = said_of_event flow session shown
said (findings.Segment h refusal) = says kinds.Segments (error_name refusal ∷ header_words h)
said findings.EndpointsFull = full (codes "endpoints")
said findings.WaysFull = full (codes "ways")
said findings.ServersFull = full (codes "servers")
said findings.CyclesFull = full (codes "cycles")

-- ---- what fell due

-- a session that did not come, or a run of them
abbrev pub lost_words : ℕ → ℕ → List (List ℕ)
lost_words first last = if first == last then codes "session" ∷ hex4 first ∷ [] else codes "session" ∷ hex4 first ∷ codes "to" ∷ hex4 last ∷ []

-- what is said of it
abbrev pub said_of_due : FellDue → Said
said_of_due (due.Unanswered told) = says kinds.Unanswered (call_words told.call.service told.call.method told.call.client told.call.session)
said_of_due (due.Missing told) = says kinds.SegmentsMissing (call_words told.key.service told.key.method told.key.client told.key.session)
said_of_due (due.Expired told) = says kinds.OfferExpired (offer_words told.key)
said_of_due (due.SubscribeUnanswered told) = says kinds.SubscribeUnanswered (subscription_words told.key)
said_of_due (due.EventLost told) = says kinds.EventGap (ids_text told.shown_by.service told.shown_by.event ∷ lost_words told.key.session told.key.last)
said_of_due (due.Silent told) = says kinds.Silent (ids_text told.flow.service told.flow.event ∷ codes "for" ∷ decimal told.silent_ms ∷ codes "ms" ∷ [])
