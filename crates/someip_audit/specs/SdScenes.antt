-- Entries of Service Discovery, and what falls due, that the laws speak of as examples.
use Rattle.std.specs.Prelude.{ℕ, true, false, List, [], ◌∷◌, ◌++◌}
use Rattle.sd_wire.specs.declared.entry.EventgroupEntry.{EventgroupEntry}
use Rattle.sd_wire.specs.declared.entry.EventgroupKind.{EventgroupKind}
use Rattle.sd_wire.specs.declared.entry.EntryHead.TheVariants.{Service, Eventgroup}
use Rattle.sd_wire.specs.declared.entry.ServiceEntry.{ServiceEntry}
use Rattle.sd_wire.specs.declared.entry.ServiceKind.{ServiceKind}
use Rattle.sd_wire.specs.declared.option.SdOption.{SdOption}
use Rattle.sd_wire.specs.declared.option.SdOption.TheVariants.{Endpoint4, Endpoint6, Multicast4}
use Rattle.sd_wire.specs.contents.Values.{ReadValue, good}
use Rattle.someip_wire.specs.declared.header.Header.{Header}
use Rattle.someip_wire.specs.declared.header.MessageType.{MessageType}
use Rattle.someip_wire.specs.declared.header.MessageType.TheVariants as kinds
use Rattle.someip_tables.specs.declared.deadline.Deadline.TheVariants.{At}
use Rattle.audit_traffic.specs.declared.events.flow.EventFlow.{EventFlow}
use Rattle.audit_traffic.specs.calls.Scenes.{call_5, header_with, numbered}
use Rattle.audit_sd.specs.offers.OfferExamples.{endpoint, from_node, service}
use Rattle.audit_sd.specs.subscriptions.SubscribeExamples as subscribes
use Rattle.someip_wire.specs.Spelling.{MessageValue}
use Rattle.someip_tables.specs.declared.hashed.origin.Origin.{Origin}
use Rattle.someip_audit.specs.SdShown.{Work}
use Rattle.audit_endpoints.specs.WatchedEndpoints.{Watch, watch_begun}
use Rattle.someip_audit.specs.declared.finding.Finding.{Finding}
use Rattle.someip_audit.specs.declared.finding.ServiceInstance.{ServiceInstance}
use Rattle.someip_audit.specs.declared.fell_due.FellDue.{FellDue}
use Rattle.someip_audit.specs.declared.fell_due.FellDue.TheVariants as due

-- an entry of this kind about instance 1 of service 4096
abbrev pub service_entry : ServiceKind → ℕ → ServiceEntry
service_entry kind ttl = record { kind = kind; service = 4096; instance = 1; major = 1; ttl = ttl; minor = 0 }

-- with a UDP endpoint of node n
abbrev pub with_endpoint : ServiceEntry → ℕ → ℕ → ReadValue
with_endpoint entry n port = good (record { head = Service entry; first = Endpoint4 (record { socket = endpoint n port; protocol = record { 0 = 0x11 } }) ∷ []; second = [] })

-- with one option
abbrev pub with_option : ServiceEntry → SdOption → ReadValue
with_option entry option = good (record { head = Service entry; first = option ∷ []; second = [] })

-- an endpoint of node 1 over a transport protocol, of IPv4 and of IPv6; and a multicast group
abbrev pub endpoint_4 : ℕ → SdOption
endpoint_4 protocol = Endpoint4 (record { socket = endpoint 1 40000; protocol = record { 0 = protocol } })

abbrev pub endpoint_6 : ℕ → SdOption
endpoint_6 protocol = Endpoint6 (record { address = record { segments = 0xfd00 ∷ 0 ∷ 0 ∷ 0 ∷ 0 ∷ 0 ∷ 0 ∷ 1 ∷ [] }; port = 40000; protocol = record { 0 = protocol } })

abbrev pub group_4 : SdOption
group_4 = Multicast4 (record { socket = record { ip = record { octets = 224 ∷ 0 ∷ 0 ∷ 1 ∷ [] }; port = 40000 }; protocol = record { 0 = 17 } })

-- without options
abbrev pub without_endpoint : ServiceEntry → ReadValue
without_endpoint entry = good (record { head = Service entry; first = []; second = [] })

-- the instance that these entries are about
abbrev pub instance_1 : ServiceInstance
instance_1 = record { service = 4096; instance = 1 }

-- an entry of this kind about its eventgroup 5
abbrev pub group_entry : EventgroupKind → ℕ → EventgroupEntry
group_entry kind ttl = record { kind = kind; service = 4096; instance = 1; major = 1; ttl = ttl; counter = 0; eventgroup = 5 }

-- without options
abbrev pub group_without : EventgroupKind → ℕ → ReadValue
group_without kind ttl = good (record { head = Eventgroup (group_entry kind ttl); first = []; second = [] })

-- the header of a message of this type with this return code
abbrev pub coded : MessageType → ℕ → Header
coded kind code = record (header_with 5 kind) { code = record { 0 = code } }

-- the call with session 5 that had no answer until a moment
abbrev pub call_due : ℕ → FellDue
call_due at = due.Unanswered (record { call = call_5; numbers = numbered 7; since = 0; until = at })

-- the offer of a service whose TTL passed at a moment
abbrev pub offer_due : ℕ → ℕ → FellDue
offer_due id at = due.Expired (record { at = at; key = service id; offer = record { endpoint = endpoint 1 40000; origin = from_node 1 1; until = At at } })

-- the Subscribe of node 1 that had no answer until a moment
abbrev pub subscribe_due : ℕ → FellDue
subscribe_due at = due.SubscribeUnanswered (record { at = at; key = subscribes.subscription 1 0; origin = subscribes.datagram 4 1 9 })

-- the message of which segments were missing at a moment
abbrev pub missing_due : ℕ → FellDue
missing_due at = due.Missing (record {
  key = record { source = endpoint 9 40000; destination = endpoint 1 40000; service = 4096; method = 0x8001; client = 0; session = 1; interface = 1; kind = kinds.Notification; code = record { 0 = 0 } };
  numbers = numbered 7;
  until = at;
})

-- the event with this ID, from node 9 to node 1
abbrev pub event_of : ℕ → EventFlow
event_of event = record { sender = endpoint 9 40000; service = 4096; event = event; receiver = endpoint 1 40000 }

-- its session 3 that did not come until a moment
abbrev pub lost_due : ℕ → FellDue
lost_due at = due.EventLost (record { at = at; key = record { sender = endpoint 9 40000; service = 4096; event = 0x8001; session = 3; last = 3 }; shown_by = event_of 0x8001; numbers = numbered 7 })

-- the event with this ID that was silent at a moment, with a cycle of 100 milliseconds
abbrev pub silent_due : ℕ → ℕ → FellDue
silent_due event at = due.Silent (record { at = at; flow = event_of event; silent_ms = 300; numbers = numbered 7 })

-- the header of a message of Service Discovery
abbrev pub sd_header : Header
sd_header = record (header_with 1 kinds.Notification) { service = 0xFFFF; method = 0x8100; client = 0 }

-- a datagram from a port of one node to a port of another
abbrev pub sent_from : ℕ → ℕ → ℕ → ℕ → Origin
sent_from from port to at = record { numbers = numbered 1; from = endpoint from port; to = endpoint to at }

-- port 40000 is looked at, and nothing is learnt
abbrev pub at_40000 : Watch
at_40000 = watch_begun (40000 ∷ []) false 4

-- a segment of an event with this payload
abbrev pub segment_with : List ℕ → MessageValue
segment_with payload = record { header = header_with 5 kinds.TpNotification; payload = payload }

-- a finding more was told
abbrev pub once_told : Finding → Work → Work
once_told finding work = record work { told = work.told ++ finding ∷ [] }

-- an Offer was seen
abbrev pub once_offered : Work → Work
once_offered work = record work { held = record work.held { is_offered = true } }
