-- What the laws of texts speak of as examples.
use Rattle.audit_rules.specs.declared.weights.Exceeded.{Exceeded}
use Rattle.recording_packets.specs.declared.LeftOut.{LeftOut}
use Rattle.std.specs.Prelude.{ℕ, [], ◌∷◌, None, Some, false}
use Rattle.recording.specs.declared.Time.{Time}
use Rattle.std.specs.declared.net.socket_addr.SocketAddrV4.{SocketAddrV4}
use Rattle.someip_wire.specs.declared.Header.{Header}
use Rattle.someip_wire.specs.declared.MessageType.TheVariants.{Error, Request}
use Rattle.someip_tables.specs.declared.Deadline.TheVariants.{At}
use Rattle.someip_tables.specs.declared.hashed.Origin.{Origin}
use Rattle.audit_traffic.specs.declared.calls.Unanswered.{Unanswered as UnansweredCall}
use Rattle.audit_traffic.specs.declared.events.EventFlow.{EventFlow}
use Rattle.audit_traffic.specs.declared.gaps.LostEvent.{LostEvent}
use Rattle.audit_traffic.specs.declared.sequence.Counting.TheVariants.{ByEvent}
use Rattle.audit_sd.specs.declared.offers.Expired.{Expired}
use Rattle.audit_sd.specs.declared.offers.OfferKey.{OfferKey}
use Rattle.audit_sd.specs.declared.receivers.Delivery.{Delivery}
use Rattle.audit_traffic.specs.declared.segments.Missing.{Missing}
use Rattle.audit_sd.specs.declared.subscriptions.SubscriptionKey.{SubscriptionKey}
use Rattle.audit_sd.specs.declared.subscriptions.Unanswered.{Unanswered as UnansweredSubscribe}
use Rattle.someip_audit.specs.declared.ServiceInstance.{ServiceInstance}
use Rattle.someipctl_io.specs.declared.form.Form.TheVariants.{Plain}
use Rattle.someipctl_show.specs.declared.services.AskedService.{AskedService}
use Rattle.someipctl_recordings.specs.Wanted.{WantedValue, all_wanted}
use Rattle.someipctl_audit.specs.AskedAudits.{AskedAudit}
use Rattle.someip_audit.specs.declared.groups.GroupKey.{GroupKey}
use Rattle.audit_rules.specs.declared.kind.Kind.TheVariants.{Late, OfferMoved, Reboot}
use Rattle.someipctl_audit.specs.AuditText.{Looked}
use Rattle.someipctl_audit.specs.Groupings.{group_key}
use Rattle.someipctl_audit.specs.Subjects.{about_call, about_nothing, about_service}

-- an endpoint of node n
abbrev pub socket : ℕ → ℕ → SocketAddrV4
socket n port = record { ip = record { octets = 192 ∷ 168 ∷ 0 ∷ n ∷ [] }; port = port }

-- a datagram, a message, an event, an offer and a subscription
abbrev pub origin_1 : Origin
origin_1 = record { numbers = record { datagram = 12; frame = 14 }; from = socket 1 40000; to = socket 2 30490 }

abbrev pub header_1 : Header
header_1 = record { service = 0x1234; method = 0x0421; client = 0x0101; session = 2; interface = 1; kind = Request; code = record { 0 = 0 } }

-- the answer to it that its method is not known
abbrev pub error_1 : Header
error_1 = record header_1 { kind = Error; code = record { 0 = 3 } }

-- the same with another version
abbrev pub other_1 : Header
other_1 = record header_1 { interface = 2 }

-- the instance of its service
abbrev pub instance_1 : ServiceInstance
instance_1 = record { service = 0x1234; instance = 1 }

abbrev pub flow_1 : EventFlow
flow_1 = record { sender = socket 1 30509; service = 0x1234; event = 0x8001; receiver = socket 2 40000 }

abbrev pub event_1 : Delivery
event_1 = record { server = record { octets = 192 ∷ 168 ∷ 0 ∷ 1 ∷ [] }; service = 0x1234; event = 0x8001; endpoint = socket 2 40000 }

abbrev pub offer_1 : OfferKey
offer_1 = record { service = 0x1234; instance = 1; major = 2 }

abbrev pub key_1 : SubscriptionKey
key_1 = record {
  client = record { octets = 192 ∷ 168 ∷ 0 ∷ 2 ∷ [] };
  server = record { octets = 192 ∷ 168 ∷ 0 ∷ 1 ∷ [] };
  service = 0x1234;
  instance = 1;
  major = 2;
  eventgroup = 5;
  counter = 3;
}

-- what fell due: a call, a message in part, an offer and a Subscribe
abbrev pub unanswered_1 : UnansweredCall
unanswered_1 = record {
  call = record { session = 2; client = 0x0101; method = 0x0421; service = 0x1234; from = socket 2 40001; to = socket 1 30509; interface = 1 };
  numbers = record { datagram = 8; frame = 9 };
  since = 2500;
  until = 4500;
}

abbrev pub missing_1 : Missing
missing_1 = record {
  key = record {
    source = socket 1 30509;
    destination = socket 2 40001;
    service = 0x1234;
    method = 0x0421;
    client = 0x0101;
    session = 2;
    interface = 1;
    kind = Request;
    code = record { 0 = 0 };
  };
  numbers = record { datagram = 9; frame = 11 };
  until = 7000;
}

abbrev pub expired_1 : Expired
expired_1 = record { at = 8003; key = offer_1; offer = record { endpoint = socket 1 30509; origin = origin_1; until = At 8003 } }

abbrev pub subscribe_1 : UnansweredSubscribe
subscribe_1 = record { at = 9000; key = key_1; origin = origin_1 }

-- a session of an event that did not come
abbrev pub lost_1 : LostEvent
lost_1 = record {
  at = 9100;
  key = record { sender = socket 1 30509; service = 0x1234; event = 0x8001; session = 9; last = 9 };
  shown_by = flow_1;
  numbers = record { datagram = 8; frame = 9 };
}

-- a run of them
abbrev pub run_1 : LostEvent
run_1 = record lost_1 { key = record { sender = socket 1 30509; service = 0x1234; event = 0x8001; session = 7; last = 0x58 } }

-- ---- what is asked for

-- a whole service, and a method of one
abbrev pub whole_service : ℕ → AskedService
whole_service service = record { service = service; method = None }

abbrev pub method_of : ℕ → ℕ → AskedService
method_of service method = record { service = service; method = Some method }

-- an audit that tells the findings that are chosen so
abbrev asks : WantedValue → AskedAudit
asks wanted = record {
  rules = record { limit = 65536; judged = 65536; answer_ms = 2000; overtake_ms = 100; counting = ByEvent; settle_ms = 10000; segments = record { slots = 16; limit = 1048576; timeout_ms = 5000 } };
  bench = [];
  wanted = wanted;
  form = Plain;
  frames = false;
  group = false;
}

abbrev pub of_services : AskedService → AskedAudit
of_services service = asks (record all_wanted { services = Some (service ∷ []) })

abbrev pub of_client : ℕ → AskedAudit
of_client client = asks (record all_wanted { client = Some client })

abbrev pub of_address : ℕ → AskedAudit
of_address address = asks (record all_wanted { addresses = Some (address ∷ []) })

abbrev pub before : Time → AskedAudit
before until = asks (record all_wanted { until = Some until })

-- three datagrams of four messages were looked at
abbrev pub three_datagrams : Looked
three_datagrams = record { datagrams = 3; messages = 4; passed = 0; ended = None }

-- groups of late answers, and of reboots
abbrev pub late_group : GroupKey
late_group = group_key Late (Some (about_call 0x1234 0x0421 0x0101)) origin_1

abbrev pub reboot_group : GroupKey
reboot_group = group_key Reboot (Some about_nothing) origin_1

abbrev pub moved_group : GroupKey
moved_group = group_key OfferMoved (Some (about_service 0x1234)) origin_1

-- ---- in the summary

-- five late answers to a method, of which a rule lets two come
abbrev pub five_late : Exceeded
five_late = record { kind = 16; service = Some 4660; method = Some 1057; most = 2; came = 5 }

-- the same of a rule of the whole service
abbrev pub five_late_of_any_method : Exceeded
five_late_of_any_method = record five_late { method = None }

-- no packet was left out
abbrev pub none_left_out : LeftOut
none_left_out = record {
  link_type = 0;
  not_ipv4 = 0;
  not_udp = 0;
  cut = 0;
  bad_udp_length = 0;
  copies = 0;
  fragments_without_rest = 0;
  fragments_that_differ = 0;
}

-- three packets were not UDP, and two were cut short
abbrev pub five_left_out : LeftOut
five_left_out = record none_left_out { not_udp = 3; cut = 2 }
