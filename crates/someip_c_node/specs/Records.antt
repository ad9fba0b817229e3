-- Outputs as plain records.
use Rattle.std.specs.Prelude.{ℕ, List, [], ◌∷◌, length, Option, None, Some}
use Rattle.std.specs.Net.Addr.{ipv4_octets}
use Rattle.std.specs.Net.Socket.{v4_ip, v4_port}
use Rattle.std.specs.declared.net.ipv4_addr.Ipv4Addr.{Ipv4Addr}
use Rattle.std.specs.declared.net.socket_addr.SocketAddrV4.{SocketAddrV4}
use Rattle.sd_core.specs.declared.eventgroup.Eventgroup.{Eventgroup}
use Rattle.sd_core.specs.declared.keys.InstanceId.{InstanceId}
use Rattle.someip_rpc.specs.declared.ids.MessageId.{MessageId}
use Rattle.someip_wire.specs.declared.header.ReturnCode.{ReturnCode}
use Rattle.someip_node_rules.specs.declared.output.Output.{Output}
use Rattle.someip_node_rules.specs.declared.output.Output.TheVariants.{Sent, Called, Request, Answered, TimedOut, Event, Known, Gone, Subscribed, Unsubscribed, Accepted, Nacked, Rebooted, Dropped}
use Rattle.someip_c_node.specs.declared.endpoint.Endpoint.{Endpoint}
use Rattle.someip_c_node.specs.declared.record.OutputRecord.{OutputRecord}
use Rattle.someip_c_node.specs.Reasons.{cause_number, drop_number, detail_of}

-- ---- endpoints

abbrev pub endpoint_of : SocketAddrV4 → Endpoint
endpoint_of socket = record { address = ipv4_octets (v4_ip socket); port = v4_port socket }

abbrev pub socket_of : Endpoint → SocketAddrV4
socket_of endpoint = record { ip = record { octets = endpoint.address }; port = endpoint.port }

abbrev pub no_endpoint : Endpoint
no_endpoint = record { address = 0 ∷ 0 ∷ 0 ∷ 0 ∷ []; port = 0 }

-- ---- records

-- one of a kind, without anything else
abbrev pub blank : ℕ → OutputRecord
blank kind = record {
  kind = kind;
  reason = 0;
  detail = 0;
  has_token = 0;
  token = 0;
  payload_length = 0;
  from = no_endpoint;
  to = no_endpoint;
  service = 0;
  instance = 0;
  member = 0;
  eventgroup = 0;
  session = 0;
  code = 0;
  counter = 0;
}

abbrev pub with_ends : SocketAddrV4 → SocketAddrV4 → OutputRecord → OutputRecord
with_ends from to r = record r { from = endpoint_of from; to = endpoint_of to }

abbrev pub with_endpoint : SocketAddrV4 → OutputRecord → OutputRecord
with_endpoint endpoint r = record r { to = endpoint_of endpoint }

abbrev pub with_instance : InstanceId → OutputRecord → OutputRecord
with_instance id r = record r { service = id.service; instance = id.instance }

abbrev pub with_member : ℕ → OutputRecord → OutputRecord
with_member member r = record r { member = member }

abbrev pub with_message : MessageId → ℕ → OutputRecord → OutputRecord
with_message message session r = record r { service = message.service; member = message.method; session = session }

abbrev pub with_eventgroup : Eventgroup → OutputRecord → OutputRecord
with_eventgroup group r = record r { service = group.instance.service; instance = group.instance.instance; eventgroup = group.id }

abbrev pub with_payload : ℕ → OutputRecord → OutputRecord
with_payload payload_length r = record r { payload_length = payload_length }

abbrev pub with_token : Option ℕ → OutputRecord → OutputRecord
with_token None r = r
with_token (Some token) r = record r { has_token = 1; token = token }

abbrev pub with_code : ReturnCode → OutputRecord → OutputRecord
with_code code r = record r { code = code.0 }

abbrev pub with_counter : ℕ → OutputRecord → OutputRecord
with_counter counter r = record r { counter = counter }

abbrev pub with_reason : ℕ → ℕ → OutputRecord → OutputRecord
with_reason reason detail r = record r { reason = reason; detail = detail }

abbrev pub with_peer : Ipv4Addr → OutputRecord → OutputRecord
with_peer peer r = record r { from = record { address = ipv4_octets peer; port = 0 } }

-- ---- outputs

-- the bytes that come with an output
abbrev pub payload_of : Output → List ℕ
payload_of (Sent from to bytes) = bytes
payload_of (Request token instance method payload) = payload
payload_of (Answered message session code payload) = payload
payload_of (Event instance event payload) = payload
payload_of _ = []

-- an output of Service Discovery, or a drop
abbrev pub discovery_record : Output → OutputRecord
discovery_record (Known instance endpoint) = with_endpoint endpoint (with_instance instance (blank 7))
discovery_record (Gone instance) = with_instance instance (blank 8)
discovery_record (Subscribed eventgroup counter) = with_counter counter (with_eventgroup eventgroup (blank 9))
discovery_record (Unsubscribed eventgroup) = with_eventgroup eventgroup (blank 10)
discovery_record (Accepted eventgroup endpoint counter) = with_counter counter (with_endpoint endpoint (with_eventgroup eventgroup (blank 11)))
discovery_record (Nacked eventgroup cause) = with_reason (cause_number cause) 0 (with_eventgroup eventgroup (blank 12))
discovery_record (Rebooted peer) = with_peer peer (blank 13)
discovery_record (Dropped reason) = with_reason (drop_number reason) (detail_of reason) (blank 14)
discovery_record _ = blank 0

-- what an output tells, but for how many bytes come with it
abbrev pub told_of : Output → OutputRecord
told_of (Sent from to bytes) = with_ends from to (blank 1)
told_of (Called message session) = with_message message session (blank 2)
told_of (Request token instance method payload) = with_member method (with_instance instance (with_token token (blank 3)))
told_of (Answered message session code payload) = with_code code (with_message message session (blank 4))
told_of (TimedOut message session) = with_message message session (blank 5)
told_of (Event instance event payload) = with_member event (with_instance instance (blank 6))
told_of output = discovery_record output

-- what an output tells beside its bytes
abbrev pub record_of : Output → OutputRecord
record_of output = with_payload (length (payload_of output)) (told_of output)
