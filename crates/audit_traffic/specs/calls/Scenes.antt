-- Messages that the laws speak of as examples: a client at 192.168.0.2:40000 calls a service at 192.168.0.3:30509.
use Rattle.std.specs.Prelude.{ℕ, ◌+◌, List, [], ◌∷◌}
use Rattle.std.specs.declared.net.socket_addr.SocketAddrV4.{SocketAddrV4}
use Rattle.someip_wire.specs.declared.header.Header.{Header}
use Rattle.someip_wire.specs.declared.header.MessageType.{MessageType}
use Rattle.someip_wire.specs.declared.header.MessageType.TheVariants as kinds
use Rattle.someip_tables.specs.declared.hashed.origin.Numbers.{Numbers}
use Rattle.audit_traffic.specs.declared.calls.call.AuditedCall.{AuditedCall}
use Rattle.audit_traffic.specs.declared.calls.finding.CallRules.{CallRules}
use Rattle.audit_traffic.specs.calls.Tapped.{Tapped, call_asked}

-- 65,536 calls, in a recording that begins at moment 1000
abbrev pub rules : CallRules
rules = record { limit = 65536; begins = 1000 }

abbrev pub client : SocketAddrV4
client = record { ip = record { octets = 192 ∷ 168 ∷ 0 ∷ 2 ∷ [] }; port = 40000 }

abbrev pub server : SocketAddrV4
server = record { ip = record { octets = 192 ∷ 168 ∷ 0 ∷ 3 ∷ [] }; port = 30509 }

-- another port of the same node
abbrev pub other_server : SocketAddrV4
other_server = record { ip = record { octets = 192 ∷ 168 ∷ 0 ∷ 3 ∷ [] }; port = 30510 }

-- method 0421 of service 1234, Client ID 1, with a session and a type
abbrev pub header_with : ℕ → MessageType → Header
header_with session kind = record { service = 0x1234; method = 0x0421; client = 1; session = session; interface = 1; kind = kind; code = record { 0 = 0 } }

-- a datagram of this number, before which two packets gave none
abbrev pub numbered : ℕ → Numbers
numbered k = record { datagram = k; frame = k + 2 }

-- a message of this type from one endpoint to another at a moment, in the datagram of its number, with 2 s for an answer
abbrev pub message_at : ℕ → SocketAddrV4 → SocketAddrV4 → ℕ → MessageType → List ℕ → Tapped
message_at now from to session kind payload = record { now = now; answer_ms = 2000; numbers = numbered 7; from = from; to = to; header = header_with session kind; payload = payload }

-- a REQUEST with session 5, and one without sessions
abbrev pub request_at : ℕ → List ℕ → Tapped
request_at now payload = message_at now client server 5 kinds.Request payload

abbrev pub request_without_session_at : ℕ → List ℕ → Tapped
request_without_session_at now payload = message_at now client server 0 kinds.Request payload

-- the answer to the REQUEST with session 5
abbrev pub response_at : ℕ → Tapped
response_at now = message_at now server client 5 kinds.Response []

abbrev pub error_at : ℕ → Tapped
error_at now = message_at now server client 5 kinds.Error []

-- the call with session 5
abbrev pub call_5 : AuditedCall
call_5 = call_asked (request_at 0 [])
