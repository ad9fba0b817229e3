-- A client at 192.168.0.1, a server at 192.168.0.2, and what they send each other.
use Rattle.std.specs.Prelude.{ℕ, List, [], ◌∷◌, ◌++◌}
use Rattle.std.specs.declared.net.socket_addr.SocketAddrV4.{SocketAddrV4}
use Rattle.someip_wire.specs.declared.header.Header.{Header}
use Rattle.someip_wire.specs.declared.header.MessageType.{MessageType}
use Rattle.someip_wire.specs.declared.header.MessageType.TheVariants as types
use Rattle.audit_stats.specs.declared.keys.Flow.{Flow}
use Rattle.audit_stats.specs.Stats.{Came, Fact}

-- 192.168.0.n:40000
abbrev pub node : ℕ → SocketAddrV4
node n = record { ip = record { octets = 192 ∷ 168 ∷ 0 ∷ n ∷ [] }; port = 40000 }

-- method 0421 of service 1234, which the client calls, and event 8421, which the server sends
abbrev pub method : Flow
method = record { service = 0x1234; method = 0x0421; from = node 1; to = node 2 }

abbrev pub event : Flow
event = record { service = 0x1234; method = 0x8421; from = node 2; to = node 1 }

-- a header of Client ID 1
abbrev pub header : ℕ → ℕ → MessageType → ℕ → Header
header id session kind code = record { service = 0x1234; method = id; client = 1; session = session; interface = 1; kind = kind; code = record { 0 = code } }

-- the client sends a message of the method, and the server one, at a moment, with a session
abbrev pub asks : ℕ → ℕ → MessageType → List ℕ → Fact
asks now session kind payload = Came now (node 1) (node 2) (record { header = header 0x0421 session kind 0; payload = payload })

abbrev pub answers : ℕ → ℕ → MessageType → ℕ → Fact
answers now session kind code = Came now (node 2) (node 1) (record { header = header 0x0421 session kind code; payload = [] })

-- the server sends an event
abbrev pub sends : ℕ → MessageType → List ℕ → Fact
sends now kind payload = Came now (node 2) (node 1) (record { header = header 0x8421 1 kind 0; payload = payload })

-- two calls with one session, and an answer: the newest first
abbrev pub two_calls : List Fact
two_calls = answers 900 7 types.Response 0 ∷ asks 500 7 types.Request [] ∷ asks 100 7 types.Request [] ∷ []

-- a call, and an answer with another session
abbrev pub one_unasked : List Fact
one_unasked = answers 900 8 types.Response 0 ∷ asks 500 7 types.Request [] ∷ []

-- TP headers: a first segment, and a last one
abbrev pub first : List ℕ
first = 0 ∷ 0 ∷ 0 ∷ 1 ∷ []

abbrev pub last : List ℕ
last = 0 ∷ 0 ∷ 5 ∷ 0x70 ∷ []

-- an event in two segments of a byte each
abbrev pub two_segments : List Fact
two_segments = sends 200 types.TpNotification (last ++ 9 ∷ []) ∷ sends 100 types.TpNotification (first ++ 8 ∷ []) ∷ []
