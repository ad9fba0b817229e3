-- The requests that come to a service instance (SOME/IP Protocol, "Request/Response Communication", "Fire&Forget
-- Communication", "Error Handling").
use Rattle.std.specs.Prelude.{◌≡◌, ℕ, ◌==◌, nat_le, Bool, false, not, ◌&&◌, ◌||◌, if◌then◌else◌, Option, None, Some, [], refl}
use Rattle.std.specs.Coded.{Coded, code_by, coded×, coded_ℕ}
use Rattle.std.specs.Ordering.{nat_cmp}
use Rattle.std.specs.FinMap as finite
use Rattle.std.specs.FinMap.{FinMap}
use Rattle.std.specs.BTreeSet.{contains}
use Rattle.std.specs.declared.net.socket_addr.SocketAddrV4.{SocketAddrV4}
use Rattle.someip_wire.specs.declared.header.Header.{Header}
use Rattle.someip_wire.specs.declared.header.MessageType.{MessageType}
use Rattle.someip_wire.specs.declared.header.MessageType.TheVariants as kinds
use Rattle.someip_tables.specs.Endpoints.{coded_endpoint}
use Rattle.someip_rpc.specs.declared.call.Outgoing.{Outgoing}
use Rattle.someip_rpc.specs.declared.ids.MessageId.{MessageId}
use Rattle.someip_rpc.specs.declared.request.Arrived.{Arrived}
use Rattle.someip_rpc.specs.declared.request.Arrived.TheVariants as arrived
use Rattle.someip_rpc.specs.declared.request.Asked.{Asked}
use Rattle.someip_rpc.specs.declared.request.RequestFault.{RequestFault}
use Rattle.someip_rpc.specs.declared.request.RequestFault.TheVariants.{UnknownService, WrongInterface, UnknownMethod, WrongType, NotReady}
use Rattle.someip_rpc.specs.declared.service.ServiceRules.{ServiceRules}
use Rattle.someip_rpc.specs.Ids.{coded_message}

-- the requests that wait for their answer, each under the number of its token
abbrev pub OpenRequests : Type 0
OpenRequests = FinMap nat_cmp Asked

-- the request that a message is, which came from an endpoint to an instance
abbrev pub asked : ServiceRules → SocketAddrV4 → Header → Asked
asked rules peer header = record {
  peer = peer;
  endpoint = rules.endpoint;
  message = record { service = header.service; method = header.method };
  client = header.client;
  session = header.session;
  interface = header.interface;
}

-- the header of the answer to a request: its IDs and Interface Version, with a type and a code
abbrev pub answer_header : Asked → MessageType → ℕ → Header
answer_header request kind code = record {
  service = request.message.service;
  method = request.message.method;
  client = request.client;
  session = request.session;
  interface = request.interface;
  kind = kind;
  code = record { 0 = code };
}

-- a method is declared for messages of this type
abbrev pub is_declared : ServiceRules → MessageType → ℕ → Bool
is_declared rules kinds.Request method = contains nat_cmp rules.methods method
is_declared rules kinds.RequestNoReturn method = contains nat_cmp rules.oneways method
is_declared rules _ method = false

-- a method is declared for REQUEST or for REQUEST_NO_RETURN
abbrev pub is_known_method : ServiceRules → ℕ → Bool
is_known_method rules method = is_declared rules kinds.Request method || is_declared rules kinds.RequestNoReturn method

-- no further request can wait: 1024 do so already, or all tokens were given, the last of which is two below 2 to the 64th
abbrev pub has_no_room : OpenRequests → ℕ → Bool
has_no_room requests next = nat_le 1024 (finite.len requests) || (next == 0xFFFFFFFFFFFFFFFF)

-- a message of this type has to wait for its answer, and cannot
abbrev pub lacks_room : MessageType → OpenRequests → ℕ → Bool
lacks_room kinds.Request requests next = has_no_room requests next
lacks_room _ requests next = false

-- the first check of an instance, which may be up or not, that a REQUEST or REQUEST_NO_RETURN fails
abbrev pub request_fault : ServiceRules → Bool → Header → OpenRequests → ℕ → Option RequestFault
request_fault rules up header requests next =
    if not (up && (header.service == rules.service)) then Some UnknownService
    else if not (header.interface == rules.major) then Some WrongInterface
    else if not (is_known_method rules header.method) then Some UnknownMethod
    else if not (is_declared rules header.kind header.method) then Some WrongType
    else if lacks_room header.kind requests next then Some NotReady
    else None

-- the Return Code that tells a failed check
abbrev pub fault_code : RequestFault → ℕ
fault_code UnknownService = 0x02
fault_code WrongInterface = 0x08
fault_code UnknownMethod = 0x03
fault_code WrongType = 0x0A
fault_code NotReady = 0x04

-- the ERROR that tells a failed check: without payload, from the instance's endpoint to that of the request
abbrev pub IsErrorOf : Asked → RequestFault → Outgoing → Type 0
IsErrorOf request fault sent =
    (sent.from ≡ request.endpoint) × (sent.to ≡ request.peer)
    × (sent.message.header ≡ answer_header request kinds.Error (fault_code fault)) × (sent.message.payload.now ≡ [])

-- it is refused, by a message of which this holds
abbrev pub IsRefusedBy : (Outgoing → Type 0) → Arrived → Type 0
IsRefusedBy P (arrived.Refused sent) = P sent
IsRefusedBy P _ = ⊥

-- what becomes of a message of a type by the first check that it fails, if there is one
abbrev pub BecomesOf : Asked → ℕ → MessageType → Option RequestFault → Arrived → Type 0
BecomesOf request next kinds.Request None becomes = becomes ≡ arrived.Request next
BecomesOf request next kinds.Request (Some fault) becomes = IsRefusedBy (IsErrorOf request fault) becomes
BecomesOf request next kinds.RequestNoReturn None becomes = becomes ≡ arrived.Oneway
BecomesOf request next kinds.RequestNoReturn (Some fault) becomes = becomes ≡ arrived.Dropped fault
BecomesOf request next _ fault becomes = becomes ≡ arrived.Dropped WrongType

-- codes, by which a proof tells values apart
abbrev pub coded_asked : Coded Asked
coded_asked =
    code_by (SocketAddrV4 × (SocketAddrV4 × (MessageId × (ℕ × (ℕ × ℕ)))))
    (coded× coded_endpoint (coded× coded_endpoint (coded× coded_message (coded× coded_ℕ (coded× coded_ℕ coded_ℕ)))))
    (λ a. (a.peer, (a.endpoint, (a.message, (a.client, (a.session, a.interface))))))
    (λ p. record { peer = p.0; endpoint = p.1.0; message = p.1.1.0; client = p.1.1.1.0; session = p.1.1.1.1.0; interface = p.1.1.1.1.1 })
    (λ _. refl)

abbrev pub coded_open : Coded OpenRequests
coded_open = finite.code coded_ℕ coded_asked
