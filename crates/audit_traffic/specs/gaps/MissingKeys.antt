-- The order of the sessions of events, and their codes.
use Rattle.std.specs.Prelude.{ℕ, ◌+◌, ◌*◌, Bool, List, ◌++◌, refl}
use Rattle.std.specs.declared.cmp.Ordering.{Ordering}
use Rattle.std.specs.Ordering.{eq_by_cmp, nat_cmp, ordering_then}
use Rattle.std.specs.Coded.{Coded, code_by, coded×, coded_ℕ}
use Rattle.std.specs.Hash as fed
use Rattle.std.specs.declared.net.ipv4_addr.Ipv4Addr.{Ipv4Addr}
use Rattle.std.specs.declared.net.socket_addr.SocketAddrV4.{SocketAddrV4}
use Rattle.someip_tables.specs.Endpoints.{address_cmp, endpoint_cmp, coded_endpoint}
use Rattle.someip_tables.specs.hashed.EndpointNumbers.{endpoint_number}
use Rattle.audit_traffic.specs.declared.events.flow.EventFlow.{EventFlow}
use Rattle.audit_traffic.specs.declared.gaps.key.MissingEvent.{MissingEvent}

-- a session of the event of a flow, whoever receives it
abbrev pub missing_of : EventFlow → ℕ → MissingEvent
missing_of flow session = record { sender = flow.sender; service = flow.service; event = flow.event; session = session; last = session }

-- a run of them, which is told as one
abbrev pub run_of : EventFlow → ℕ → ℕ → MissingEvent
run_of flow first last = record { sender = flow.sender; service = flow.service; event = flow.event; session = first; last = last }

-- it is of a sender at an address
abbrev pub is_from : Ipv4Addr → MissingEvent → Bool
is_from address key = eq_by_cmp address_cmp key.sender.ip address

-- which owns it
abbrev pub owners_of : {V : Type 0} → MissingEvent → V → Ipv4Addr × Ipv4Addr
owners_of key value = (key.sender.ip, key.sender.ip)

-- by sender, service, event, session and last session
abbrev pub missing_cmp : MissingEvent → MissingEvent → Ordering
missing_cmp a b =
    ordering_then (endpoint_cmp a.sender b.sender)
    (ordering_then (nat_cmp a.service b.service)
    (ordering_then (nat_cmp a.event b.event) (ordering_then (nat_cmp a.session b.session) (nat_cmp a.last b.last))))

-- it is stored as its parts
abbrev pub coded_missing : Coded MissingEvent
coded_missing =
    code_by (SocketAddrV4 × (ℕ × (ℕ × (ℕ × ℕ)))) (coded× coded_endpoint (coded× coded_ℕ (coded× coded_ℕ (coded× coded_ℕ coded_ℕ))))
    (λ m. (m.sender, (m.service, (m.event, (m.session, m.last)))))
    (λ c. record { sender = c.0; service = c.1.0; event = c.1.1.0; session = c.1.1.1.0; last = c.1.1.1.1 }) (λ _. refl)

-- what is hashed of it
abbrev pub missing_fed : MissingEvent → List (List ℕ)
missing_fed m = fed.u64 (endpoint_number m.sender) ++ fed.u64 (((m.service * 65536 + m.event) * 65536 + m.session) * 65536 + m.last)
