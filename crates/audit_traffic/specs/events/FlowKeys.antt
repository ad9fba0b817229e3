-- The order of the flows of events, and their codes.
use Rattle.std.specs.Prelude.{ℕ, ◌+◌, ◌*◌, List, ◌++◌, refl}
use Rattle.std.specs.declared.cmp.Ordering.{Ordering}
use Rattle.std.specs.Ordering.{nat_cmp, ordering_then}
use Rattle.std.specs.Coded.{Coded, code_by, coded×, coded_ℕ}
use Rattle.std.specs.Hash as fed
use Rattle.std.specs.declared.net.socket_addr.SocketAddrV4.{SocketAddrV4}
use Rattle.someip_tables.specs.Endpoints.{endpoint_cmp, coded_endpoint}
use Rattle.someip_tables.specs.hashed.EndpointNumbers.{endpoint_number}
use Rattle.audit_traffic.specs.declared.events.flow.EventFlow.{EventFlow}

-- by sender, service, event and receiver
abbrev pub flow_cmp : EventFlow → EventFlow → Ordering
flow_cmp a b =
    ordering_then (endpoint_cmp a.sender b.sender)
    (ordering_then (nat_cmp a.service b.service)
    (ordering_then (nat_cmp a.event b.event) (endpoint_cmp a.receiver b.receiver)))

-- it is stored as its parts
abbrev pub coded_flow : Coded EventFlow
coded_flow =
    code_by (SocketAddrV4 × (ℕ × (ℕ × SocketAddrV4))) (coded× coded_endpoint (coded× coded_ℕ (coded× coded_ℕ coded_endpoint)))
    (λ f. (f.sender, (f.service, (f.event, f.receiver)))) (λ c. record { sender = c.0; service = c.1.0; event = c.1.1.0; receiver = c.1.1.1 }) (λ _. refl)

-- what is hashed of it
abbrev pub flow_fed : EventFlow → List (List ℕ)
flow_fed f = fed.u64 (endpoint_number f.sender) ++ (fed.u64 (f.service * 65536 + f.event) ++ fed.u64 (endpoint_number f.receiver))
