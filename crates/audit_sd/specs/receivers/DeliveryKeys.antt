-- The order of events that went to one endpoint, and their code.
use Rattle.std.specs.Prelude.{ℕ, ◌+◌, ◌*◌, List, ◌++◌, refl}
use Rattle.std.specs.declared.cmp.Ordering.{Ordering}
use Rattle.std.specs.Ordering.{nat_cmp, ordering_then}
use Rattle.std.specs.Coded.{Coded, code_by, coded×, coded_ℕ}
use Rattle.std.specs.Hash as fed
use Rattle.std.specs.declared.net.ipv4_addr.Ipv4Addr.{Ipv4Addr}
use Rattle.std.specs.declared.net.socket_addr.SocketAddrV4.{SocketAddrV4}
use Rattle.someip_tables.specs.Endpoints.{address_cmp, endpoint_cmp, coded_address, coded_endpoint}
use Rattle.someip_tables.specs.hashed.EndpointNumbers.{address_number, endpoint_number}
use Rattle.audit_sd.specs.declared.receivers.delivery.Delivery.{Delivery}

-- by server, service, event and endpoint
abbrev pub delivery_cmp : Delivery → Delivery → Ordering
delivery_cmp a b =
    ordering_then (address_cmp a.server b.server)
    (ordering_then (nat_cmp a.service b.service)
    (ordering_then (nat_cmp a.event b.event) (endpoint_cmp a.endpoint b.endpoint)))

-- it is stored as its parts
abbrev pub coded_delivery : Coded Delivery
coded_delivery =
    code_by (Ipv4Addr × (ℕ × (ℕ × SocketAddrV4))) (coded× coded_address (coded× coded_ℕ (coded× coded_ℕ coded_endpoint)))
    (λ d. (d.server, (d.service, (d.event, d.endpoint)))) (λ c. record { server = c.0; service = c.1.0; event = c.1.1.0; endpoint = c.1.1.1 }) (λ _. refl)

-- what is hashed of it
abbrev pub delivery_fed : Delivery → List (List ℕ)
delivery_fed d = fed.u64 ((address_number d.server * 65536 + d.service) * 65536 + d.event) ++ fed.u64 (endpoint_number d.endpoint)
