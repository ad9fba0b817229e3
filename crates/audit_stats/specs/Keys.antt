-- The orders of flows, ways and calls, and their codes.
use Rattle.std.specs.Prelude.{ℕ, refl}
use Rattle.std.specs.declared.cmp.Ordering.{Ordering}
use Rattle.std.specs.Ordering.{nat_cmp, ordering_then}
use Rattle.std.specs.Coded.{Coded, code_by, coded×, coded_ℕ}
use Rattle.std.specs.declared.net.socket_addr.SocketAddrV4.{SocketAddrV4}
use Rattle.someip_tables.specs.Endpoints.{endpoint_cmp, coded_endpoint}
use Rattle.audit_stats.specs.declared.keys.Call.{Call}
use Rattle.audit_stats.specs.declared.keys.Flow.{Flow}
use Rattle.audit_stats.specs.declared.keys.Way.{Way}

-- by service and method, and then by the endpoints
abbrev pub flow_cmp : Flow → Flow → Ordering
flow_cmp a b =
    ordering_then (nat_cmp a.service b.service)
    (ordering_then (nat_cmp a.method b.method)
    (ordering_then (endpoint_cmp a.from b.from) (endpoint_cmp a.to b.to)))

-- by the endpoint that messages come from, and then by the one that they go to
abbrev pub way_cmp : Way → Way → Ordering
way_cmp a b = ordering_then (endpoint_cmp a.from b.from) (endpoint_cmp a.to b.to)

-- by flow, and then by Client ID and session
abbrev pub call_cmp : Call → Call → Ordering
call_cmp a b = ordering_then (flow_cmp a.flow b.flow) (ordering_then (nat_cmp a.client b.client) (nat_cmp a.session b.session))

-- ---- codes, by which a proof tells values apart

abbrev pub coded_flow : Coded Flow
coded_flow =
    code_by ((ℕ × ℕ) × (SocketAddrV4 × SocketAddrV4)) (coded× (coded× coded_ℕ coded_ℕ) (coded× coded_endpoint coded_endpoint))
    (λ r. ((r.service, r.method), (r.from, r.to))) (λ c. record { service = c.0.0; method = c.0.1; from = c.1.0; to = c.1.1 }) (λ _. refl)

abbrev pub coded_way : Coded Way
coded_way = code_by (SocketAddrV4 × SocketAddrV4) (coded× coded_endpoint coded_endpoint) (λ w. (w.from, w.to)) (λ c. record { from = c.0; to = c.1 }) (λ _. refl)

abbrev pub coded_call : Coded Call
coded_call =
    code_by (Flow × (ℕ × ℕ)) (coded× coded_flow (coded× coded_ℕ coded_ℕ)) (λ c. (c.flow, (c.client, c.session)))
    (λ p. record { flow = p.0; client = p.1.0; session = p.1.1 }) (λ _. refl)
