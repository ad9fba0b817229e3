-- The order of ways, and their code.
use Rattle.std.specs.Prelude.{refl}
use Rattle.std.specs.declared.cmp.Ordering.{Ordering}
use Rattle.std.specs.Ordering.{ordering_then}
use Rattle.std.specs.Coded.{Coded, code_by, coded×}
use Rattle.std.specs.declared.net.socket_addr.SocketAddrV4.{SocketAddrV4}
use Rattle.someip_tables.specs.Endpoints.{endpoint_cmp, coded_endpoint}
use Rattle.audit_traffic.specs.declared.ways.way.Way.{Way}

-- by the endpoint that messages come from, and then by the one that they go to
abbrev pub way_cmp : Way → Way → Ordering
way_cmp a b = ordering_then (endpoint_cmp a.from b.from) (endpoint_cmp a.to b.to)

-- the way back
abbrev pub back : Way → Way
back way = record { from = way.to; to = way.from }

-- it is stored as its endpoints
abbrev pub coded_way : Coded Way
coded_way = code_by (SocketAddrV4 × SocketAddrV4) (coded× coded_endpoint coded_endpoint) (λ w. (w.from, w.to)) (λ c. record { from = c.0; to = c.1 }) (λ _. refl)
