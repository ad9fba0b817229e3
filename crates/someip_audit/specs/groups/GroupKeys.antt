-- The order of groups, and their code.
use Rattle.std.specs.Prelude.{ℕ, Option, refl}
use Rattle.std.specs.declared.cmp.Ordering.{Ordering}
use Rattle.std.specs.declared.net.socket_addr.SocketAddrV4.{SocketAddrV4}
use Rattle.std.specs.Option.{option_cmp}
use Rattle.std.specs.Ordering.{nat_cmp, ordering_then}
use Rattle.std.specs.Coded.{Coded, code_by, coded×, coded_ℕ, coded_option}
use Rattle.someip_tables.specs.Endpoints.{endpoint_cmp, coded_endpoint}
use Rattle.someip_audit.specs.declared.groups.group_key.GroupKey.{GroupKey}

-- by kind, service, method, and the two endpoints
abbrev pub group_cmp : GroupKey → GroupKey → Ordering
group_cmp a b =
    ordering_then (nat_cmp a.kind b.kind)
    (ordering_then (option_cmp nat_cmp a.service b.service)
    (ordering_then (option_cmp nat_cmp a.method b.method) (ordering_then (endpoint_cmp a.from b.from) (endpoint_cmp a.to b.to))))

-- a key is stored as its parts
abbrev pub coded_key : Coded GroupKey
coded_key =
    code_by (ℕ × (Option ℕ × (Option ℕ × (SocketAddrV4 × SocketAddrV4))))
    (coded× coded_ℕ (coded× (coded_option coded_ℕ) (coded× (coded_option coded_ℕ) (coded× coded_endpoint coded_endpoint))))
    (λ k. (k.kind, (k.service, (k.method, (k.from, k.to)))))
    (λ c. record { kind = c.0; service = c.1.0; method = c.1.1.0; from = c.1.1.1.0; to = c.1.1.1.1 }) (λ _. refl)
