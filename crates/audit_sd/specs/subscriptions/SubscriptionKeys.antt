-- The order of subscriptions, and their code.
use Rattle.std.specs.Prelude.{ℕ, refl}
use Rattle.std.specs.declared.cmp.Ordering.{Ordering}
use Rattle.std.specs.Ordering.{nat_cmp, ordering_then}
use Rattle.std.specs.Coded.{Coded, code_by, coded×, coded_ℕ}
use Rattle.std.specs.declared.net.ipv4_addr.Ipv4Addr.{Ipv4Addr}
use Rattle.someip_tables.specs.Endpoints.{address_cmp, coded_address}
use Rattle.audit_sd.specs.declared.subscriptions.key.SubscriptionKey.{SubscriptionKey}

-- by client, server, service, instance, major version, eventgroup and counter
abbrev pub subscription_cmp : SubscriptionKey → SubscriptionKey → Ordering
subscription_cmp a b =
    ordering_then (address_cmp a.client b.client)
    (ordering_then (address_cmp a.server b.server)
    (ordering_then (nat_cmp a.service b.service)
    (ordering_then (nat_cmp a.instance b.instance)
    (ordering_then (nat_cmp a.major b.major)
    (ordering_then (nat_cmp a.eventgroup b.eventgroup) (nat_cmp a.counter b.counter))))))

-- a key is stored as its parts
abbrev pub coded_key : Coded SubscriptionKey
coded_key =
    code_by (Ipv4Addr × (Ipv4Addr × (ℕ × (ℕ × (ℕ × (ℕ × ℕ))))))
    (coded× coded_address (coded× coded_address (coded× coded_ℕ (coded× coded_ℕ (coded× coded_ℕ (coded× coded_ℕ coded_ℕ))))))
    (λ k. (k.client, (k.server, (k.service, (k.instance, (k.major, (k.eventgroup, k.counter)))))))
    (λ c. record { client = c.0; server = c.1.0; service = c.1.1.0; instance = c.1.1.1.0; major = c.1.1.1.1.0; eventgroup = c.1.1.1.1.1.0; counter = c.1.1.1.1.1.1 }) (λ _. refl)
