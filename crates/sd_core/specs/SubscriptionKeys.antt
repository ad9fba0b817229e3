-- The order of subscriptions, and their code.
use Rattle.std.specs.Prelude.{ℕ, refl}
use Rattle.std.specs.declared.cmp.Ordering.{Ordering}
use Rattle.std.specs.Ordering.{nat_cmp, ordering_then}
use Rattle.std.specs.Coded.{Coded, code_by, coded×, coded_ℕ}
use Rattle.std.specs.declared.net.ipv4_addr.Ipv4Addr.{Ipv4Addr}
use Rattle.std.specs.declared.net.socket_addr.SocketAddrV4.{SocketAddrV4}
use Rattle.someip_tables.specs.Endpoints.{address_cmp, endpoint_cmp, coded_address, coded_endpoint}
use Rattle.sd_core.specs.declared.keys.InstanceId.{InstanceId}
use Rattle.sd_core.specs.declared.subscription.Subscription.{Subscription}
use Rattle.sd_core.specs.Keys.{instance_cmp, coded_instance}

-- by instance, eventgroup, peer, endpoint and counter
abbrev pub subscription_cmp : Subscription → Subscription → Ordering
subscription_cmp a b =
    ordering_then (instance_cmp a.instance b.instance)
    (ordering_then (nat_cmp a.eventgroup b.eventgroup)
    (ordering_then (address_cmp a.peer b.peer)
    (ordering_then (endpoint_cmp a.endpoint b.endpoint) (nat_cmp a.counter b.counter))))

-- a subscription is stored as its parts
abbrev pub coded_subscription : Coded Subscription
coded_subscription =
    code_by (InstanceId × (ℕ × (Ipv4Addr × (SocketAddrV4 × ℕ)))) (coded× coded_instance (coded× coded_ℕ (coded× coded_address (coded× coded_endpoint coded_ℕ))))
    (λ s. (s.instance, (s.eventgroup, (s.peer, (s.endpoint, s.counter))))) (λ p. record { instance = p.0; eventgroup = p.1.0; peer = p.1.1.0; endpoint = p.1.1.1.0; counter = p.1.1.1.1 }) (λ _. refl)
