-- The orders of the keys of exchanges are total, and only equal ones tie.
use Rattle.std.proofs.Common.{refl}
use Rattle.std.specs.declared.cmp.Ordering.{Ordering}
use Rattle.std.specs.Ordering.{nat_cmp, ordering_then}
use Rattle.std.specs.Cmp.{IsTotalOrder}
use Rattle.std.proofs.lemmas.Map.Lookups.{CmpEqualImpliesEq}
use Rattle.someip_tables.specs.Endpoints.{address_cmp, endpoint_cmp}
use Rattle.someip_tables.specs.Orders.{KeyOrder, numbers, by_pair, by_parts}
use Rattle.someip_tables.specs.EndpointOrder.{addresses, endpoints}
use Rattle.sd_core.specs.EventgroupOrder.{eventgroups}
use Rattle.sd_core.specs.Eventgroups.{eventgroup_cmp}
use Rattle.someip_rpc.specs.IdOrder.{messages}
use Rattle.someip_rpc.specs.Ids.{message_cmp}
use Rattle.someip_world_rules.specs.declared.exchanges.exchange_key.CallExchange.{CallExchange}
use Rattle.someip_world_rules.specs.declared.exchanges.exchange_key.EventExchange.{EventExchange}
use Rattle.someip_world_rules.specs.declared.exchanges.exchange_key.SubscriptionExchange.{SubscriptionExchange}

-- ---- calls

-- by client, server, Message ID, Client ID and session
abbrev pub call_cmp : CallExchange → CallExchange → Ordering
call_cmp a b =
    ordering_then (endpoint_cmp a.client b.client)
    (ordering_then (endpoint_cmp a.server b.server)
    (ordering_then (message_cmp a.message b.message)
    (ordering_then (nat_cmp a.client_id b.client_id) (nat_cmp a.session b.session))))

pub calls : KeyOrder call_cmp
calls =
    by_parts (by_pair endpoints (by_pair endpoints (by_pair messages (by_pair numbers numbers)))) (λ k. (k.client, (k.server, (k.message, (k.client_id, k.session)))))
    (λ p. record { client = p.0; server = p.1.0; message = p.1.1.0; client_id = p.1.1.1.0; session = p.1.1.1.1 }) (λ _. refl)

pub calls_total : IsTotalOrder call_cmp
calls_total = calls.total

pub exact_calls : CmpEqualImpliesEq call_cmp
exact_calls = calls.exact

-- ---- publications

-- by server, Message ID, Client ID and session
abbrev pub event_cmp : EventExchange → EventExchange → Ordering
event_cmp a b =
    ordering_then (endpoint_cmp a.server b.server)
    (ordering_then (message_cmp a.message b.message)
    (ordering_then (nat_cmp a.client_id b.client_id) (nat_cmp a.session b.session)))

pub events : KeyOrder event_cmp
events =
    by_parts (by_pair endpoints (by_pair messages (by_pair numbers numbers))) (λ k. (k.server, (k.message, (k.client_id, k.session))))
    (λ p. record { server = p.0; message = p.1.0; client_id = p.1.1.0; session = p.1.1.1 }) (λ _. refl)

pub events_total : IsTotalOrder event_cmp
events_total = events.total

pub exact_events : CmpEqualImpliesEq event_cmp
exact_events = events.exact

-- ---- subscriptions

-- by client, server, eventgroup and counter
abbrev pub subscription_cmp : SubscriptionExchange → SubscriptionExchange → Ordering
subscription_cmp a b =
    ordering_then (address_cmp a.client b.client)
    (ordering_then (address_cmp a.server b.server)
    (ordering_then (eventgroup_cmp a.eventgroup b.eventgroup) (nat_cmp a.counter b.counter)))

pub subscriptions : KeyOrder subscription_cmp
subscriptions =
    by_parts (by_pair addresses (by_pair addresses (by_pair eventgroups numbers))) (λ k. (k.client, (k.server, (k.eventgroup, k.counter))))
    (λ p. record { client = p.0; server = p.1.0; eventgroup = p.1.1.0; counter = p.1.1.1 }) (λ _. refl)

pub subscriptions_total : IsTotalOrder subscription_cmp
subscriptions_total = subscriptions.total

pub exact_subscriptions : CmpEqualImpliesEq subscription_cmp
exact_subscriptions = subscriptions.exact
