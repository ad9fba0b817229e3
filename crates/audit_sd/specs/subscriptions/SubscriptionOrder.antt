-- The order of subscriptions is total, and only equal ones tie.
use Rattle.std.proofs.Common.{refl}
use Rattle.std.specs.Cmp.{IsTotalOrder}
use Rattle.std.proofs.lemmas.Map.Lookups.{CmpEqualImpliesEq}
use Rattle.someip_tables.specs.Orders.{KeyOrder, numbers, by_pair, by_parts}
use Rattle.someip_tables.specs.EndpointOrder.{addresses}
use Rattle.audit_sd.specs.subscriptions.SubscriptionKeys.{subscription_cmp}

pub subscriptions : KeyOrder subscription_cmp
subscriptions =
    by_parts (by_pair addresses (by_pair addresses (by_pair numbers (by_pair numbers (by_pair numbers (by_pair numbers numbers))))))
    (λ k. (k.client, (k.server, (k.service, (k.instance, (k.major, (k.eventgroup, k.counter)))))))
    (λ p. record { client = p.0; server = p.1.0; service = p.1.1.0; instance = p.1.1.1.0; major = p.1.1.1.1.0; eventgroup = p.1.1.1.1.1.0; counter = p.1.1.1.1.1.1 })
    (λ _. refl)

pub subscriptions_total : IsTotalOrder subscription_cmp
subscriptions_total = subscriptions.total

pub exact_subscriptions : CmpEqualImpliesEq subscription_cmp
exact_subscriptions = subscriptions.exact
