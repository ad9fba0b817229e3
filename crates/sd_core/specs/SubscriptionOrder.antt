-- The order of subscriptions is total, and only equal ones tie.
use Rattle.std.proofs.Common.{refl}
use Rattle.std.specs.Cmp.{IsTotalOrder}
use Rattle.std.proofs.lemmas.Map.Lookups.{CmpEqualImpliesEq}
use Rattle.someip_tables.specs.Orders.{KeyOrder, numbers, by_pair, by_parts}
use Rattle.someip_tables.specs.EndpointOrder.{addresses, endpoints}
use Rattle.sd_core.specs.KeyOrder.{instances}
use Rattle.sd_core.specs.SubscriptionKeys.{subscription_cmp}

pub subscriptions : KeyOrder subscription_cmp
subscriptions =
    by_parts (by_pair instances (by_pair numbers (by_pair addresses (by_pair endpoints numbers)))) (λ s. (s.instance, (s.eventgroup, (s.peer, (s.endpoint, s.counter)))))
    (λ p. record { instance = p.0; eventgroup = p.1.0; peer = p.1.1.0; endpoint = p.1.1.1.0; counter = p.1.1.1.1 }) (λ _. refl)

pub subscriptions_total : IsTotalOrder subscription_cmp
subscriptions_total = subscriptions.total

pub exact_subscriptions : CmpEqualImpliesEq subscription_cmp
exact_subscriptions = subscriptions.exact
