-- The order of offers is total, and only equal ones tie.
use Rattle.std.proofs.Common.{refl}
use Rattle.std.specs.Cmp.{IsTotalOrder}
use Rattle.std.proofs.lemmas.Map.Lookups.{CmpEqualImpliesEq}
use Rattle.someip_tables.specs.Orders.{KeyOrder, numbers, by_pair, by_parts}
use Rattle.audit_sd.specs.offers.OfferKeys.{offer_cmp}

pub offers : KeyOrder offer_cmp
offers =
    by_parts (by_pair numbers (by_pair numbers numbers)) (λ k. (k.service, (k.instance, k.major)))
    (λ p. record { service = p.0; instance = p.1.0; major = p.1.1 }) (λ _. refl)

pub offers_total : IsTotalOrder offer_cmp
offers_total = offers.total

pub exact_offers : CmpEqualImpliesEq offer_cmp
exact_offers = offers.exact
