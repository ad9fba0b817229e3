-- The orders of offers and their terms are total, and only equal ones tie.
use Rattle.std.proofs.Common.{refl}
use Rattle.std.proofs.lemmas.Map.Lookups.{CmpEqualImpliesEq}
use Rattle.someip_tables.specs.Orders.{KeyOrder, numbers, by_pair, by_parts}
use Rattle.someip_tables.specs.EndpointOrder.{addresses, endpoints}
use Rattle.audit_services.specs.OfferedKeys.{offered_cmp, terms_cmp}

pub offered : KeyOrder offered_cmp
offered =
    by_parts (by_pair numbers (by_pair numbers (by_pair numbers addresses))) (λ k. (k.service, (k.instance, (k.major, k.sender))))
    (λ p. record { service = p.0; instance = p.1.0; major = p.1.1.0; sender = p.1.1.1 }) (λ _. refl)

pub exact_offered : CmpEqualImpliesEq offered_cmp
exact_offered = offered.exact

pub terms : KeyOrder terms_cmp
terms = by_parts (by_pair numbers endpoints) (λ k. (k.minor, k.endpoint)) (λ p. record { minor = p.0; endpoint = p.1 }) (λ _. refl)

pub exact_terms : CmpEqualImpliesEq terms_cmp
exact_terms = terms.exact
