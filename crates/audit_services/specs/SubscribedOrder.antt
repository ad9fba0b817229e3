-- The orders of subscriptions and places are total, and only equal ones tie.
use Rattle.std.proofs.Common.{◌≡◌, refl, ap, Option, None, Some}
use Rattle.std.specs.Option.{option_cmp}
use Rattle.std.specs.declared.cmp.Ordering.{Ordering}
use Rattle.std.specs.declared.cmp.Ordering.TheVariants.{Equal}
use Rattle.std.specs.Cmp.Lexicographic.{options_total}
use Rattle.std.proofs.lemmas.Map.Lookups.{CmpEqualImpliesEq}
use Rattle.someip_tables.specs.Orders.{KeyOrder, numbers, by_pair, by_parts}
use Rattle.someip_tables.specs.EndpointOrder.{addresses, endpoints}
use Rattle.audit_services.specs.SubscribedKeys.{asked_cmp, no_terms_cmp, offer_place_cmp, place_cmp, subscribed_cmp}

-- where there may be none
by_option : {K : Type 0} {cmp : K → K → Ordering} → KeyOrder cmp → KeyOrder (option_cmp cmp)
by_option {K} {cmp} one = record { total = options_total one.total; exact = exact }
  where
    exact : (a b : Option K) → option_cmp cmp a b ≡ Equal → a ≡ b
    exact None None tie = refl
    exact None (Some b) tie = absurd (cc)
    exact (Some a) None tie = absurd (cc)
    exact (Some a) (Some b) tie = ap Some (one.exact a b tie)

pub subscribed : KeyOrder subscribed_cmp
subscribed =
    by_parts (by_pair numbers (by_pair numbers (by_pair numbers (by_pair addresses (by_pair numbers (by_pair addresses (by_pair numbers endpoints)))))))
    (λ k. (k.service, (k.instance, (k.major, (k.server, (k.eventgroup, (k.client, (k.counter, k.endpoint))))))))
    (λ p. record { service = p.0; instance = p.1.0; major = p.1.1.0; server = p.1.1.1.0; eventgroup = p.1.1.1.1.0; client = p.1.1.1.1.1.0; counter = p.1.1.1.1.1.1.0; endpoint = p.1.1.1.1.1.1.1 })
    (λ _. refl)

pub exact_subscribed : CmpEqualImpliesEq subscribed_cmp
exact_subscribed = subscribed.exact

pub exact_no_terms : CmpEqualImpliesEq no_terms_cmp
exact_no_terms a b tie = refl

pub asked : KeyOrder asked_cmp
asked =
    by_parts (by_pair numbers (by_pair addresses numbers)) (λ k. (k.eventgroup, (k.client, k.counter))) (λ p. record { eventgroup = p.0; client = p.1.0; counter = p.1.1 }) (λ _. refl)

pub exact_asked : CmpEqualImpliesEq asked_cmp
exact_asked = asked.exact

pub offer_places : KeyOrder offer_place_cmp
offer_places =
    by_parts (by_pair numbers (by_pair numbers (by_pair numbers (by_option asked)))) (λ k. (k.service, (k.instance, (k.major, k.asked))))
    (λ p. record { service = p.0; instance = p.1.0; major = p.1.1.0; asked = p.1.1.1 }) (λ _. refl)

pub exact_offer_places : CmpEqualImpliesEq offer_place_cmp
exact_offer_places = offer_places.exact

pub places : KeyOrder place_cmp
places = by_parts (by_pair addresses (by_option offer_places)) (λ k. (k.address, k.offer)) (λ p. record { address = p.0; offer = p.1 }) (λ _. refl)

pub exact_places : CmpEqualImpliesEq place_cmp
exact_places = places.exact
