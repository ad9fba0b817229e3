-- The order of offers, and their code.
use Rattle.std.specs.Prelude.{ℕ, refl}
use Rattle.std.specs.declared.cmp.Ordering.{Ordering}
use Rattle.std.specs.Ordering.{nat_cmp, ordering_then}
use Rattle.std.specs.Coded.{Coded, code_by, coded×, coded_ℕ}
use Rattle.audit_sd.specs.declared.offers.key.OfferKey.{OfferKey}

-- by service, instance and major version
abbrev pub offer_cmp : OfferKey → OfferKey → Ordering
offer_cmp a b = ordering_then (nat_cmp a.service b.service) (ordering_then (nat_cmp a.instance b.instance) (nat_cmp a.major b.major))

-- a key is stored as its three numbers
abbrev pub coded_key : Coded OfferKey
coded_key =
    code_by (ℕ × (ℕ × ℕ)) (coded× coded_ℕ (coded× coded_ℕ coded_ℕ)) (λ k. (k.service, (k.instance, k.major)))
    (λ c. record { service = c.0; instance = c.1.0; major = c.1.1 }) (λ _. refl)
