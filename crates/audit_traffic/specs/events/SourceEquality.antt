-- Two sources are the same exactly where their parts are.
use Rattle.std.proofs.Common.{◌≡◌, ℕ, true, List, refl, ap, sym, ◌∙◌}
use Rattle.std.specs.Bool.{Decides}
use Rattle.std.specs.Cmp.{IsEquivalence, decided}
use Rattle.std.proofs.lemmas.Bool.{and_parts, and_from, eqb-true, eq-eqb}
use Rattle.someip_tables.specs.EndpointOrder.{endpoints_total, exact_endpoints}
use Rattle.someip_tables.proofs.Entries.{own_test, same_by_test}
use Rattle.audit_traffic.specs.declared.events.source.EventSource.{EventSource}
use Rattle.audit_traffic.specs.events.FlowGroups.{is_same_source}

pub source_itself : (a : EventSource) → is_same_source a a ≡ true
source_itself a = and_from _ _ (own_test endpoints_total a.sender) (and_from _ _ (eq-eqb a.service a.service refl) (eq-eqb a.event a.event refl))

pub one_source : (a b : EventSource) → is_same_source a b ≡ true → a ≡ b
one_source a b same =
    let parts = and_parts _ _ same in
    let numbers = and_parts _ _ parts.1 in
    let sender : a.sender ≡ b.sender = same_by_test exact_endpoints a.sender b.sender parts.0 in
    let service : a.service ≡ b.service = eqb-true a.service b.service numbers.0 in
    let event : a.event ≡ b.event = eqb-true a.event b.event numbers.1 in
    λ i. record { sender = sender i; service = service i; event = event i }

decides : (a b : EventSource) → Decides (is_same_source a b) (a ≡ b)
decides a b = (one_source a b, λ is. ap (is_same_source a) (sym is) ∙ source_itself a)

pub sources_equal : IsEquivalence is_same_source
sources_equal = decided is_same_source decides

pub hashed_alike : (f : EventSource → List (List ℕ)) (a b : EventSource) → is_same_source a b ≡ true → f a ≡ f b
hashed_alike f a b same = ap f (one_source a b same)
