use Rattle.std.proofs.Common.{◌≡◌, Bool, true, false, [], ◌∷◌, refl, sym, subst}
use Rattle.std.specs.Prelude.{◌||◌}
use Rattle.std.specs.List.Sorted.{IsStrictlySortedBy}
use Rattle.std.specs.Ordering.{eq_by_cmp}
use Rattle.std.specs.declared.cmp.Ordering.TheVariants.{Less, Greater}
use Rattle.someip_tables.specs.Endpoints.{endpoint_cmp}
use Rattle.someip_tables.specs.EndpointOrder.{endpoints_total, exact_endpoints}
use Rattle.someip_tables.specs.Examples.{endpoint_at}
use Rattle.someip_tables.proofs.Sorted.{sorted_set-only, sorted_set-rises}
use Rattle.someip_tables.proofs.laws.endpoints_rise.Goals as goal

among : (a b : Bool) → (b || (a || false)) ≡ (a || (b || (a || false)))
among true true = refl
among true false = refl
among false true = refl
among false false = refl

rises : IsStrictlySortedBy endpoint_cmp (endpoint_at 39999 ∷ endpoint_at 40001 ∷ [])
unfolding IsStrictlySortedBy
rises = ((refl, tt), (tt, tt))

falls : IsStrictlySortedBy endpoint_cmp (endpoint_at 40001 ∷ endpoint_at 39999 ∷ []) → endpoint_cmp (endpoint_at 40001) (endpoint_at 39999) ≡ Less
unfolding IsStrictlySortedBy
falls h = h.0.0

greater : endpoint_cmp (endpoint_at 40001) (endpoint_at 39999) ≡ Greater
greater = refl

pub returns-clause-sorted : goal.returns-clause-sorted
returns-clause-sorted c =
    sym (sorted_set-only endpoints_total exact_endpoints (endpoint_at 40001 ∷ endpoint_at 39999 ∷ endpoint_at 40001 ∷ []) (endpoint_at 39999 ∷ endpoint_at 40001 ∷ []) rises (λ q. among (eq_by_cmp endpoint_cmp q (endpoint_at 40001)) (eq_by_cmp endpoint_cmp q (endpoint_at 39999))))

pub returns-clause-no_other : goal.returns-clause-no_other
returns-clause-no_other c = λ is.
    let less = falls (subst (IsStrictlySortedBy endpoint_cmp) is (sorted_set-rises endpoints_total exact_endpoints (endpoint_at 40001 ∷ endpoint_at 39999 ∷ []))) in
    let more = greater in
    absurd (cc)
