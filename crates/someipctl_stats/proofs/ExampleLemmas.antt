-- What the figures of the examples hold.
use Rattle.std.proofs.Common.{◌≡◌, max, [], ◌∷◌, Some, sym, ap, ◌∙◌}
use Rattle.std.specs.Cmp.{IsTotalOrder, nat_cmp_total}
use Rattle.std.specs.declared.cmp.Ordering.{Ordering}
use Rattle.std.specs.FinMap as finite
use Rattle.std.specs.Ordering.{nat_cmp}
use Rattle.std.proofs.lemmas.List.{nil_from_length}
use Rattle.audit_stats.specs.Spreads.{bucket_at, low_within, number_of, raised, summary_of}
use Rattle.someipctl_stats.specs.Examples.{times}

-- an empty map has no entries, and with one key more it has one
pub none_in : {K X : Type 0} (R : K → K → Ordering) → finite.entries (finite.empty {X = X} {R = R}) ≡ []
none_in {X = X} R = nil_from_length (finite.entries (finite.empty {X = X} {R = R})) (sym (finite.len-entries (finite.empty {X = X} {R = R})) ∙ finite.len-empty R X)

pub one_in : {K X : Type 0} (R : K → K → Ordering) → IsTotalOrder R → (k : K) (v : X) → finite.entries (finite.insert (finite.empty {X = X} {R = R}) k v) ≡ (k, v) ∷ []
one_in R total k v = finite.entries-insert total finite.empty k v ∙ ap (finite.put R k v) (none_in R)

-- the buckets of the times, and what is told of these
first : finite.entries (finite.insert (finite.empty {R = nat_cmp}) 19968 (raised (number_of (finite.get (finite.empty {R = nat_cmp}) 19968)) 1)) ≡ (19968, 1) ∷ []
first = one_in nat_cmp nat_cmp_total 19968 _ ∙ ap (λ o. (19968, raised (number_of o) 1) ∷ []) (finite.get-empty nat_cmp 19968)

buckets : finite.entries times.buckets ≡ (1216, 1) ∷ (19968, 1) ∷ []
unfolding low_within
buckets =
    let before = finite.insert (finite.empty {R = nat_cmp}) 19968 (raised (number_of (finite.get (finite.empty {R = nat_cmp}) 19968)) 1) in
    finite.entries-insert nat_cmp_total before 1216 _ ∙ ap (λ es. finite.put nat_cmp 1216 (raised (number_of (finite.get before 1216)) 1) es) first
    ∙ ap (λ o. (1216, raised (number_of o) 1) ∷ (19968, 1) ∷ []) (finite.get-entries before 1216 ∙ ap (finite.find nat_cmp 1216) first)

pub summary : summary_of times ≡ Some (record { least = 1234; p50 = 1234; p99 = 19968; greatest = 20000 })
summary = ap (λ es. Some (record { least = 1234; p50 = max 1234 (bucket_at 1 es); p99 = max 1234 (bucket_at 2 es); greatest = 20000 })) buckets
