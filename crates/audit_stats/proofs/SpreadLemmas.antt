-- What the buckets of a spread say of its values.
use Rattle.std.proofs.Common.{◌≡◌, ℕ, ◌+◌, ◌-◌, ◌^◌, ◌<◌, ◌≤◌, max, min, nat_le, nat_lt, Bool, true, false, cond, List, [], ◌∷◌, length, Option, None, Some, refl, ap, sym, ◌∙◌, arith}
use Rattle.std.specs.declared.cmp.Ordering.{Ordering}
use Rattle.std.specs.declared.cmp.Ordering.TheVariants.{Less, Equal, Greater}
use Rattle.std.specs.Ordering.{nat_cmp, is_eq, is_lt, eq_by_cmp}
use Rattle.std.specs.Cmp.{nat_cmp_total, ranked}
use Rattle.std.specs.FinMap as finite
use Rattle.std.specs.FinMap.{find, put}
use Rattle.std.specs.FinMap.Entries.{below_all, by_order, is_sorted}
use Rattle.std.proofs.lemmas.Bool.{and_parts, leb-true, le-leb, lt-ltb, ltb-true}
use Rattle.someip_tables.proofs.Entries.{true_from}
use Rattle.audit_stats.specs.Ranks.{IsNear, IsOfRank, how_many}
use Rattle.audit_stats.specs.Spreads.{bucket_at, low_end, number_of, quantile, raised, rank_of, spread_of}
use Rattle.audit_stats.proofs.BucketLemmas.{bucket_here, bucket_later, low_end_beyond, low_end_is_near, low_end_rises, not_below}

-- ---- buckets by rising low end

-- each low end is above a bound
abbrev AllAbove : ℕ → List (ℕ × ℕ) → Type 0
AllAbove bound [] = Unit {0}
AllAbove bound (e ∷ es) = (bound < e.0) × AllAbove bound es

abbrev Rises : List (ℕ × ℕ) → Type 0
Rises [] = Unit {0}
Rises (e ∷ es) = AllAbove e.0 es × Rises es

less_is : (a b : ℕ) → is_lt (nat_cmp a b) ≡ true → a < b
less_is a b = cases (nat_cmp a b) refl
  where
    cases : (r : Ordering) → nat_cmp a b ≡ r → is_lt r ≡ true → a < b
    cases Less is h = ranked a b Less (sym is)
    cases Equal is h = absurd (cc)
    cases Greater is h = absurd (cc)

above_from : (bound : ℕ) (es : List (ℕ × ℕ)) → below_all nat_cmp bound es ≡ true → AllAbove bound es
above_from bound [] is = tt
above_from bound (e ∷ es) is = let parts = and_parts _ _ is in (less_is bound e.0 parts.0, above_from bound es parts.1)

rises_from : (es : List (ℕ × ℕ)) → is_sorted nat_cmp es ≡ true → Rises es
rises_from [] is = tt
rises_from (e ∷ es) is = let parts = and_parts _ _ is in (above_from e.0 es parts.0, rises_from es parts.1)

above_less : (a b : ℕ) (es : List (ℕ × ℕ)) → a ≤ b → AllAbove b es → AllAbove a es
above_less a b [] le above = tt
above_less a b (e ∷ es) le above = (omega (arith, le, above.0), above_less a b es le above.1)

none_there : (low : ℕ) (es : List (ℕ × ℕ)) → AllAbove low es → find nat_cmp low es ≡ None
none_there low [] above = refl
none_there low (e ∷ es) above = cases (nat_cmp low e.0) refl (none_there low es above.1)
  where
    cases : (r : Ordering) → nat_cmp low e.0 ≡ r → find nat_cmp low es ≡ None → cond (is_eq r) (Some e.1) (find nat_cmp low es) ≡ None
    cases Less is rest = rest
    cases Equal is rest = let same : low ≡ e.0 = ranked low e.0 Equal (sym is) in absurd (omega (arith, same, above.0))
    cases Greater is rest = rest

-- ---- how many values lie in the buckets that pass a test

sum_where : (ℕ → Bool) → List (ℕ × ℕ) → ℕ
sum_where test [] = 0
sum_where test (e ∷ es) = cond (test e.0) (e.1 + sum_where test es) (sum_where test es)

-- one more in a bucket
sum_put : (test : ℕ → Bool) (low : ℕ) (es : List (ℕ × ℕ)) → Rises es → sum_where test (put nat_cmp low (number_of (find nat_cmp low es) + 1) es) ≡ sum_where test es + cond (test low) 1 0
unfolding sum_where
sum_put test low [] rises = cases (test low)
  where
    cases : (b : Bool) → cond b (0 + 1 + 0) 0 ≡ 0 + cond b 1 0
    cases true = refl
    cases false = refl
sum_put test low (e ∷ es) rises = cases (nat_cmp low e.0) refl (sum_put test low es rises.1)
  where
    first : (b : Bool) (s : ℕ) → cond b (0 + 1 + s) s ≡ s + cond b 1 0
    first true s = omega arith
    first false s = omega arith

    here : (b : Bool) (n s : ℕ) → cond b (n + 1 + s) s ≡ cond b (n + s) s + cond b 1 0
    here true n s = omega arith
    here false n s = omega arith

    later : (b : Bool) (n s t : ℕ) → cond b (n + (s + t)) (s + t) ≡ cond b (n + s) s + t
    later true n s t = omega arith
    later false n s t = omega arith

    cases : (r : Ordering) → nat_cmp low e.0 ≡ r → sum_where test (put nat_cmp low (number_of (find nat_cmp low es) + 1) es) ≡ sum_where test es + cond (test low) 1 0
        → sum_where test (by_order r ((low, number_of (cond (is_eq r) (Some e.1) (find nat_cmp low es)) + 1) ∷ e ∷ es) ((e.0, number_of (cond (is_eq r) (Some e.1) (find nat_cmp low es)) + 1) ∷ es) (e ∷ put nat_cmp low (number_of (cond (is_eq r) (Some e.1) (find nat_cmp low es)) + 1) es))
        ≡ sum_where test (e ∷ es) + cond (test low) 1 0
    cases Less is rest =
        let less : low < e.0 = ranked low e.0 Less (sym is) in
        let none : find nat_cmp low es ≡ None = none_there low es (above_less low e.0 es (omega (arith, less)) rises.0) in
        rw none (first (test low) (sum_where test (e ∷ es)))
    cases Equal is rest =
        let same : low ≡ e.0 = ranked low e.0 Equal (sym is) in
        rw same (here (test e.0) e.1 (sum_where test es))
    cases Greater is rest = ap (λ s. cond (test e.0) (e.1 + s) s) rest ∙ later (test e.0) e.1 (sum_where test es) (cond (test low) 1 0)

-- ---- the bucket of a rank

above_none : (low bound : ℕ) (es : List (ℕ × ℕ)) → bound ≤ low → AllAbove low es → (sum_where (λ l. nat_le l bound) es ≡ 0) × (sum_where (λ l. nat_lt l bound) es ≡ 0)
unfolding sum_where
above_none low bound [] le above = (refl, refl)
above_none low bound (e ∷ es) le above = let rest = above_none low bound es le above.1 in (upto (nat_le e.0 bound) refl rest.0, below (nat_lt e.0 bound) refl rest.1)
  where
    upto : (b : Bool) → nat_le e.0 bound ≡ b → sum_where (λ l. nat_le l bound) es ≡ 0 → cond b (e.1 + sum_where (λ l. nat_le l bound) es) (sum_where (λ l. nat_le l bound) es) ≡ 0
    upto true is rest = absurd (omega (arith, leb-true e.0 bound is, above.0, le))
    upto false is rest = rest

    below : (b : Bool) → nat_lt e.0 bound ≡ b → sum_where (λ l. nat_lt l bound) es ≡ 0 → cond b (e.1 + sum_where (λ l. nat_lt l bound) es) (sum_where (λ l. nat_lt l bound) es) ≡ 0
    below true is rest = absurd (omega (arith, ltb-true e.0 bound is, above.0, le))
    below false is rest = rest

-- what the first bucket adds, where it is below a bound, where it is there, and where it is above
sum_first : (test : ℕ → Bool) (e : ℕ × ℕ) (es : List (ℕ × ℕ)) → test e.0 ≡ true → sum_where test (e ∷ es) ≡ e.1 + sum_where test es
unfolding sum_where
sum_first test e es is = rw is refl

bucket_is : (low : ℕ) (es : List (ℕ × ℕ)) → Rises es → (rank : ℕ) → sum_where (λ l. nat_lt l low) es < rank → rank ≤ sum_where (λ l. nat_le l low) es → bucket_at rank es ≡ low
bucket_is low [] rises rank past within = let none : sum_where (λ l. nat_le l low) [] ≡ 0 = (above_none low low [] (omega arith) tt).0 in absurd (omega (arith, past, within, none))
bucket_is low (e ∷ es) rises rank past within = cases (nat_cmp e.0 low) refl (bucket_is low es rises.1)
  where
    cases : (r : Ordering) → nat_cmp e.0 low ≡ r → ((rank : ℕ) → sum_where (λ l. nat_lt l low) es < rank → rank ≤ sum_where (λ l. nat_le l low) es → bucket_at rank es ≡ low) → bucket_at rank (e ∷ es) ≡ low
    cases Less is rest =
        let less : e.0 < low = ranked e.0 low Less (sym is) in
        let below : sum_where (λ l. nat_lt l low) (e ∷ es) ≡ e.1 + sum_where (λ l. nat_lt l low) es = sum_first (λ l. nat_lt l low) e es (lt-ltb e.0 low less) in
        let upto : sum_where (λ l. nat_le l low) (e ∷ es) ≡ e.1 + sum_where (λ l. nat_le l low) es = sum_first (λ l. nat_le l low) e es (le-leb e.0 low (omega (arith, less))) in
        bucket_later rank e.0 e.1 es (omega (arith, past, below)) ∙ rest (rank - e.1) (omega (arith, past, below)) (omega (arith, within, upto))
    cases Equal is rest =
        let same : e.0 ≡ low = ranked e.0 low Equal (sym is) in
        let upto : sum_where (λ l. nat_le l low) (e ∷ es) ≡ e.1 + sum_where (λ l. nat_le l low) es = sum_first (λ l. nat_le l low) e es (le-leb e.0 low (omega (arith, same))) in
        let none : sum_where (λ l. nat_le l low) es ≡ 0 = (above_none e.0 low es (omega (arith, same)) rises.0).0 in
        bucket_here rank e.0 e.1 es (omega (arith, within, upto, none)) ∙ same
    cases Greater is rest =
        let greater : low < e.0 = ranked e.0 low Greater (sym is) in
        let none : sum_where (λ l. nat_le l low) (e ∷ es) ≡ 0 = (above_none low low (e ∷ es) (omega arith) (greater, above_less low e.0 es (omega (arith, greater)) rises.0)).0 in
        absurd (omega (arith, past, within, none))

-- ---- of the values of a list

pub count_is : (values : List ℕ) → length values < 2 ^ 64 → (spread_of values).count ≡ length values
count_is [] few = refl
count_is (value ∷ values) few = let rest : (spread_of values).count ≡ length values = count_is values (omega (arith, few)) in omega (arith, rest, few)

number_few : (low : ℕ) (values : List ℕ) → number_of (finite.get (spread_of values).buckets low) ≤ length values
number_few low [] = let none : number_of (finite.get (finite.empty {X = ℕ} {R = nat_cmp}) low) ≡ 0 = ap number_of (finite.get-empty nat_cmp low) in omega (arith, none)
number_few low (value ∷ values) =
    let at : number_of (finite.get (spread_of (value ∷ values)).buckets low) ≡ number_of (cond (eq_by_cmp nat_cmp low (low_end value)) (Some (raised (number_of (finite.get (spread_of values).buckets (low_end value))) 1)) (finite.get (spread_of values).buckets low)) =
    ap number_of (finite.get-insert nat_cmp_total (spread_of values).buckets (low_end value) (raised (number_of (finite.get (spread_of values).buckets (low_end value))) 1) low) in
    let few : number_of (cond (eq_by_cmp nat_cmp low (low_end value)) (Some (raised (number_of (finite.get (spread_of values).buckets (low_end value))) 1)) (finite.get (spread_of values).buckets low)) ≤ length values + 1 =
    cases (eq_by_cmp nat_cmp low (low_end value)) (number_of (finite.get (spread_of values).buckets (low_end value))) (finite.get (spread_of values).buckets low) (number_few (low_end value) values) (number_few low values) in
    omega (arith, at, few)
  where
    cases : (t : Bool) (n : ℕ) (o : Option ℕ) → n ≤ length values → number_of o ≤ length values → number_of (cond t (Some (raised n 1)) o) ≤ length values + 1
    cases true n o few other = omega (arith, few)
    cases false n o few other = omega (arith, other)

no_sum : (test : ℕ → Bool) (es : List (ℕ × ℕ)) → length es ≡ 0 → sum_where test es ≡ 0
unfolding sum_where
no_sum test [] is = refl
no_sum test (e ∷ es) is = absurd (omega (arith, is))

-- the buckets with one more value
put_is : (value : ℕ) (values : List ℕ) → length (value ∷ values) < 2 ^ 64
    → finite.entries (spread_of (value ∷ values)).buckets ≡ put nat_cmp (low_end value) (number_of (find nat_cmp (low_end value) (finite.entries (spread_of values).buckets)) + 1) (finite.entries (spread_of values).buckets)
put_is value values few =
    let number : number_of (finite.get (spread_of values).buckets (low_end value)) ≤ length values = number_few (low_end value) values in
    let room : raised (number_of (finite.get (spread_of values).buckets (low_end value))) 1 ≡ number_of (finite.get (spread_of values).buckets (low_end value)) + 1 = omega (arith, number, few) in
    finite.entries-insert nat_cmp_total (spread_of values).buckets (low_end value) (raised (number_of (finite.get (spread_of values).buckets (low_end value))) 1)
    ∙ ap (λ n. put nat_cmp (low_end value) n (finite.entries (spread_of values).buckets)) (room ∙ ap (λ o. number_of o + 1) (finite.get-entries (spread_of values).buckets (low_end value)))

-- the buckets that pass a test have so many of the values
sums : (test : ℕ → Bool) (values : List ℕ) → length values < 2 ^ 64 → sum_where test (finite.entries (spread_of values).buckets) ≡ how_many (λ value. test (low_end value)) values
sums test [] few = no_sum test (finite.entries (finite.empty {X = ℕ} {R = nat_cmp})) (sym (finite.len-entries (finite.empty {X = ℕ} {R = nat_cmp})) ∙ finite.len-empty nat_cmp ℕ)
sums test (value ∷ values) few =
    ap (sum_where test) (put_is value values few)
    ∙ sum_put test (low_end value) (finite.entries (spread_of values).buckets) (rises_from _ (true_from (finite.entries_sorted (spread_of values).buckets)))
    ∙ ap (λ s. s + cond (test (low_end value)) 1 0) (sums test values (omega (arith, few))) ∙ more (test (low_end value)) (how_many (λ other. test (low_end other)) values)
  where
    more : (t : Bool) (n : ℕ) → n + cond t 1 0 ≡ cond t (n + 1) n
    more true n = refl
    more false n = omega arith

-- ---- tests of values

pub more_pass : (test other : ℕ → Bool) (values : List ℕ) → ((value : ℕ) → test value ≡ true → other value ≡ true) → how_many test values ≤ how_many other values
more_pass test other [] weaker = omega arith
more_pass test other (value ∷ values) weaker = cases (test value) (other value) refl refl (more_pass test other values weaker)
  where
    cases : (s t : Bool) → test value ≡ s → other value ≡ t → how_many test values ≤ how_many other values → cond s (how_many test values + 1) (how_many test values) ≤ cond t (how_many other values + 1) (how_many other values)
    cases true true one two rest = omega (arith, rest)
    cases true false one two rest = let passes : other value ≡ true = weaker value one in absurd (cc)
    cases false true one two rest = omega (arith, rest)
    cases false false one two rest = rest

least_within : (value : ℕ) (values : List ℕ) → 0 < how_many (λ other. nat_le other value) values → (spread_of values).least ≤ value
least_within value [] some = absurd (omega (arith, some))
least_within value (one ∷ values) some = cases (nat_le one value) refl (least_within value values) some
  where
    cases : (t : Bool) → nat_le one value ≡ t → (0 < how_many (λ other. nat_le other value) values → (spread_of values).least ≤ value)
        → 0 < cond t (how_many (λ other. nat_le other value) values + 1) (how_many (λ other. nat_le other value) values) → min (spread_of values).least one ≤ value
    cases true is rest some = let le : one ≤ value = leb-true one value is in omega (arith, le)
    cases false is rest some = let le : (spread_of values).least ≤ value = rest some in omega (arith, le)

-- a value of a rank is one of the values
-- ---- what is told

near_told : (least low value : ℕ) → IsNear low value → least ≤ value → IsNear (max least low) value
near_told least low value near le = (omega (arith, near.0, le), omega (arith, near.0, near.1))

-- what is told of a rank: the low end of the bucket of its value, or the least value where that is greater
told_is : (percent : ℕ) (values : List ℕ) (value : ℕ) → length values < 2 ^ 64 → IsOfRank (rank_of percent (length values)) value values
    → quantile percent (spread_of values) ≡ max (spread_of values).least (low_end value)
told_is percent values value few rank =
    let count : (spread_of values).count ≡ length values = count_is values few in
    let less : how_many (λ other. nat_lt (low_end other) (low_end value)) values ≤ how_many (λ other. nat_lt other value) values = more_pass _ _ values lower in
    let most : how_many (λ other. nat_le other value) values ≤ how_many (λ other. nat_le (low_end other) (low_end value)) values = more_pass _ _ values upper in
    let past : sum_where (λ l. nat_lt l (low_end value)) (finite.entries (spread_of values).buckets) < rank_of percent (length values) = rw (sums (λ l. nat_lt l (low_end value)) values few) (omega (arith, less, rank.0)) in
    let within : rank_of percent (length values) ≤ sum_where (λ l. nat_le l (low_end value)) (finite.entries (spread_of values).buckets) = rw (sums (λ l. nat_le l (low_end value)) values few) (omega (arith, most, rank.1)) in
    let bucket : bucket_at (rank_of percent (length values)) (finite.entries (spread_of values).buckets) ≡ low_end value =
    bucket_is (low_end value) (finite.entries (spread_of values).buckets) (rises_from _ (true_from (finite.entries_sorted (spread_of values).buckets))) (rank_of percent (length values)) past within in
    rw (count, bucket) refl
  where
    lower : (other : ℕ) → nat_lt (low_end other) (low_end value) ≡ true → nat_lt other value ≡ true
    lower other is = cases (nat_lt other value) refl
      where
        cases : (t : Bool) → nat_lt other value ≡ t → t ≡ true
        cases true le = refl
        cases false le =
            let rises : low_end value ≤ low_end other = low_end_rises value other (not_below other value le) in
            let lower : low_end other < low_end value = ltb-true _ _ is in
            absurd (omega (arith, rises, lower))

    upper : (other : ℕ) → nat_le other value ≡ true → nat_le (low_end other) (low_end value) ≡ true
    upper other is = le-leb _ _ (low_end_rises other value (leb-true other value is))

pub told_near : (percent : ℕ) (values : List ℕ) (value : ℕ) → length values < 2 ^ 64 → IsOfRank (rank_of percent (length values)) value values → value < 2 ^ 32
    → IsNear (quantile percent (spread_of values)) value
told_near percent values value few rank small =
    rw (told_is percent values value few rank)
    (near_told (spread_of values).least (low_end value) value (low_end_is_near value small) (least_within value values (omega (arith, rank.0, rank.1))))

pub told_beyond : (percent : ℕ) (values : List ℕ) (value : ℕ) → length values < 2 ^ 64 → IsOfRank (rank_of percent (length values)) value values → 2 ^ 32 ≤ value
    → quantile percent (spread_of values) ≡ max (spread_of values).least 4227858432
told_beyond percent values value few rank great = told_is percent values value few rank ∙ ap (λ low. max (spread_of values).least low) (low_end_beyond value great)
