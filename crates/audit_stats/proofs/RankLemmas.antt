-- Ranks, and the least and greatest values.
use Rattle.std.proofs.Common.{◌≡◌, ℕ, zero, suc, ◌+◌, ◌-◌, ◌^◌, ◌<◌, ◌≤◌, max, min, nat_le, nat_lt, Bool, true, false, cond, List, [], ◌∷◌, length, Some, slice_get, refl, subst, sym, ◌∙◌, arith}
use Rattle.std.proofs.lemmas.Bool.{leb-true, le-leb, lt-ltb, ltb-true}
use Rattle.audit_stats.specs.Ranks.{AreBelow, IsOfRank, Rises, how_many}
use Rattle.audit_stats.specs.Spreads.{spread_of}
use Rattle.audit_stats.proofs.BucketLemmas.{not_below}
use Rattle.audit_stats.proofs.SpreadLemmas.{more_pass}

not_above : (a b : ℕ) → nat_le a b ≡ false → b < a
not_above a b is = grind (arith, le-leb a b)

-- a step of a count
none_more : (test : ℕ → Bool) (value : ℕ) (values : List ℕ) → test value ≡ false → how_many test (value ∷ values) ≡ how_many test values
none_more test value values is = rw is refl

one_more : (test : ℕ → Bool) (value : ℕ) (values : List ℕ) → test value ≡ true → how_many test (value ∷ values) ≡ how_many test values + 1
one_more test value values is = rw is refl

few : (test : ℕ → Bool) (values : List ℕ) → how_many test values ≤ length values
few test [] = omega arith
few test (value ∷ values) = cases (test value) (few test values)
  where
    cases : (t : Bool) → how_many test values ≤ length values → cond t (how_many test values + 1) (how_many test values) ≤ length (value ∷ values)
    cases true le = omega (arith, le)
    cases false le = omega (arith, le)

ltb-false : (a b : ℕ) → b ≤ a → nat_lt a b ≡ false
ltb-false a b le = cases (nat_lt a b) refl
  where
    cases : (t : Bool) → nat_lt a b ≡ t → t ≡ false
    cases true is = absurd (omega (arith, ltb-true a b is, le))
    cases false is = refl

-- ---- one rank has one value

not_less : (rank : ℕ) (a b : ℕ) (values : List ℕ) → IsOfRank rank a values → IsOfRank rank b values → b ≤ a
not_less rank a b values one other = cases (nat_lt a b) refl
  where
    cases : (t : Bool) → nat_lt a b ≡ t → b ≤ a
    cases true is =
        let less : a < b = ltb-true a b is in
        let upto : how_many (λ v. nat_le v a) values ≤ how_many (λ v. nat_lt v b) values = more_pass _ _ values (λ v le. lt-ltb v b (let within : v ≤ a = leb-true v a le in omega (arith, within, less))) in
        absurd (omega (arith, upto, one.1, other.0))
    cases false is = not_below a b is

pub one_value : (rank a b : ℕ) (values : List ℕ) → IsOfRank rank a values → IsOfRank rank b values → a ≡ b
one_value rank a b values one other = omega (arith, not_less rank a b values one other, not_less rank b a values other one)

-- ---- each rank has a value

next_below : (value : ℕ) (values : List ℕ) → how_many (λ v. nat_lt v (value + 1)) values ≤ how_many (λ v. nat_le v value) values
next_below value values = more_pass _ _ values (λ v is. let less : v < value + 1 = ltb-true v (value + 1) is in le-leb v value (omega (arith, less)))

none_below_zero : (values : List ℕ) → how_many (λ v. nat_lt v 0) values ≡ 0
none_below_zero [] = refl
none_below_zero (value ∷ values) = none_more (λ v. nat_lt v 0) value values (ltb-false value 0 (omega arith)) ∙ none_below_zero values

-- the first value from one on that at least so many are at most
first_from : (steps from rank : ℕ) (values : List ℕ) → how_many (λ v. nat_lt v from) values < rank → rank ≤ how_many (λ v. nat_le v (from + steps)) values → (value : ℕ) × IsOfRank rank value values
first_from zero from rank values below upto = let same : from + zero ≡ from = omega arith in (from, (below, subst (λ n. rank ≤ how_many (λ v. nat_le v n) values) same upto))
first_from (suc steps) from rank values below upto = cases (nat_le rank (how_many (λ v. nat_le v from) values)) refl (first_from steps (from + 1) rank values)
  where
    cases : (t : Bool) → nat_le rank (how_many (λ v. nat_le v from) values) ≡ t
        → (how_many (λ v. nat_lt v (from + 1)) values < rank → rank ≤ how_many (λ v. nat_le v (from + 1 + steps)) values → (value : ℕ) × IsOfRank rank value values) → (value : ℕ) × IsOfRank rank value values
    cases true is later = (from, (below, leb-true rank _ is))
    cases false is later =
        let few : how_many (λ v. nat_le v from) values < rank = not_above rank _ is in
        let next : how_many (λ v. nat_lt v (from + 1)) values ≤ how_many (λ v. nat_le v from) values = next_below from values in
        let same : from + suc steps ≡ from + 1 + steps = omega arith in
        later (omega (arith, few, next)) (subst (λ n. rank ≤ how_many (λ v. nat_le v n) values) same upto)

all_upto : (bound : ℕ) (values : List ℕ) → AreBelow bound values → length values ≤ how_many (λ v. nat_le v bound) values
all_upto bound [] below = omega arith
all_upto bound (value ∷ values) below =
    let rest : length values ≤ how_many (λ v. nat_le v bound) values = all_upto bound values below.1 in
    let one : how_many (λ v. nat_le v bound) (value ∷ values) ≡ how_many (λ v. nat_le v bound) values + 1 = one_more (λ v. nat_le v bound) value values (le-leb value bound (let less : value < bound = below.0 in omega (arith, less))) in
    omega (arith, rest, one)

pub some_value : (bound rank : ℕ) (values : List ℕ) → AreBelow bound values → 0 < rank → rank ≤ length values → (value : ℕ) × IsOfRank rank value values
some_value bound rank values below from upto =
    let none : how_many (λ v. nat_lt v 0) values ≡ 0 = none_below_zero values in
    let all : length values ≤ how_many (λ v. nat_le v bound) values = all_upto bound values below in
    let same : 0 + bound ≡ bound = omega arith in
    first_from bound 0 rank values (omega (arith, none, from)) (subst (λ n. rank ≤ how_many (λ v. nat_le v n) values) (sym same) (omega (arith, upto, all)))

-- ---- in a list that rises

rises_at : (bound : ℕ) (values : List ℕ) (place value : ℕ) → Rises bound values → slice_get values place ≡ Some value → bound ≤ value
rises_at bound [] place value rises is = absurd (cc)
rises_at bound (first ∷ values) zero value rises is = let same : first ≡ value = cc in omega (arith, same, rises.0)
rises_at bound (first ∷ values) (suc place) value rises is = let later : first ≤ value = rises_at first values place value rises.1 is in omega (arith, later, rises.0)

none_less : (bound : ℕ) (values : List ℕ) → Rises bound values → how_many (λ v. nat_lt v bound) values ≡ 0
none_less bound [] rises = refl
none_less bound (first ∷ values) rises =
    none_more (λ v. nat_lt v bound) first values (ltb-false first bound rises.0) ∙ none_less bound values (from bound first values rises.0 rises.1)
  where
    from : (low high : ℕ) (values : List ℕ) → low ≤ high → Rises high values → Rises low values
    from low high [] le rises = tt
    from low high (v ∷ values) le rises = (omega (arith, le, rises.0), rises.1)

pub rank_at : (bound : ℕ) (values : List ℕ) (place value : ℕ) → Rises bound values → slice_get values place ≡ Some value → IsOfRank (place + 1) value values
rank_at bound [] place value rises is = absurd (cc)
rank_at bound (first ∷ values) zero value rises is =
    let same : first ≡ value = cc in
    let below : how_many (λ v. nat_lt v first) (first ∷ values) ≡ 0 = none_more (λ v. nat_lt v first) first values (ltb-false first first (omega arith)) ∙ none_less first values rises.1 in
    let upto : how_many (λ v. nat_le v first) (first ∷ values) ≡ how_many (λ v. nat_le v first) values + 1 = one_more (λ v. nat_le v first) first values (le-leb first first (omega arith)) in
    subst (λ v. IsOfRank (0 + 1) v (first ∷ values)) same (omega (arith, below), omega (arith, upto))
rank_at bound (first ∷ values) (suc place) value rises is =
    let rest = rank_at first values place value rises.1 is in
    let from : first ≤ value = rises_at first values place value rises.1 is in
    let upto : how_many (λ v. nat_le v value) (first ∷ values) ≡ how_many (λ v. nat_le v value) values + 1 = one_more (λ v. nat_le v value) first values (le-leb first value from) in
    (cases (nat_lt first value) rest.0, omega (arith, upto, rest.1))
  where
    cases : (t : Bool) → how_many (λ v. nat_lt v value) values < place + 1 → cond t (how_many (λ v. nat_lt v value) values + 1) (how_many (λ v. nat_lt v value) values) < suc place + 1
    cases true less = omega (arith, less)
    cases false less = omega (arith, less)

-- ---- the least and the greatest

none_under : (bound : ℕ) (values : List ℕ) → bound ≤ (spread_of values).least → how_many (λ v. nat_lt v bound) values ≡ 0
none_under bound [] le = refl
none_under bound (value ∷ values) le = none_more (λ v. nat_lt v bound) value values (ltb-false value bound (omega (arith, le))) ∙ none_under bound values (omega (arith, le))

some_least : (values : List ℕ) → AreBelow (2 ^ 64) values → 0 < length values → 0 < how_many (λ v. nat_le v (spread_of values).least) values
some_least [] below some = absurd (omega (arith, some))
some_least (value ∷ []) below some =
    let same : min (2 ^ 64 - 1) value ≡ value = omega (arith, below.0) in
    let one : how_many (λ v. nat_le v (min (2 ^ 64 - 1) value)) (value ∷ []) ≡ how_many (λ v. nat_le v (min (2 ^ 64 - 1) value)) [] + 1 = one_more (λ v. nat_le v (min (2 ^ 64 - 1) value)) value [] (le-leb value (min (2 ^ 64 - 1) value) (omega (arith, same))) in
    omega (arith, one)
some_least (value ∷ other ∷ values) below some = cases (nat_le value (spread_of (other ∷ values)).least) refl (some_least (other ∷ values) below.1 (omega arith))
  where
    cases : (t : Bool) → nat_le value (spread_of (other ∷ values)).least ≡ t → 0 < how_many (λ v. nat_le v (spread_of (other ∷ values)).least) (other ∷ values)
        → 0 < how_many (λ v. nat_le v (min (spread_of (other ∷ values)).least value)) (value ∷ other ∷ values)
    cases true is rest =
        let within : value ≤ (spread_of (other ∷ values)).least = leb-true value _ is in
        let one : how_many (λ v. nat_le v (min (spread_of (other ∷ values)).least value)) (value ∷ other ∷ values) ≡ how_many (λ v. nat_le v (min (spread_of (other ∷ values)).least value)) (other ∷ values) + 1 =
        one_more (λ v. nat_le v (min (spread_of (other ∷ values)).least value)) value (other ∷ values) (le-leb value (min (spread_of (other ∷ values)).least value) (omega (arith, within))) in
        omega (arith, one)
    cases false is rest =
        let above : (spread_of (other ∷ values)).least < value = not_above value _ is in
        let same : min (spread_of (other ∷ values)).least value ≡ (spread_of (other ∷ values)).least = omega (arith, above) in
        let none : how_many (λ v. nat_le v (spread_of (other ∷ values)).least) (value ∷ other ∷ values) ≡ how_many (λ v. nat_le v (spread_of (other ∷ values)).least) (other ∷ values) = none_more (λ v. nat_le v (spread_of (other ∷ values)).least) value (other ∷ values) is in
        subst (λ b. 0 < how_many (λ v. nat_le v b) (value ∷ other ∷ values)) (sym same) (omega (arith, none, rest))

all_within : (bound : ℕ) (values : List ℕ) → (spread_of values).greatest ≤ bound → how_many (λ v. nat_le v bound) values ≡ length values
all_within bound [] le = refl
all_within bound (value ∷ values) le =
    let rest : how_many (λ v. nat_le v bound) values ≡ length values = all_within bound values (omega (arith, le)) in
    let one : how_many (λ v. nat_le v bound) (value ∷ values) ≡ how_many (λ v. nat_le v bound) values + 1 = one_more (λ v. nat_le v bound) value values (le-leb value bound (omega (arith, le))) in
    omega (arith, rest, one)

not_all : (values : List ℕ) → 0 < length values → how_many (λ v. nat_lt v (spread_of values).greatest) values < length values
not_all [] some = absurd (omega (arith, some))
not_all (value ∷ values) some = within values (nat_lt value (spread_of values).greatest) refl (not_all values)
  where
    nonempty : (values : List ℕ) → 0 < (spread_of values).greatest → 0 < length values
    nonempty [] up = absurd (omega (arith, up))
    nonempty (v ∷ values) up = omega arith

    within : (vs : List ℕ) (t : Bool) → nat_lt value (spread_of vs).greatest ≡ t → (0 < length vs → how_many (λ v. nat_lt v (spread_of vs).greatest) vs < length vs)
        → how_many (λ v. nat_lt v (max (spread_of vs).greatest value)) (value ∷ vs) < length (value ∷ vs)
    within vs true is rest =
        let less : value < (spread_of vs).greatest = ltb-true value _ is in
        let same : max (spread_of vs).greatest value ≡ (spread_of vs).greatest = omega (arith, less) in
        let one : how_many (λ v. nat_lt v (spread_of vs).greatest) (value ∷ vs) ≡ how_many (λ v. nat_lt v (spread_of vs).greatest) vs + 1 = one_more (λ v. nat_lt v (spread_of vs).greatest) value vs is in
        let fewer : how_many (λ v. nat_lt v (spread_of vs).greatest) vs < length vs = rest (nonempty vs (omega (arith, less))) in
        subst (λ b. how_many (λ v. nat_lt v b) (value ∷ vs) < length (value ∷ vs)) (sym same) (omega (arith, one, fewer))
    within vs false is rest =
        let from : (spread_of vs).greatest ≤ value = not_below value _ is in
        let none : how_many (λ v. nat_lt v (max (spread_of vs).greatest value)) (value ∷ vs) ≡ how_many (λ v. nat_lt v (max (spread_of vs).greatest value)) vs = none_more (λ v. nat_lt v (max (spread_of vs).greatest value)) value vs (ltb-false value _ (omega (arith, from))) in
        let fewer : how_many (λ v. nat_lt v (max (spread_of vs).greatest value)) vs ≤ length vs = few (λ v. nat_lt v (max (spread_of vs).greatest value)) vs in
        omega (arith, none, fewer)

pub extremes : (values : List ℕ) → AreBelow (2 ^ 64) values → 0 < length values → IsOfRank 1 (spread_of values).least values × IsOfRank (length values) (spread_of values).greatest values
extremes values below some =
    let none : how_many (λ v. nat_lt v (spread_of values).least) values ≡ 0 = none_under (spread_of values).least values (omega arith) in
    let all : how_many (λ v. nat_le v (spread_of values).greatest) values ≡ length values = all_within (spread_of values).greatest values (omega arith) in
    ((omega (arith, none), some_least values below some), (not_all values some, omega (arith, all)))
