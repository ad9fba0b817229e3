-- What a book has counted.
use Rattle.std.proofs.Common.{◌≡◌, ℕ, ◌+◌, ◌*◌, ◌<◌, ◌==◌, Bool, true, false, cond, List, [], ◌∷◌, length, replicate, refl, sym, ap, ◌∙◌, arith}
use Rattle.std.specs.Prelude.{slice_index, slice_set}
use Rattle.std.proofs.lemmas.List.Sums.{sum_by-cons}
use Rattle.std.proofs.lemmas.Bool.{eqb-true, eqb-false}
use Rattle.std.proofs.lemmas.List.{get_or-set_same, get_or-set_other, length-set, length-replicate, get_or-replicate}
use Rattle.audit_rules.specs.declared.rule.Rule.{Rule}
use Rattle.audit_rules.specs.declared.rules.Weight.{Weight}
use Rattle.audit_rules.specs.declared.rules.Weight.TheVariants as weights
use Rattle.audit_rules.specs.Fitting.{weight_by}
use Rattle.audit_rules.specs.Weighing.{NamedFinding, Weights, all_weighed, count_of, does_count, is_allowed, is_counted_at, weighed, weighed_as, weights_begun}

-- one more keeps the rules
same_rules : (weight : Weight) (w : Weights) → (weighed_as weight w).rules ≡ w.rules
same_rules weights.Counts w = refl
same_rules weights.Allowed w = refl
same_rules (weights.Bounded place) w = refl

-- ---- a number that one more finding changes as it weighs

module _ (number : Weights → ℕ) (weighs : Weight → Bool) (step : (weight : Weight) (w : Weights) → number (weighed_as weight w) ≡ cond (weighs weight) 1 0 + number w) where
  all_counted : (rules : List Rule) (came : List NamedFinding) (w : Weights) → w.rules ≡ rules → number (all_weighed came w) ≡ count_of rules weighs came + number w
  all_counted rules [] w is = omega arith
  all_counted rules (one ∷ others) w is =
      let next : Weights = weighed one.kind one.service one.method w in
      let kept : next.rules ≡ rules = same_rules (weight_by w.rules one.kind one.service one.method) w ∙ is in
      let rest : number (all_weighed others next) ≡ count_of rules weighs others + number next = all_counted rules others next kept in
      let here : number next ≡ cond (weighs (weight_by rules one.kind one.service one.method)) 1 0 + number w =
      step (weight_by w.rules one.kind one.service one.method) w ∙ ap (λ (rs : List Rule). cond (weighs (weight_by rs one.kind one.service one.method)) 1 0 + number w) is in
      let sum : count_of rules weighs (one ∷ others) ≡ cond (weighs (weight_by rules one.kind one.service one.method)) 1 0 + count_of rules weighs others =
      sum_by-cons (λ (n : NamedFinding). cond (weighs (weight_by rules n.kind n.service n.method)) 1 0) one others in
      omega (arith, rest, here, sum)

counting_step : (weight : Weight) (w : Weights) → (weighed_as weight w).counting ≡ cond (does_count weight) 1 0 + w.counting
counting_step weights.Counts w = omega arith
counting_step weights.Allowed w = omega arith
counting_step (weights.Bounded place) w = omega arith

allowed_step : (weight : Weight) (w : Weights) → (weighed_as weight w).allowed ≡ cond (is_allowed weight) 1 0 + w.allowed
allowed_step weights.Counts w = omega arith
allowed_step weights.Allowed w = omega arith
allowed_step (weights.Bounded place) w = omega arith

pub counting_is : (rules : List Rule) (came : List NamedFinding) → (all_weighed came (weights_begun rules)).counting ≡ count_of rules does_count came
counting_is rules came = omega (arith, all_counted (λ w. w.counting) does_count counting_step rules came (weights_begun rules) refl)

pub allowed_is : (rules : List Rule) (came : List NamedFinding) → (all_weighed came (weights_begun rules)).allowed ≡ count_of rules is_allowed came
allowed_is rules came = omega (arith, all_counted (λ w. w.allowed) is_allowed allowed_step rules came (weights_begun rules) refl)

-- ---- the number at a place

same_length : (weight : Weight) (w : Weights) → length (weighed_as weight w).bounded ≡ length w.bounded
same_length weights.Counts w = refl
same_length weights.Allowed w = refl
same_length (weights.Bounded place) w = length-set w.bounded place (slice_index w.bounded place + 1)

bounded_step : (place : ℕ) (weight : Weight) (w : Weights) → place < length w.bounded
    → slice_index (weighed_as weight w).bounded place ≡ cond (is_counted_at place weight) 1 0 + slice_index w.bounded place
bounded_step place weights.Counts w within = omega arith
bounded_step place weights.Allowed w within = omega arith
bounded_step place (weights.Bounded other) w within = by (other == place) refl
  where
    by : (t : Bool) → (other == place) ≡ t → slice_index (slice_set w.bounded other (slice_index w.bounded other + 1)) place ≡ cond t 1 0 + slice_index w.bounded place
    by true tie =
        let same : other ≡ place = eqb-true other place tie in
        let long : other < length w.bounded = rw same within in
        rw (← same) (get_or-set_same w.bounded other (slice_index w.bounded other + 1) 0 long ∙ omega arith)
    by false apart = get_or-set_other w.bounded other place (slice_index w.bounded other + 1) 0 (λ is. eqb-false other place apart (sym is)) ∙ omega arith

all_bounded : (rules : List Rule) (place : ℕ) (came : List NamedFinding) (w : Weights) → w.rules ≡ rules → place < length w.bounded
    → slice_index (all_weighed came w).bounded place ≡ count_of rules (is_counted_at place) came + slice_index w.bounded place
all_bounded rules place [] w is within = omega arith
all_bounded rules place (one ∷ others) w is within =
    let next : Weights = weighed one.kind one.service one.method w in
    let kept : next.rules ≡ rules = same_rules (weight_by w.rules one.kind one.service one.method) w ∙ is in
    let long : length next.bounded ≡ length w.bounded = same_length (weight_by w.rules one.kind one.service one.method) w in
    let rest : slice_index (all_weighed others next).bounded place ≡ count_of rules (is_counted_at place) others + slice_index next.bounded place =
    all_bounded rules place others next kept (omega (arith, long, within)) in
    let here : slice_index next.bounded place ≡ cond (is_counted_at place (weight_by rules one.kind one.service one.method)) 1 0 + slice_index w.bounded place =
    bounded_step place (weight_by w.rules one.kind one.service one.method) w within
    ∙ ap (λ (rs : List Rule). cond (is_counted_at place (weight_by rs one.kind one.service one.method)) 1 0 + slice_index w.bounded place) is in
    let sum : count_of rules (is_counted_at place) (one ∷ others) ≡ cond (is_counted_at place (weight_by rules one.kind one.service one.method)) 1 0 + count_of rules (is_counted_at place) others =
    sum_by-cons (λ (n : NamedFinding). cond (is_counted_at place (weight_by rules n.kind n.service n.method)) 1 0) one others in
    omega (arith, rest, here, sum)

pub bounded_is : (rules : List Rule) (came : List NamedFinding) (place : ℕ) → place < length rules * 28
    → slice_index (all_weighed came (weights_begun rules)).bounded place ≡ count_of rules (is_counted_at place) came
bounded_is rules came place within =
    let long : place < length (replicate (length rules * 28) 0) = omega (arith, within, length-replicate {A = ℕ} (length rules * 28) 0) in
    let zero : slice_index (replicate (length rules * 28) 0) place ≡ 0 = get_or-replicate {A = ℕ} (length rules * 28) place 0 0 within in
    let all : slice_index (all_weighed came (weights_begun rules)).bounded place ≡ count_of rules (is_counted_at place) came + slice_index (replicate (length rules * 28) 0) place =
    all_bounded rules place came (weights_begun rules) refl long in
    omega (arith, all, zero)
