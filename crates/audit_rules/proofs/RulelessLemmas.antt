-- Without rules each finding counts.
use Rattle.std.proofs.Common.{◌≡◌, ℕ, ◌+◌, ◌<◌, ◌≤◌, nat_lt, Bool, true, false, ◌||◌, List, [], ◌∷◌, arith, refl, ap, sym, ◌∙◌}
use Rattle.std.proofs.lemmas.Bool.{lt-ltb}
use Rattle.audit_rules.specs.declared.rule.Rule.{Rule}
use Rattle.audit_rules.specs.declared.rules.Weight.{Weight}
use Rattle.audit_rules.specs.declared.rules.Weight.TheVariants as weights
use Rattle.audit_rules.specs.Fitting.{weight_by}
use Rattle.audit_rules.specs.Weighing.{NamedFinding, Weights, all_weighed, exceeded, exceeded_of, fails, is_any, weighed, weighed_as, weights_begun}

-- a book keeps its rules, and what counts is not counted less
weighs : (weight : Weight) (w : Weights) → ((weighed_as weight w).rules ≡ w.rules) × (w.counting ≤ (weighed_as weight w).counting)
weighs weights.Counts w = (refl, omega arith)
weighs weights.Allowed w = (refl, omega arith)
weighs (weights.Bounded place) w = (refl, omega arith)

rules_kept : (came : List NamedFinding) (w : Weights) → (all_weighed came w).rules ≡ w.rules
rules_kept [] w = refl
rules_kept (one ∷ others) w = rules_kept others (weighed one.kind one.service one.method w) ∙ (weighs (weight_by w.rules one.kind one.service one.method) w).0

counts_more : (came : List NamedFinding) (w : Weights) → w.counting ≤ (all_weighed came w).counting
counts_more [] w = omega arith
counts_more (one ∷ others) w =
    let first : w.counting ≤ (weighed one.kind one.service one.method w).counting = (weighs (weight_by w.rules one.kind one.service one.method) w).1 in
    let rest = counts_more others (weighed one.kind one.service one.method w) in
    omega (arith, first, rest)

none_exceeded : (bounded : List ℕ) (rules : List Rule) → rules ≡ [] → is_any (exceeded_of bounded 0 rules) ≡ false
none_exceeded bounded rules is = ap (λ rs. is_any (exceeded_of bounded 0 rs)) is

or_none : (a b c : Bool) → a ≡ c → b ≡ false → (a || b) ≡ c
or_none true b c is none = is
or_none false b c is none = none ∙ is

pub any_fails : (came : List NamedFinding) → fails (all_weighed came (weights_begun [])) ≡ is_any came
any_fails [] = refl
any_fails (one ∷ others) =
    let more : 1 ≤ (all_weighed (one ∷ others) (weights_begun [])).counting = counts_more others (weighed one.kind one.service one.method (weights_begun [])) in
    or_none _ _ true (lt-ltb 0 (all_weighed (one ∷ others) (weights_begun [])).counting (omega (arith, more)))
    (none_exceeded (all_weighed (one ∷ others) (weights_begun [])).bounded (all_weighed (one ∷ others) (weights_begun [])).rules (rules_kept (one ∷ others) (weights_begun [])))
