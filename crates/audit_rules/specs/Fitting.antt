-- Which rule counts, and how it takes findings.
use Rattle.std.specs.Prelude.{ℕ, ◌+◌, ◌*◌, ◌==◌, Bool, true, false, ◌&&◌, List, Option, None, Some}
use Rattle.std.specs.List.{position_from, slice_get}
use Rattle.std.specs.Option.{option_and_then}
use Rattle.audit_rules.specs.declared.rule.Rule.{Rule}
use Rattle.audit_rules.specs.declared.rule.Treatment.{Treatment}
use Rattle.audit_rules.specs.declared.rule.Treatment.TheVariants as treatments
use Rattle.audit_rules.specs.declared.rules.Weight.{Weight}
use Rattle.audit_rules.specs.declared.rules.Weight.TheVariants as weights

-- an ID is named as a rule asks for it: any will do, and none, where it asks for none
abbrev pub is_named : Option ℕ → Option ℕ → Bool
is_named None named = true
is_named (Some asked) None = false
is_named (Some asked) (Some named) = asked == named

-- a rule is about what names this service and this method, or none
abbrev pub fits : Option ℕ → Option ℕ → Rule → Bool
fits service method rule = is_named rule.service service && is_named rule.method method

-- the number of the first rule that is, from 0
abbrev pub first_that_fits : Option ℕ → Option ℕ → List Rule → Option ℕ
first_that_fits service method rules = position_from (fits service method) 0 rules

-- how long an answer to a REQUEST may take by the first rule that is about it, if that says so
abbrev pub answer_ms_by : List Rule → ℕ → ℕ → Option ℕ
answer_ms_by rules service method =
    option_and_then (λ n. option_and_then (λ (r : Rule). r.answer_ms) (slice_get rules n)) (first_that_fits (Some service) (Some method) rules)

-- how long after an event the next one is to come by the first rule that is about it, if that says so
abbrev pub cycle_ms_by : List Rule → ℕ → ℕ → Option ℕ
cycle_ms_by rules service event =
    option_and_then (λ n. option_and_then (λ (r : Rule). r.cycle_ms) (slice_get rules n)) (first_that_fits (Some service) (Some event) rules)

-- what a finding of a kind weighs that the rule with this number treats so: where only so many of its kind may come, it is counted
-- at a place of the rule and the kind
abbrev pub place_of : ℕ → ℕ → ℕ
place_of number kind = number * 28 + kind

abbrev pub weight_in : ℕ → ℕ → Treatment → Weight
weight_in number kind treatments.Counts = weights.Counts
weight_in number kind treatments.Allowed = weights.Allowed
weight_in number kind (treatments.AtMost most) = weights.Bounded (place_of number kind)

abbrev pub weight_if : ℕ → ℕ → Option Treatment → Weight
weight_if number kind None = weights.Counts
weight_if number kind (Some treatment) = weight_in number kind treatment

-- how the rule with a number treats the kind with a number
abbrev pub treatment_at : List Rule → ℕ → ℕ → Option Treatment
treatment_at rules number kind = option_and_then (λ (r : Rule). slice_get r.treatments kind) (slice_get rules number)

-- what a finding of a kind weighs, by the rule with a number, if there is one
abbrev pub weight_at : List Rule → ℕ → Option ℕ → Weight
weight_at rules kind None = weights.Counts
weight_at rules kind (Some number) = weight_if number kind (treatment_at rules number kind)

-- by the first rule that is about what it names
abbrev pub weight_by : List Rule → ℕ → Option ℕ → Option ℕ → Weight
weight_by rules kind service method = weight_at rules kind (first_that_fits service method rules)
