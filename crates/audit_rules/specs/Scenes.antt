-- Rules that the laws speak of as examples.
use Rattle.std.specs.Prelude.{zero, suc, ℕ, List, [], ◌∷◌, Option, None, Some, ◌++◌, replicate}
use Rattle.audit_rules.specs.declared.kind.Kind.{Kind}
use Rattle.audit_rules.specs.declared.rule.Rule.{Rule}
use Rattle.audit_rules.specs.declared.rule.Treatment.TheVariants.{Allowed, AtMost, Counts}
use Rattle.audit_rules.specs.Kinds.{kind_number}
use Rattle.audit_rules.specs.Weighing.{Weights, weighed}

-- a rule of a service and a method, by which `late` is allowed and at most three of `event gap` may come
abbrev pub lenient : Option ℕ → Option ℕ → Rule
lenient service method = record { service = service; method = method; answer_ms = Some 5000; cycle_ms = Some 100; treatments = replicate 7 Counts ++ Allowed ∷ replicate 8 Counts ++ AtMost 3 ∷ replicate 11 Counts }

-- a rule of a service and a method, by which each finding counts
abbrev pub strict : Option ℕ → Option ℕ → Rule
strict service method = record { service = service; method = method; answer_ms = None; cycle_ms = None; treatments = replicate 28 Counts }

-- for method 0421 of service 1234 the strict one; for the service the lenient one
abbrev pub of_service : List Rule
of_service = strict (Some 0x1234) (Some 0x0421) ∷ lenient (Some 0x1234) None ∷ []

-- so many findings of a kind came, about method 0422 of service 1234
abbrev pub came : ℕ → Kind → Weights → Weights
came zero kind weights = weights
came (suc n) kind weights = came n kind (weighed (kind_number kind) (Some 0x1234) (Some 0x0422) weights)
