-- How long answers may take, and how often events come.
use Rattle.std.specs.Prelude.{ℕ, List, Option, None, Some, refl}
use Rattle.std.specs.Coded.{Coded, code_by, coded×, coded_ℕ}
use Rattle.audit_rules.specs.declared.Rule.{Rule}
use Rattle.audit_rules.specs.Fitting.{answer_ms_by, cycle_ms_by}
use Rattle.audit_rules.specs.RuleCodes.{coded_rules}

-- the rules of a bench, and how many milliseconds an answer may take of which they say nothing
pub record Times : Type 0 where
  pub rules : List Rule
  pub answer_ms : ℕ

abbrev pub or_else : ℕ → Option ℕ → ℕ
or_else millis None = millis
or_else millis (Some said) = said

-- how long an answer to a REQUEST of this service and method may take
abbrev pub answer_ms_of : Times → ℕ → ℕ → ℕ
answer_ms_of times service method = or_else times.answer_ms (answer_ms_by times.rules service method)

-- how many milliseconds after such an event the next one is to come, if the rules say so
abbrev pub cycle_ms_of : Times → ℕ → ℕ → Option ℕ
cycle_ms_of times service event = cycle_ms_by times.rules service event

-- a code, by which a proof tells values apart
abbrev pub coded_times : Coded Times
coded_times = code_by (List Rule × ℕ) (coded× coded_rules coded_ℕ) (λ t. (t.rules, t.answer_ms)) (λ p. record { rules = p.0; answer_ms = p.1 }) (λ _. refl)
