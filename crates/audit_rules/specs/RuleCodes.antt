-- Codes, by which a proof tells rules apart.
use Rattle.std.specs.Prelude.{◌≡◌, ℕ, Bool, true, false, ◌⊎◌, List, Option, refl}
use Rattle.std.proofs.Common.{inl, inr}
use Rattle.std.specs.Coded.{Coded, code_by, coded×, coded⊎, coded_ℕ, coded_bool, coded_list, coded_option}
use Rattle.audit_rules.specs.declared.rule.Rule.{Rule}
use Rattle.audit_rules.specs.declared.rule.Treatment.{Treatment}
use Rattle.audit_rules.specs.declared.rule.Treatment.TheVariants as treatments

abbrev TreatmentCode : Type 0
TreatmentCode = Bool ⊎ ℕ

abbrev code_of : Treatment → TreatmentCode
code_of treatments.Counts = inl true
code_of treatments.Allowed = inl false
code_of (treatments.AtMost most) = inr most

abbrev treatment_with : TreatmentCode → Treatment
treatment_with (inl true) = treatments.Counts
treatment_with (inl false) = treatments.Allowed
treatment_with (inr most) = treatments.AtMost most

pub treatment_with-code_of : (t : Treatment) → treatment_with (code_of t) ≡ t
treatment_with-code_of treatments.Counts = refl
treatment_with-code_of treatments.Allowed = refl
treatment_with-code_of (treatments.AtMost most) = refl

abbrev pub coded_treatment : Coded Treatment
coded_treatment = code_by TreatmentCode (coded⊎ coded_bool coded_ℕ) code_of treatment_with treatment_with-code_of

abbrev pub coded_rule : Coded Rule
coded_rule =
    code_by ((Option ℕ × Option ℕ) × ((Option ℕ × Option ℕ) × List Treatment))
    (coded× (coded× (coded_option coded_ℕ) (coded_option coded_ℕ)) (coded× (coded× (coded_option coded_ℕ) (coded_option coded_ℕ)) (coded_list coded_treatment)))
    (λ r. ((r.service, r.method), ((r.answer_ms, r.cycle_ms), r.treatments)))
    (λ p. record { service = p.0.0; method = p.0.1; answer_ms = p.1.0.0; cycle_ms = p.1.0.1; treatments = p.1.1 }) (λ _. refl)

abbrev pub coded_rules : Coded (List Rule)
coded_rules = coded_list coded_rule
