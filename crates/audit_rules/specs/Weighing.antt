-- What came by rules.
use Rattle.std.specs.Prelude.{ℕ, ◌+◌, ◌*◌, Bool, true, false, ◌||◌, ◌==◌, nat_lt, if◌then◌else◌, List, [], ◌∷◌, ◌++◌, length, replicate, slice_index, slice_set, Option, refl}
use Rattle.std.specs.List.{count_by}
use Rattle.std.specs.Coded.{Coded, code_by, coded×, coded_ℕ, coded_list}
use Rattle.audit_rules.specs.declared.rule.Rule.{Rule}
use Rattle.audit_rules.specs.declared.rule.Treatment.{Treatment}
use Rattle.audit_rules.specs.declared.rule.Treatment.TheVariants as treatments
use Rattle.audit_rules.specs.declared.rules.Weight.{Weight}
use Rattle.audit_rules.specs.declared.rules.Weight.TheVariants as weights
use Rattle.audit_rules.specs.declared.weights.Exceeded.{Exceeded}
use Rattle.audit_rules.specs.Fitting.{place_of, weight_by}
use Rattle.audit_rules.specs.RuleCodes.{coded_rules}

-- the rules; how many findings count, and how many are allowed; and how many came of which a rule allows so many, by its number and
-- their kind
pub record Weights : Type 0 where
  pub rules : List Rule
  pub counting : ℕ
  pub allowed : ℕ
  pub bounded : List ℕ

-- before any came
abbrev pub weights_begun : List Rule → Weights
weights_begun rules = record { rules = rules; counting = 0; allowed = 0; bounded = replicate (length rules * 28) 0 }

-- one more came that weighs so
abbrev pub weighed_as : Weight → Weights → Weights
weighed_as weights.Counts w = record w { counting = w.counting + 1 }
weighed_as weights.Allowed w = record w { allowed = w.allowed + 1 }
weighed_as (weights.Bounded place) w = record w { bounded = slice_set w.bounded place (slice_index w.bounded place + 1) }

-- how many came that weigh so
abbrev pub number_as : Weight → Weights → ℕ
number_as weights.Counts w = w.counting
number_as weights.Allowed w = w.allowed
number_as (weights.Bounded place) w = slice_index w.bounded place

-- one more came of a kind, that names this service and this method, or none
abbrev pub weighed : ℕ → Option ℕ → Option ℕ → Weights → Weights
weighed kind service method w = weighed_as (weight_by w.rules kind service method) w

-- a finding by its kind, its service and its method
pub record NamedFinding : Type 0 where
  pub kind : ℕ
  pub service : Option ℕ
  pub method : Option ℕ

-- once all of these came
abbrev pub all_weighed : List NamedFinding → Weights → Weights
all_weighed [] w = w
all_weighed (one ∷ others) w = all_weighed others (weighed one.kind one.service one.method w)

-- a weight is that of a finding that counts; of one that is allowed; of one that is counted at a place
abbrev pub does_count : Weight → Bool
does_count weights.Counts = true
does_count weight = false

abbrev pub is_allowed : Weight → Bool
is_allowed weights.Allowed = true
is_allowed weight = false

abbrev pub is_counted_at : ℕ → Weight → Bool
is_counted_at place (weights.Bounded other) = other == place
is_counted_at place weight = false

-- how many of these weigh so
abbrev pub count_of : List Rule → (Weight → Bool) → List NamedFinding → ℕ
count_of rules weighs came = count_by (λ one. weighs (weight_by rules one.kind one.service one.method)) came

-- ---- of which more came than may

-- of a kind by a rule, where more came than may
abbrev pub exceeded_by : Rule → ℕ → ℕ → Treatment → List Exceeded
exceeded_by rule kind came (treatments.AtMost most) = if nat_lt most came then record { service = rule.service; method = rule.method; kind = kind; most = most; came = came } ∷ [] else []
exceeded_by rule kind came treatment = []

-- of the kinds from one on by a rule
abbrev pub exceeded_from : Rule → List ℕ → ℕ → ℕ → List Treatment → List Exceeded
exceeded_from rule bounded number kind [] = []
exceeded_from rule bounded number kind (treatment ∷ treatments) =
    exceeded_by rule kind (slice_index bounded (place_of number kind)) treatment ++ exceeded_from rule bounded number (kind + 1) treatments

-- of all kinds by the rules from one on
abbrev pub exceeded_of : List ℕ → ℕ → List Rule → List Exceeded
exceeded_of bounded number [] = []
exceeded_of bounded number (rule ∷ rules) = exceeded_from rule bounded number 0 rule.treatments ++ exceeded_of bounded (number + 1) rules

abbrev pub exceeded : Weights → List Exceeded
exceeded w = exceeded_of w.bounded 0 w.rules

abbrev pub is_any : {A : Type 0} → List A → Bool
is_any [] = false
is_any (x ∷ xs) = true

-- what came fails: one counts, or more came than may
abbrev pub fails : Weights → Bool
fails w = nat_lt 0 w.counting || is_any (exceeded w)

-- a code, by which a proof tells values apart
abbrev pub coded_weights : Coded Weights
coded_weights =
    code_by (List Rule × ((ℕ × ℕ) × List ℕ)) (coded× coded_rules (coded× (coded× coded_ℕ coded_ℕ) (coded_list coded_ℕ)))
    (λ w. (w.rules, ((w.counting, w.allowed), w.bounded))) (λ p. record { rules = p.0; counting = p.1.0.0; allowed = p.1.0.1; bounded = p.1.1 }) (λ _. refl)
