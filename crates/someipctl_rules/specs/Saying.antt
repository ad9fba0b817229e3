-- What a file of rules says.
use Rattle.std.specs.Prelude.{ℕ, Bool, ◌&&◌, ◌||◌, not, nat_le, if◌then◌else◌, codes, is_none, is_some, List, [], ◌∷◌, length, Option, Some, None}
use Rattle.std.specs.List.{list_all}
use Rattle.toml.specs.Data.{Data}
use Rattle.someipctl_show.specs.types.Tables.{has_unknown, is_table}
use Rattle.audit_rules.specs.declared.rule.Rule.{Rule}
use Rattle.audit_rules.specs.declared.rule.Treatment.{Treatment}
use Rattle.audit_rules.specs.Kinds.{all_kinds}
use Rattle.someipctl_rules.specs.Keys.{◌>>=◌, cycle_at, id_at, millis_at}
use Rattle.someipctl_rules.specs.Treating.{bounds_at, each_treated, has_only_kinds, list_at, names_one}

-- this, if that holds
abbrev pub only_if : {A : Type 0} → Bool → A → Option A
only_if b x = if b then Some x else None

-- a table, if it has no other keys than these
abbrev pub only_known : List (List ℕ) → Data → Option Data
only_known known d = only_if (not (has_unknown known d)) d

-- ---- one rule

-- the keys that a rule may have, and those of the file
abbrev pub rule_keys : List (List ℕ)
rule_keys = codes "service" ∷ codes "method" ∷ codes "answer_ms" ∷ codes "cycle_ms" ∷ codes "allow" ∷ codes "at_most" ∷ []

abbrev pub file_keys : List (List ℕ)
file_keys = codes "rule" ∷ []

-- the service and the method of a rule: it names no method without a service
abbrev pub placed : Option ℕ → Option ℕ → Option (Option ℕ × Option ℕ)
placed service method = only_if (is_some service || is_none method) (service, method)

abbrev pub message_in : Data → Option (Option ℕ × Option ℕ)
message_in d = id_at (codes "service") d >>= (λ service. id_at (codes "method") d >>= placed service)

-- the kinds that are allowed: each value names one
abbrev pub good_list : List Data → Option (List Data)
good_list ds = only_if (list_all names_one ds) ds

-- the table of those that are bounded: each of its keys names one
abbrev pub good_bounds : Option Data → Option (Option Data)
good_bounds bounds = only_if (has_only_kinds bounds) bounds

-- how the rule treats each kind
abbrev pub treatments_in : Data → Option (List Treatment)
treatments_in d = list_at (codes "allow") d >>= good_list >>= (λ allowed. bounds_at d >>= good_bounds >>= (λ bounds. each_treated allowed bounds all_kinds))

abbrev pub rule_of : (Option ℕ × Option ℕ) → Option ℕ → Option ℕ → List Treatment → Rule
rule_of message answer_ms cycle_ms treatments = record { service = message.0; method = message.1; answer_ms = answer_ms; cycle_ms = cycle_ms; treatments = treatments }

-- the rule that a table says, which has no other keys
abbrev pub rule_in : Data → Option Rule
rule_in d =
    message_in d >>= (λ message. millis_at (codes "answer_ms") d >>= (λ answer_ms. cycle_at (codes "cycle_ms") d >>= (λ cycle_ms. treatments_in d >>= (λ treatments.
    only_if (not (has_unknown rule_keys d)) (rule_of message answer_ms cycle_ms treatments)))))

-- ---- the file

-- the tables at `rule`: no more than may be
abbrev pub few_tables : List Data → Option (List Data)
few_tables ds = only_if (nat_le (length ds) 256 && list_all is_table ds) ds

abbrev pub tables_at : Data → Option (List Data)
tables_at tree = list_at (codes "rule") tree >>= few_tables

abbrev pub each_rule : List Data → Option (List Rule)
each_rule [] = Some []
each_rule (d ∷ ds) = rule_in d >>= (λ rule. each_rule ds >>= (λ rules. Some (rule ∷ rules)))

-- the rules that a tree says, which has no other keys
abbrev pub rules_in : Data → Option (List Rule)
rules_in tree = tables_at tree >>= each_rule >>= (λ rules. only_if (not (has_unknown file_keys tree)) rules)

-- those that the tree of a text says, if it is TOML
abbrev pub rules_said : Option Data → Option (List Rule)
rules_said tree = tree >>= rules_in
