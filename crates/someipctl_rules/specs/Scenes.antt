-- Trees of files of rules, for laws by example.
use Rattle.std.specs.Prelude.{ℕ, pos, codes, List, [], ◌∷◌, ◌++◌, None, replicate}
use Rattle.toml.specs.Data.{Data, array, integer, item, member, no_items, no_members, string, table}
use Rattle.audit_rules.specs.declared.rule.Rule.{Rule}
use Rattle.audit_rules.specs.declared.rule.Treatment.{Treatment}
use Rattle.audit_rules.specs.declared.rule.Treatment.TheVariants.{Allowed, AtMost, Counts}

-- a table of one key
abbrev pub keyed : List ℕ → Data → Data
keyed key d = table (member key d no_members)

-- a file of one rule
abbrev pub file_of : Data → Data
file_of rule = keyed (codes "rule") (array (item rule no_items))

-- rules that allow a kind, and that bound one
abbrev pub allowing : List ℕ → Data
allowing words = keyed (codes "allow") (array (item (string words) no_items))

abbrev pub bounding : List ℕ → ℕ → Data
bounding words most = keyed (codes "at_most") (keyed words (integer (pos most)))

-- one that bounds a kind which it allows too
abbrev pub both : List ℕ → Data
both words =
    table (member (codes "allow") (array (item (string words) no_items)) (member (codes "at_most") (keyed words (integer (pos 3))) no_members))

-- a rule of any service that treats kinds so
abbrev pub treating : List Treatment → List Rule
treating treatments = record { service = None; method = None; answer_ms = None; cycle_ms = None; treatments = treatments } ∷ []

abbrev pub late_allowed : List Treatment
late_allowed = replicate 7 Counts ++ Allowed ∷ replicate 20 Counts

abbrev pub three_late : List Treatment
three_late = replicate 7 Counts ++ AtMost 3 ∷ replicate 20 Counts
