-- What a file of rules says, rule by rule.
use Rattle.std.proofs.Common.{◌≡◌, ℕ, Bool, true, false, not, ◌&&◌, codes, ◌+◌, ◌<◌, ◌≤◌, List, [], ◌∷◌, ◌++◌, length, map, take, drop, get_or, Option, None, Some, refl, sym, ap, ◌∙◌, arith}
use Rattle.std.specs.Prelude.{nat_le}
use Rattle.std.specs.List.{list_all}
use Rattle.std.proofs.lemmas.Bool.{leb-true}
use Rattle.std.specs.Option.{option_and_then}
use Rattle.std.proofs.lemmas.List.{take_all, take_more, take-append-drop, drop_more, length-map, length-take-le, map-append}
use Rattle.toml.specs.Data.{Data}
use Rattle.toml.specs.View.{view}
use Rattle.toml.specs.declared.value.Value.{Value}
use Rattle.audit_rules.specs.declared.rule.Rule.{Rule}
use Rattle.someipctl_show.specs.types.Tables.{has_unknown, is_table}
use Rattle.someipctl_rules.specs.declared.error.RulesError.{RulesError}
use Rattle.someipctl_rules.specs.declared.error.RulesError.TheVariants as faults
use Rattle.someipctl_rules.specs.declared.key_error.KeyError.{KeyError}
use Rattle.someipctl_rules.specs.declared.key_error.KeyError.TheVariants as parts
use Rattle.someipctl_rules.specs.Saying.{each_rule, few_tables, file_keys, only_if, only_known, rule_in, rules_in, tables_at}
use Rattle.someipctl_rules.specs.Treating.{list_at}
use Rattle.someipctl_rules.specs.Told.{FirstRefused, IsUnsaid, RefusesRule, RefusesTables, RefusesTree, TellsRule, TellsUnknown, in_file, in_rule}

-- one more rule behind others
abbrev behind : List Rule → Option Rule → Option (List Rule)
behind rules rule = option_and_then (λ r. Some (rules ++ r ∷ [])) rule

pub one_more : (ds : List Data) (d : Data) (rules : List Rule) → each_rule ds ≡ Some rules → each_rule (ds ++ d ∷ []) ≡ behind rules (rule_in d)
one_more [] d rules is = let none : rules ≡ [] = cc in rw none (last (rule_in d))
  where
    last : (o : Option Rule) → option_and_then (λ rule. Some (rule ∷ [])) o ≡ behind [] o
    last None = refl
    last (Some r) = refl
one_more (e ∷ ds) d rules is = by (λ rest same. one_more ds d rest same) (rule_in e) (each_rule ds) refl is
  where
    then : (r : Rule) (rest : List Rule) (o : Option Rule) → option_and_then (λ rs. Some (r ∷ rs)) (behind rest o) ≡ behind (r ∷ rest) o
    then r rest None = refl
    then r rest (Some x) = refl

    by : ((rest : List Rule) → each_rule ds ≡ Some rest → each_rule (ds ++ d ∷ []) ≡ behind rest (rule_in d)) → (o : Option Rule) (all : Option (List Rule)) → each_rule ds ≡ all → option_and_then (λ rule. option_and_then (λ rs. Some (rule ∷ rs)) all) o ≡ Some rules
        → option_and_then (λ rule. option_and_then (λ rs. Some (rule ∷ rs)) (each_rule (ds ++ d ∷ []))) o ≡ behind rules (rule_in d)
    by later None all same h = absurd cc
    by later (Some r) None same h = absurd cc
    by later (Some r) (Some rest) same h =
        let whole : r ∷ rest ≡ rules = cc in
        rw (← whole) (ap (λ o. option_and_then (λ rs. Some (r ∷ rs)) o) (later rest same) ∙ then r rest (rule_in d))

-- so many of these values say these rules
abbrev pub IsReadTo : List Value → ℕ → List Rule → Type 0
IsReadTo vs i rules = (each_rule (map view (take i vs)) ≡ Some rules) × (length rules ≡ i)

pub read_more : (vs : List Value) (i : ℕ) (v : Value) (rules : List Rule) (rule : Rule) → i < length vs → rule_in (view (get_or vs i v)) ≡ Some rule → IsReadTo vs i rules → IsReadTo vs (i + 1) (rules ++ rule ∷ [])
read_more vs i v rules rule within is so = (
  ap (λ l. each_rule (map view l)) (take_more vs i v within) ∙ ap each_rule (map-append view (take i vs) (get_or vs i v ∷ []))
      ∙ one_more (map view (take i vs)) (view (get_or vs i v)) rules so.0 ∙ ap (behind rules) is,
  length_push rules rule ∙ ap (λ n. n + 1) so.1,
)
  where
    length_push : (rs : List Rule) (r : Rule) → length (rs ++ r ∷ []) ≡ length rs + 1
    length_push [] r = refl
    length_push (x ∷ rs) r = let rest : length (rs ++ r ∷ []) ≡ length rs + 1 = length_push rs r in omega (arith, rest)

pub read_all : (vs : List Value) (i : ℕ) (rules : List Rule) → length vs ≤ i → IsReadTo vs i rules → each_rule (map view vs) ≡ Some rules
read_all vs i rules past so = sym (ap (λ l. each_rule (map view l)) (take_all i vs past)) ∙ so.0

pub refused_there : (vs : List Value) (i : ℕ) (v : Value) (rules : List Rule) (e : KeyError) → i < length vs → RefusesRule (view (get_or vs i v)) e → IsReadTo vs i rules → FirstRefused (map view vs) (i + 1) e
refused_there vs i v rules e within refused so = record {
  before = map view (take i vs);
  d = view (get_or vs i v);
  after = map view (drop (i + 1) vs);
  among = sym (ap (map view) (ap (λ l. take i vs ++ l) (sym (drop_more vs i v within)) ∙ take-append-drop i vs)) ∙ map-append view (take i vs) (get_or vs i v ∷ drop (i + 1) vs);
  number = let long : length (map view (take i vs)) ≡ i = length-map (take i vs) view ∙ length-take-le i vs (omega (arith, within)) in omega (arith, long);
  good = λ none. let same = sym so.0 ∙ none in cc;
  refused = refused;
}

-- it is told by its number
pub tells_rule : (ds : List Data) (n : ℕ) (e : KeyError) → FirstRefused ds n e → TellsRule ds (in_rule n e)
tells_rule ds n parts.OutOfMemory first = tt
tells_rule ds n (parts.WrongKind k) first = first
tells_rule ds n (parts.OutOfRange k) first = first
tells_rule ds n (parts.Missing k) first = first
tells_rule ds n (parts.UnknownKind words) first = first
tells_rule ds n (parts.UnknownKey k) first = first
tells_rule ds n parts.TooMany first = first

-- where a rule is refused, no rules are said
each_stops : (before : List Data) (d : Data) (after : List Data) → rule_in d ≡ None → each_rule (before ++ d ∷ after) ≡ None
each_stops [] d after none = ap (λ o. option_and_then (λ (rule : Rule). option_and_then (λ rules. Some (rule ∷ rules)) (each_rule after)) o) none
each_stops (e ∷ before) d after none = by (rule_in e) (each_stops before d after none)
  where
    by : (o : Option Rule) → each_rule (before ++ d ∷ after) ≡ None → option_and_then (λ rule. option_and_then (λ rules. Some (rule ∷ rules)) (each_rule (before ++ d ∷ after))) o ≡ None
    by None later = refl
    by (Some r) later = ap (λ o. option_and_then (λ rules. Some (r ∷ rules)) o) later

abbrev with_file : Data → Option (List Rule) → Option (List Rule)
with_file tree rules = option_and_then (λ rs. only_if (not (has_unknown file_keys tree)) rs) rules

-- what a tree says whose tables are these
pub said_by_tables : (tree : Data) (ds : List Data) → tables_at tree ≡ Some ds → rules_in tree ≡ with_file tree (each_rule ds)
said_by_tables tree ds is = ap (λ (o : Option (List Data)). with_file tree (option_and_then each_rule o)) is

-- a tree whose first bad rule is told says no rules
first_none : (tree : Data) (ds : List Data) (n : ℕ) (e : KeyError) → tables_at tree ≡ Some ds → (first : FirstRefused ds n e) → rule_in first.d ≡ None → rules_in tree ≡ None
first_none tree ds n e is first none =
    said_by_tables tree ds is ∙ ap (λ l. with_file tree (each_rule l)) first.among ∙ ap (with_file tree) (each_stops first.before first.d first.after none)

pub rule_refused : (tree : Data) (ds : List Data) (e : RulesError) → tables_at tree ≡ Some ds → TellsRule ds e → RefusesTree tree e
rule_refused tree ds (faults.Rule n (parts.WrongKind k)) is told = (first_none tree ds n (parts.WrongKind k) is told told.refused.0, (ds, is, told))
rule_refused tree ds (faults.Rule n (parts.OutOfRange k)) is told = (first_none tree ds n (parts.OutOfRange k) is told told.refused.0, (ds, is, told))
rule_refused tree ds (faults.Rule n (parts.Missing k)) is told = (first_none tree ds n (parts.Missing k) is told told.refused.0, (ds, is, told))
rule_refused tree ds (faults.Rule n (parts.UnknownKind words)) is told = (first_none tree ds n (parts.UnknownKind words) is told told.refused.0, (ds, is, told))
rule_refused tree ds (faults.Rule n (parts.UnknownKey k)) is told = (first_none tree ds n (parts.UnknownKey k) is told told.refused.0, (ds, is, told))
rule_refused tree ds (faults.Rule n parts.TooMany) is told = (first_none tree ds n parts.TooMany is told told.refused.0, (ds, is, told))
rule_refused tree ds (faults.Rule n parts.OutOfMemory) is told = absurd told
rule_refused tree ds faults.OutOfMemory is told = tt
rule_refused tree ds faults.NotToml is told = absurd told
rule_refused tree ds (faults.File e) is told = absurd told

-- ---- the file

only_known_none : (tree : Data) → only_known file_keys tree ≡ None → has_unknown file_keys tree ≡ true
only_known_none tree is = by (has_unknown file_keys tree) is
  where
    by : (b : Bool) → only_if (not b) tree ≡ None → b ≡ true
    by true h = refl
    by false h = absurd cc

-- one that has another key says none
pub file_refused : (tree : Data) (ds : List Data) (rules : List Rule) (e : KeyError) → tables_at tree ≡ Some ds → each_rule ds ≡ Some rules → IsUnsaid (only_known file_keys tree) e → TellsUnknown file_keys tree e
    → RefusesTree tree (in_file e)
file_refused tree ds rules (parts.UnknownKey key) is said unsaid told = (
  said_by_tables tree ds is ∙ ap (with_file tree) said ∙ ap (λ b. only_if (not b) rules) (only_known_none tree unsaid),
  told,
)
file_refused tree ds rules parts.OutOfMemory is said unsaid told = tt
file_refused tree ds rules (parts.WrongKind k) is said unsaid told = absurd told
file_refused tree ds rules (parts.OutOfRange k) is said unsaid told = absurd told
file_refused tree ds rules (parts.Missing k) is said unsaid told = absurd told
file_refused tree ds rules (parts.UnknownKind words) is said unsaid told = absurd told
file_refused tree ds rules parts.TooMany is said unsaid told = absurd told

pub file_said : (tree : Data) (ds : List Data) (rules : List Rule) → tables_at tree ≡ Some ds → each_rule ds ≡ Some rules → has_unknown file_keys tree ≡ false → rules_in tree ≡ Some rules
file_said tree ds rules is said known = said_by_tables tree ds is ∙ ap (with_file tree) said ∙ ap (λ b. only_if (not b) rules) known

-- one without tables says none
pub tables_refused : (tree : Data) (e : KeyError) → RefusesTables tree e → RefusesTree tree (faults.File e)
tables_refused tree (parts.WrongKind k) told = (ap (λ (o : Option (List Data)). with_file tree (option_and_then each_rule o)) told.0, told)
tables_refused tree parts.TooMany told = (none_of_many told.0 told.1 told.2, told)
  where
    few : (ds : List Data) (b : Bool) → nat_le (length ds) 256 ≡ b → 256 < length ds → only_if (b && list_all is_table ds) ds ≡ None
    few ds false h many = refl
    few ds true h many = let le : length ds ≤ 256 = leb-true (length ds) 256 h in absurd (omega (arith, le, many))

    none_of_many : (ds : List Data) → list_at (codes "rule") tree ≡ Some ds → 256 < length ds → rules_in tree ≡ None
    none_of_many ds is many =
        ap (λ (o : Option (List Data)). with_file tree (option_and_then each_rule (option_and_then few_tables o))) is
        ∙ ap (λ (o : Option (List Data)). with_file tree (option_and_then each_rule o)) (few ds (nat_le (length ds) 256) refl many)
tables_refused tree (parts.OutOfRange k) told = absurd told
tables_refused tree (parts.Missing k) told = absurd told
tables_refused tree (parts.UnknownKind words) told = absurd told
tables_refused tree (parts.UnknownKey k) told = absurd told
tables_refused tree parts.OutOfMemory told = absurd told
