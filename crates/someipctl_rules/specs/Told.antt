-- What is told of a file of rules that says none.
use Rattle.std.specs.Prelude.{ℕ, suc, ◌≡◌, ◌≢◌, ◌<◌, ◌⊎◌, false, true, codes, List, ◌∷◌, ◌++◌, is_some, length, Option, Some, None, string_bytes}
use Rattle.std.specs.List.{list_all, list_any}
use Rattle.toml.specs.Data.{Data, as_str, get}
use Rattle.someipctl_show.specs.types.Tables.{has_key, is_unknown}
use Rattle.audit_rules.specs.Kinds.{all_kinds}
use Rattle.someipctl_rules.specs.declared.key_error.KeyError.{KeyError}
use Rattle.someipctl_rules.specs.declared.key_error.KeyError.TheVariants as parts
use Rattle.someipctl_rules.specs.declared.error.RulesError.{RulesError}
use Rattle.someipctl_rules.specs.declared.error.RulesError.TheVariants as faults
use Rattle.someipctl_rules.specs.Keys.{cycle_at, id_at, millis_at}
use Rattle.someipctl_rules.specs.Saying.{each_rule, file_keys, message_in, rule_in, rule_keys, rules_in, tables_at, treatments_in}
use Rattle.someipctl_rules.specs.Treating.{all_words, bounds_at, each_treated, is_text_of, list_at}

-- something says nothing, unless memory ran out
abbrev pub IsUnsaid : {A : Type 0} → Option A → KeyError → Type 0
IsUnsaid said parts.OutOfMemory = Unit {0}
IsUnsaid said error = said ≡ None

-- ---- keys

-- a table has this key, which is none of those that it may have
abbrev pub IsUnknownKey : List (List ℕ) → Data → List ℕ → Type 0
IsUnknownKey known d key = (is_unknown known key ≡ true) × (has_key key d ≡ true)

-- it has the key that is told, or memory ran out
abbrev pub TellsUnknown : List (List ℕ) → Data → KeyError → Type 0
TellsUnknown known d (parts.UnknownKey key) = IsUnknownKey known d (string_bytes key)
TellsUnknown known d parts.OutOfMemory = Unit {0}
TellsUnknown known d error = ⊥

abbrev pub TellsUnknownKind : Option Data → KeyError → Type 0
TellsUnknownKind (Some d) (parts.UnknownKind words) = IsUnknownKey all_words d (string_bytes words)
TellsUnknownKind bounds parts.OutOfMemory = Unit {0}
TellsUnknownKind bounds error = ⊥

-- ---- one rule

-- a value among these is no text, or one that names no kind
abbrev pub ListTold : List Data → KeyError → Type 0
ListTold ds (parts.UnknownKind words) = (is_unknown all_words (string_bytes words) ≡ true) × (list_any (is_text_of (string_bytes words)) ds ≡ true)
ListTold ds (parts.WrongKind key) = (key.now ≡ codes "allow") × (list_all (λ v. is_some (as_str v)) ds ≡ false)
ListTold ds parts.OutOfMemory = Unit {0}
ListTold ds error = ⊥

-- the value at a key of a rule is refused
pub data FailsAt (d : Data) : List ℕ → Type 0 where
  service : id_at (codes "service") d ≡ None → FailsAt d (codes "service")
  method : id_at (codes "method") d ≡ None → FailsAt d (codes "method")
  answer : millis_at (codes "answer_ms") d ≡ None → FailsAt d (codes "answer_ms")
  cycle : cycle_at (codes "cycle_ms") d ≡ None → FailsAt d (codes "cycle_ms")
  allow : list_at (codes "allow") d ≡ None → FailsAt d (codes "allow")
  text : (allowed : List Data) → list_at (codes "allow") d ≡ Some allowed → list_all (λ v. is_some (as_str v)) allowed ≡ false → FailsAt d (codes "allow")
  bounds : bounds_at d ≡ None → FailsAt d (codes "at_most")
  bound : (allowed : List Data) (table : Option Data) → bounds_at d ≡ Some table → each_treated allowed table all_kinds ≡ None → FailsAt d (codes "at_most")

-- words that name no kind are at `allow` or at `at_most`
abbrev pub IsUnknownKind : Data → List ℕ → Type 0
IsUnknownKind d words =
    (is_unknown all_words words ≡ true)
    × (((allowed : List Data) × (list_at (codes "allow") d ≡ Some allowed) × (list_any (is_text_of words) allowed ≡ true))
    ⊎ ((table : Data) × (bounds_at d ≡ Some (Some table)) × (has_key words table ≡ true)))

-- a rule has the fault that is told, or memory ran out
abbrev pub RuleTold : Data → KeyError → Type 0
RuleTold d (parts.WrongKind key) = FailsAt d key.now
RuleTold d (parts.OutOfRange key) = FailsAt d key.now
RuleTold d (parts.Missing key) = (key.now ≡ codes "service") × (get (codes "service") d ≡ None)
RuleTold d (parts.UnknownKind words) = IsUnknownKind d (string_bytes words)
RuleTold d (parts.UnknownKey key) = IsUnknownKey rule_keys d (string_bytes key)
RuleTold d parts.TooMany = ⊥
RuleTold d parts.OutOfMemory = Unit {0}

-- a part of a rule says nothing, and the fault that is told is one of the rule
abbrev pub Refuses : {A : Type 0} → Option A → Data → KeyError → Type 0
Refuses said d error = IsUnsaid said error × RuleTold d error

abbrev pub RefusesMessage : Data → KeyError → Type 0
RefusesMessage d error = Refuses (message_in d) d error

abbrev pub RefusesTreatments : Data → KeyError → Type 0
RefusesTreatments d error = Refuses (treatments_in d) d error

abbrev pub RefusesRule : Data → KeyError → Type 0
RefusesRule d error = Refuses (rule_in d) d error

-- ---- the file

-- an error of the n-th rule, and one of the file
abbrev pub in_rule : ℕ → KeyError → RulesError
in_rule n parts.OutOfMemory = faults.OutOfMemory
in_rule n error = faults.Rule n error

abbrev pub in_file : KeyError → RulesError
in_file parts.OutOfMemory = faults.OutOfMemory
in_file error = faults.File error

-- the n-th rule, counted from 1, says nothing, as it is told, and those before it say something
pub record FirstRefused (ds : List Data) (n : ℕ) (error : KeyError) : Type 0 where
  pub before : List Data
  pub d : Data
  pub after : List Data
  pub among : ds ≡ before ++ d ∷ after
  pub number : n ≡ suc (length before)
  pub good : each_rule before ≢ None
  pub refused : RefusesRule d error

abbrev pub TellsRule : List Data → RulesError → Type 0
TellsRule ds (faults.Rule n parts.OutOfMemory) = ⊥
TellsRule ds (faults.Rule n error) = FirstRefused ds n error
TellsRule ds faults.OutOfMemory = Unit {0}
TellsRule ds error = ⊥

-- the tables at `rule` are none, or too many, as it is told
abbrev pub RefusesTables : Data → KeyError → Type 0
RefusesTables tree (parts.WrongKind key) = (tables_at tree ≡ None) × (key.now ≡ codes "rule")
RefusesTables tree parts.TooMany = (ds : List Data) × (list_at (codes "rule") tree ≡ Some ds) × (256 < length ds)
RefusesTables tree error = ⊥

-- the file itself has the fault that is told
abbrev pub FileTold : Data → KeyError → Type 0
FileTold tree (parts.UnknownKey key) = IsUnknownKey file_keys tree (string_bytes key)
FileTold tree error = RefusesTables tree error

-- a tree says no rules, and the fault that is told is one of it; or memory ran out
abbrev pub RefusesTree : Data → RulesError → Type 0
RefusesTree tree faults.NotToml = ⊥
RefusesTree tree (faults.File error) = (rules_in tree ≡ None) × FileTold tree error
RefusesTree tree (faults.Rule n error) = (rules_in tree ≡ None) × ((ds : List Data) × (tables_at tree ≡ Some ds) × FirstRefused ds n error)
RefusesTree tree faults.OutOfMemory = Unit {0}

-- the same of a text, which is no TOML where that is told
abbrev pub RefusesText : Option Data → RulesError → Type 0
RefusesText (Some tree) error = RefusesTree tree error
RefusesText None faults.NotToml = Unit {0}
RefusesText None faults.OutOfMemory = Unit {0}
RefusesText None error = ⊥
