-- What an input says as a file of rules.
use Rattle.std.specs.Prelude.{ℕ, ◌≡◌, true, List, Option, None, Some}
use Rattle.std.specs.Str.{is_utf8}
use Rattle.someipctl_io.specs.Inputs.{WasLeft}
use Rattle.someipctl_io.specs.declared.fault.Fault.{Fault}
use Rattle.someipctl_io.specs.declared.fault.Fault.TheVariants.{Refused, CannotRead, CannotWrite, OutOfMemory}
use Rattle.someipctl_show.specs.types.Says.{tree_of}
use Rattle.audit_rules.specs.declared.rule.Rule.{Rule}
use Rattle.someipctl_rules.specs.declared.error.RulesError.{RulesError}
use Rattle.someipctl_rules.specs.declared.error.RulesError.TheVariants as errors
use Rattle.someipctl_rules.specs.declared.error.RulesRefusal.{RulesRefusal}
use Rattle.someipctl_rules.specs.Saying.{rules_said}
use Rattle.someipctl_rules.specs.Told.{RefusesText}

-- bytes say these rules: they are a text in UTF-8 that does
abbrev pub BytesSay : List ℕ → List Rule → Type 0
BytesSay bytes rules = (is_utf8 bytes ≡ true) × (rules_said (tree_of bytes) ≡ Some rules)

-- bytes say no rules: they are no UTF-8 and so no TOML, or their text has the fault that is told. That memory ran out refuses no
-- text, and is told by a name of its own
abbrev pub SayNoRules : List ℕ → RulesError → Type 0
SayNoRules bytes errors.NotToml = (is_utf8 bytes ≡ true) → tree_of bytes ≡ None
SayNoRules bytes errors.OutOfMemory = ⊥
SayNoRules bytes error = (is_utf8 bytes ≡ true) × RefusesText (tree_of bytes) error

-- bytes are refused, or memory ran out
abbrev pub RefusesBytes : List ℕ → Fault RulesRefusal → Type 0
RefusesBytes bytes (Refused refusal) = SayNoRules bytes refusal.0
RefusesBytes bytes OutOfMemory = Unit {0}
RefusesBytes bytes fault = ⊥

-- the bytes that a source had left say these rules
abbrev pub InputSays : Option (List ℕ) → List Rule → Type 0
InputSays input rules = (bytes : List ℕ) × WasLeft input bytes × BytesSay bytes rules

-- the bytes that a source had left are refused, or it could not be read, or memory ran out
abbrev pub RefusesInput : Option (List ℕ) → Fault RulesRefusal → Type 0
RefusesInput input (Refused refusal) = (bytes : List ℕ) × WasLeft input bytes × SayNoRules bytes refusal.0
RefusesInput input CannotRead = Unit {0}
RefusesInput input CannotWrite = ⊥
RefusesInput input OutOfMemory = Unit {0}
