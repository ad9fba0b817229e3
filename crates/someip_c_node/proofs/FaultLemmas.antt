-- From a fault to the words that tell it.
use Rattle.std.proofs.Common.{subst, ℕ, List, [], ◌∷◌}
use Rattle.std.specs.Prelude.{Result, Ok, Err, IfOk, String, string_bytes, IsUtf8}
use Rattle.std.specs.declared.alloc.Global.{Global}
use Rattle.someip_world_setup_keys.specs.declared.error.SetupError.{SetupError}
use Rattle.someip_world_setup_keys.specs.declared.error.SetupError.TheVariants.{NotToml, Missing, WrongKind, OutOfRange, UnknownKey, Clash, OutOfMemory}
use Rattle.someip_c_node.specs.declared.outcome.Outcome.{Outcome}
use Rattle.someip_c_node.specs.FaultWords.{SaysNoSetup, TellsFault, WordsOf}

abbrev IsNone : List ℕ → Type 0
IsNone [] = Unit {0}
IsNone (b ∷ bytes) = ⊥

-- a fault has words
some_words : (error : SetupError) → WordsOf error [] → ⊥
some_words NotToml e = subst IsNone e tt
some_words (Missing key) e = subst IsNone e tt
some_words (WrongKind key) e = subst IsNone e tt
some_words (OutOfRange key) e = subst IsNone e tt
some_words (UnknownKey key) e = subst IsNone e tt
some_words (Clash key) e = subst IsNone e tt
some_words OutOfMemory e = e

tells : (text words : List ℕ) (error : SetupError) → SaysNoSetup text error → WordsOf error words → TellsFault text words
tells text [] error says is = absurd (some_words error is)
tells text (b ∷ words) error says is = (error, (says, is))

-- the words of a fault that a text has tell it
pub told_ok : (text : List ℕ) (error : SetupError) (result : Result (String Global) Outcome) → SaysNoSetup text error → IfOk result (λ words. WordsOf error (string_bytes words))
    → IfOk result (λ words. TellsFault text (string_bytes words))
told_ok text error (Ok words) says is = tells text (string_bytes words) error says is
told_ok text error (Err outcome) says is = tt

-- bytes that are not UTF-8 are no TOML
pub no_text : (text : List ℕ) → (IsUtf8 text → ⊥) → SaysNoSetup text NotToml
no_text text not = λ utf8. absurd (not utf8)
