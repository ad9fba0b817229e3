-- The words by which a setup is refused.
use Rattle.std.specs.Prelude.{◌≡◌, ◌++◌, ℕ, List, [], ◌∷◌, codes, string_bytes, None, IsSome, IsUtf8}
use Rattle.someip_world_setup_keys.specs.declared.error.SetupError.{SetupError}
use Rattle.someip_world_setup_keys.specs.declared.error.SetupError.TheVariants.{NotToml, Missing, WrongKind, OutOfRange, UnknownKey, Clash, OutOfMemory}
use Rattle.someip_world_setup.specs.Readings.{TextHasFault, setup_of_text, tree_of}

-- the words of a fault: its name and the key. Out of memory is no fault of a text
abbrev pub WordsOf : SetupError → List ℕ → Type 0
WordsOf NotToml words = words ≡ codes "NotToml -"
WordsOf (Missing key) words = words ≡ codes "Missing " ++ key.now
WordsOf (WrongKind key) words = words ≡ codes "WrongKind " ++ key.now
WordsOf (OutOfRange key) words = words ≡ codes "OutOfRange " ++ key.now
WordsOf (UnknownKey key) words = words ≡ codes "UnknownKey " ++ string_bytes key
WordsOf (Clash key) words = words ≡ codes "Clash " ++ key.now
WordsOf OutOfMemory words = ⊥

-- a text says no setup: it is no UTF-8 and so no TOML, or it has the fault that is told
abbrev pub SaysNoSetup : List ℕ → SetupError → Type 0
SaysNoSetup text NotToml = IsUtf8 text → tree_of text ≡ None
SaysNoSetup text OutOfMemory = ⊥
SaysNoSetup text error = IsUtf8 text × TextHasFault (tree_of text) error

-- words tell whether a text says a setup: there are none where it does, and else they are those of a fault that it has
abbrev pub TellsFault : List ℕ → List ℕ → Type 0
TellsFault text [] = IsUtf8 text × IsSome (setup_of_text text)
TellsFault text (b ∷ words) = (error : SetupError) × (SaysNoSetup text error × WordsOf error (b ∷ words))
