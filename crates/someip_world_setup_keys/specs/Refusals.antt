-- What unknown keys and clashes refuse.
use Rattle.std.specs.Prelude.{◌≡◌, Bool, true, false, Result, Ok, Err}
use Rattle.someip_world_setup_keys.specs.declared.error.SetupError.{SetupError}
use Rattle.someip_world_setup_keys.specs.declared.error.SetupError.TheVariants.{UnknownKey, Clash, OutOfMemory}

-- a tree is refused for an unknown key exactly where it has one, unless memory runs out
abbrev pub RefusesKey : Bool → Result (Unit {0}) SetupError → Type 0
RefusesKey unknown (Ok done) = unknown ≡ false
RefusesKey unknown (Err (UnknownKey key)) = unknown ≡ true
RefusesKey unknown (Err OutOfMemory) = Unit {0}
RefusesKey unknown (Err error) = ⊥

-- values are refused for a clash exactly where there is one, unless memory runs out
abbrev pub RefusesClash : Bool → Result (Unit {0}) SetupError → Type 0
RefusesClash clash (Ok done) = clash ≡ false
RefusesClash clash (Err (Clash key)) = clash ≡ true
RefusesClash clash (Err OutOfMemory) = Unit {0}
RefusesClash clash (Err error) = ⊥
