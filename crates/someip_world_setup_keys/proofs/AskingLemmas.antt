-- Values that are asked of others, one after the other.
use mir.Syntax.{w64}
use mir.Val.{SFits, of_z, to_z}
use Rattle.std.proofs.lemmas.Int.{to_z-of_z}
use Rattle.std.proofs.Common.{◌≡◌, ℤ, ap, Option, None, Some, Result, sym, subst}
use Rattle.std.specs.Option.{option_and_then}
use Rattle.someip_world_setup_keys.specs.declared.error.SetupError.{SetupError}
use Rattle.someip_world_setup_keys.specs.declared.error.SetupError.TheVariants as errors
use Rattle.someip_world_setup_keys.specs.Keys.{IsAsFound, TellsNotFound}

-- an error that tells of one value tells also of another, which is not found without it
pub fails_too : {A C : Type 0} (e : SetupError) (o : Option A) (p : Option C) → (o ≡ None → p ≡ None) → TellsNotFound e o → TellsNotFound e p
fails_too errors.OutOfMemory o p then h = tt
fails_too errors.NotToml o p then h = absurd h
fails_too (errors.Missing k) o p then h = then h
fails_too (errors.WrongKind k) o p then h = then h
fails_too (errors.OutOfRange k) o p then h = then h
fails_too (errors.UnknownKey k) o p then h = absurd h
fails_too (errors.Clash k) o p then h = absurd h

-- nothing is found of what was not found
pub none_then : {A B : Type 0} {o : Option A} (f : A → Option B) → o ≡ None → option_and_then f o ≡ None
none_then f none = ap (option_and_then f) none

pub tells_none : {A B : Type 0} (e : SetupError) (o : Option A) (f : A → Option B) → TellsNotFound e o → TellsNotFound e (option_and_then f o)
tells_none e o f h = fails_too e o (option_and_then f o) (none_then f) h

-- what is asked of what was found
pub some_then : {A X Y : Type 0} (view : X → Y) (o : Option A) (a : A) (f : A → Option Y) (r : Result X SetupError) → o ≡ Some a → IsAsFound view r (f a) → IsAsFound view r (option_and_then f o)
some_then {A = A} view o a f r is h = subst (λ (t : Option A). IsAsFound view r (option_and_then f t)) (sym is) h

-- the same of a number, which is passed on as one of 64 bits
pub number_then : {X Y : Type 0} (view : X → Y) (o : Option ℤ) (z : ℤ) (f : ℤ → Option Y) (r : Result X SetupError) → SFits w64 z → o ≡ Some z
    → IsAsFound view r (f (to_z w64 (of_z w64 z))) → IsAsFound view r (option_and_then f o)
number_then view o z f r fits is h = some_then view o z f r is (subst (λ (x : ℤ). IsAsFound view r (f x)) (to_z-of_z w64 z fits) h)

pub same_then : {A B : Type 0} {o : Option A} {a : A} (f : A → Option B) → o ≡ Some a → option_and_then f o ≡ f a
same_then f some = ap (option_and_then f) some
