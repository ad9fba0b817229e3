-- Words that are read one after the other.
use Rattle.std.proofs.Common.{◌≡◌, ap, Option, None, Some, Err}
use Rattle.someip_world_schedule.specs.declared.step_words.WordFault.{WordFault}
use Rattle.someip_world_schedule.specs.declared.step_words.WordFault.TheVariants.{Bad, OutOfMemory}
use Rattle.someip_world_schedule.specs.StepWords.{IsReadOf, ◌>>=◌}

-- an error is right where the words stand for nothing
pub refused : {T : Type 0} (found : Option T) (e : WordFault) → found ≡ None → IsReadOf found (Err e)
refused found Bad none = none
refused found OutOfMemory none = tt

-- and one of a word where they stand for nothing without it
pub refused_too : {A T : Type 0} (o : Option A) (found : Option T) (e : WordFault) → (o ≡ None → found ≡ None) → IsReadOf o (Err e) → IsReadOf found (Err e)
refused_too o found Bad then h = then h
refused_too o found OutOfMemory then h = tt

-- what comes of the first step
pub none_then : {A B : Type 0} {o : Option A} (f : A → Option B) → o ≡ None → (o >>= f) ≡ None
none_then f none = ap (λ t. t >>= f) none

pub same_then : {A B : Type 0} {o : Option A} {a : A} (f : A → Option B) → o ≡ Some a → (o >>= f) ≡ f a
same_then f some = ap (λ t. t >>= f) some
