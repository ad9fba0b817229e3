-- The values of a table whose keys stand at places.
use Rattle.std.specs.Prelude.{◌≡◌, ◌⊎◌, Bool, true, Option, Some}
use Rattle.std.specs.declared.cmp.Ordering.{Ordering}
use Rattle.std.specs.FinMap.{FinMap, get}

-- each key stands at the place of its value, if that is wanted there
abbrev pub AreAt : {P K V : Type 0} {R : K → K → Ordering} → (K → V → P) → (K → V → Bool) → (P → K → Bool) → FinMap R V → Type 0
AreAt {K = K} {V = V} place wanted there m = (key : K) (value : V) → get m key ≡ Some value → wanted key value ≡ true → there (place key value) key ≡ true

-- but perhaps one key at one place
abbrev pub AreAtBut : {P K V : Type 0} {R : K → K → Ordering} → (K → V → P) → (K → V → Bool) → P → K → (P → K → Bool) → FinMap R V → Type 0
AreAtBut {K = K} {V = V} place wanted from one there m =
    (key : K) (value : V) → get m key ≡ Some value → wanted key value ≡ true → (there (place key value) key ≡ true) ⊎ ((key ≡ one) × (place key value ≡ from))

-- of each key another map has what there was, or what is to become of it
abbrev pub AreOnTheWay : {K V : Type 0} {R : K → K → Ordering} → (K → Option V → Option V) → FinMap R V → FinMap R V → Type 0
AreOnTheWay {K = K} becomes m n = (key : K) → (get n key ≡ get m key) ⊎ (get n key ≡ becomes key (get m key))
