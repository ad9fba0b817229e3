-- A table, as a map from keys to values.
use Rattle.std.specs.Prelude.{◌≡◌, Bool, List}
use Rattle.std.specs.declared.cmp.Ordering.{Ordering}
use Rattle.std.specs.FinMap.{FinMap, from_entries}
use denote.Param.Members.{Shared}
use denote.Ref.{Bor}

-- the map that has these entries
abbrev pub map_of : {K X : Type 0} → (R : K → K → Ordering) → List (K × X) → FinMap R X
map_of R entries = from_entries {R = R} entries

-- each answer of the closure to a key is that of the test
abbrev pub AnswersAs : {F K : Type 0} → Shared F (Bor K × Unit {0}) Bool → F → (K → Bool) → Type 0
AnswersAs {K = K} g f test = (key : Bor K) (answer : Bool) → g.post f (key, tt) answer → answer ≡ test key.now

-- and each answer to a key and its value, of whatever type, is that of the function
abbrev pub AnswersPairAs : {F K X A : Type 0} → Shared F (Bor K × (Bor X × Unit {0})) A → F → (K → X → A) → Type 0
AnswersPairAs {K = K} {X = X} {A = A} g f answers = (key : Bor K) (value : Bor X) (answer : A) → g.post f (key, (value, tt)) answer → answer ≡ answers key.now value.now
