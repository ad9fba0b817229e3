-- Ranks of values, without buckets.
use Rattle.std.specs.Prelude.{ℕ, ◌+◌, ◌-◌, ◌*◌, ◌<◌, ◌≤◌, nat_le, nat_lt, Bool, if◌then◌else◌, List, [], ◌∷◌}

-- how many values pass a test
abbrev pub how_many : (ℕ → Bool) → List ℕ → ℕ
how_many test [] = 0
how_many test (value ∷ values) = if test value then how_many test values + 1 else how_many test values

-- the value of a rank, from 1 on, in rising order: fewer values are below it than the rank says, and at least so many are it or below it
abbrev pub IsOfRank : ℕ → ℕ → List ℕ → Type 0
IsOfRank rank value values = (how_many (λ other. nat_lt other value) values < rank) × (rank ≤ how_many (λ other. nat_le other value) values)

-- no value is below the one before it, and the first not below a bound
abbrev pub Rises : ℕ → List ℕ → Type 0
Rises bound [] = Unit {0}
Rises bound (value ∷ values) = (bound ≤ value) × Rises value values

-- each value is below a bound
abbrev pub AreBelow : ℕ → List ℕ → Type 0
AreBelow bound [] = Unit {0}
AreBelow bound (value ∷ values) = (value < bound) × AreBelow bound values

-- what is told of a value: not more than it, and less by at most a 32nd of what is told
abbrev pub IsNear : ℕ → ℕ → Type 0
IsNear told value = (told ≤ value) × (32 * (value - told) ≤ told)
