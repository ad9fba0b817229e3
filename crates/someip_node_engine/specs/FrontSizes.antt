-- The fronts of entries: none is longer than what is left, or than a message may be.
use Rattle.std.specs.Prelude.{ℕ, ◌-◌, ◌≤◌, List, [], ◌∷◌}

-- fronts of these lengths, one after the other, of so many entries
abbrev pub AreWithin : List ℕ → ℕ → Type 0
AreWithin [] left = Unit {0}
AreWithin (n ∷ lengths) left = (n ≤ left) × (n ≤ 65535) × AreWithin lengths (left - n)
