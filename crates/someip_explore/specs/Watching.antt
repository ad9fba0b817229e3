-- What is told of a search while it goes on.
use Rattle.std.specs.Prelude.{ℕ, ◌≡◌, ◌*◌, ◌/◌, List, [], ◌∷◌, map, Result, Ok, Err}
use Rattle.someip_explore.specs.Moves.{numbers_to}
use Rattle.someip_explore.specs.declared.search.Ended.{Ended}
use Rattle.someip_explore.specs.declared.search.Ended.TheVariants.{Passed, Found, Full}
use Rattle.someip_explore.specs.declared.search.Explored.{Explored}
use Rattle.someip_explore.specs.declared.search.Explored.TheVariants as explored

-- the numbers that were told once so many schedules were judged: a million, two millions, and so on
abbrev pub millions_to : ℕ → List ℕ
millions_to judged = map (λ millions. millions * 1_000_000) (numbers_to (judged / 1_000_000))

-- how many schedules were judged where a search ended so, of which at most so many may be
abbrev pub judged_at : ℕ → Ended → ℕ
judged_at most (Passed judged) = judged
judged_at most (Found judged) = judged
judged_at most Full = most

abbrev pub judged_in : ℕ → Explored → ℕ
judged_in most (explored.Found judged) = judged
judged_in most (explored.None judged) = judged
judged_in most (explored.Stopped covered) = most

module _ {W : Type 0} (hears : W → ℕ → W → Type 0) where
  -- a watcher heard some numbers, one after the other
  abbrev pub HearsAll : List ℕ → W → W → Type 0
  HearsAll [] old new = new ≡ old
  HearsAll (number ∷ numbers) old new = (next : W) × hears old number next × HearsAll numbers next new

  -- a watcher heard of so many schedules
  abbrev pub HearsOf : ℕ → W → W → Type 0
  HearsOf judged old new = HearsAll (millions_to judged) old new

  -- a watcher heard of all schedules that were judged for this; or memory ran out, and it heard of those until then
  abbrev pub Watched : {A E : Type 0} → (A → ℕ) → Result A E → W → W → Type 0
  Watched judged (Ok found) old new = HearsOf (judged found) old new
  Watched judged (Err error) old new = (count : ℕ) × HearsOf count old new
