-- When the clock alone next gives something.
use Rattle.std.specs.Prelude.{◌≡◌, ◌≢◌, ◌<◌, ℕ, [], Ok}
use Rattle.someip_node_rules.specs.histories.History.{History}
use Rattle.someip_node_rules.specs.rules.Inputs.{Tick}
use Rattle.someip_node_rules.specs.rules.Plans.{Work}
use Rattle.someip_node_rules.specs.steps.Steps.{given_in, step}

-- a tick of so many milliseconds is taken, and gives nothing
abbrev pub GivesNothing : History → ℕ → Type 0
GivesNothing h ms = given_in (step h (Tick ms)) ≡ Ok []

-- a tick of so many milliseconds is taken, and gives something
abbrev pub GivesSomething : History → ℕ → Type 0
GivesSomething h ms = (done : Work History) × (step h (Tick ms) ≡ Ok done) × (done.outputs ≢ [])

-- a tick of so many milliseconds gives something, and one of fewer gives nothing
abbrev pub IsNextDue : History → ℕ → Type 0
IsNextDue h ms = ((fewer : ℕ) → fewer < ms → GivesNothing h fewer) × GivesSomething h ms

-- no tick that is taken gives anything, however late
abbrev pub NothingIsDue : History → Type 0
NothingIsDue h = (ms : ℕ) (done : Work History) → step h (Tick ms) ≡ Ok done → done.outputs ≡ []
