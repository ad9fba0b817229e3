-- What is printed of a search.
use Rattle.std.specs.Prelude.{ℕ, List, [], ◌∷◌, ◌++◌, take, drop, codes, decimal}
use Rattle.someip_explore.specs.declared.exploring.Exploration.{Exploration}
use Rattle.someip_explore.specs.declared.exploring.Exploration.TheVariants as exploration
use Rattle.someip_explore.specs.LimitValues.{LimitValues}
use Rattle.someip_world_schedule.specs.declared.step.Step.{Step}
use Rattle.someipctl_io.specs.declared.outcome.Outcome.{Outcome}
use Rattle.someipctl_io.specs.declared.outcome.Outcome.TheVariants.{Done, FaultShown}
use Rattle.someipctl_run.specs.Commands.{SpellsSteps}
use Rattle.someipctl_explore.specs.StepLines.{line_text, steps_text}

-- a comment with the number of schedules that were judged
abbrev pub judged_line : ℕ → List ℕ
judged_line judged = line_text (codes "#") (codes "judged" ∷ decimal judged ∷ codes "schedules" ∷ [])

-- a schedule that was found: the steps that it begins with, a comment, and the others
abbrev pub found_text : ℕ → ℕ → List Step → List ℕ
found_text done judged schedule = steps_text (take done schedule) ++ (judged_line judged ++ steps_text (drop done schedule))

-- none reaches the goal
abbrev pub none_line : ℕ → ℕ → List ℕ
none_line steps judged = line_text (codes "none") (codes "within" ∷ decimal steps ∷ codes "steps," ∷ decimal judged ∷ codes "schedules" ∷ [])

-- the search was stopped: none of so many moves reaches it
abbrev pub stopped_line : ℕ → ℕ → List ℕ
stopped_line covered most =
    line_text (codes "none") (codes "of up to" ∷ decimal covered ∷ codes "steps, stopped after" ∷ decimal most ∷ codes "schedules" ∷ [])

-- what is printed of a search among schedules that begin with so many steps
abbrev pub exploration_text : ℕ → LimitValues → Exploration → List ℕ
exploration_text done limits (exploration.Found schedule judged) = found_text done judged schedule.items
exploration_text done limits (exploration.None judged) = none_line limits.steps judged
exploration_text done limits (exploration.Stopped covered) = stopped_line covered limits.schedules

-- what is printed of a schedule that was found is a schedule, of just its steps
abbrev pub IsReadAs : List ℕ → Exploration → Type 0
IsReadAs text (exploration.Found schedule judged) = SpellsSteps text schedule.items
IsReadAs text found = Unit {0}

-- how the command ended: nothing is wrong where none reaches the goal and all were tried
abbrev pub outcome_of : Exploration → Outcome
outcome_of (exploration.Found schedule judged) = FaultShown
outcome_of (exploration.None judged) = Done
outcome_of (exploration.Stopped covered) = FaultShown
