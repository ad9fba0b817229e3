-- What the command writes of a search.
use Rattle.std.specs.Prelude.{ℕ, ◌≡◌, List, length, take, Option, Ok}
use Rattle.std.specs.Io.KnownBytes.{Appends}
use Rattle.someip_explore.specs.declared.exploring.Exploration.{Exploration}
use Rattle.someip_explore.specs.LimitValues.{LimitValues}
use Rattle.someip_explore.specs.declared.moves.Move.{Move}
use Rattle.someip_explore.specs.Exploring.{ExploresTo, judged_count}
use Rattle.someip_explore.specs.Goals.{Goal}
use Rattle.someip_world_rules.specs.Runs.{ComesTo}
use Rattle.someip_world_rules.specs.declared.line.Line.{Line}
use Rattle.someip_world_schedule.specs.declared.step.Step.{Step}
use Rattle.someip_world_setup.specs.declared.setup_node.SetupNode.{SetupNode}
use Rattle.someipctl_io.specs.declared.outcome.Outcome.{Outcome}
use Rattle.someipctl_run.specs.Commands.{SpellsSteps}
use Rattle.someipctl_explore.specs.Noting.{progress_text}
use Rattle.someipctl_explore.specs.ResultTexts.{IsReadAs, exploration_text, outcome_of}

-- all of these steps can happen, one after the other
abbrev pub HasLines : List SetupNode → List Step → Type 0
HasLines nodes steps = (lines : List Line) × ComesTo nodes steps (Ok lines)

-- of notes is said what text they were told
module _ (nodes : List SetupNode) (text : List ℕ) (moves : List Move) (goal : Goal) (limits : LimitValues) (Noted : List ℕ → Type 0) where
  -- what a search comes to among the schedules that begin with the steps of a text, which can happen
  abbrev pub SearchComesTo : List Step → Exploration → Type 0
  SearchComesTo steps found = SpellsSteps text steps × HasLines nodes steps × ExploresTo nodes moves goal limits steps found

  -- the outcome and the text tell what such a search comes to: a schedule that was found is printed as a schedule of its steps.
  -- The notes tell of each million that was judged
  abbrev pub Tells : Outcome → List ℕ → Type 0
  Tells outcome told =
      (steps : List Step) × (found : Exploration) × SearchComesTo steps found
      × (outcome ≡ outcome_of found) × (told ≡ exploration_text (length steps) limits found) × IsReadAs told found
      × Noted (progress_text (judged_count limits found))

  -- it was written
  abbrev pub Explores : Outcome → Option (List ℕ) → Option (List ℕ) → Type 0
  Explores outcome before after = (told : List ℕ) × Tells outcome told × Appends before after told

  -- a beginning of it was
  abbrev pub ExploresPartly : Option (List ℕ) → Option (List ℕ) → Type 0
  ExploresPartly before after = (outcome : Outcome) × (told : List ℕ) × Tells outcome told × (n : ℕ) × Appends before after (take n told)
