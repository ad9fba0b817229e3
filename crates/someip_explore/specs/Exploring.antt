-- What a schedule comes to, and what a search among the schedules of some moves comes to.
use Rattle.std.specs.Prelude.{◌≡◌, ◌<◌, ◌≤◌, ℕ, ◌+◌, if◌then◌else◌, List, length, Result, Ok, Err}
use Rattle.std.specs.Global.{Vec}
use Rattle.someip_world_schedule.specs.declared.step.Step.{Step}
use Rattle.someip_world_setup.specs.declared.setup_node.SetupNode.{SetupNode}
use Rattle.someip_world_rules.specs.declared.error.RunError.{RunError}
use Rattle.someip_world_rules.specs.declared.error.RunError.TheVariants.{BadStep, OutOfMemory}
use Rattle.someip_world_rules.specs.declared.line.Line.{Line}
use Rattle.someip_explore.specs.declared.exploring.Exploration.{Exploration}
use Rattle.someip_explore.specs.declared.exploring.Exploration.TheVariants as exploration
use Rattle.someip_explore.specs.declared.moves.Move.{Move}
use Rattle.someip_explore.specs.declared.search.Explored.{Explored}
use Rattle.someip_explore.specs.declared.search.Explored.TheVariants as explored
use Rattle.someip_explore.specs.declared.search.Judgement.{Judgement}
use Rattle.someip_explore.specs.declared.search.Judgement.TheVariants.{Bad, Missed, Reached}
use Rattle.someip_explore.specs.Goals.{Goal, run_reaches}
use Rattle.someip_explore.specs.LimitValues.{LimitValues}
use Rattle.someip_explore.specs.Moves.{next_steps}
use Rattle.someip_explore.specs.Search.{up_to}
use Rattle.someip_explore.specs.Searching.{GoesOver, IsFirst, NoneReaches, count_good}
use Rattle.someip_explore.specs.Traces.{trace_of, verdict_of}

-- the trace of a schedule is told, or its first bad step, or memory ran out
abbrev pub IsTraced : List SetupNode → List Step → Result (Vec Line) RunError → Type 0
IsTraced nodes steps (Ok lines) = trace_of nodes steps ≡ Ok lines.items
IsTraced nodes steps (Err (BadStep index fault)) = trace_of nodes steps ≡ Err (BadStep index fault)
IsTraced nodes steps (Err OutOfMemory) = Unit {0}

-- what a schedule comes to, by its trace: it reaches the goal after so many steps, or misses it, or can't happen
abbrev pub judged_by : List SetupNode → Goal → ℕ → List Step → Result (List Line) RunError → Judgement
judged_by nodes goal done steps (Ok lines) =
    if run_reaches nodes goal done lines (verdict_of nodes steps lines) then Reached else Missed
judged_by nodes goal done steps (Err error) = Bad

abbrev pub judgement_of : List SetupNode → Goal → ℕ → List Step → Judgement
judgement_of nodes goal done steps = judged_by nodes goal done steps (trace_of nodes steps)

-- what a search came to, with the schedule that it found
abbrev pub exploration_of : Vec Step → Explored → Exploration
exploration_of steps (explored.Found count) = exploration.Found steps count
exploration_of steps (explored.None count) = exploration.None count
exploration_of steps (explored.Stopped covered) = exploration.Stopped covered

-- how many good schedules were judged: where the search was stopped, as many as may be
abbrev pub judged_count : LimitValues → Exploration → ℕ
judged_count limits (exploration.Found schedule count) = count
judged_count limits (exploration.None count) = count
judged_count limits (exploration.Stopped covered) = limits.schedules

module _ (nodes : List SetupNode) (moves : List Move) (goal : Goal) (limits : LimitValues) (beginning : List Step) where
  -- the schedules that are tried, in their order: those that begin so and go on by moves, at most so many
  abbrev pub tried : ℕ → List (List Step)
  tried count = up_to (next_steps nodes moves) count beginning

  -- what a schedule comes to. Lines of the beginning don't count for the goal
  abbrev pub judged : List Step → Judgement
  judged steps = judgement_of nodes goal (length beginning) steps

  -- What a search comes to: the first schedule that reaches the goal; or none does; or more are good than may be judged, of which
  -- the first do not reach it: then none of so many moves does. Numbers count the good schedules up to the one that is found, or
  -- all of them
  abbrev pub ExploresTo : Exploration → Type 0
  ExploresTo (exploration.Found schedule count) = IsFirst judged (tried limits.steps) schedule.items count × (count ≤ limits.schedules)
  ExploresTo (exploration.None count) =
      NoneReaches judged (tried limits.steps) × (count ≡ count_good judged (tried limits.steps)) × (count ≤ limits.schedules)
  ExploresTo (exploration.Stopped covered) =
      (covered < limits.steps) × NoneReaches judged (tried covered) × GoesOver judged (tried (covered + 1)) limits.schedules
