-- The steps of a run one by one: the world before each, what its node does there, and the lines that tell of it in the trace.
use Rattle.std.specs.Prelude.{◌≡◌, ◌⊎◌, ℕ, ◌+◌, ◌==◌, List, take, slice_get, Some, Ok, Err}
use Rattle.std.specs.List.{Contains, filter}
use Rattle.someip_node_rules.specs.histories.History.{History}
use Rattle.someip_node_rules.specs.rules.Inputs.{Input}
use Rattle.someip_node_rules.specs.rules.Plans.{Work}
use Rattle.someip_node_rules.specs.steps.Steps.{step, given_in}
use Rattle.someip_node_rules.specs.declared.config.Config.{Config}
use Rattle.someip_node_rules.specs.declared.error.NodeError.{NodeError}
use Rattle.someip_world_schedule.specs.declared.step.Step.{Step}
use Rattle.someip_world_schedule.specs.StepNodes.{node_of}
use Rattle.someip_world_setup.specs.declared.setup_node.SetupNode.{SetupNode}
use Rattle.someip_world_rules.specs.declared.line.Line.{Line}
use Rattle.someip_world_rules.specs.Deeds.{Deed, Takes, deed_at, done_with}
use Rattle.someip_world_rules.specs.Liars.{is_liar_at}
use Rattle.someip_world_rules.specs.Runs.{AreCopies, World, told_lines, place_of, run_from, run_of, world_after, world_of}

-- some steps, from the start of all nodes on, lead to this world
abbrev pub LeadTo : List SetupNode → List Config → List Step → World → Type 0
LeadTo nodes configs steps w = run_from nodes 1 (world_of nodes configs) steps ≡ Ok w

-- Lines are those of a run of some steps over the nodes of a setup: over copies of their configurations the steps lead to a
-- world that has told them
pub record IsOfRun (nodes : List SetupNode) (steps : List Step) (lines : List Line) : Type 0 where
  pub configs : List Config
  pub copies : AreCopies nodes configs
  pub comes : run_of nodes configs steps ≡ Ok lines
  pub world : World
  pub led : LeadTo nodes configs steps world
  pub told : world.lines ≡ lines

-- the lines that tell of the step of an index
abbrev pub lines_at : ℕ → List Line → List Line
lines_at index lines = filter (λ line. line.step == index) lines

-- A step of a run, at a place in its schedule: the world to which the steps before it led, what the node or the liar that it
-- names does there, and the world to which that leads
pub record Turn (nodes : List SetupNode) (configs : List Config) (steps : List Step) (i : ℕ) (s : Step) : Type 0 where
  pub here : slice_get steps i ≡ Some s
  pub before : World
  pub led : LeadTo nodes configs (take i steps) before
  pub place : ℕ
  pub named : place_of nodes (node_of s) ≡ Some place
  pub history : History
  pub stands : slice_get before.histories place ≡ Some history
  pub deed : Deed
  pub due : deed_at (is_liar_at nodes place) history before.lines s ≡ Ok deed
  pub leads : LeadTo nodes configs (take (i + 1) steps) (world_after (i + 1) place before history (done_with history deed))

-- a step of a run whose lines in a trace tell what the node then gives, and nothing else
pub record ToldTurn (nodes : List SetupNode) (configs : List Config) (steps : List Step) (lines : List Line) (i : ℕ) (s : Step) : Type 0 where
  pub turn : Turn nodes configs steps i s
  pub told : lines_at (i + 1) lines ≡ told_lines (i + 1) turn.place (given_in (done_with turn.history turn.deed))

-- a line of a trace tells of the step of its index, counted from 1: it is one of those of what was given there, at that place
pub record IsOfStep (nodes : List SetupNode) (configs : List Config) (steps : List Step) (line : Line) : Type 0 where
  pub i : ℕ
  pub index : line.step ≡ i + 1
  pub s : Step
  pub turn : Turn nodes configs steps i s
  pub told : Contains (told_lines (i + 1) turn.place (given_in (done_with turn.history turn.deed))) line

-- the node of a step takes an input: the trace tells its refusal alone, or what it gives, of which this holds
pub record TakesIt (nodes : List SetupNode) (configs : List Config) (steps : List Step) (lines : List Line) (i : ℕ) (s : Step) (input : Input) (Gives : History → Work History → Type 0) : Type 0 where
  pub turn : Turn nodes configs steps i s
  pub takes : turn.deed ≡ Takes input
  pub outcome :
      ((refusal : NodeError) × (step turn.history input ≡ Err refusal)
      × (lines_at (i + 1) lines ≡ told_lines (i + 1) turn.place (Err refusal)))
      ⊎ ((done : Work History) × (step turn.history input ≡ Ok done)
      × (lines_at (i + 1) lines ≡ told_lines (i + 1) turn.place (Ok done.outputs))
      × Gives turn.history done)
