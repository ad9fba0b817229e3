-- The trace of a schedule, by what the nodes met.
use Rattle.std.specs.Prelude.{◌≡◌, ℕ, ◌+◌, Bool, List, [], ◌∷◌, ◌++◌, map, slice_get, slice_set, bytes_eq, string_bytes, Option, None, Some, Result, Ok, Err}
use Rattle.std.specs.List.{AllZip, position_from}
use Rattle.someip_node_rules.specs.trails.Copies.{IsCopy}
use Rattle.someip_node_rules.specs.histories.History.{History, start_of}
use Rattle.someip_node_rules.specs.rules.Plans.{Work}
use Rattle.someip_node_rules.specs.steps.Steps.{given_in}
use Rattle.someip_node_rules.specs.declared.config.Config.{Config}
use Rattle.someip_node_rules.specs.declared.error.NodeError.{NodeError}
use Rattle.someip_node_rules.specs.declared.output.Output.{Output}
use Rattle.someip_world_schedule.specs.declared.step.Step.{Step}
use Rattle.someip_world_schedule.specs.StepNodes.{node_of}
use Rattle.someip_world_setup.specs.declared.setup_node.SetupNode.{SetupNode}
use Rattle.someip_world_rules.specs.declared.error.RunError.{RunError}
use Rattle.someip_world_rules.specs.declared.error.RunError.TheVariants.{BadStep, OutOfMemory}
use Rattle.someip_world_rules.specs.declared.line.Line.{Line}
use Rattle.someip_world_rules.specs.declared.line.Told.TheVariants.{Gave, Refused}
use Rattle.someip_world_rules.specs.declared.step_fault.StepFault.{StepFault}
use Rattle.someip_world_rules.specs.declared.step_fault.StepFault.TheVariants.{UnknownNode}
use Rattle.someip_world_rules.specs.declared.trace.Trace.{Trace}
use Rattle.someip_world_rules.specs.Deeds.{Deed, deed_at, done_with}
use Rattle.someip_world_rules.specs.Liars.{is_liar_at}

-- what each node met, in the order of the setup, and what was told so far. A liar runs no node: at its place stands the history
-- of its start, which no step asks or changes
pub record World : Type 0 where
  pub histories : List History
  pub lines : List Line

-- the history of each node's start, by its configuration and delay; at a liar's place too, which nothing asks
abbrev pub started_nodes : List SetupNode → List Config → List History
started_nodes (node ∷ nodes) (config ∷ configs) = start_of config node.delay ∷ started_nodes nodes configs
started_nodes nodes configs = []

-- the world before the first step: these histories, and nothing was told
abbrev pub world_of : List SetupNode → List Config → World
world_of nodes configs = record { histories = started_nodes nodes configs; lines = [] }

-- the place of the node of a name
abbrev pub place_of : List SetupNode → List ℕ → Option ℕ
place_of nodes name = position_from (λ n. bytes_eq (string_bytes n.name) name) 0 nodes

-- ---- a step

-- the lines of what a node or a liar gives in a step
abbrev pub told_lines : ℕ → ℕ → Result (List Output) NodeError → List Line
told_lines index place (Ok outputs) = map (λ output. record { step = index; node = place; told = Gave output }) outputs
told_lines index place (Err refusal) = record { step = index; node = place; told = Refused refusal } ∷ []

-- its history then: a refused input changes nothing
abbrev pub history_after : History → Result (Work History) NodeError → History
history_after h (Ok done) = done.state
history_after h (Err refusal) = h

-- the world after a node or a liar did something
abbrev pub world_after : ℕ → ℕ → World → History → Result (Work History) NodeError → World
world_after index place w h done = record {
  histories = slice_set w.histories place (history_after h done);
  lines = w.lines ++ told_lines index place (given_in done);
}

-- the world after a step, unless it is bad
abbrev pub unless_bad : ℕ → ℕ → World → History → Result Deed StepFault → Result World StepFault
unless_bad index place w h (Ok deed) = Ok (world_after index place w h (done_with h deed))
unless_bad index place w h (Err fault) = Err fault

-- the same at a place, that of a node or of a liar
abbrev pub happens_at : Bool → ℕ → World → Step → ℕ → Option History → Result World StepFault
happens_at liar index w s place None = Err UnknownNode
happens_at liar index w s place (Some h) = unless_bad index place w h (deed_at liar h w.lines s)

-- the same at the place of the node that the step names, or `UnknownNode` where the setup has no such node
abbrev pub happens_to : List SetupNode → ℕ → World → Step → Option ℕ → Result World StepFault
happens_to nodes index w s None = Err UnknownNode
happens_to nodes index w s (Some place) = happens_at (is_liar_at nodes place) index w s place (slice_get w.histories place)

-- a step of an index happens
abbrev pub happens : List SetupNode → ℕ → World → Step → Result World StepFault
happens nodes index w s = happens_to nodes index w s (place_of nodes (node_of s))

-- ---- a run

-- what comes after a step, unless it is bad
abbrev pub then_on : ℕ → Result World StepFault → (World → Result World RunError) → Result World RunError
then_on index (Ok w) more = more w
then_on index (Err fault) more = Err (BadStep index fault)

-- the steps from an index on happen, one after the other
abbrev pub run_from : List SetupNode → ℕ → World → List Step → Result World RunError
run_from nodes index w [] = Ok w
run_from nodes index w (s ∷ steps) = then_on index (happens nodes index w s) (λ next. run_from nodes (index + 1) next steps)

-- what a run tells
abbrev pub run_lines : Result World RunError → Result (List Line) RunError
run_lines (Ok w) = Ok w.lines
run_lines (Err error) = Err error

-- the trace of a schedule over the nodes of a setup, with their configurations, or its first bad step
abbrev pub run_of : List SetupNode → List Config → List Step → Result (List Line) RunError
run_of nodes configs steps = run_lines (run_from nodes 1 (world_of nodes configs) steps)

-- these are copies of the configurations of some nodes
abbrev pub AreCopies : List SetupNode → List Config → Type 0
AreCopies nodes configs = AllZip (λ node config. IsCopy node.config config) nodes configs

-- a schedule comes to this over the nodes of a setup, each with a copy of its configuration
abbrev pub ComesTo : List SetupNode → List Step → Result (List Line) RunError → Type 0
ComesTo nodes steps due = (configs : List Config) × AreCopies nodes configs × (run_of nodes configs steps ≡ due)

-- a run gives the trace, or tells the first bad step, or memory ran out
abbrev pub IsRun : List SetupNode → List Step → Result Trace RunError → Type 0
IsRun nodes steps (Ok trace) = ComesTo nodes steps (Ok trace.lines.items)
IsRun nodes steps (Err (BadStep index fault)) = ComesTo nodes steps (Err (BadStep index fault))
IsRun nodes steps (Err OutOfMemory) = Unit {0}
