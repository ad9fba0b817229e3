-- What the functions of a run do with those who act in it.
use Rattle.std.specs.Prelude.{◌≡◌, ℕ, List, map, Result, Ok, Err}
use Rattle.std.specs.Global.{Vec}
use Rattle.std.specs.List.{AllZip}
use Rattle.someip_node_rules.specs.trails.Copies.{IsCopy}
use Rattle.someip_node_rules.specs.histories.History.{start_of}
use Rattle.someip_node_rules.specs.declared.config.Config.{Config}
use Rattle.someip_world_schedule.specs.declared.step.Step.{Step}
use Rattle.someip_world_setup.specs.declared.setup_node.SetupNode.{SetupNode}
use Rattle.someip_world_rules.specs.declared.error.RunError.{RunError}
use Rattle.someip_world_rules.specs.declared.error.RunError.TheVariants.{BadStep, OutOfMemory}
use Rattle.someip_world_rules.specs.declared.line.Line.{Line}
use Rattle.someip_world_rules.specs.declared.step_fault.StepFault.{StepFault}
use Rattle.someip_world_rules.specs.Runs.{ComesTo, World, happens, run_from}
use Rattle.someip_world.specs.declared.actor.Actor.{Actor}
use Rattle.someip_world.specs.Acting.{Role, actor_of, actors_of, role_of, role_with}

-- all steps happened, or one is bad, or memory ran out
abbrev pub Ends : Result World RunError → Result (Unit {0}) RunError → List Line → Type 0
Ends (Ok w) (Ok _) lines = lines ≡ w.lines
Ends (Err error) (Err (BadStep at told)) lines = error ≡ BadStep at told
Ends due (Err OutOfMemory) lines = Unit {0}
Ends due result lines = ⊥

-- a role is that of a node of a setup: of a node with a copy of its configuration, or of a liar
abbrev pub IsRoleOf : SetupNode → Role → Type 0
IsRoleOf node role = (config : Config) × IsCopy node.config config × (role ≡ role_with node.is_liar config)

module _ {R : Type 0} where
  -- at the places of the nodes of a setup stand those that act there, once nodes were started with their delays and with copies
  -- of their configurations
  abbrev pub IsStarted : SetupNode → Actor R → Type 0
  IsStarted node actor = (config : Config) × IsCopy node.config config × (actor ≡ actor_of node.is_liar (start_of config node.delay))

  -- so it is at all places
  abbrev pub AreStarted : List SetupNode → List (Actor R) → Type 0
  AreStarted nodes actors = AllZip IsStarted nodes actors

  -- they are those of the nodes of a setup, whatever they met
  abbrev pub AreOf : List SetupNode → List (Actor R) → Type 0
  AreOf nodes actors = AllZip IsRoleOf nodes (map role_of actors)

  -- actors and lines are those of a world over the nodes of a setup
  abbrev pub AreOfWorld : List SetupNode → List (Actor R) → List Line → World → Type 0
  AreOfWorld setup actors lines w = (actors ≡ actors_of setup w.histories) × (lines ≡ w.lines)

  -- a step happened, or it is bad, or memory ran out
  abbrev pub Comes : List SetupNode → ℕ → Result World StepFault → Result (Unit {0}) RunError → List (Actor R) → List Line → Type 0
  Comes setup index (Ok w) (Ok _) actors lines = AreOfWorld setup actors lines w
  Comes setup index (Err fault) (Err (BadStep at told)) actors lines = (at ≡ index) × (told ≡ fault)
  Comes setup index (Ok w) (Err OutOfMemory) actors lines = Unit {0}
  Comes setup index due result actors lines = ⊥

  -- the same of a step of a schedule, at any world that actors and lines are those of
  abbrev pub Happens : List SetupNode → ℕ → Step → List (Actor R) → List Line → Result (Unit {0}) RunError → List (Actor R) → List Line → Type 0
  Happens setup index step old before result new after =
      (w : World) → AreOfWorld setup old before w → Comes setup index (happens setup index w step) result new after

  -- the same of all steps, from a world on
  abbrev pub RunsOn : List SetupNode → List Step → List (Actor R) → List Line → Result (Unit {0}) RunError → List Line → Type 0
  RunsOn setup steps old before result after = (w : World) → AreOfWorld setup old before w → Ends (run_from setup 1 w steps) result after

-- a run tells these lines, or the first bad step, or memory ran out
abbrev pub IsTold : List SetupNode → List Step → Result (Vec Line) RunError → Type 0
IsTold nodes steps (Ok lines) = ComesTo nodes steps (Ok lines.items)
IsTold nodes steps (Err (BadStep index fault)) = ComesTo nodes steps (Err (BadStep index fault))
IsTold nodes steps (Err OutOfMemory) = Unit {0}
