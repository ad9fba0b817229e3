-- Moves that can't happen in any schedule over the nodes of a setup.
use Rattle.std.specs.Prelude.{ℕ, Bool, true, false, List, Option, None, Some}
use Rattle.someip_world_schedule.specs.declared.step.Step.{Step}
use Rattle.someip_world_schedule.specs.declared.step.Step.TheVariants.{Inject}
use Rattle.someip_world_schedule.specs.StepNodes.{node_of}
use Rattle.someip_world_setup.specs.declared.setup_node.SetupNode.{SetupNode}
use Rattle.someip_world_rules.specs.Liars.{is_liar_at}
use Rattle.someip_world_rules.specs.Runs.{place_of}
use Rattle.someip_world_rules.specs.declared.step_fault.StepFault.{StepFault}
use Rattle.someip_world_rules.specs.declared.step_fault.StepFault.TheVariants.{UnknownNode, NotLiar, IsLiar}
use Rattle.someip_explore.specs.declared.moves.Move.{Move}
use Rattle.someip_explore.specs.declared.moves.Move.TheVariants.{Plain, DeliverAnyTo, DeliverAny, AnswerAny}

-- a step injects: only liars do
abbrev pub is_injection : Step → Bool
is_injection (Inject node port to payload) = true
is_injection step = false

-- a liar only injects, and no one else does
abbrev pub misfit_of : (liar injects : Bool) → Option StepFault
misfit_of true false = Some IsLiar
misfit_of false true = Some NotLiar
misfit_of true true = None
misfit_of false false = None

-- why no step of the node at a place can happen, where it injects or does something else
abbrev pub misfit_at : List SetupNode → Bool → Option ℕ → Option StepFault
misfit_at nodes injects None = Some UnknownNode
misfit_at nodes injects (Some place) = misfit_of (is_liar_at nodes place) injects

-- the same of the node of a name
abbrev pub misfit_named : List SetupNode → Bool → List ℕ → Option StepFault
misfit_named nodes injects name = misfit_at nodes injects (place_of nodes name)

-- the same of a step
abbrev pub step_misfit : List SetupNode → Step → Option StepFault
step_misfit nodes step = misfit_named nodes (is_injection step) (node_of step)

-- why no step for which a move stands can happen over the nodes of a setup, whatever happened before
abbrev pub misfit : List SetupNode → Move → Option StepFault
misfit nodes (Plain step) = step_misfit nodes step
misfit nodes (DeliverAnyTo node) = misfit_named nodes false node
misfit nodes DeliverAny = None
misfit nodes (AnswerAny answer) = step_misfit nodes answer
