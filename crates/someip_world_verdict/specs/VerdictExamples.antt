-- What a verdict by example is on: the steps of two nodes, whatever the last of them tells.
use Rattle.std.specs.Prelude.{◌≡◌, ◌++◌, ℕ, List, [], ◌∷◌, length, Result}
use Rattle.someip_node_rules.specs.declared.error.NodeError.{NodeError}
use Rattle.someip_node_rules.specs.declared.output.Output.{Output}
use Rattle.someip_world_schedule.specs.declared.step.Step.{Step}
use Rattle.someip_world_setup.specs.GoodSetups.{IsGoodNetwork, Network}
use Rattle.someip_world_setup.specs.declared.setup_node.SetupNode.{SetupNode}
use Rattle.someip_world_rules.specs.Announced.{FitNodes}
use Rattle.someip_world_rules.specs.Runs.{told_lines}
use Rattle.someip_world_rules.specs.declared.line.Line.{Line}
use Rattle.someip_world_rules.specs.declared.reuse.Reuse.{Reuse}
use Rattle.someip_world_rules.specs.exchanges.CleanReuse.{IsVerdictOn}
use Rattle.someip_world_rules.specs.WorkedTrace.{AreNamed}

-- the nodes of a network that a setup may hold are a and b
pub record IsOfTwo (network : Network) : Type 0 where
  pub good : IsGoodNetwork network
  pub fits : FitNodes network.nodes
  pub first : SetupNode
  pub second : SetupNode
  pub are : network.nodes ≡ first ∷ second ∷ []
  pub named : AreNamed first second

-- the verdict on some steps, where these lines are told before the last of them tells what its node gives
abbrev pub IsVerdictThen : List SetupNode → List Step → List Line → Reuse → Type 0
IsVerdictThen nodes steps lines verdict =
    (place : ℕ) (given : Result (List Output) NodeError) → IsVerdictOn nodes steps (lines ++ told_lines (length steps) place given) verdict
