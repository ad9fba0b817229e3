-- What is done in a step of a run is what its node does there with its input.
use Rattle.std.proofs.Common.{◌≡◌, ℕ, List, Err, sym, ◌∙◌}
use Rattle.someip_node_rules.specs.declared.config.Config.{Config}
use Rattle.someip_node_rules.specs.declared.error.NodeError.{NodeError}
use Rattle.someip_node_rules.specs.rules.Inputs.{Input}
use Rattle.someip_node_rules.specs.steps.Steps.{step}
use Rattle.someip_node_rules.specs.trails.Trails.{met_by, trail_of}
use Rattle.someip_world_schedule.specs.declared.step.Step.{Step}
use Rattle.someip_world_setup.specs.declared.setup_node.SetupNode.{SetupNode}
use Rattle.someip_world_rules.specs.Deeds.{Takes}
use Rattle.someip_world_rules.specs.Deliveries.{Does, Restarted}
use Rattle.someip_world_rules.specs.Turns.{Turn}
use Rattle.someip_world_rules.proofs.Deliverings.{one_turn}
use Rattle.someip_world_rules.proofs.Lives.{not_restarted}

module _ (nodes : List SetupNode) (configs : List Config) (ss : List Step) (n : ℕ) (s : Step) (t : Turn nodes configs ss n s) where
  -- it is done at the place of the step
  pub same_place : (does : Does nodes configs ss n) → does.turn.place ≡ t.place
  same_place does = let one = one_turn nodes configs ss n s t does.step does.turn in sym one.place

  -- by the node with this history
  pub same_history : (does : Does nodes configs ss n) → does.turn.history ≡ t.history
  same_history does = let one = one_turn nodes configs ss n s t does.step does.turn in sym one.history

  module _ (input : Input) (takes : t.deed ≡ Takes input) where
    -- a step that takes an input starts no node again
    pub takes_no_restart : Restarted nodes configs ss n t.place → ⊥
    takes_no_restart = not_restarted nodes configs ss n t.place s t (λ at delay restarts. absurd cc)

    -- it is done with this input
    pub same_input : (does : Does nodes configs ss n) → does.input ≡ input
    same_input does =
        let one = one_turn nodes configs ss n s t does.step does.turn in
        let inputs_are : Takes does.input ≡ Takes input = sym does.takes ∙ sym one.deed ∙ takes in
        cc

    -- so the rules of the step meet the same
    pub same_met : (does : Does nodes configs ss n) → met_by (trail_of does.turn.history does.input) ≡ met_by (trail_of t.history input)
    same_met does = λ i. met_by (trail_of (same_history does i) (same_input does i))

    -- and with a refused input nothing is done
    pub not_refused : (refusal : NodeError) → step t.history input ≡ Err refusal → Does nodes configs ss n → ⊥
    not_refused refusal refused does = let e = sym refused ∙ (λ i. step (sym (same_history does) i) (sym (same_input does) i)) ∙ does.happened in absurd cc
