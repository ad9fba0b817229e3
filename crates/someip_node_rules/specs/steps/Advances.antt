-- Histories that steps lead to.
use Rattle.std.specs.Prelude.{List, [], ◌∷◌, Result, Ok, Err}
use Rattle.someip_node_rules.specs.declared.error.NodeError.{NodeError}
use Rattle.someip_node_rules.specs.histories.History.{History}
use Rattle.someip_node_rules.specs.rules.Inputs.{Input}
use Rattle.someip_node_rules.specs.rules.Plans.{Work}
use Rattle.someip_node_rules.specs.steps.Steps.{step}

-- the history after a step: what was met in it is met, and a refused input leaves the history
abbrev pub stepped : History → Result (Work History) NodeError → History
stepped h (Ok done) = done.state
stepped h (Err refusal) = h

-- the history after some inputs, one step after the other; the list has the newest first
abbrev pub after_inputs : History → List Input → History
after_inputs start [] = start
after_inputs start (input ∷ earlier) = stepped (after_inputs start earlier) (step (after_inputs start earlier) input)
