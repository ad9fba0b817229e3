-- What the functions of a run do at a node.
use Rattle.std.specs.Prelude.{◌≡◌, ℕ, true, false, nat_lt, List, ◌++◌, length, Result, Ok, Err}
use Rattle.std.specs.Global.{Vec}
use Rattle.someip_node_rules.specs.declared.config.Config.{Config}
use Rattle.someip_node_rules.specs.declared.error.NodeError.{NodeError}
use Rattle.someip_node_rules.specs.declared.error.NodeError.TheVariants as refusals
use Rattle.someip_node_rules.specs.declared.output.Output.{Output}
use Rattle.someip_node_rules.specs.histories.History.{History}
use Rattle.someip_node_rules.specs.rules.Plans.{Work}
use Rattle.someip_node_rules.specs.steps.Steps.{NodeView, StandsFor}
use Rattle.someip_world.specs.declared.performing.StepError.{StepError}
use Rattle.someip_world.specs.declared.performing.StepError.TheVariants.{Bad, Refused, OutOfMemory}
use Rattle.someip_world_rules.specs.declared.error.RunError.{RunError}
use Rattle.someip_world_rules.specs.declared.error.RunError.TheVariants as errors
use Rattle.someip_world_rules.specs.declared.line.Line.{Line}
use Rattle.someip_world_rules.specs.declared.step_fault.StepFault.{StepFault}
use Rattle.someip_world_rules.specs.declared.step_fault.StepFault.TheVariants.{PayloadTooLong}
use Rattle.someip_world_rules.specs.Deeds.{Deed, done_with}
use Rattle.someip_world_rules.specs.Runs.{told_lines}

-- a node's refusal, and out of memory
abbrev pub as_step_error : NodeError → StepError
as_step_error refusals.OutOfMemory = OutOfMemory
as_step_error refusal = Refused refusal

abbrev pub as_given : Result (Vec Output) NodeError → Result (Vec Output) StepError
as_given (Ok outputs) = Ok outputs
as_given (Err error) = Err (as_step_error error)

-- a node gives what is due and stands for the history then, or refuses as is due and is as it was, or memory ran out
abbrev pub Does : History → Result (Work History) NodeError → Result (Vec Output) StepError → NodeView → Type 0
Does h (Ok done) (Ok outputs) new = (outputs.items ≡ done.outputs) × StandsFor new done.state
Does h (Err refusal) (Err (Refused told)) new = (told ≡ refusal) × StandsFor new h
Does h due (Err OutOfMemory) new = Unit {0}
Does h due result new = ⊥

-- a node does what a step says, or the step is bad
abbrev pub Performs : History → Result Deed StepFault → Result (Vec Output) StepError → NodeView → Type 0
Performs h (Ok deed) result new = Does h (done_with h deed) result new
Performs h (Err fault) (Err (Bad told)) new = told ≡ fault
Performs h (Err fault) result new = ⊥

-- a payload's bytes are given unless it is longer than a message may be
abbrev pub Lends : Config → List ℕ → Result (List ℕ) StepError → Type 0
Lends config payload (Ok bytes) = (bytes ≡ payload) × (nat_lt config.common.message_limit (length payload) ≡ false)
Lends config payload (Err (Bad PayloadTooLong)) = nat_lt config.common.message_limit (length payload) ≡ true
Lends config payload (Err OutOfMemory) = nat_lt config.common.message_limit (length payload) ≡ false
Lends config payload result = ⊥

-- what was given in a step is told in lines; the error of a bad step names it
abbrev pub Puts : ℕ → ℕ → Result (Vec Output) StepError → List Line → Result (Unit {0}) RunError → List Line → Type 0
Puts index place (Ok outputs) old (Ok _) new = new ≡ old ++ told_lines index place (Ok outputs.items)
Puts index place (Err (Refused refusal)) old (Ok _) new = new ≡ old ++ told_lines index place (Err refusal)
Puts index place (Err (Bad fault)) old (Err error) new = error ≡ errors.BadStep index fault
Puts index place (Ok outputs) old (Err error) new = error ≡ errors.OutOfMemory
Puts index place (Err (Refused refusal)) old (Err error) new = error ≡ errors.OutOfMemory
Puts index place (Err OutOfMemory) old (Err error) new = error ≡ errors.OutOfMemory
Puts index place given old result new = ⊥
