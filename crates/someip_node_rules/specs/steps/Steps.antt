-- What a node gives for an input, by its history.
use Rattle.std.specs.Prelude.{◌≡◌, ◌≢◌, List, [], Option, None, Some, Result, Ok, Err}
use Rattle.std.specs.Global.{Vec}
use Rattle.someip_node_rules.specs.declared.config.Config.{Config}
use Rattle.someip_node_rules.specs.declared.error.NodeError.{NodeError}
use Rattle.someip_node_rules.specs.declared.error.NodeError.TheVariants.{Failed, OutOfMemory}
use Rattle.someip_node_rules.specs.declared.output.Output.{Output}
use Rattle.someip_node_rules.specs.histories.History.{History, answers_of, historic}
use Rattle.someip_node_rules.specs.rules.Inputs.{Input, plan_of, refusal_of}
use Rattle.someip_node_rules.specs.rules.Plans.{Plan, Work, run}
use Rattle.someip_node_rules.specs.histories.Tables.{Tables}

-- a node as its callers see it: one that failed has no tables
pub record NodeView : Type 0 where
  pub config : Config
  pub tables : Option Tables

-- its tables are the answers to a history
abbrev pub StandsFor : NodeView → History → Type 0
StandsFor node h = node ≡ record { config = h.config; tables = Some (answers_of h) }

-- it has failed, and has its configuration still
abbrev pub HasFailed : NodeView → History → Type 0
HasFailed node h = node ≡ record { config = h.config; tables = None }

-- nothing was given yet
abbrev pub work_on : History → Work History
work_on h = record { state = h; outputs = []; replies = [] }

-- what is done with an input unless it is refused, and the history with it
abbrev pub unless_refused : Option NodeError → Plan → History → Result (Work History) NodeError
unless_refused (Some refusal) plan h = Err refusal
unless_refused None plan h = Ok (run historic plan (work_on h))

-- the step of an input, by the node's history: what it gives and the history after it, or why the input is refused
abbrev pub step : History → Input → Result (Work History) NodeError
step h input = unless_refused (refusal_of input (answers_of h)) (plan_of input) h

-- what was given, without what was met
abbrev pub given_in : Result (Work History) NodeError → Result (List Output) NodeError
given_in (Ok done) = Ok done.outputs
given_in (Err refusal) = Err refusal

-- What a call gives, and what the node then stands for. An input that is refused is answered by its refusal, and the node
-- is as it was. Any other is done, or memory ran out, and the node has failed
abbrev pub GivesStep : History → Result (Work History) NodeError → Result (Vec Output) NodeError → NodeView → Type 0
GivesStep h (Ok done) (Ok outputs) new = (outputs.items ≡ done.outputs) × StandsFor new done.state
GivesStep h (Ok done) (Err error) new = (error ≡ OutOfMemory) × HasFailed new h
GivesStep h (Err refusal) (Ok outputs) new = ⊥
GivesStep h (Err refusal) (Err error) new = (error ≡ refusal) × StandsFor new h

-- a node takes an input
abbrev pub Reacts : NodeView → Input → Result (Vec Output) NodeError → NodeView → Type 0
Reacts old input result new = (h : History) → StandsFor old h → GivesStep h (step h input) result new

-- a node that failed answers that, and stays so
abbrev pub StaysFailed : NodeView → Result (Vec Output) NodeError → NodeView → Type 0
StaysFailed old result new = old.tables ≡ None → (result ≡ Err Failed) × (new ≡ old)

-- where an input that is not refused gives nothing, memory does not run out
abbrev pub TakesNoMemory : NodeView → Input → Result (Vec Output) NodeError → Type 0
TakesNoMemory old input result = (h : History) (done : Work History) → StandsFor old h → step h input ≡ Ok done → done.outputs ≡ [] → result ≢ Err OutOfMemory
