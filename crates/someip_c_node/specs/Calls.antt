-- What the calls of a node come to, whose outputs are taken one after the other.
use Rattle.std.specs.Prelude.{◌≡◌, ◌≢◌, ◌≤◌, ◌<◌, ◌++◌, true, false, ℕ, List, [], ◌∷◌, length, drop, None, Some, Result, Ok, Err}
use Rattle.std.specs.Global.{Vec}
use Rattle.someip_node_rules.specs.declared.error.NodeError.{NodeError}
use Rattle.someip_node_rules.specs.declared.output.Output.{Output}
use Rattle.someip_node_rules.specs.forms.GoodConfigs.{is_good_delay}
use Rattle.someip_node_rules.specs.histories.History.{History, start_of}
use Rattle.someip_node_rules.specs.rules.Inputs.{Input}
use Rattle.someip_node_rules.specs.rules.Plans.{Work}
use Rattle.someip_node_rules.specs.steps.Steps.{NodeView, StandsFor, HasFailed, step}
use Rattle.someip_c_node.specs.declared.outcome.Outcome.{Outcome}
use Rattle.someip_c_node.specs.declared.outcome.Outcome.TheVariants.{BadDelay, Done, OutputsWait, NothingLeft, BufferTooSmall, Failed, OutOfMemory}
use Rattle.someip_c_node.specs.declared.record.OutputRecord.{OutputRecord}
use Rattle.someip_c_node.specs.Outcomes.{refusal_outcome}
use Rattle.someip_c_node.specs.Records.{payload_of, record_of}

-- a node, and the outputs that were not taken yet
pub record CNodeView : Type 0 where
  pub node : NodeView
  pub waiting : List Output

-- ---- calls that give outputs

-- what a call comes to, by what the step of its input gives: its outputs wait, or the input is refused and the node is as it was. Any other input is done, or memory ran out, and the node has failed
abbrev pub ComesTo : History → Result (Work History) NodeError → Outcome → CNodeView → Type 0
ComesTo h (Ok done) Done new = (new.waiting ≡ done.outputs) × StandsFor new.node done.state
ComesTo h (Ok done) OutOfMemory new = (new.waiting ≡ []) × HasFailed new.node h
ComesTo h (Ok done) outcome new = ⊥
ComesTo h (Err refusal) outcome new = (refusal_outcome refusal ≡ Some outcome) × (new.waiting ≡ []) × StandsFor new.node h

-- while outputs wait a call is refused, and changes nothing
abbrev pub WaitsFirst : CNodeView → Outcome → CNodeView → Type 0
WaitsFirst old outcome new = old.waiting ≢ [] → (outcome ≡ OutputsWait) × (new ≡ old)

-- a node that failed answers that, and stays so
abbrev pub FailsAgain : CNodeView → Outcome → CNodeView → Type 0
FailsAgain old outcome new = old.waiting ≡ [] → old.node.tables ≡ None → (outcome ≡ Failed) × (new ≡ old)

-- else the node takes the input
abbrev pub TakesInput : Input → CNodeView → Outcome → CNodeView → Type 0
TakesInput input old outcome new = old.waiting ≡ [] → (h : History) → StandsFor old.node h → ComesTo h (step h input) outcome new

-- a call with an input
abbrev pub Calls : Input → CNodeView → Outcome → CNodeView → Type 0
Calls input old outcome new = WaitsFirst old outcome new × (FailsAgain old outcome new × TakesInput input old outcome new)

-- where an input that is not refused gives nothing, memory does not run out
abbrev pub NeedsNoMemory : Input → CNodeView → Outcome → Type 0
NeedsNoMemory input old outcome =
    (h : History) (done : Work History) → StandsFor old.node h → step h input ≡ Ok done → done.outputs ≡ [] → outcome ≢ OutOfMemory

-- what a node gave waits, or its refusal is told
abbrev pub Keeps : Result (Vec Output) NodeError → CNodeView → Outcome → CNodeView → Type 0
Keeps (Ok outputs) old outcome new = (outcome ≡ Done) × (new ≡ record { node = old.node; waiting = outputs.items })
Keeps (Err error) old outcome new = (refusal_outcome error ≡ Some outcome) × (new ≡ old)

-- ---- taking an output

-- an output that fits is taken: its record is told, its bytes stand at the front of the buffer, and it waits no longer. One that does not fit is told, and waits on
abbrev pub TakesFirst : Output → List Output → NodeView → List ℕ → Outcome → CNodeView → OutputRecord → List ℕ → Type 0
TakesFirst output rest node space outcome new told bytes =
    (told ≡ record_of output)
    × ((length (payload_of output) ≤ length space → (outcome ≡ Done) × ((new ≡ record { node = node; waiting = rest }) × (bytes ≡ payload_of output ++ drop (length (payload_of output)) space)))
    × (length space < length (payload_of output) → (outcome ≡ BufferTooSmall) × ((new ≡ record { node = node; waiting = output ∷ rest }) × (bytes ≡ space))))

-- what taking comes to: with no outputs nothing changes
abbrev pub TakesOf : List Output → CNodeView → OutputRecord → List ℕ → Outcome → CNodeView → OutputRecord → List ℕ → Type 0
TakesOf [] old record' space outcome new told bytes = (outcome ≡ NothingLeft) × ((new ≡ old) × ((told ≡ record') × (bytes ≡ space)))
TakesOf (output ∷ rest) old record' space outcome new told bytes = TakesFirst output rest old.node space outcome new told bytes

-- taking an output of a node: the first that waits is taken where its bytes fit, and waits on where they do not;
-- where none waits nothing changes
abbrev pub Takes : CNodeView → OutputRecord → List ℕ → Outcome → CNodeView → OutputRecord → List ℕ → Type 0
Takes old = TakesOf old.waiting old

-- ---- restarts

-- the node's life begins anew, or the delay is outside the range that the configuration gives, and nothing changes
abbrev pub RestartsTo : ℕ → CNodeView → Outcome → CNodeView → Type 0
RestartsTo delay old Done new = (is_good_delay old.node.config delay ≡ true) × ((new.waiting ≡ []) × StandsFor new.node (start_of old.node.config delay))
RestartsTo delay old BadDelay new = (is_good_delay old.node.config delay ≡ false) × (new ≡ old)
RestartsTo delay old outcome new = ⊥

-- a restart of a node: while outputs wait it is refused, and else its life begins anew, if the delay is good
abbrev pub Restarts : ℕ → CNodeView → Outcome → CNodeView → Type 0
Restarts delay old outcome new = WaitsFirst old outcome new × (old.waiting ≡ [] → RestartsTo delay old outcome new)
