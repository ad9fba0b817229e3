-- From what a node gives to what its call comes to.
use Rattle.std.proofs.Common.{◌≡◌, ◌∙◌, refl, sym, ap, subst, List, []}
use Rattle.std.specs.Prelude.{◌≢◌, Option, Some, Result, Ok, Err}
use Rattle.std.specs.Option.{option_map_or}
use Rattle.std.specs.Global.{Vec}
use Rattle.someip_node_rules.specs.declared.error.NodeError.{NodeError}
use Rattle.someip_node_rules.specs.declared.error.NodeError.TheVariants as error
use Rattle.someip_node_rules.specs.declared.output.Output.{Output}
use Rattle.someip_node_rules.specs.histories.History.{History}
use Rattle.someip_node_rules.specs.rules.Inputs.{Input}
use Rattle.someip_node_rules.specs.rules.Plans.{Work}
use Rattle.someip_node_rules.specs.steps.Steps.{GivesStep, NodeView, Reacts, StaysFailed, step}
use Rattle.someip_c_node.specs.declared.outcome.Outcome.{Outcome}
use Rattle.someip_c_node.specs.declared.outcome.Outcome.TheVariants.{Done, Failed, OutOfMemory, OutputsWait}
use Rattle.someip_c_node.specs.Calls.{CNodeView, Calls, ComesTo, Keeps}
use Rattle.someip_c_node.specs.Outcomes.{refusal_outcome}

abbrev at : NodeView → List Output → CNodeView
at node waiting = record { node = node; waiting = waiting }

-- what an error is told as, if that is known
told_by : {is : Option Outcome} {known told : Outcome} → is ≡ Some told → is ≡ Some known → known ≡ told
told_by of is = ap (λ o. option_map_or (λ x. x) o Done) (sym is ∙ of)

-- ---- what a step comes to

comes : (h : History) (given-in : Result (Work History) NodeError) (given : Result (Vec Output) NodeError) (node : NodeView) (outcome : Outcome) (new : CNodeView)
    → Keeps given (at node []) outcome new → GivesStep h given-in given node → ComesTo h given-in outcome new
comes h (Ok done) (Ok outputs) node outcome new keeps gives =
    subst (λ o. ComesTo h (Ok done) o new) (sym keeps.0) (subst (λ v. ComesTo h (Ok done) Done v) (sym keeps.1) gives)
comes h (Ok done) (Err error) node outcome new keeps gives =
    subst (λ o. ComesTo h (Ok done) o new) (told_by keeps.0 (ap refusal_outcome gives.0)) (subst (λ v. ComesTo h (Ok done) OutOfMemory v) (sym keeps.1) (refl, gives.1))
comes h (Err refusal) (Ok outputs) node outcome new keeps gives = absurd gives
comes h (Err refusal) (Err error) node outcome new keeps gives =
    subst (λ v. ComesTo h (Err refusal) outcome v) (sym keeps.1) (sym (ap refusal_outcome gives.0) ∙ keeps.0, refl, gives.1)

-- a node that failed answers that, and stays so
fails : (old : CNodeView) (given : Result (Vec Output) NodeError) (node : NodeView) (outcome : Outcome) (new : CNodeView)
    → Keeps given (at node old.waiting) outcome new → given ≡ Err error.Failed → node ≡ old.node → (outcome ≡ Failed) × (new ≡ old)
fails old given node outcome new keeps is same =
    let told = subst (λ g. Keeps g (at node old.waiting) outcome new) is keeps in
    (sym (told_by told.0 refl), told.1 ∙ ap (λ n. at n old.waiting) same)

-- ---- calls

-- while outputs wait a call is refused
pub waited : (input : Input) (old : CNodeView) → old.waiting ≢ [] → Calls input old OutputsWait old
waited input old some = ((λ _. (refl, refl)), ((λ none. absurd (some none)), (λ none. absurd (some none))))

-- else the node takes the input, and what it gives is kept
pub called : (input : Input) (old : CNodeView) (given : Result (Vec Output) NodeError) (node : NodeView) (outcome : Outcome) (new : CNodeView)
    → old.waiting ≡ [] → Reacts old.node input given node → StaysFailed old.node given node → Keeps given (at node old.waiting) outcome new → Calls input old outcome new
called input old given node outcome new none reacts failed keeps = (
  (λ some. absurd (some none)),
  (
    (λ _ without. fails old given node outcome new keeps (failed without).0 (failed without).1),
    (λ _ h stands. comes h (step h input) given node outcome new (subst (λ w. Keeps given (at node w) outcome new) none keeps) (reacts h stands)),
  ),
)

-- ---- memory

abbrev IsDone : Outcome → Type 0
IsDone Done = Unit {0}
IsDone _ = ⊥

abbrev IsWaiting : Outcome → Type 0
IsWaiting OutputsWait = Unit {0}
IsWaiting _ = ⊥

done≢oom : Done ≢ OutOfMemory
done≢oom e = subst IsDone e tt

waits≢oom : OutputsWait ≢ OutOfMemory
waits≢oom e = subst IsWaiting e tt
