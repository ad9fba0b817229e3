-- By which inputs the application's rules and the clock's are brought about, and by which rules a message is answered.
use Rattle.std.proofs.Common.{◌≡◌, inl, inr, ℕ, Bool, true, false, List, refl, sym, subst}
use Rattle.someip_rpc.specs.declared.request.Reply.{Reply}
use Rattle.someip_node_rules.specs.trails.Bringing.{Brings, WasDone}
use Rattle.someip_node_rules.specs.histories.History.{History}
use Rattle.someip_node_rules.specs.rules.Inputs as inputs
use Rattle.someip_node_rules.specs.rules.Inputs.{Input}
use Rattle.someip_node_rules.specs.trails.Meanings.{GivenBy}
use Rattle.someip_node_rules.specs.forms.Outputs.{Given}
use Rattle.someip_node_rules.specs.rules.Plans as plans
use Rattle.someip_node_rules.specs.rules.Plans.{Rule}
use Rattle.someip_node_rules.specs.histories.Tables.{Tables}
use Rattle.someip_node_rules.specs.trails.Trails.{Done}

-- ---- the kinds of inputs

abbrev pub is_call : Input → Bool
is_call (inputs.Call kind instance method payload) = true
is_call input = false

abbrev pub is_answer : Input → Bool
is_answer (inputs.Answer token reply payload) = true
is_answer input = false

-- an event is published, to all or to one endpoint
abbrev pub is_publication : Input → Bool
is_publication (inputs.Publish instance event payload) = true
is_publication (inputs.PublishTo instance eventgroup endpoint event payload) = true
is_publication input = false

abbrev pub is_tick : Input → Bool
is_tick (inputs.Tick ms) = true
is_tick input = false

-- ---- the rules that one input alone brings about

-- the clock's rule comes of a tick, and those of the application of what it asks
abbrev pub AskedBy : Rule → Input → Type 0
AskedBy (plans.Ticks ms) input = input ≡ inputs.Tick ms
AskedBy (plans.Calls kind instance method payload) input = input ≡ inputs.Call kind instance method payload
AskedBy (plans.Answers token reply payload) input = input ≡ inputs.Answer token reply payload
AskedBy (plans.Publishes instance event payload) input = input ≡ inputs.Publish instance event payload
AskedBy (plans.PublishesTo instance endpoint event payload) input =
    (eventgroup : ℕ) × (input ≡ inputs.PublishTo instance eventgroup endpoint event payload)
AskedBy r input = Unit {0}

module _ (h : History) (earlier : List Done) where
  -- each rule that an input brings about was asked by it
  pub asked_by : (input : Input) (r : Rule) → Brings h input r earlier → AskedBy r input
  asked_by (inputs.Datagram from to bytes) (plans.Ticks ms) brings = absurd brings.1
  asked_by (inputs.Datagram from to bytes) (plans.Calls kind instance method payload) brings = absurd brings.1
  asked_by (inputs.Datagram from to bytes) (plans.Answers token reply payload) brings = absurd brings.1
  asked_by (inputs.Datagram from to bytes) (plans.Publishes instance event payload) brings = absurd brings.1
  asked_by (inputs.Datagram from to bytes) (plans.PublishesTo instance endpoint event payload) brings = absurd brings.1
  asked_by (inputs.Datagram from to bytes) r brings = tt
  asked_by (inputs.Tick ms) r (inl is) = subst (λ x. AskedBy x (inputs.Tick ms)) (sym is.0) refl
  asked_by (inputs.Tick ms) r (inr is) = subst (λ x. AskedBy x (inputs.Tick ms)) (sym is.1) tt
  asked_by (inputs.Call kind instance method payload) r brings = subst (λ x. AskedBy x (inputs.Call kind instance method payload)) (sym brings.0) refl
  asked_by (inputs.Answer token reply payload) r brings = subst (λ x. AskedBy x (inputs.Answer token reply payload)) (sym brings.0) refl
  asked_by (inputs.Publish instance event payload) r brings = subst (λ x. AskedBy x (inputs.Publish instance event payload)) (sym brings.0) refl
  asked_by (inputs.PublishTo instance eventgroup endpoint event payload) r brings =
      subst (λ x. AskedBy x (inputs.PublishTo instance eventgroup endpoint event payload)) (sym brings.0) (eventgroup, refl)
  asked_by (inputs.Subscribe eventgroup) r (inl is) = subst (λ x. AskedBy x (inputs.Subscribe eventgroup)) (sym is.0) tt
  asked_by (inputs.Subscribe eventgroup) r (inr is) = subst (λ x. AskedBy x (inputs.Subscribe eventgroup)) (sym is.2) tt
  asked_by (inputs.Unsubscribe eventgroup) r (inl is) = subst (λ x. AskedBy x (inputs.Unsubscribe eventgroup)) (sym is) tt
  asked_by (inputs.Unsubscribe eventgroup) r (inr is) = subst (λ x. AskedBy x (inputs.Unsubscribe eventgroup)) (sym is.2) tt
  asked_by (inputs.StopOffer instance) r (inl is) = subst (λ x. AskedBy x (inputs.StopOffer instance)) (sym is) tt
  asked_by (inputs.StopOffer instance) r (inr is) = subst (λ x. AskedBy x (inputs.StopOffer instance)) (sym is.0) tt

-- ---- answers

module _ (h : History) (input : Input) (Holds : Rule → Tables → Type 0) (by : WasDone h input Holds) where
  -- a rule that was done in a step was asked by the input of the step
  pub done_asked : AskedBy by.done.by input
  done_asked = asked_by h by.brought.earlier input by.done.by by.brought.brings

module _ (h : History) (given : Given) where
  -- all that is given for an answer is given by the rule that answers
  pub answer_answers : (token : ℕ) (reply : Reply) (payload : List ℕ) (by : GivenBy h (inputs.Answer token reply payload) given)
      → by.done.by ≡ plans.Answers token reply payload
  answer_answers token reply payload by = by.brought.brings.0

  -- and by that rule nothing is given but for that answer
  pub answers_answer : (input : Input) (by : GivenBy h input given) (token : ℕ) (reply : Reply) (payload : List ℕ)
      → by.done.by ≡ plans.Answers token reply payload → input ≡ inputs.Answer token reply payload
  answers_answer input by token reply payload is = subst (λ r. AskedBy r input) is (done_asked h input _ by)

  -- so for no other input is anything given by it
  pub no_answer_answers : (input : Input) → is_answer input ≡ false → (by : GivenBy h input given) (token : ℕ) (reply : Reply) (payload : List ℕ)
      → by.done.by ≡ plans.Answers token reply payload → ⊥
  no_answer_answers input other by token reply payload is =
      let answers = subst (λ x. is_answer x ≡ false) (answers_answer input by token reply payload is) other in absurd cc
