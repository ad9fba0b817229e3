-- What a call through a handle comes to.
use Rattle.std.specs.Prelude.{◌≡◌, Bool, if◌then◌else◌, ℕ, List, Option, None, Some, IsSomeAnd}
use Rattle.sd_core.specs.declared.eventgroup.Eventgroup.{Eventgroup}
use Rattle.sd_core.specs.declared.keys.InstanceId.{InstanceId}
use Rattle.someip_rpc.specs.declared.call.CallKind.{CallKind}
use Rattle.someip_rpc.specs.declared.call.CallKind.TheVariants.{Request, RequestNoReturn}
use Rattle.someip_rpc.specs.declared.request.Reply.{Reply}
use Rattle.someip_rpc.specs.declared.request.Reply.TheVariants.{Error, Response}
use Rattle.someip_node_rules.specs.histories.History.{History}
use Rattle.someip_node_rules.specs.steps.Steps.{NodeView, StandsFor}
use Rattle.someip_node_rules.specs.steps.Waking.{IsNextDue, NothingIsDue}
use Rattle.someip_c_node.specs.declared.outcome.Outcome.{Outcome}
use Rattle.someip_c_node.specs.declared.outcome.Outcome.TheVariants.{Closed, Done, Held, NothingDue}
use Rattle.someip_c_node.specs.Calls.{CNodeView}
use Rattle.someip_c_node.specs.Outcomes.{number_of, outcome_of}
use Rattle.someip_c_node.specs.Starts.{IsNotStarted, IsStarted}

-- ---- arguments by their numbers

abbrev pub instance_of : ℕ → ℕ → InstanceId
instance_of service instance = record { service = service; instance = instance }

abbrev pub group_of : ℕ → ℕ → ℕ → Eventgroup
group_of service instance id = record { instance = instance_of service instance; id = id }

abbrev pub call_kind : Bool → CallKind
call_kind waits = if waits then Request else RequestNoReturn

abbrev pub reply_of : Bool → ℕ → Reply
reply_of is_error code = if is_error then Error (record { 0 = code }) else Response (record { 0 = code })

-- ---- calls

-- a number tells an outcome of which this holds
abbrev pub Tells : ℕ → (Outcome → Type 0) → Type 0
Tells number P = IsSomeAnd (outcome_of number) P

-- a handle without a node refuses a call; else the number tells what the call came to
abbrev pub OnNode : Option CNodeView → (CNodeView → Outcome → CNodeView → Type 0) → ℕ → Option CNodeView → Type 0
OnNode None does number new = (number ≡ number_of Closed) × (new ≡ None)
OnNode (Some old) does number new = Tells number (λ outcome. IsSomeAnd new (does old outcome))

-- when the clock alone next gives something. The number of milliseconds stays as it is where nothing is due
abbrev pub IsDue : NodeView → ℕ → Outcome → ℕ → Type 0
IsDue node before Done due = (h : History) → StandsFor node h → IsNextDue h due
IsDue node before NothingDue due = ((h : History) → StandsFor node h → NothingIsDue h) × (due ≡ before)
IsDue node before outcome due = ⊥

-- asking so changes nothing, and a node that failed has nothing due
abbrev pub Asks : ℕ → ℕ → CNodeView → Outcome → CNodeView → Type 0
Asks before due old outcome new = (new ≡ old) × (IsDue old.node before outcome due × (old.node.tables ≡ None → outcome ≡ NothingDue))

-- a start: a handle with a node refuses it, and keeps that node. Else it has the new node, or none
abbrev pub StartsTo : List ℕ → List ℕ → ℕ → Outcome → Option CNodeView → Type 0
StartsTo text name delay Done new = IsSomeAnd new (IsStarted text name delay)
StartsTo text name delay outcome new = IsNotStarted text name delay outcome × (new ≡ None)

abbrev pub Starts : Option CNodeView → List ℕ → List ℕ → ℕ → ℕ → Option CNodeView → Type 0
Starts None text name delay number new = Tells number (λ outcome. StartsTo text name delay outcome new)
Starts (Some old) text name delay number new = (number ≡ number_of Held) × (new ≡ Some old)

-- the end of a node: the handle has none then
abbrev pub Closes : Option CNodeView → ℕ → Type 0
Closes None number = number ≡ number_of Closed
Closes (Some old) number = number ≡ number_of Done
