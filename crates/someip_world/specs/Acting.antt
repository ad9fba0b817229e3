-- Who acts at the places of a setup, and what is done there.
use Rattle.std.specs.Prelude.{◌≡◌, ℕ, Bool, true, false, List, [], ◌∷◌, Some, Result, Ok, Err}
use Rattle.std.specs.Global.{Vec}
use Rattle.std.specs.declared.net.ipv4_addr.Ipv4Addr.{Ipv4Addr}
use Rattle.someip_node_rules.specs.declared.config.Config.{Config}
use Rattle.someip_node_rules.specs.declared.error.NodeError.{NodeError}
use Rattle.someip_node_rules.specs.declared.output.Output.{Output}
use Rattle.someip_node_rules.specs.declared.output.Output.TheVariants.{Sent}
use Rattle.someip_node_rules.specs.histories.History.{History, answers_of, start_of}
use Rattle.someip_node_rules.specs.rules.Plans.{Work}
use Rattle.someip_node_rules.specs.steps.Steps.{NodeView}
use Rattle.someip_world.specs.declared.actor.Actor.{Actor}
use Rattle.someip_world.specs.declared.actor.Actor.TheVariants.{Node, Liar}
use Rattle.someip_world.specs.declared.performing.StepError.{StepError}
use Rattle.someip_world.specs.declared.performing.StepError.TheVariants.{Bad, Refused, OutOfMemory}
use Rattle.someip_world_rules.specs.declared.step_fault.StepFault.{StepFault}
use Rattle.someip_world_rules.specs.Deeds.{Deed, Injects, done_with}
use Rattle.someip_world_setup.specs.declared.setup_node.SetupNode.{SetupNode}

-- a node that stands for a history, as its callers see it
abbrev pub view_of : History → NodeView
view_of h = record { config = h.config; tables = Some (answers_of h) }

-- what acts at a place: a node with a configuration, or the liar of an address
pub data Role : Type 0 where
  NodeOf : Config → Role
  LiarAt : Ipv4Addr → Role

-- that of a node or a liar of a configuration
abbrev pub role_with : Bool → Config → Role
role_with true config = LiarAt config.address
role_with false config = NodeOf config

-- (the nodes are generic over the store of messages that came in part, and nothing here looks at that)
module _ {R : Type 0} where
  -- who acts at a place with a history: a node that stands for it, or the liar of that address
  abbrev pub actor_of : Bool → History → Actor R
  actor_of true h = Liar h.config.address
  actor_of false h = Node (view_of h)

  -- those at all places
  abbrev pub actors_of : List SetupNode → List History → List (Actor R)
  actors_of (n ∷ nodes) (h ∷ hs) = actor_of n.is_liar h ∷ actors_of nodes hs
  actors_of [] (h ∷ hs) = actor_of false h ∷ actors_of [] hs
  actors_of nodes [] = []

  -- what acts at a place, whatever it met
  abbrev pub role_of : Actor R → Role
  role_of (Node view) = NodeOf view.config
  role_of (Liar address) = LiarAt address

  -- it begins again: a node with a delay
  abbrev pub again : ℕ → Actor R → Actor R
  again delay (Node view) = Node (view_of (start_of view.config delay))
  again delay (Liar address) = Liar address

  -- what is due is given, and the actor is that of the history then; or it refuses as is due and is as it was, or memory ran out
  abbrev pub Did : Bool → History → Result (Work History) NodeError → Result (Vec Output) StepError → Actor R → Type 0
  Did liar h (Ok done) (Ok outputs) new = (outputs.items ≡ done.outputs) × (new ≡ actor_of liar done.state)
  Did liar h (Err refusal) (Err (Refused told)) new = (told ≡ refusal) × (new ≡ actor_of liar h)
  Did liar h due (Err OutOfMemory) new = Unit {0}
  Did liar h due result new = ⊥

  -- the actor does what a step says, or the step is bad
  abbrev pub Acts : Bool → History → Result Deed StepFault → Result (Vec Output) StepError → Actor R → Type 0
  Acts liar h (Ok deed) result new = Did liar h (done_with h deed) result new
  Acts liar h (Err fault) (Err (Bad told)) new = told ≡ fault
  Acts liar h (Err fault) result new = ⊥

-- a liar sends what is due, or the step is bad, or memory ran out
abbrev pub Lies : Result Deed StepFault → Result (Vec Output) StepError → Type 0
Lies (Ok (Injects from to bytes)) (Ok outputs) = outputs.items ≡ Sent from to bytes ∷ []
Lies (Ok (Injects from to bytes)) (Err OutOfMemory) = Unit {0}
Lies (Err fault) (Err (Bad told)) = told ≡ fault
Lies due result = ⊥
