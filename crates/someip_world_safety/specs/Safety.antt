-- What is safe in a run: what is handed up in a step, the lines that tell of it, what is published, and the offers that nodes know.
use Rattle.std.specs.Prelude.{◌≡◌, ◌<◌, ◌≤◌, ℕ, suc, List, length, take, Ok}
use Rattle.std.specs.List.{Contains}
use Rattle.std.specs.declared.net.socket_addr.SocketAddrV4.{SocketAddrV4}
use Rattle.someip_wire.specs.declared.header.ReturnCode.{ReturnCode}
use Rattle.sd_core.specs.declared.eventgroup.Eventgroup.{Eventgroup}
use Rattle.sd_core.specs.declared.keys.InstanceId.{InstanceId}
use Rattle.someip_rpc.specs.declared.ids.MessageId.{MessageId}
use Rattle.someip_node_rules.specs.declared.config.Config.{Config}
use Rattle.someip_node_rules.specs.declared.output.Output.{Output}
use Rattle.someip_node_rules.specs.declared.output.Output.TheVariants.{Answered, Event, Subscribed}
use Rattle.someip_node_rules.specs.rules.Inputs.{Publish, PublishTo}
use Rattle.someip_node_laws.specs.Published.{IsPublished, IsPublishedTo}
use Rattle.someip_world_schedule.specs.declared.step.Step.{Step}
use Rattle.someip_world_setup.specs.declared.setup_node.SetupNode.{SetupNode}
use Rattle.someip_world_rules.specs.Announced.{KnowsAsConfigured, KnowsHonestAsConfigured}
use Rattle.someip_world_rules.specs.Deliveries.{Does}
use Rattle.someip_world_rules.specs.Liars.{IsFromLiar}
use Rattle.someip_world_rules.specs.Runs.{AreCopies, World, run_of}
use Rattle.someip_world_rules.specs.declared.line.Line.{Line}
use Rattle.someip_world_rules.specs.declared.line.Told.TheVariants.{Gave}
use Rattle.someip_world_rules.specs.declared.reuse.Reuse.{Reuse}
use Rattle.someip_world_rules.specs.declared.reuse.Reuse.TheVariants.{Broken, Clean}
use Rattle.someip_world_rules.specs.Turns.{LeadTo}
use Rattle.someip_world_safety.specs.Answers.{IsSafeAnswer}
use Rattle.someip_world_safety.specs.Events.{IsSafeEvent}
use Rattle.someip_world_safety.specs.Subscriptions.{HonestSubscriptionsAreSafe, IsSafelyAcknowledged, SubscriptionsAreSafe}

module _ (nodes : List SetupNode) (configs : List Config) (steps : List Step) where
  -- each answer that a step hands up is safe
  abbrev pub AnswersAreSafe : ℕ → Type 0
  AnswersAreSafe n =
      (does : Does nodes configs steps n) (message : MessageId) (session : ℕ) (code : ReturnCode) (payload : List ℕ)
      → Contains does.done.outputs (Answered message session code payload) → IsSafeAnswer nodes configs steps n message session code payload

  -- each event that a step hands up is safe
  abbrev pub EventsAreSafe : ℕ → Type 0
  EventsAreSafe n =
      (does : Does nodes configs steps n) (instance : InstanceId) (event : ℕ) (payload : List ℕ)
      → Contains does.done.outputs (Event instance event payload) → IsSafeEvent nodes configs steps n instance event payload

  -- each subscription that a client tells of in a step, as it was acknowledged there, is safe
  abbrev pub AcknowledgedAreSafe : ℕ → Type 0
  AcknowledgedAreSafe n =
      (does : Does nodes configs steps n) (eventgroup : Eventgroup) (counter : ℕ)
      → Contains does.done.outputs (Subscribed eventgroup counter) → IsSafelyAcknowledged nodes configs steps n eventgroup counter

  -- an event that a step publishes goes once to each endpoint that is then live for one of its eventgroups, and to no other
  abbrev pub PublishesToAll : ℕ → Type 0
  PublishesToAll i =
      (does : Does nodes configs steps i) (instance : InstanceId) (event : ℕ) (payload : List ℕ) → does.input ≡ Publish instance event payload
      → IsPublished does.turn.history instance event payload does.done

  -- an event that a step publishes to one endpoint goes once to that, which is then live for the named eventgroup of the event
  abbrev pub PublishesToOne : ℕ → Type 0
  PublishesToOne i =
      (does : Does nodes configs steps i) (instance : InstanceId) (eventgroup : ℕ) (endpoint : SocketAddrV4) (event : ℕ) (payload : List ℕ)
      → does.input ≡ PublishTo instance eventgroup endpoint event payload → IsPublishedTo does.turn.history instance eventgroup endpoint event payload does.done

  -- each offer that a node knows after some of the steps is one that a node is configured to make
  abbrev pub OffersAreConfigured : ℕ → Type 0
  OffersAreConfigured n = (w : World) → n ≤ length steps → LeadTo nodes configs (take n steps) w → KnowsAsConfigured configs w

  -- by the verdict keys are reused cleanly in the first so many steps: the run has so many, and is clean, or the first step that
  -- breaks it has an index after them
  abbrev pub IsCleanUpTo : Reuse → ℕ → Type 0
  IsCleanUpTo Clean n = n ≤ length steps
  IsCleanUpTo (Broken at) n = n < at

  -- A line of a trace tells of what a node gave: it names the step by its index, counted from 1, and the node by its place
  pub record TellsOf (line : Line) (output : Output) : Type 0 where
    pub told : line.told ≡ Gave output
    pub n : ℕ
    pub index : line.step ≡ suc n
    pub does : Does nodes configs steps n
    pub at : line.node ≡ does.turn.place
    pub gave : Contains does.done.outputs output

  -- Each line that tells of an answer tells of one that its node gave in its step. Where keys are reused cleanly up to that step
  -- and with it, the answer is safe
  abbrev pub AnswerLinesAreSafe : List Line → Reuse → Type 0
  AnswerLinesAreSafe lines verdict =
      (line : Line) (message : MessageId) (session : ℕ) (code : ReturnCode) (payload : List ℕ) → Contains lines line
      → line.told ≡ Gave (Answered message session code payload)
      → (of : TellsOf line (Answered message session code payload))
      × (IsCleanUpTo verdict line.step → IsSafeAnswer nodes configs steps of.n message session code payload)

  -- so it is with each line that tells of an event
  abbrev pub EventLinesAreSafe : List Line → Reuse → Type 0
  EventLinesAreSafe lines verdict =
      (line : Line) (instance : InstanceId) (event : ℕ) (payload : List ℕ) → Contains lines line
      → line.told ≡ Gave (Event instance event payload)
      → (of : TellsOf line (Event instance event payload))
      × (IsCleanUpTo verdict line.step → IsSafeEvent nodes configs steps of.n instance event payload)

  -- and with each that tells that a client is subscribed
  abbrev pub SubscribedLinesAreSafe : List Line → Reuse → Type 0
  SubscribedLinesAreSafe lines verdict =
      (line : Line) (eventgroup : Eventgroup) (counter : ℕ) → Contains lines line → line.told ≡ Gave (Subscribed eventgroup counter)
      → (of : TellsOf line (Subscribed eventgroup counter))
      × (IsCleanUpTo verdict line.step → IsSafelyAcknowledged nodes configs steps of.n eventgroup counter)

  -- A run with a verdict, told by some lines, is safe. Before the step that the verdict names, or in all steps, each answer and each
  -- event that is handed up is safe, and each subscription that a client tells of or counts on; and so is what each line tells of
  -- answers, events and subscriptions. In all steps, events go to those who are subscribed, and the offers that nodes know are configured
  pub record IsSafe (lines : List Line) (verdict : Reuse) : Type 0 where
    pub answers : (n : ℕ) → IsCleanUpTo verdict (suc n) → AnswersAreSafe n
    pub events : (n : ℕ) → IsCleanUpTo verdict (suc n) → EventsAreSafe n
    pub acknowledged : (n : ℕ) → IsCleanUpTo verdict (suc n) → AcknowledgedAreSafe n
    pub answer_lines : AnswerLinesAreSafe lines verdict
    pub event_lines : EventLinesAreSafe lines verdict
    pub subscribed_lines : SubscribedLinesAreSafe lines verdict
    pub subscriptions : (n : ℕ) (w : World) → n ≤ length steps → LeadTo nodes configs (take n steps) w → IsCleanUpTo verdict n → SubscriptionsAreSafe nodes configs steps n w
    pub publications : (n : ℕ) → PublishesToAll n
    pub publications_to_one : (n : ℕ) → PublishesToOne n
    pub offers : (n : ℕ) → OffersAreConfigured n

  -- ---- among liars

  -- each answer that a step hands up, of a message that did not come from a liar, is safe
  abbrev pub HonestAnswersAreSafe : ℕ → Type 0
  HonestAnswersAreSafe n =
      (does : Does nodes configs steps n) (message : MessageId) (session : ℕ) (code : ReturnCode) (payload : List ℕ)
      → Contains does.done.outputs (Answered message session code payload) → (IsFromLiar nodes configs does.input → ⊥)
      → IsSafeAnswer nodes configs steps n message session code payload

  -- each event that a step hands up, of a message that did not come from a liar, is safe
  abbrev pub HonestEventsAreSafe : ℕ → Type 0
  HonestEventsAreSafe n =
      (does : Does nodes configs steps n) (instance : InstanceId) (event : ℕ) (payload : List ℕ)
      → Contains does.done.outputs (Event instance event payload) → (IsFromLiar nodes configs does.input → ⊥)
      → IsSafeEvent nodes configs steps n instance event payload

  -- each subscription that a client tells of in a step, as it was acknowledged there by a server that is no liar, is safe
  abbrev pub HonestAcknowledgedAreSafe : ℕ → Type 0
  HonestAcknowledgedAreSafe n =
      (does : Does nodes configs steps n) (eventgroup : Eventgroup) (counter : ℕ)
      → Contains does.done.outputs (Subscribed eventgroup counter) → (IsFromLiar nodes configs does.input → ⊥)
      → IsSafelyAcknowledged nodes configs steps n eventgroup counter

  -- each offer that a node knows after some of the steps, from a peer that is no liar, is one that a node is configured to make
  abbrev pub HonestOffersAreConfigured : ℕ → Type 0
  HonestOffersAreConfigured n = (w : World) → n ≤ length steps → LeadTo nodes configs (take n steps) w → KnowsHonestAsConfigured nodes configs w

  -- Each line that tells of an answer tells of one that its node gave in its step. Where the message came from no liar, and keys
  -- are reused cleanly up to that step and with it, the answer is safe
  abbrev pub HonestAnswerLinesAreSafe : List Line → Reuse → Type 0
  HonestAnswerLinesAreSafe lines verdict =
      (line : Line) (message : MessageId) (session : ℕ) (code : ReturnCode) (payload : List ℕ) → Contains lines line
      → line.told ≡ Gave (Answered message session code payload)
      → (of : TellsOf line (Answered message session code payload))
      × ((IsFromLiar nodes configs of.does.input → ⊥) → IsCleanUpTo verdict line.step
      → IsSafeAnswer nodes configs steps of.n message session code payload)

  -- so it is with each line that tells of an event
  abbrev pub HonestEventLinesAreSafe : List Line → Reuse → Type 0
  HonestEventLinesAreSafe lines verdict =
      (line : Line) (instance : InstanceId) (event : ℕ) (payload : List ℕ) → Contains lines line
      → line.told ≡ Gave (Event instance event payload)
      → (of : TellsOf line (Event instance event payload))
      × ((IsFromLiar nodes configs of.does.input → ⊥) → IsCleanUpTo verdict line.step
      → IsSafeEvent nodes configs steps of.n instance event payload)

  -- and with each that tells that a client is subscribed
  abbrev pub HonestSubscribedLinesAreSafe : List Line → Reuse → Type 0
  HonestSubscribedLinesAreSafe lines verdict =
      (line : Line) (eventgroup : Eventgroup) (counter : ℕ) → Contains lines line → line.told ≡ Gave (Subscribed eventgroup counter)
      → (of : TellsOf line (Subscribed eventgroup counter))
      × ((IsFromLiar nodes configs of.does.input → ⊥) → IsCleanUpTo verdict line.step
      → IsSafelyAcknowledged nodes configs steps of.n eventgroup counter)

  -- A run with a verdict, told by some lines, is safe among liars. Before the step that the verdict names, or in all steps, each
  -- answer and each event is safe that is handed up of a message that came from no liar, and each subscription that a client tells
  -- of or counts on, whose server is no liar; and so is what each line tells of these. In all steps, each node sends its events to those
  -- who are subscribed, and the offers that nodes know from peers that are no liars are configured
  pub record IsSafeAmongLiars (lines : List Line) (verdict : Reuse) : Type 0 where
    pub answers : (n : ℕ) → IsCleanUpTo verdict (suc n) → HonestAnswersAreSafe n
    pub events : (n : ℕ) → IsCleanUpTo verdict (suc n) → HonestEventsAreSafe n
    pub acknowledged : (n : ℕ) → IsCleanUpTo verdict (suc n) → HonestAcknowledgedAreSafe n
    pub answer_lines : HonestAnswerLinesAreSafe lines verdict
    pub event_lines : HonestEventLinesAreSafe lines verdict
    pub subscribed_lines : HonestSubscribedLinesAreSafe lines verdict
    pub subscriptions : (n : ℕ) (w : World) → n ≤ length steps → LeadTo nodes configs (take n steps) w → IsCleanUpTo verdict n
        → HonestSubscriptionsAreSafe nodes configs steps n w
    pub publications : (n : ℕ) → PublishesToAll n
    pub publications_to_one : (n : ℕ) → PublishesToOne n
    pub offers : (n : ℕ) → HonestOffersAreConfigured n

-- the run that a trace tells is safe, over copies of the configurations of the nodes
abbrev pub IsSafeOn : List SetupNode → List Step → List Line → Reuse → Type 0
IsSafeOn nodes steps lines verdict =
    (configs : List Config) → AreCopies nodes configs → run_of nodes configs steps ≡ Ok lines → IsSafe nodes configs steps lines verdict

-- the run that a trace tells is safe among liars, over copies of the configurations of the nodes
abbrev pub IsSafeAmongLiarsOn : List SetupNode → List Step → List Line → Reuse → Type 0
IsSafeAmongLiarsOn nodes steps lines verdict =
    (configs : List Config) → AreCopies nodes configs → run_of nodes configs steps ≡ Ok lines → IsSafeAmongLiars nodes configs steps lines verdict
