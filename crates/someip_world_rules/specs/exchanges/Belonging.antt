-- To which exchange belongs what a datagram holds.
use Rattle.std.specs.Prelude.{◌≡◌, ◌<◌, ◌≤◌, ℕ, List, Some}
use Rattle.std.specs.List.{Contains}
use Rattle.sd_core.specs.declared.keys.InstanceId.{InstanceId}
use Rattle.someip_node_rules.specs.trails.Meanings.{GivenBy}
use Rattle.someip_node_rules.specs.forms.Outputs as outputs
use Rattle.someip_node_rules.specs.rules.Plans.{Rule, Answers}
use Rattle.someip_node_rules.specs.declared.config.Config.{Config}
use Rattle.someip_node_rules.specs.declared.output.Output.TheVariants.{Request}
use Rattle.someip_world_schedule.specs.declared.step.Step.{Step}
use Rattle.someip_world_setup.specs.declared.setup_node.SetupNode.{SetupNode}
use Rattle.someip_world_rules.specs.Datagrams.{SentDatagram}
use Rattle.someip_world_rules.specs.Deliveries.{Delivers, Does, LivesOn, Sends}
use Rattle.someip_world_rules.specs.declared.exchanges.exchange_key.ExchangeKey.{ExchangeKey}
use Rattle.someip_world_rules.specs.declared.exchanges.naming.Side.{Side}
use Rattle.someip_world_rules.specs.declared.exchanges.naming.Side.TheVariants.{Answerer, Opener}
use Rattle.someip_world_rules.specs.exchanges.Namings.{named_in}
use Rattle.someip_world_rules.specs.exchanges.Openings.{Opened}

module _ (nodes : List SetupNode) (configs : List Config) (steps : List Step) where
  -- a step hands up at the node of a place the request of a token
  pub record HandsUp (i place token : ℕ) : Type 0 where
    pub does : Does nodes configs steps i
    pub at : does.turn.place ≡ place
    pub instance : InstanceId
    pub method : ℕ
    pub payload : List ℕ
    pub by : GivenBy does.turn.history does.input (outputs.Tells (Request (Some token) instance method payload))

  -- The request of a token was handed up in a step before, in the same life of the node at a place, and no step since handed up
  -- another of that token there: that step delivered the message, or the segment that completed it, which was sent in an
  -- earlier step
  pub record WasHandedUp (place token until : ℕ) (sent : ℕ) : Type 0 where
    pub i : ℕ
    pub before : i < until
    pub lives : LivesOn nodes configs steps place i until
    pub handed : HandsUp i place token
    pub last : (k : ℕ) → i < k → k < until → HandsUp k place token → ⊥
    pub datagram : SentDatagram
    pub delivers : Delivers nodes configs steps i sent datagram

  -- what is answered in a step by a rule was sent in an earlier one: by the application that of a token, and else what the
  -- step delivers
  abbrev pub Answered : ℕ → ℕ → Rule → ℕ → Type 0
  Answered place i (Answers token reply payload) sent = WasHandedUp place token i sent
  Answered place i r sent = (d : SentDatagram) × Delivers nodes configs steps i sent d

  -- as of which step what one side says is meant: who opened the exchange means it as of the step in which it is said, the
  -- other end as of the step in which that was sent which it answers
  abbrev pub IsMeant : ℕ → ℕ → Rule → Side → ℕ → Type 0
  IsMeant place i r Opener since = since ≡ i
  IsMeant place i r Answerer since = Answered place i r since

  -- A datagram that a node sent in a step holds something that belongs to an exchange: to the newest of its key as of a step.
  -- For a request or an event that is the one that this step opened, for a Subscribe or StopSubscribe the beginning that stands
  -- then; and for what answers one of these the same
  pub record Belongs (i : ℕ) (d : SentDatagram) (key : ExchangeKey) (since : ℕ) : Type 0 where
    pub sent : Sends nodes configs steps i d
    pub side : Side
    pub named : Contains (named_in sent.given) (record { key = key; side = side })
    pub meant : IsMeant sent.does.turn.place i sent.by.done.by side since

  -- the newest exchange of a key as of a step is the one that this step opened
  pub record IsNewest (key : ExchangeKey) (since opened : ℕ) : Type 0 where
    pub opened_in : Opened nodes configs steps opened key
    pub before : opened ≤ since
    pub last : (i : ℕ) → opened < i → i ≤ since → Opened nodes configs steps i key → ⊥
