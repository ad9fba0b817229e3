-- When a run surely reuses its keys cleanly: where no counter gives a number twice, or no key is opened twice, and nothing goes in
-- segments.
use Rattle.std.specs.Prelude.{false, ◌≡◌, ℕ, suc, List, [], ◌∷◌, Ok}
use Rattle.std.specs.List.{Contains}
use Rattle.std.specs.declared.net.ipv4_addr.Ipv4Addr.{Ipv4Addr}
use Rattle.std.specs.declared.net.socket_addr.SocketAddrV4.{SocketAddrV4}
use Rattle.someip_wire.specs.Spelling.{MessageValue}
use Rattle.someip_reassembly.specs.Sent.{is_long}
use Rattle.sd_core.specs.declared.eventgroup.Eventgroup.{Eventgroup}
use Rattle.someip_rpc.specs.declared.call.Call.{Call}
use Rattle.someip_rpc.specs.declared.ids.EventId.{EventId}
use Rattle.someip_rpc.specs.declared.ids.MessageId.{MessageId}
use Rattle.someip_rpc.specs.Sessions.{session_after}
use Rattle.someip_node_rules.specs.histories.CallQuestions.{times_published}
use Rattle.someip_node_rules.specs.histories.Items as items
use Rattle.someip_node_rules.specs.histories.Items.{Item}
use Rattle.someip_node_rules.specs.forms.Outputs as outputs
use Rattle.someip_node_rules.specs.trails.Trails.{Done, outcome_of, trail_of}
use Rattle.someip_node_rules.specs.declared.config.Config.{Config}
use Rattle.someip_world_schedule.specs.declared.step.Step.{Step}
use Rattle.someip_world_setup.specs.declared.setup_node.SetupNode.{SetupNode}
use Rattle.someip_world_rules.specs.Datagrams.{SentDatagram}
use Rattle.someip_world_rules.specs.Deliveries.{Does, Sends}
use Rattle.someip_world_rules.specs.Runs.{AreCopies, run_of}
use Rattle.someip_world_rules.specs.declared.line.Line.{Line}
use Rattle.someip_world_rules.specs.declared.reuse.Reuse.{Reuse}
use Rattle.someip_world_rules.specs.declared.reuse.Reuse.TheVariants.{Clean}
use Rattle.someip_world_rules.specs.declared.exchanges.exchange_key.ExchangeKey.{ExchangeKey}
use Rattle.someip_world_rules.specs.exchanges.Openings.{Begins, Opened}

module _ (nodes : List SetupNode) (configs : List Config) (steps : List Step) where
  -- no exchange of a key is opened in two steps
  abbrev pub OpensOnce : Type 0
  OpensOnce = (i j : ℕ) (key : ExchangeKey) → Opened nodes configs steps i key → Opened nodes configs steps j key → i ≡ j

  -- no message that is sent is so long that it goes in segments
  abbrev pub AreShort : Type 0
  AreShort =
      (i : ℕ) (d : SentDatagram) (s : Sends nodes configs steps i d) (m : MessageValue) → s.given ≡ outputs.Sends d.from d.to m
      → is_long m.payload ≡ false

  -- ---- numbers that counters give

  -- In a step the session counter of a Message ID, at the node of a place, gives a session: a call is made with it
  pub record NumbersCall (i place : ℕ) (message : MessageId) (session : ℕ) : Type 0 where
    pub does : Does nodes configs steps i
    pub at : does.turn.place ≡ place
    pub done : Done
    pub among : Contains (trail_of does.turn.history does.input) done
    pub call : Call
    pub peer : SocketAddrV4
    pub called : (outcome_of done).items ≡ items.Called call peer session ∷ []
    pub of : call.message ≡ message

  -- the session counter of an event does: the event is published with the session, which counts its publications
  pub record NumbersEvent (i place : ℕ) (event : EventId) (session : ℕ) : Type 0 where
    pub does : Does nodes configs steps i
    pub at : does.turn.place ≡ place
    pub done : Done
    pub among : Contains (trail_of does.turn.history does.input) done
    pub published : (outcome_of done).items ≡ items.Published event ∷ []
    pub counted : session ≡ session_after (suc (times_published done.before.state.items event)) 0

  -- the counter of the subscriptions of an eventgroup does: one begins with it
  pub record NumbersSubscription (i place : ℕ) (eventgroup : Eventgroup) (counter : ℕ) : Type 0 where
    pub does : Does nodes configs steps i
    pub at : does.turn.place ≡ place
    pub done : Done
    pub among : Contains (trail_of does.turn.history does.input) done
    pub item : Item
    pub meets : (outcome_of done).items ≡ item ∷ []
    pub peer : Ipv4Addr
    pub begins : Begins done.before.state item eventgroup peer counter

  -- No counter of a node gives a number in two steps. A node that is started again counts from the start again
  pub record CountsOnce : Type 0 where
    pub calls : (i j place : ℕ) (message : MessageId) (session : ℕ)
        → NumbersCall i place message session → NumbersCall j place message session → i ≡ j
    pub events : (i j place : ℕ) (event : EventId) (session : ℕ)
        → NumbersEvent i place event session → NumbersEvent j place event session → i ≡ j
    pub subscriptions : (i j place : ℕ) (eventgroup : Eventgroup) (counter : ℕ)
        → NumbersSubscription i place eventgroup counter → NumbersSubscription j place eventgroup counter → i ≡ j

-- the run that a trace tells has the verdict Clean where no counter of a node gave a number in two steps, and no message went in
-- segments
abbrev pub IsCleanWhereCountedOnce : List SetupNode → List Step → List Line → Reuse → Type 0
IsCleanWhereCountedOnce nodes steps lines verdict =
    (configs : List Config) → AreCopies nodes configs → run_of nodes configs steps ≡ Ok lines
    → CountsOnce nodes configs steps → AreShort nodes configs steps → verdict ≡ Clean
