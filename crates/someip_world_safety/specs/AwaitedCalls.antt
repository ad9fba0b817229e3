-- Which calls a client waits for: those that it made, and whose answers it did not take.
use Rattle.std.specs.Prelude.{◌≡◌, ◌<◌, ℕ, List, Some, slice_get}
use Rattle.std.specs.List.{Contains}
use Rattle.std.specs.declared.net.socket_addr.SocketAddrV4.{SocketAddrV4}
use Rattle.someip_tables.specs.declared.lasting.Lasting.{Lasting}
use Rattle.sd_core.specs.declared.keys.InstanceId.{InstanceId}
use Rattle.someip_rpc.specs.declared.call.Awaited.{Awaited}
use Rattle.someip_rpc.specs.declared.call.CallKind.TheVariants as calls
use Rattle.someip_rpc.specs.declared.call.Call as made
use Rattle.someip_rpc.specs.declared.ids.CallKey.{CallKey}
use Rattle.someip_node_rules.specs.declared.config.Config.{Config}
use Rattle.someip_node_rules.specs.histories.CallQuestions.{awaited_at, call_key}
use Rattle.someip_node_rules.specs.histories.History.{History}
use Rattle.someip_node_rules.specs.rules.Inputs.{Call}
use Rattle.someip_node_rules.specs.histories.Items as items
use Rattle.someip_node_rules.specs.trails.Trails.{met_by, trail_of}
use Rattle.someip_world_schedule.specs.declared.step.Step.{Step}
use Rattle.someip_world_setup.specs.declared.setup_node.SetupNode.{SetupNode}
use Rattle.someip_world_rules.specs.Runs.{World}
use Rattle.someip_world_rules.specs.Deliveries.{Does, LivesOn}

module _ (nodes : List SetupNode) (configs : List Config) (steps : List Step) where
  -- a call was made in a step, with a session, to an endpoint, and waits for its answer
  pub record Makes (i : ℕ) (key : CallKey) (peer : SocketAddrV4) : Type 0 where
    pub does : Does nodes configs steps i
    pub instance : InstanceId
    pub method : ℕ
    pub payload : List ℕ
    pub is : does.input ≡ Call calls.Request instance method payload
    pub call : made.Call
    pub session : ℕ
    pub kind : call.kind ≡ calls.Request
    pub keyed : call_key call session ≡ key
    pub met : Contains (met_by (trail_of does.turn.history does.input)) (items.Called call peer session)

  -- the answer to a call was taken in a step, at a place
  pub record TakesAnswerTo (i place : ℕ) (key : CallKey) : Type 0 where
    pub does : Does nodes configs steps i
    pub at : does.turn.place ≡ place
    pub met : Contains (met_by (trail_of does.turn.history does.input)) (items.AnswerTaken key)

  -- A call waits for its answer before a step: it was made in a step of the same life, no answer to it was taken since, and no
  -- other REQUEST of its Message ID and session was made since
  pub record IsAwaited (n place : ℕ) (key : CallKey) (peer : SocketAddrV4) : Type 0 where
    pub made : ℕ
    pub before : made < n
    pub call : Makes made key peer
    pub at : call.does.turn.place ≡ place
    pub lives : LivesOn nodes configs steps place made n
    pub first : (i : ℕ) → made < i → i < n → TakesAnswerTo i place key → ⊥
    pub last : (i : ℕ) → made < i → i < n → (to : SocketAddrV4) (m : Makes i key to) → m.does.turn.place ≡ place → ⊥

  -- each call that waits at a node of a world was made so
  abbrev pub CallsAreAwaited : ℕ → World → Type 0
  CallsAreAwaited n w =
      (place : ℕ) (h : History) (key : CallKey) (lasting : Lasting Awaited) → slice_get w.histories place ≡ Some h
      → awaited_at h.config h.items key ≡ Some lasting → IsAwaited n place key lasting.value.peer
