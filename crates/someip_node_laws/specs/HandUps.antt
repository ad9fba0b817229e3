-- Messages that are handed up, and where they came from.
use Rattle.std.specs.Prelude.{◌≡◌, ℕ, List, ◌∷◌, ◌++◌, Option}
use Rattle.std.specs.declared.net.socket_addr.SocketAddrV4.{SocketAddrV4}
use Rattle.someip_wire.specs.declared.header.Header.{Header}
use Rattle.someip_wire.specs.declared.header.MessageType.TheVariants.{Notification}
use Rattle.someip_wire.specs.declared.header.ReturnCode.{ReturnCode}
use Rattle.sd_core.specs.declared.keys.InstanceId.{InstanceId}
use Rattle.someip_rpc.specs.declared.ids.MessageId.{MessageId}
use Rattle.someip_node_rules.specs.declared.target.Target.{Target}
use Rattle.someip_node_rules.specs.declared.target.Target.TheVariants.{Client, Instance}
use Rattle.someip_node_rules.specs.rules.Handling.{target_of}
use Rattle.someip_node_rules.specs.histories.History.{History, answers_of}
use Rattle.someip_node_rules.specs.rules.Inputs.{Input, Datagram}
use Rattle.someip_node_rules.specs.trails.Meanings.{IsAnswer, IsEvent, IsRequest}
use Rattle.someip_node_rules.specs.trails.Packets.{Packet, Came}
use Rattle.someip_node_rules.specs.rules.Plans.{Rule, TakesAnswer, TakesEvent, TakesRequest}
use Rattle.someip_node_rules.specs.histories.Tables.{Tables}
use Rattle.someip_node_rules.specs.trails.Trails.{Done, trail_of}

-- A message with this payload came with an input: the input is a datagram, and a rule was done that takes the message where
-- the datagram arrived. The message stands in it, or was completed by a segment of it that the rule before took, and it was
-- that at the history where the rule was done
pub record CameWith (h : History) (input : Input) (goal : Target) (payload : List ℕ) (taking : SocketAddrV4 → Header → Rule) (IsThat : SocketAddrV4 → Header → Tables → Type 0) : Type 0 where
  pub packet : Packet
  pub is : input ≡ Datagram packet.from packet.to packet.bytes
  pub arrived : target_of h.config packet.to ≡ goal
  pub header : Header
  pub done : Done
  pub earlier : List Done
  pub later : List Done
  pub trail : trail_of h input ≡ earlier ++ done ∷ later
  pub takes : done.by ≡ taking packet.from header
  pub came : Came packet header payload earlier
  pub taken : IsThat packet.from header (answers_of done.before.state)

-- a request that is handed up came to its instance
abbrev pub RequestCame : History → Input → Option ℕ → InstanceId → ℕ → List ℕ → Type 0
RequestCame h input token instance method payload =
    CameWith h input (Instance instance) payload (λ from header. TakesRequest instance from header payload)
    (λ from header t. IsRequest header t token instance method)

-- an answer came to the client
abbrev pub AnswerCame : History → Input → MessageId → ℕ → ReturnCode → List ℕ → Type 0
AnswerCame h input message session code payload =
    CameWith h input Client payload (λ from header. TakesAnswer from header payload)
    (λ from header t. IsAnswer from header t message session code)

-- and so did an event, in a NOTIFICATION
abbrev pub EventCame : History → Input → InstanceId → ℕ → List ℕ → Type 0
EventCame h input instance event payload =
    CameWith h input Client payload (λ from header. TakesEvent from header payload)
    (λ from header t. (header.kind ≡ Notification) × IsEvent from header t instance event)
