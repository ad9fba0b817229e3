-- Which answers that a client hands up are safe: those that the server of the call produced for it.
use Rattle.std.specs.Prelude.{◌≡◌, ◌<◌, ◌⊎◌, ℕ, List, [], ◌∷◌, Some}
use Rattle.std.specs.List.{Contains}
use Rattle.std.specs.declared.net.socket_addr.SocketAddrV4.{SocketAddrV4}
use Rattle.someip_wire.specs.declared.header.Header.{Header}
use Rattle.someip_wire.specs.declared.header.MessageType.TheVariants as kinds
use Rattle.someip_wire.specs.declared.header.ReturnCode.{ReturnCode}
use Rattle.sd_core.specs.declared.keys.InstanceId.{InstanceId}
use Rattle.someip_rpc.specs.declared.ids.MessageId.{MessageId}
use Rattle.someip_rpc.specs.declared.request.Reply.{Reply}
use Rattle.someip_rpc.specs.declared.request.RequestFault.{RequestFault}
use Rattle.someip_rpc.specs.Requests.{fault_code, request_fault}
use Rattle.someip_rpc.specs.Servers.{code_of_reply}
use Rattle.someip_node_rules.specs.declared.config.Config.{Config}
use Rattle.someip_node_rules.specs.declared.config.OfferedService.{OfferedService}
use Rattle.someip_node_rules.specs.declared.output.Output.TheVariants.{Answered}
use Rattle.someip_node_rules.specs.histories.History.{answers_of}
use Rattle.someip_node_rules.specs.rules.Inputs as inputs
use Rattle.someip_node_rules.specs.rules.Plans.{TakesRequest}
use Rattle.someip_node_rules.specs.forms.Setups.{client_endpoint, offered_as}
use Rattle.someip_node_rules.specs.histories.Tables.{is_up}
use Rattle.someip_node_rules.specs.trails.Trails.{Done, trail_of}
use Rattle.someip_world_schedule.specs.declared.step.Step.{Step}
use Rattle.someip_world_setup.specs.declared.setup_node.SetupNode.{SetupNode}
use Rattle.someip_world_rules.specs.Deliveries.{Does, LivesOn}
use Rattle.someip_world_rules.specs.declared.exchanges.exchange_key.ExchangeKey.{ExchangeKey}
use Rattle.someip_world_rules.specs.exchanges.Belonging.{Belongs, HandsUp}
use Rattle.someip_world_rules.specs.exchanges.Namings.{of_call}
use Rattle.someip_world_rules.specs.exchanges.Openings.{Opened}
use Rattle.someip_world_safety.specs.AwaitedCalls.{IsAwaited}
use Rattle.someip_world_safety.specs.GivenMessages.{WasGiven}

module _ (nodes : List SetupNode) (configs : List Config) (steps : List Step) where
  -- A server takes in a step the request of a call that was made in another: a REQUEST with a payload came from the client's
  -- endpoint to the instance at an endpoint. What was delivered belongs to the exchange that the call opened
  pub record TakesCall (i made : ℕ) (client server : SocketAddrV4) (exchange : ExchangeKey) (payload : List ℕ) : Type 0 where
    pub does : Does nodes configs steps i
    pub done : Done
    pub among : Contains (trail_of does.turn.history does.input) done
    pub instance : InstanceId
    pub header : Header
    pub takes : done.by ≡ TakesRequest instance client header payload
    pub request : header.kind ≡ kinds.Request
    pub service : OfferedService
    pub offered : offered_as does.turn.history.config instance ≡ Some service
    pub at : service.rules.endpoint ≡ server
    pub given : WasGiven nodes configs steps i client server header payload
    pub sent_so : given.sent ≡ made
    pub belongs : Belongs nodes configs steps made given.datagram exchange made

  -- The application of a server answers, in a step, a call that it took: the step that took it handed it up under a token, the
  -- node lives on since, no other request was handed up under this token, and the application gave the answer to the token
  pub record IsAnswered (i made : ℕ) (client server : SocketAddrV4) (exchange : ExchangeKey) (asked : List ℕ) (code : ReturnCode) (payload : List ℕ) : Type 0 where
    pub taken : ℕ
    pub took : TakesCall taken made client server exchange asked
    pub token : ℕ
    pub handed : HandsUp nodes configs steps taken took.does.turn.place token
    pub by_it : handed.by.done.by ≡ took.done.by
    pub later : taken < i
    pub does : Does nodes configs steps i
    pub at : does.turn.place ≡ took.does.turn.place
    pub lives : LivesOn nodes configs steps took.does.turn.place taken i
    pub last : (k : ℕ) → taken < k → k < i → HandsUp nodes configs steps k took.does.turn.place token → ⊥
    pub reply : Reply
    pub answers : does.input ≡ inputs.Answer token reply payload
    pub says : code_of_reply reply ≡ code.0

  -- a server refuses, in the step that takes it, a call that fails a check, with the code of the first one and without a payload
  pub record IsRefused (i made : ℕ) (client server : SocketAddrV4) (exchange : ExchangeKey) (asked : List ℕ) (code : ReturnCode) (payload : List ℕ) : Type 0 where
    pub took : TakesCall i made client server exchange asked
    pub fault : RequestFault
    pub fails : request_fault took.service.rules (is_up (answers_of took.done.before.state) took.instance) took.header (answers_of took.done.before.state).server.requests (answers_of took.done.before.state).server.next ≡ Some fault
    pub says : fault_code fault ≡ code.0
    pub empty : payload ≡ []

  -- An answer that a step hands up at a client is safe: it is all that the step gives, and is for a call of the client's present
  -- life, which got no answer before. The call opened its exchange. In an earlier step the server at the call's peer endpoint
  -- produced this code and payload for a request that belongs to that exchange and has exactly the call's payload
  pub record IsSafeAnswer (n : ℕ) (message : MessageId) (session : ℕ) (code : ReturnCode) (payload : List ℕ) : Type 0 where
    pub does : Does nodes configs steps n
    pub alone : does.done.outputs ≡ Answered message session code payload ∷ []
    pub peer : SocketAddrV4
    pub call : IsAwaited nodes configs steps n does.turn.place (record { message = message; session = session }) peer
    pub exchange : ExchangeKey
    pub is : exchange ≡ of_call (client_endpoint does.turn.history.config) peer message.service message.method does.turn.history.config.client_id session
    pub opened : Opened nodes configs steps call.made exchange
    pub produced : ℕ
    pub before : produced < n
    pub how :
        IsAnswered produced call.made (client_endpoint does.turn.history.config) peer exchange call.call.payload code payload
        ⊎ IsRefused produced call.made (client_endpoint does.turn.history.config) peer exchange call.call.payload code payload
