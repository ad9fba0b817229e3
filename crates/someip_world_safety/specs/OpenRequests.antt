-- Which requests are open at a server: those that it handed up.
use Rattle.std.specs.Prelude.{◌≡◌, ◌<◌, ℕ, List, Some, slice_get}
use Rattle.std.specs.declared.net.socket_addr.SocketAddrV4.{SocketAddrV4}
use Rattle.someip_wire.specs.declared.header.Header.{Header}
use Rattle.someip_rpc.specs.declared.request.Asked.{Asked}
use Rattle.someip_rpc.specs.Requests.{asked}
use Rattle.someip_node_rules.specs.declared.config.Config.{Config}
use Rattle.someip_node_rules.specs.declared.config.OfferedService.{OfferedService}
use Rattle.someip_node_rules.specs.histories.CallQuestions.{open_request_at}
use Rattle.someip_node_rules.specs.histories.History.{History}
use Rattle.someip_node_rules.specs.rules.Plans.{TakesRequest}
use Rattle.someip_node_rules.specs.forms.Setups.{offered_as}
use Rattle.someip_world_schedule.specs.declared.step.Step.{Step}
use Rattle.someip_world_setup.specs.declared.setup_node.SetupNode.{SetupNode}
use Rattle.someip_world_rules.specs.Runs.{World}
use Rattle.someip_world_rules.specs.Deliveries.{LivesOn}
use Rattle.someip_world_rules.specs.exchanges.Belonging.{HandsUp}

module _ (nodes : List SetupNode) (configs : List Config) (steps : List Step) where
  -- A request is open before a step, under its token: a step of the present life of the node handed it up, by a rule that took it
  -- from an endpoint to an instance of the node, and no step since handed up another of that token
  pub record IsOpenRequest (n place token : ℕ) (request : Asked) : Type 0 where
    pub i : ℕ
    pub before : i < n
    pub lives : LivesOn nodes configs steps place i n
    pub handed : HandsUp nodes configs steps i place token
    pub last : (k : ℕ) → i < k → k < n → HandsUp nodes configs steps k place token → ⊥
    pub from : SocketAddrV4
    pub header : Header
    pub takes : handed.by.done.by ≡ TakesRequest handed.instance from header handed.payload
    pub service : OfferedService
    pub offered : offered_as handed.does.turn.history.config handed.instance ≡ Some service
    pub is : request ≡ asked service.rules from header

  -- each request that is open at a node of a world is so
  abbrev pub RequestsAreOpen : ℕ → World → Type 0
  RequestsAreOpen n w =
      (place : ℕ) (h : History) (token : ℕ) (request : Asked) → slice_get w.histories place ≡ Some h
      → open_request_at h.items token ≡ Some request → IsOpenRequest n place token request
