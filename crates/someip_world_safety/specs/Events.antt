-- Which events that a client hands up are safe: those that were published, and sent to it.
use Rattle.std.specs.Prelude.{◌≡◌, ◌⊎◌, ◌<◌, ℕ, IsTrue, List, Some}
use Rattle.std.specs.List.{Contains}
use Rattle.std.specs.declared.net.socket_addr.SocketAddrV4.{SocketAddrV4}
use Rattle.someip_wire.specs.declared.header.Header.{Header}
use Rattle.someip_wire.specs.Spelling.{MessageValue}
use Rattle.sd_core.specs.declared.keys.InstanceId.{InstanceId}
use Rattle.someip_rpc.specs.declared.ids.MessageId.{MessageId}
use Rattle.someip_node_rules.specs.declared.config.Config.{Config}
use Rattle.someip_node_rules.specs.declared.config.OfferedService.{OfferedService}
use Rattle.someip_node_rules.specs.declared.config.WantedService.{WantedService}
use Rattle.someip_node_rules.specs.rules.Publishing.{eventgroups_of}
use Rattle.someip_node_rules.specs.histories.History.{answers_of}
use Rattle.someip_node_rules.specs.rules.Inputs.{Publish, PublishTo}
use Rattle.someip_node_rules.specs.rules.Messages.{takes_event}
use Rattle.someip_node_rules.specs.forms.Outputs.{Sends}
use Rattle.someip_node_rules.specs.rules.Plans.{TakesEvent}
use Rattle.someip_node_laws.specs.Published.{IsLiveAt}
use Rattle.someip_node_rules.specs.forms.Setups.{client_endpoint, offered_as}
use Rattle.someip_node_rules.specs.histories.Tables.{known_endpoint}
use Rattle.someip_node_rules.specs.trails.Trails.{Done, given_by, trail_of}
use Rattle.someip_world_schedule.specs.declared.step.Step.{Step}
use Rattle.someip_world_setup.specs.declared.setup_node.SetupNode.{SetupNode}
use Rattle.someip_world_rules.specs.Deliveries.{Does}

module _ (nodes : List SetupNode) (configs : List Config) (steps : List Step) where
  -- An event was published in a step before another, by an instance of the service at an endpoint, with this payload: to all, or to
  -- one endpoint. It was sent to an endpoint that was then live for one of the event's eventgroups
  pub record WasPublished (n : ℕ) (message : MessageId) (payload : List ℕ) (from to : SocketAddrV4) : Type 0 where
    pub i : ℕ
    pub before : i < n
    pub does : Does nodes configs steps i
    pub instance : InstanceId
    pub offer : OfferedService
    pub offered : offered_as does.turn.history.config instance ≡ Some offer
    pub named : offer.rules.service ≡ message.service
    pub at : offer.rules.endpoint ≡ from
    pub how :
        (does.input ≡ Publish instance message.method payload)
        ⊎ ((eventgroup : ℕ) × (does.input ≡ PublishTo instance eventgroup to message.method payload))
    pub live : IsLiveAt does.turn.history instance (eventgroups_of offer message.method) to
    pub given : MessageValue
    pub gave : Contains (given_by (trail_of does.turn.history does.input)) (Sends from to given)
    pub says : given.payload ≡ payload

  -- An event that a step hands up is safe: it came with a datagram of the step, and by the tables that the rule found which took it,
  -- the client knows the offer of the instance at the endpoint where the datagram came from, and is subscribed to an eventgroup to
  -- which its own set-up gives the event. It was published there before, and sent to this client's endpoint
  pub record IsSafeEvent (n : ℕ) (instance : InstanceId) (event : ℕ) (payload : List ℕ) : Type 0 where
    pub does : Does nodes configs steps n
    pub done : Done
    pub among : Contains (trail_of does.turn.history does.input) done
    pub endpoint : SocketAddrV4
    pub header : Header
    pub takes : done.by ≡ TakesEvent endpoint header payload
    pub of_service : header.service ≡ instance.service
    pub named : header.method ≡ event
    pub known : known_endpoint (answers_of done.before.state) instance ≡ Some endpoint
    pub want : WantedService
    pub wanted : Contains (answers_of done.before.state).config.wants.entries (instance, want)
    pub subscribed : IsTrue (takes_event (answers_of done.before.state) instance want event)
    pub published :
        WasPublished n (record { service = instance.service; method = event }) payload endpoint (client_endpoint does.turn.history.config)
