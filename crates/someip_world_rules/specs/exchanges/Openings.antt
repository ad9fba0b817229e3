-- When exchanges open: with a call, a publication, and the beginning of a subscription.
use Rattle.std.specs.Prelude.{◌≡◌, ◌<◌, ℕ, suc, List, [], ◌∷◌, None, Some}
use Rattle.std.specs.List.{Contains}
use Rattle.std.specs.declared.net.ipv4_addr.Ipv4Addr.{Ipv4Addr}
use Rattle.sd_core.specs.declared.eventgroup.Eventgroup.{Eventgroup}
use Rattle.sd_core.specs.declared.keys.InstanceId.{InstanceId}
use Rattle.someip_rpc.specs.Events.{event_of}
use Rattle.someip_rpc.specs.declared.ids.EventId.{EventId}
use Rattle.someip_node_rules.specs.histories.CallQuestions.{times_published}
use Rattle.someip_node_rules.specs.histories.History.{History}
use Rattle.someip_node_rules.specs.rules.Inputs.{Input}
use Rattle.someip_node_rules.specs.histories.Items as items
use Rattle.someip_node_rules.specs.histories.Items.{Item}
use Rattle.someip_node_rules.specs.forms.Setups.{client_endpoint, offered_as}
use Rattle.someip_node_rules.specs.trails.Trails.{Done, outcome_of, trail_of}
use Rattle.someip_node_rules.specs.histories.WishQuestions.{course_at}
use Rattle.someip_node_rules.specs.declared.config.Config.{Config}
use Rattle.someip_node_rules.specs.declared.config.OfferedService.{OfferedService}
use Rattle.someip_rpc.specs.Sessions.{session_after}
use Rattle.someip_world_schedule.specs.declared.step.Step.{Step}
use Rattle.someip_world_setup.specs.declared.setup_node.SetupNode.{SetupNode}
use Rattle.someip_world_rules.specs.declared.exchanges.exchange_key.ExchangeKey.{ExchangeKey}
use Rattle.someip_world_rules.specs.Deliveries.{Does}
use Rattle.someip_world_rules.specs.exchanges.Namings.{of_call, of_event, of_subscription}

-- by an item a subscription of an eventgroup begins at a peer, with a counter: there is one more, and it stands
pub record Begins (h : History) (item : Item) (eventgroup : Eventgroup) (peer : Ipv4Addr) (counter : ℕ) : Type 0 where
  pub more : (course_at (item ∷ h.items) eventgroup).begun ≡ suc (course_at h.items eventgroup).begun
  pub stands : (course_at (item ∷ h.items) eventgroup).beginning ≡ Some (record { peer = peer; counter = counter; until = None })

-- the key of an event that a node publishes: from the endpoint of its instance, with the session that counts its publications
pub record IsEventKey (h : History) (event : EventId) (key : ExchangeKey) : Type 0 where
  pub instance : InstanceId
  pub service : OfferedService
  pub offered : offered_as h.config instance ≡ Some service
  pub number : ℕ
  pub of : event ≡ event_of service.rules number
  pub is : key ≡ of_event service.rules.endpoint service.rules.service number 0 (session_after (suc (times_published h.items event)) 0)

-- an item that a node with this history meets opens an exchange of this key
abbrev pub Opens : History → Item → ExchangeKey → Type 0
Opens h (items.Called call peer session) key =
    key ≡ of_call (client_endpoint h.config) peer call.message.service call.message.method h.config.client_id session
Opens h (items.Published event) key = IsEventKey h event key
Opens h item key =
    (eventgroup : Eventgroup) × (peer : Ipv4Addr) × (counter : ℕ) × Begins h item eventgroup peer counter
    × (key ≡ of_subscription h.config.address peer eventgroup counter)

-- an exchange of a key is opened by a rule that is done with an input: by the one item that it meets
pub record OpensBy (h : History) (input : Input) (key : ExchangeKey) : Type 0 where
  pub done : Done
  pub among : Contains (trail_of h input) done
  pub item : Item
  pub meets : (outcome_of done).items ≡ item ∷ []
  pub opens : Opens done.before.state item key

module _ (nodes : List SetupNode) (configs : List Config) (steps : List Step) where
  -- an exchange of a key is opened in the step at a place of the schedule
  pub record Opened (i : ℕ) (key : ExchangeKey) : Type 0 where
    pub does : Does nodes configs steps i
    pub by : OpensBy does.turn.history does.input key

  -- an exchange of a key is opened after one step, and before another
  pub record IsTaken (since until : ℕ) (key : ExchangeKey) : Type 0 where
    pub i : ℕ
    pub after : since < i
    pub before : i < until
    pub opened : Opened i key
