-- What nodes announce of the instances that they offer.
use Rattle.std.specs.Prelude.{◌≡◌, ◌<◌, ◌^◌, ℕ, List, Option, Some, slice_get}
use Rattle.std.specs.FinMap as finite
use Rattle.std.specs.List.{AllByRecursion}
use Rattle.std.specs.declared.net.socket_addr.SocketAddrV4.{SocketAddrV4}
use Rattle.sd_core.specs.declared.keys.InstanceId.{InstanceId}
use Rattle.sd_core.specs.declared.received.KnownOffer.{KnownOffer}
use Rattle.someip_tables.specs.declared.lasting.Lasting.{Lasting}
use Rattle.someip_rpc.specs.Servers.{code_of_reply}
use Rattle.someip_wire.specs.Spelling.{IsBytes}
use Rattle.someip_node_laws.specs.Fitting.{FitsConfig, FitsWire}
use Rattle.someip_node_rules.specs.histories.History.{History}
use Rattle.someip_node_rules.specs.rules.Inputs.{Input}
use Rattle.someip_node_rules.specs.trails.Meanings.{GivenBy}
use Rattle.someip_node_rules.specs.forms.Outputs.{Given}
use Rattle.someip_node_rules.specs.histories.SeekQuestions.{known_offer_at, majors_of}
use Rattle.someip_node_rules.specs.forms.Setups.{offered_as}
use Rattle.someip_node_rules.specs.declared.config.Config.{Config}
use Rattle.someip_node_rules.specs.declared.config.OfferedService.{OfferedService}
use Rattle.someip_world_schedule.specs.declared.step.Step.{Step}
use Rattle.someip_world_schedule.specs.declared.step.Step.TheVariants.{Tick, Deliver, Call, Answer, Publish, PublishTo, Subscribe, Unsubscribe, StopOffer, Restart, Inject}
use Rattle.someip_world_setup.specs.declared.setup_node.SetupNode.{SetupNode}
use Rattle.someip_world_rules.specs.Deeds.{Takes}
use Rattle.someip_world_rules.specs.Liars.{IsHonest}
use Rattle.someip_world_rules.specs.Runs.{World}
use Rattle.someip_world_rules.specs.Turns.{Turn}

-- a node is configured to offer an instance in a major version, at an endpoint
pub record IsConfigured (config : Config) (instance : InstanceId) (major : ℕ) (endpoint : Option SocketAddrV4) : Type 0 where
  pub service : OfferedService
  pub offered : offered_as config instance ≡ Some service
  pub versioned : service.rules.major ≡ major
  pub at : endpoint ≡ Some service.rules.endpoint

-- the numbers of a step that go out fit their fields. Its payload does where the step can happen; what a liar sends is bytes
abbrev pub FitsStep : Step → Type 0
FitsStep (Tick node ms) = Unit {0}
FitsStep (Deliver number node) = Unit {0}
FitsStep (Call node kind instance method payload) = (instance.service < 2 ^ 16) × (method < 2 ^ 16)
FitsStep (Answer node token reply payload) = code_of_reply reply < 2 ^ 8
FitsStep (Publish node instance event payload) = event < 2 ^ 16
FitsStep (PublishTo node eventgroup to event payload) = event < 2 ^ 16
FitsStep (Subscribe node eventgroup) = eventgroup.id < 2 ^ 16
FitsStep (Unsubscribe node eventgroup) = eventgroup.id < 2 ^ 16
FitsStep (StopOffer node instance) = Unit {0}
FitsStep (Restart node delay) = Unit {0}
FitsStep (Inject node port to payload) = IsBytes payload

-- the numbers of the nodes of a setup fit
abbrev pub FitNodes : List SetupNode → Type 0
FitNodes nodes = AllByRecursion (λ node. FitsConfig node.config) nodes

-- all that is given in the steps of a run fits its fields
abbrev pub AllFits : List SetupNode → List Config → List Step → Type 0
AllFits nodes configs steps =
    (i : ℕ) (s : Step) (turn : Turn nodes configs steps i s) (input : Input) (given : Given) → turn.deed ≡ Takes input → GivenBy turn.history input given → FitsWire given

-- a node of a setup is configured to offer an instance, in a major version and at an endpoint
pub record IsConfiguredIn (configs : List Config) (instance : InstanceId) (major : ℕ) (endpoint : SocketAddrV4) : Type 0 where
  pub place : ℕ
  pub config : Config
  pub here : slice_get configs place ≡ Some config
  pub configured : IsConfigured config instance major (Some endpoint)

-- the same in the major version in which the node of a history wants the instance
pub record IsAsConfigured (configs : List Config) (h : History) (instance : InstanceId) (endpoint : SocketAddrV4) : Type 0 where
  pub major : ℕ
  pub wanted : finite.get (majors_of h.config) instance ≡ Some major
  pub offered : IsConfiguredIn configs instance major endpoint

-- each offer that a node of a world knows has the endpoint that a node is configured with for the instance
abbrev pub KnowsAsConfigured : List Config → World → Type 0
KnowsAsConfigured configs w =
    (place : ℕ) (h : History) (instance : InstanceId) (lasting : Lasting KnownOffer) → slice_get w.histories place ≡ Some h
    → known_offer_at h.items instance ≡ Some lasting → IsAsConfigured configs h instance lasting.value.endpoint

-- the same of each offer that a node of a world knows from a peer that is no liar
abbrev pub KnowsHonestAsConfigured : List SetupNode → List Config → World → Type 0
KnowsHonestAsConfigured nodes configs w =
    (place : ℕ) (h : History) (instance : InstanceId) (lasting : Lasting KnownOffer) → slice_get w.histories place ≡ Some h
    → known_offer_at h.items instance ≡ Some lasting → IsHonest nodes configs lasting.value.peer
    → IsAsConfigured configs h instance lasting.value.endpoint
