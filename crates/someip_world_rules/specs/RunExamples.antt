-- A server with one subscription, as an example.
use Rattle.std.specs.Prelude.{◌≡◌, ◌≤◌, ℕ, true, List, [], ◌∷◌, length, Some, Ok}
use Rattle.std.specs.List.{Contains}
use Rattle.sd_core.specs.declared.subscription.Subscription.{Subscription}
use Rattle.someip_rpc.specs.Events.{has_event}
use Rattle.someip_node_rules.specs.rules.Publishing.{eventgroups_of}
use Rattle.someip_node_rules.specs.histories.History.{History}
use Rattle.someip_node_rules.specs.rules.Inputs.{Input}
use Rattle.someip_node_rules.specs.histories.Items.{SubscriptionAccepted, Ticked}
use Rattle.someip_node_rules.specs.rules.Plans.{Work}
use Rattle.someip_node_rules.specs.forms.Setups.{offered_as}
use Rattle.someip_node_rules.specs.steps.Steps.{step}
use Rattle.someip_node_rules.specs.declared.config.Config.{Config}
use Rattle.someip_node_rules.specs.declared.config.OfferedService.{OfferedService}
use Rattle.someip_node_rules.specs.declared.output.Output.{Output}

-- a server accepted a Subscribe with a TTL of 3 seconds, and some milliseconds went by
abbrev pub subscribed_for : ℕ → Config → Subscription → History
subscribed_for ms config s = record { config = config; delay = 0; items = Ticked ms ∷ SubscriptionAccepted s 3 ∷ [] }

-- the server offers the instance of the subscription with an event of its eventgroup, and may publish so many bytes
pub record CanPublish (config : Config) (service : OfferedService) (s : Subscription) (event : ℕ) (payload : List ℕ) : Type 0 where
  pub offered : offered_as config s.instance ≡ Some service
  pub known : has_event service.rules event ≡ true
  pub grouped : Contains (eventgroups_of service event) s.eventgroup
  pub short : length payload ≤ config.common.message_limit

-- an input is done, and gives just this
abbrev pub GivesJust : History → Input → List Output → Type 0
GivesJust h input outputs = (done : Work History) × (step h input ≡ Ok done) × (done.outputs ≡ outputs)
