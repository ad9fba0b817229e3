-- What a good configuration offers has the service and the instance that it is offered under.
use Rattle.std.proofs.Common.{◌≡◌, true, Some}
use Rattle.sd_core.specs.declared.keys.InstanceId.{InstanceId}
use Rattle.someip_node_rules.specs.declared.config.Config.{Config}
use Rattle.someip_node_rules.specs.declared.config.OfferedService.{OfferedService}
use Rattle.someip_node_rules.specs.forms.GoodConfigs.{is_good}
use Rattle.someip_node_rules.proofs.forms.GoodConfigParts.{offered_good, own_instance, own_service}
use Rattle.someip_node_rules.specs.forms.Setups.{offered_as}

-- an offer stands under its own service and instance
abbrev pub IsUnderOwn : InstanceId → OfferedService → Type 0
IsUnderOwn instance service = (service.rules.service ≡ instance.service) × (service.rules.instance ≡ instance.instance)

module _ (config : Config) where
  pub offered_own : is_good config ≡ true → (instance : InstanceId) (service : OfferedService) → offered_as config instance ≡ Some service → IsUnderOwn instance service
  offered_own good instance service is =
      let offer = offered_good config good instance service is in
      (own_service config (instance, service) offer, own_instance config (instance, service) offer)
