-- How many live subscriptions the eventgroups of a node may have (the limit is our own).
use Rattle.std.specs.Prelude.{ℕ, ◌≤◌}
use Rattle.std.specs.Option.{option_map_or}
use Rattle.sd_core.specs.declared.keys.InstanceId.{InstanceId}
use Rattle.sd_core.specs.SubscriberTables.{SubscriberMap, subscriber_count}
use Rattle.someip_node_rules.specs.declared.config.Config.{Config}
use Rattle.someip_node_rules.specs.forms.Setups.{offered_as}

-- how many each eventgroup of an instance may have: as many as the node is set up for, and none if it does not offer the
-- instance
abbrev pub most_subscribers : Config → InstanceId → ℕ
most_subscribers config instance = option_map_or (λ service. service.subscribers) (offered_as config instance) 0

-- no eventgroup of an instance has more among these subscriptions
abbrev pub AreWithinLimits : Config → SubscriberMap → Type 0
AreWithinLimits config live = (instance : InstanceId) (eventgroup : ℕ) → subscriber_count instance eventgroup live ≤ most_subscribers config instance
