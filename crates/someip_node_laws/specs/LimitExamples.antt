-- Subscriptions of a client to one eventgroup, as examples.
use Rattle.std.specs.Prelude.{ℕ, List, map}
use Rattle.sd_core.specs.declared.subscription.Subscription.{Subscription}
use Rattle.someip_node_rules.specs.histories.Items.{Item, SubscriptionAccepted}
use Rattle.someip_node_laws.specs.WorkedExamples.{client, instance}

-- the subscription with a counter
abbrev pub subscription_with : ℕ → Subscription
subscription_with counter = record { instance = instance; eventgroup = 1; peer = client.ip; endpoint = client; counter = counter }

-- those with these counters were accepted for 3 seconds each, the newest first
abbrev pub accepted_with : List ℕ → List Item
accepted_with counters = map (λ counter. SubscriptionAccepted (subscription_with counter) 3) counters
