-- What is live by what a node met.
use Rattle.std.specs.Prelude.{Bool, true, false, List, [], ◌∷◌, Option, None, Some, is_some}
use Rattle.std.specs.Option.{option_map_or}
use Rattle.std.specs.List.{flat_map, list_any}
use Rattle.std.specs.Ordering.{eq_by_cmp}
use Rattle.std.specs.FinMap as finite
use Rattle.someip_tables.specs.declared.lasting.Lasting.{Lasting}
use Rattle.sd_core.specs.declared.keys.InstanceId.{InstanceId}
use Rattle.sd_core.specs.declared.received.KnownOffer.{KnownOffer}
use Rattle.sd_core.specs.declared.wish.Beginning.{Beginning}
use Rattle.sd_core.specs.Keys.{instance_cmp}
use Rattle.sd_core.specs.SeekTables.{is_by, known_at}
use Rattle.sd_core.specs.declared.subscription.Subscription.{Subscription}
use Rattle.someip_rpc.specs.declared.ids.CallKey.{CallKey}
use Rattle.someip_node_rules.specs.declared.config.Config.{Config}
use Rattle.someip_node_rules.specs.histories.CallQuestions.{pending_in}
use Rattle.someip_node_rules.specs.histories.Items.{Item, OfferStopped}
use Rattle.someip_node_rules.specs.histories.Questions.{clock_at}
use Rattle.someip_node_rules.specs.histories.SeekQuestions.{known_in}
use Rattle.someip_node_rules.specs.histories.SubscriberQuestions.{subscribers_in}

-- a subscription is among those that are live
abbrev pub is_live : List Item → Subscription → Bool
is_live items s = is_some (finite.get (subscribers_in items) s)

-- a call is among those that wait for their answer
abbrev pub is_waiting : Config → List Item → CallKey → Bool
is_waiting config items key = is_some (finite.get (pending_in config (clock_at items) items) key)

-- the offer of an instance is known
abbrev pub is_offer_known : List Item → InstanceId → Bool
is_offer_known items instance = is_some (known_at (clock_at items) (finite.get (known_in items) instance))

-- the offer of an instance was stopped
abbrev pub offer_stopped : Item → List InstanceId
offer_stopped (OfferStopped instance) = instance ∷ []
offer_stopped item = []

abbrev pub was_stopped : List Item → InstanceId → Bool
was_stopped items instance = list_any (eq_by_cmp instance_cmp instance) (flat_map offer_stopped items)

-- a subscription was begun at the peer whose offer of its instance is known, if one was
abbrev pub has_its_offer : Option Beginning → Option (Lasting KnownOffer) → Bool
has_its_offer None known = true
has_its_offer (Some beginning) known = option_map_or (λ lasting. is_by beginning.peer lasting.value) known false
