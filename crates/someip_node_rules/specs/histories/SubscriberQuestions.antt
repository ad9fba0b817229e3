-- The question of the subscriptions that a server accepted (SOME/IP Service Discovery Protocol, "Publish/Subscribe").
use Rattle.std.specs.Prelude.{ℕ, if◌then◌else◌, List, [], ◌∷◌, Option, None, Some}
use Rattle.std.specs.List.{flat_map}
use Rattle.std.specs.Ordering.{eq_by_cmp}
use Rattle.someip_tables.specs.declared.deadline.Deadline.{Deadline}
use Rattle.someip_tables.specs.declared.lasting.Lasting.{Lasting}
use Rattle.someip_tables.specs.Deadlines.{deadline_after}
use Rattle.someip_tables.specs.Lastings.{unless_passed}
use Rattle.sd_core.specs.declared.subscription.Subscription.{Subscription}
use Rattle.sd_core.specs.SubscriberTables.{SubscriberMap, is_of_instance, is_of_peer}
use Rattle.sd_core.specs.SubscriptionKeys.{subscription_cmp}
use Rattle.someip_node_rules.specs.histories.Items.{Item, OfferStopped, PeerRebooted, SubscriptionAccepted, SubscriptionStopped}
use Rattle.someip_node_rules.specs.histories.Questions.{clock_at, latest, table_of}

-- the subscription of a Subscribe that was accepted
abbrev pub accepted : Item → List Subscription
accepted (SubscriptionAccepted s ttl) = s ∷ []
accepted item = []

-- it stands until a deadline
abbrev pub stands_until : Deadline → Lasting (Unit {0})
stands_until deadline = record { value = tt; until = deadline }

-- Until when a subscription stands: until the deadline of the latest Subscribe of it that was accepted, unless a
-- StopSubscribe of it, the end of its instance's offer or a reboot of its peer came after that. The deadline may have
-- passed
abbrev pub subscribed_by : Item → List Item → Subscription → Option (Lasting (Unit {0})) → Option (Lasting (Unit {0}))
subscribed_by (SubscriptionAccepted s ttl) before q stood =
    if eq_by_cmp subscription_cmp q s then Some (stands_until (deadline_after (clock_at before) ttl)) else stood
subscribed_by (SubscriptionStopped s) before q stood = if eq_by_cmp subscription_cmp q s then None else stood
subscribed_by (OfferStopped instance) before q stood = if is_of_instance instance q then None else stood
subscribed_by (PeerRebooted peer) before q stood = if is_of_peer peer q then None else stood
subscribed_by item before q stood = stood

abbrev pub subscribed_at : List Item → Subscription → Option (Lasting (Unit {0}))
subscribed_at = latest subscribed_by (λ _. None)

-- the subscriptions that are live at a moment: their deadline has not passed
abbrev pub live_at : ℕ → List Item → SubscriberMap
live_at now items = table_of (flat_map accepted items) (λ s. unless_passed now (subscribed_at items s))

abbrev pub subscribers_in : List Item → SubscriberMap
subscribers_in items = live_at (clock_at items) items
