-- The subscriptions that are live, as each item that decides one changes them.
use Rattle.std.proofs.Common.{◌≡◌, ℕ, ◌+◌, not, List, ◌∷◌, arith}
use Rattle.std.specs.List.{flat_map}
use Rattle.std.specs.FinMap.{remove, retain_keys}
use Rattle.std.specs.declared.net.ipv4_addr.Ipv4Addr.{Ipv4Addr}
use Rattle.someip_tables.specs.Deadlines.{deadline_after}
use Rattle.someip_tables.specs.Lastings.{unexpired}
use Rattle.sd_core.specs.declared.keys.InstanceId.{InstanceId}
use Rattle.sd_core.specs.declared.subscription.Subscription.{Subscription}
use Rattle.sd_core.specs.SubscriberTables.{is_of_instance, is_of_peer, subscribed_until}
use Rattle.sd_core.specs.SubscriptionOrder.{subscriptions_total, exact_subscriptions}
use Rattle.someip_node_rules.specs.histories.Items.{Item, OfferStopped, PeerRebooted, SubscriptionAccepted, SubscriptionStopped, Ticked}
use Rattle.someip_node_rules.specs.histories.Questions.{clock_at}
use Rattle.someip_node_rules.specs.histories.SubscriberQuestions.{accepted, stands_until, subscribed_at, subscribers_in}
use Rattle.someip_node_rules.proofs.histories.QuestionLemmas.{lasting-ticked, lasting-insert, lasting-remove, lasting-end}

module _ (items : List Item) where
  pub subscribers_ticked : (ms : ℕ) → subscribers_in (Ticked ms ∷ items) ≡ unexpired (clock_at items + ms) (subscribers_in items)
  subscribers_ticked ms =
      lasting-ticked subscriptions_total exact_subscriptions (flat_map accepted items) (subscribed_at items) (clock_at items) (clock_at items + ms) (omega arith)

  pub subscribers_accepted : (s : Subscription) (ttl : ℕ)
      → subscribers_in (SubscriptionAccepted s ttl ∷ items) ≡ subscribed_until s (deadline_after (clock_at items) ttl) (clock_at items) (subscribers_in items)
  subscribers_accepted s ttl =
      lasting-insert subscriptions_total exact_subscriptions (flat_map accepted items) (subscribed_at items) (clock_at items) s
      (stands_until (deadline_after (clock_at items) ttl))

  pub subscribers_stopped : (s : Subscription) → subscribers_in (SubscriptionStopped s ∷ items) ≡ remove (subscribers_in items) s
  subscribers_stopped s = lasting-remove subscriptions_total exact_subscriptions (flat_map accepted items) (subscribed_at items) (clock_at items) s

  pub subscribers_unoffered : (instance : InstanceId)
      → subscribers_in (OfferStopped instance ∷ items) ≡ retain_keys (subscribers_in items) (λ s. not (is_of_instance instance s))
  subscribers_unoffered instance =
      lasting-end subscriptions_total exact_subscriptions (flat_map accepted items) (subscribed_at items) (clock_at items) (is_of_instance instance)

  pub subscribers_rebooted : (peer : Ipv4Addr) → subscribers_in (PeerRebooted peer ∷ items) ≡ retain_keys (subscribers_in items) (λ s. not (is_of_peer peer s))
  subscribers_rebooted peer =
      lasting-end subscriptions_total exact_subscriptions (flat_map accepted items) (subscribed_at items) (clock_at items) (is_of_peer peer)
