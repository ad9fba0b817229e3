-- Until when a subscription is live.
use Rattle.std.proofs.Common.{◌≡◌, ◌≢◌, ◌↔◌, ℕ, ◌+◌, ◌*◌, ◌<◌, Bool, true, false, not, cond, List, [], ◌∷◌, Option, None, Some, refl, ap, sym, ◌∙◌}
use Rattle.std.specs.Option.{is_some}
use Rattle.std.specs.Ordering.{eq_by_cmp}
use Rattle.std.specs.declared.net.ipv4_addr.Ipv4Addr.{Ipv4Addr}
use Rattle.someip_tables.specs.declared.lasting.Lasting.{Lasting}
use Rattle.someip_tables.specs.Deadlines.{deadline_after, has_passed}
use Rattle.someip_tables.specs.EndpointOrder.{addresses_total, exact_addresses}
use Rattle.someip_tables.specs.Lastings.{unless_passed}
use Rattle.someip_tables.proofs.Entries.{own_test, same_by_test}
use Rattle.sd_core.specs.declared.subscription.Subscription.{Subscription}
use Rattle.sd_core.specs.KeyOrder.{instances_total}
use Rattle.sd_core.specs.SubscriberTables.{is_of_instance, is_of_peer}
use Rattle.sd_core.specs.SubscriptionKeys.{subscription_cmp}
use Rattle.sd_core.specs.SubscriptionOrder.{subscriptions_total, exact_subscriptions}
use Rattle.someip_node_rules.specs.histories.Items.{Item, OfferStopped, PeerRebooted, SubscriptionAccepted, SubscriptionStopped, Ticked}
use Rattle.someip_node_rules.specs.steps.Lives.{is_live}
use Rattle.someip_node_rules.specs.histories.Questions.{clock_at}
use Rattle.someip_node_rules.specs.histories.SubscriberQuestions.{stands_until, subscribed_at}
use Rattle.someip_node_laws.proofs.histories.TimeLemmas.{within_ttl}
use Rattle.someip_node_laws.proofs.histories.NamedLemmas.{get-subscriber}

-- by what stands of it
live_is : (items : List Item) (s : Subscription) → is_live items s ≡ is_some (unless_passed (clock_at items) (subscribed_at items s))
live_is items s = ap is_some (get-subscriber items s)

-- ---- its time

module _ (items : List Item) (s : Subscription) (ttl ms : ℕ) where
  pub live_until : is_live (Ticked ms ∷ SubscriptionAccepted s ttl ∷ items) s ≡ not (has_passed (clock_at items + ms) (deadline_after (clock_at items) ttl))
  live_until =
      live_is (Ticked ms ∷ SubscriptionAccepted s ttl ∷ items) s
      ∙ ap (λ t. is_some (unless_passed (clock_at items + ms) (cond t (Some (stands_until (deadline_after (clock_at items) ttl))) (subscribed_at items s))))
      (own_test subscriptions_total s)
      ∙ cases (has_passed (clock_at items + ms) (deadline_after (clock_at items) ttl))
    where
      cases : (b : Bool) → is_some (cond (not b) (Some (stands_until (deadline_after (clock_at items) ttl))) None) ≡ not b
      cases true = refl
      cases false = refl

pub lives_its_ttl : (items : List Item) (s : Subscription) (ttl ms : ℕ) → ttl ≢ 0xFFFFFF
    → (is_live (Ticked ms ∷ SubscriptionAccepted s ttl ∷ items) s ≡ true) ↔ (ms < 1000 * ttl)
lives_its_ttl items s ttl ms timed =
    let within = within_ttl (clock_at items) ttl ms timed in
    ((λ t. within.0 (sym (live_until items s ttl ms) ∙ t)), (λ lt. live_until items s ttl ms ∙ within.1 lt))

pub lives_on : (items : List Item) (s : Subscription) (ms : ℕ) → is_live (Ticked ms ∷ SubscriptionAccepted s 0xFFFFFF ∷ items) s ≡ true
lives_on items s ms = live_until items s 0xFFFFFF ms

pub lives_before : (s : Subscription) → is_live (Ticked 2999 ∷ SubscriptionAccepted s 3 ∷ []) s ≡ true
lives_before s = live_until [] s 3 2999

pub ends_then : (s : Subscription) → is_live (Ticked 3000 ∷ SubscriptionAccepted s 3 ∷ []) s ≡ false
ends_then s = live_until [] s 3 3000

-- ---- its early end

module _ (items : List Item) (s : Subscription) where
  -- it ends where a test passes
  ended : (t : Bool) → t ≡ true → is_some (unless_passed (clock_at items) (cond t None (subscribed_at items s))) ≡ false
  ended true is = refl
  ended false is = absurd (cc)

  -- and is left where it does not
  left : (t : Bool) (v : Option (Lasting (Unit {0}))) → t ≡ false → is_some (unless_passed (clock_at items) (cond t v (subscribed_at items s))) ≡ is_live items s
  left true v is = absurd (cc)
  left false v is = sym (live_is items s)

  pub ends_stopped : is_live (SubscriptionStopped s ∷ items) s ≡ false
  ends_stopped = live_is (SubscriptionStopped s ∷ items) s ∙ ended (eq_by_cmp subscription_cmp s s) (own_test subscriptions_total s)

  pub ends_unoffered : is_live (OfferStopped s.instance ∷ items) s ≡ false
  ends_unoffered = live_is (OfferStopped s.instance ∷ items) s ∙ ended (is_of_instance s.instance s) (own_test instances_total s.instance)

  pub ends_rebooted : is_live (PeerRebooted s.peer ∷ items) s ≡ false
  ends_rebooted = live_is (PeerRebooted s.peer ∷ items) s ∙ ended (is_of_peer s.peer s) (own_test addresses_total s.peer)

  differs : (other : Subscription) → s ≢ other → (t : Bool) → eq_by_cmp subscription_cmp s other ≡ t → t ≡ false
  differs other apart true is = absurd (apart (same_by_test exact_subscriptions s other is))
  differs other apart false is = refl

  pub left_stopped : (other : Subscription) → s ≢ other → is_live (SubscriptionStopped other ∷ items) s ≡ is_live items s
  left_stopped other apart =
      live_is (SubscriptionStopped other ∷ items) s ∙ left (eq_by_cmp subscription_cmp s other) None (differs other apart (eq_by_cmp subscription_cmp s other) refl)

  pub left_accepted : (other : Subscription) (ttl : ℕ) → s ≢ other → is_live (SubscriptionAccepted other ttl ∷ items) s ≡ is_live items s
  left_accepted other ttl apart =
      live_is (SubscriptionAccepted other ttl ∷ items) s
      ∙ left (eq_by_cmp subscription_cmp s other) (Some (stands_until (deadline_after (clock_at items) ttl))) (differs other apart (eq_by_cmp subscription_cmp s other) refl)

  pub left_rebooted : (peer : Ipv4Addr) → s.peer ≢ peer → is_live (PeerRebooted peer ∷ items) s ≡ is_live items s
  left_rebooted peer apart = live_is (PeerRebooted peer ∷ items) s ∙ left (is_of_peer peer s) None (cases (is_of_peer peer s) refl)
    where
      cases : (t : Bool) → is_of_peer peer s ≡ t → is_of_peer peer s ≡ false
      cases true is = absurd (apart (same_by_test exact_addresses s.peer peer is))
      cases false is = is
