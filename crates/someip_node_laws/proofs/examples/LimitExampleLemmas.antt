-- How many subscriptions there are, by example.
use Rattle.std.proofs.Common.{◌≡◌, ℕ, ◌≤◌, Bool, true, false, cond, ◌&&◌, ◌==◌, List, [], ◌∷◌, length, refl, sym, subst, ◌∙◌, arith}
use Rattle.std.specs.FinMap.{empty, from_entries, get-from_entries, len-empty}
use Rattle.someip_tables.proofs.Entries.{len-retain_keys-≤, same_by_test}
use Rattle.someip_tables.proofs.MapLaws.{insert_present}
use Rattle.someip_tables.specs.declared.deadline.Deadline.TheVariants.{At}
use Rattle.someip_tables.specs.declared.lasting.Lasting.{Lasting}
use Rattle.sd_core.specs.declared.keys.InstanceId.{InstanceId}
use Rattle.sd_core.specs.declared.subscription.Subscription.{Subscription}
use Rattle.sd_core.specs.KeyOrder.{exact_instances}
use Rattle.sd_core.specs.SubscriberTables.{is_of_instance, is_to, subscriber_count}
use Rattle.sd_core.specs.SubscriptionKeys.{subscription_cmp}
use Rattle.sd_core.specs.SubscriptionOrder.{subscriptions_total, exact_subscriptions}
use Rattle.someip_node_rules.specs.declared.config.Config.{Config}
use Rattle.someip_node_rules.specs.histories.Items.{Ticked}
use Rattle.someip_node_laws.specs.LimitExamples.{accepted_with, subscription_with}
use Rattle.someip_node_rules.specs.steps.SubscriberLimits.{AreWithinLimits, most_subscribers}
use Rattle.someip_node_rules.specs.histories.SubscriberQuestions.{stands_until, subscribers_in}
use Rattle.someip_node_laws.specs.WorkedExamples.{instance}
use Rattle.someip_node_rules.proofs.lists.KeyCounts.{counts}

first_of_both : (a b : Bool) → (a && b) ≡ true → a ≡ true
first_of_both true b is = refl
first_of_both false b is = is

-- a subscription that was accepted for 3 seconds at the start
abbrev entry : ℕ → Subscription × Lasting (Unit {0})
entry counter = (subscription_with counter, stands_until (At 3000))

module _ (config : Config) (two : most_subscribers config instance ≡ 2) (asked : InstanceId) (eventgroup : ℕ) where
  abbrev subscribers : List (Subscription × Lasting (Unit {0})) → ℕ
  subscribers es = subscriber_count asked eventgroup (from_entries es)

  both_of : (b : Bool) → length (cond b (entry 1 ∷ cond b (entry 0 ∷ []) []) (cond b (entry 0 ∷ []) [])) ≡ cond b 2 0
  both_of true = refl
  both_of false = refl

  has_room : (b : Bool) → is_to asked eventgroup (subscription_with 0) ≡ b → cond b 2 0 ≤ most_subscribers config asked
  has_room true is =
      let same : instance ≡ asked = same_by_test exact_instances instance asked (first_of_both (is_of_instance asked (subscription_with 0)) (eventgroup == 1) is) in
      subst (λ i. 2 ≤ most_subscribers config i) same (subst (λ n. 2 ≤ n) (sym two) (omega arith))
  has_room false is = omega arith

  as_many : subscribers (entry 1 ∷ entry 0 ∷ []) ≤ most_subscribers config asked
  as_many =
      subst (λ n. n ≤ most_subscribers config asked)
      (sym (counts subscriptions_total exact_subscriptions (is_to asked eventgroup) (entry 1 ∷ entry 0 ∷ []) refl ∙ both_of (is_to asked eventgroup (subscription_with 0))))
      (has_room (is_to asked eventgroup (subscription_with 0)) refl)

  renewed : subscribers (entry 0 ∷ entry 1 ∷ entry 0 ∷ []) ≤ most_subscribers config asked
  renewed =
      subst (λ m. subscriber_count asked eventgroup m ≤ most_subscribers config asked)
      (sym (insert_present subscriptions_total exact_subscriptions (from_entries (entry 1 ∷ entry 0 ∷ [])) (subscription_with 0) (stands_until (At 3000))
      (get-from_entries subscriptions_total (entry 1 ∷ entry 0 ∷ []) (subscription_with 0)))) as_many

  none : subscribers [] ≤ most_subscribers config asked
  none =
      let le = len-retain_keys-≤ subscriptions_total exact_subscriptions (empty {X = Lasting (Unit {0})} {R = subscription_cmp}) (is_to asked eventgroup) in
      let nothing = len-empty subscription_cmp (Lasting (Unit {0})) in
      omega arith

pub two_fit : (config : Config) → most_subscribers config instance ≡ 2 → AreWithinLimits config (subscribers_in (accepted_with (1 ∷ 0 ∷ [])))
two_fit = as_many

pub two_fit_renewed : (config : Config) → most_subscribers config instance ≡ 2 → AreWithinLimits config (subscribers_in (accepted_with (0 ∷ 1 ∷ 0 ∷ [])))
two_fit_renewed = renewed

pub none_fit : (config : Config) → most_subscribers config instance ≡ 2 → AreWithinLimits config (subscribers_in (Ticked 3000 ∷ accepted_with (2 ∷ 1 ∷ 0 ∷ [])))
none_fit = none

pub three_do_not : (config : Config) → most_subscribers config instance ≡ 2 → AreWithinLimits config (subscribers_in (accepted_with (2 ∷ 1 ∷ 0 ∷ []))) → ⊥
three_do_not config two within =
    let three : subscriber_count instance 1 (subscribers_in (accepted_with (2 ∷ 1 ∷ 0 ∷ []))) ≡ 3 =
    counts subscriptions_total exact_subscriptions (is_to instance 1) (entry 2 ∷ entry 1 ∷ entry 0 ∷ []) refl in
    let le : 3 ≤ 2 = subst (λ n. 3 ≤ n) two (subst (λ n. n ≤ most_subscribers config instance) three (within instance 1)) in
    absurd (omega arith)
