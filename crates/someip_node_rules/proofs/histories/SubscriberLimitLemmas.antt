-- The eventgroups of a node never have more live subscriptions than they may.
use Rattle.std.proofs.Common.{◌≡◌, ℕ, ◌+◌, ◌≤◌, ◌<◌, Bool, true, false, not, ◌&&◌, nat_le, ◌==◌, if◌then◌else◌, List, [], ◌∷◌, length, Option, None, Some, refl, ap, sym, subst, subst₂, ◌∙◌, eqb-true, leb-false, arith}
use Rattle.std.specs.List.{AllByRecursion, IsDistinct, fold}
use Rattle.std.specs.Option.{option_map_or, is_some}
use Rattle.std.specs.Ordering.{eq_by_cmp}
use Rattle.std.specs.declared.cmp.Ordering.{Ordering}
use Rattle.std.specs.Cmp.{IsTotalOrder}
use Rattle.std.specs.FinMap.{FinMap, IsAntisymmetric, empty, get, insert, remove, len, retain_keys, len-empty}
use Rattle.std.specs.declared.net.ipv4_addr.Ipv4Addr.{Ipv4Addr}
use Rattle.std.specs.declared.net.socket_addr.SocketAddrV4.{SocketAddrV4}
use Rattle.someip_tables.specs.declared.deadline.Deadline.{Deadline}
use Rattle.someip_tables.specs.declared.lasting.Lasting.{Lasting}
use Rattle.someip_tables.specs.Deadlines.{deadline_after, has_passed}
use Rattle.someip_tables.specs.Lastings.{unexpired}
use Rattle.someip_tables.specs.Retained.{retain}
use Rattle.someip_tables.proofs.Entries.{len-retain-≤, len-retain_keys-≤, remove_retain, retain_both, retain_keys_retain, same_by_test}
use Rattle.someip_tables.proofs.Expiry.{unexpired-unexpired}
use Rattle.someip_tables.proofs.MapLaws.{len-remove-≤, retain-insert_dropped, retain-retain, retain_same}
use Rattle.sd_wire.specs.declared.entry.EventgroupEntry.{EventgroupEntry}
use Rattle.sd_core.specs.declared.error.Cause.{Cause}
use Rattle.sd_core.specs.declared.error.Cause.TheVariants.{NotOffered, WrongMajor, UnknownEventgroup, Full}
use Rattle.sd_core.specs.declared.keys.InstanceId.{InstanceId}
use Rattle.sd_core.specs.declared.subscription.Subscription.{Subscription}
use Rattle.sd_core.specs.KeyOrder.{exact_instances}
use Rattle.sd_core.specs.SubscriberTables.{SubscriberMap, count_beside, is_of_instance, is_of_peer, is_to, nack_cause, subscribed_until, subscriber_count, subscription_at}
use Rattle.sd_core.specs.SubscriptionKeys.{subscription_cmp}
use Rattle.sd_core.specs.SubscriptionOrder.{subscriptions_total, exact_subscriptions}
use Rattle.sd_core.proofs.SubscriberLemmas.{count_within}
use Rattle.someip_node_rules.specs.declared.config.Config.{Config}
use Rattle.someip_node_rules.specs.declared.config.OfferedService.{OfferedService}
use Rattle.someip_node_rules.specs.declared.error.NodeError.{NodeError}
use Rattle.someip_node_rules.specs.steps.Advances.{after_inputs, stepped}
use Rattle.someip_node_rules.specs.histories.History.{History, answers_of, shown_work, start_of}
use Rattle.someip_node_rules.specs.rules.Inputs.{Input, plan_of, refusal_of}
use Rattle.someip_node_rules.specs.histories.Items.{Item, PeerRebooted, OfferStopped, SubscriptionAccepted, SubscriptionStopped, Ticked, changed}
use Rattle.someip_node_rules.specs.rules.Learning.{eventgroup_in}
use Rattle.someip_node_rules.specs.steps.Lives.{is_live}
use Rattle.someip_node_rules.specs.trails.Meetings.{IsMet}
use Rattle.someip_node_rules.specs.rules.Plans.{Plan, rest, act, both, asks, replying, Rule, TakesSubscribe, Work, plain, rule, run}
use Rattle.someip_node_rules.specs.forms.Setups.{offered_as}
use Rattle.someip_node_rules.specs.steps.Steps.{unless_refused, work_on}
use Rattle.someip_node_rules.specs.steps.SubscriberLimits.{AreWithinLimits, most_subscribers}
use Rattle.someip_node_rules.specs.histories.SubscriberQuestions.{subscribers_in}
use Rattle.someip_node_rules.specs.rules.ServerSubscribing.{rules_by, rules_for, subscribe_by, subscribe_in}
use Rattle.someip_node_rules.specs.histories.Tables.{Tables, is_up, live_subscribers}
use Rattle.someip_node_rules.proofs.lists.KeyCounts.{different, passes}
use Rattle.someip_node_rules.proofs.trails.MeetingLemmas.{rule_noted}
use Rattle.someip_node_rules.proofs.lists.MemberLemmas.{all_weaker}
use Rattle.someip_node_rules.proofs.histories.Shown.{run_shown}

at_most : (a b c : ℕ) → a ≤ b → b ≤ c → a ≤ c
at_most a b c low high = omega arith

-- ---- how many of a map pass a test

swap : (a b : Bool) → (a && b) ≡ (b && a)
swap true true = refl
swap true false = refl
swap false true = refl
swap false false = refl

module _ {K X : Type 0} {R : K → K → Ordering} (o : IsTotalOrder R) (exact : IsAntisymmetric R) (t : K → Bool) where
  -- no more among those that are kept
  count-retain : (m : FinMap R X) (p : K → X → Bool) → len (retain_keys (retain m p) t) ≤ len (retain_keys m t)
  count-retain m p =
      let same : retain_keys (retain m p) t ≡ retain (retain_keys m t) p =
      retain_both o exact m p t ∙ retain_same o exact m (λ k x. p k x && t k) (λ k x. t k && p k x) (λ k x. swap (p k x) (t k))
      ∙ sym (retain-retain o exact m (λ k _. t k) p) ∙ ap (λ n. retain n p) (retain_keys_retain o exact m t) in
      subst (λ n. len n ≤ len (retain_keys m t)) (sym same) (len-retain-≤ o exact (retain_keys m t) p)

  count-retain_keys : (m : FinMap R X) (p : K → Bool) → len (retain_keys (retain_keys m p) t) ≤ len (retain_keys m t)
  count-retain_keys m p = subst (λ n. len (retain_keys n t) ≤ len (retain_keys m t)) (retain_keys_retain o exact m p) (count-retain m (λ k _. p k))

  count-remove : (m : FinMap R X) (k : K) → len (retain_keys (remove m k) t) ≤ len (retain_keys m t)
  count-remove m k = subst (λ n. len (retain_keys n t) ≤ len (retain_keys m t)) (remove_retain o exact m k) (count-retain m (λ q _. not (eq_by_cmp R k q)))

  -- nor with an entry more that does not pass
  count-insert : (m : FinMap R X) (k : K) (x : X) → t k ≡ false → len (retain_keys (insert m k x) t) ≤ len (retain_keys m t)
  count-insert m k x fails =
      let same : retain_keys (insert m k x) t ≡ remove (retain_keys m t) k =
      sym (retain_keys_retain o exact (insert m k x) t) ∙ retain-insert_dropped o exact m (λ q _. t q) k x fails ∙ ap (λ n. remove n k) (retain_keys_retain o exact m t) in
      subst (λ n. len n ≤ len (retain_keys m t)) (sym same) (len-remove-≤ o exact (retain_keys m t) k)

-- ---- subscriptions

both_true : (a b : Bool) → (a && b) ≡ true → (a ≡ true) × (b ≡ true)
both_true true b is = (refl, is)
both_true false b is = absurd (cc)

-- what a Subscribe that is accepted leaves: its own eventgroup had room for one more, and the others have no more than before
module _ (config : Config) (s : Subscription) (until : Deadline) (now : ℕ) (table : SubscriberMap)
    (room : count_beside s (unexpired now table) < most_subscribers config s.instance) (fits : AreWithinLimits config table) where
  own_fits : subscriber_count s.instance s.eventgroup (subscribed_until s until now table) ≤ most_subscribers config s.instance
  own_fits =
      subst (λ n. subscriber_count s.instance s.eventgroup n ≤ most_subscribers config s.instance)
      (unexpired-unexpired subscriptions_total exact_subscriptions now now (insert table s (record { value = tt; until = until })) (omega arith))
      (count_within s.instance s.eventgroup s until now (most_subscribers config s.instance) table (subscribed_until s until now table) refl room)

  other_fits : (instance : InstanceId) (eventgroup : ℕ) → is_to instance eventgroup s ≡ false → subscriber_count instance eventgroup (subscribed_until s until now table) ≤ most_subscribers config instance
  other_fits instance eventgroup other =
      let put : SubscriberMap = insert table s (record { value = tt; until = until }) in
      let left = count-retain subscriptions_total exact_subscriptions (is_to instance eventgroup) put (λ _ lasting. not (has_passed now lasting.until)) in
      let same = count-insert subscriptions_total exact_subscriptions (is_to instance eventgroup) table s (record { value = tt; until = until }) other in
      at_most _ _ _ left (at_most _ _ _ same (fits instance eventgroup))

  pub accepted_fits : AreWithinLimits config (subscribed_until s until now table)
  accepted_fits instance eventgroup = cases (is_to instance eventgroup s) refl
    where
      cases : (b : Bool) → is_to instance eventgroup s ≡ b → subscriber_count instance eventgroup (subscribed_until s until now table) ≤ most_subscribers config instance
      cases true is =
          let parts = both_true (is_of_instance instance s) (eventgroup == s.eventgroup) is in
          subst₂ (λ i g. subscriber_count i g (subscribed_until s until now table) ≤ most_subscribers config i) (same_by_test exact_instances s.instance instance parts.0)
          (sym (eqb-true eventgroup s.eventgroup parts.1)) own_fits
      cases false is = other_fits instance eventgroup is

-- ---- items

abbrev pub Fits : Config → Tables → Type 0
Fits config t = (t.config ≡ config) × AreWithinLimits config t.subscribers

-- all items but one let no subscription more stand
abbrev Leaves : Item → Type 0
Leaves (SubscriptionAccepted s ttl) = ⊥
Leaves item = Unit {0}

module _ (config : Config) where
  changed_fits : (t : Tables) (item : Item) → Leaves item → Fits config t → Fits config (changed t item)
  changed_fits t (SubscriptionAccepted s ttl) leaves fits = absurd leaves
  changed_fits t (Ticked ms) leaves fits = (
    fits.0,
    λ instance eventgroup.
        at_most _ _ _ (count-retain subscriptions_total exact_subscriptions (is_to instance eventgroup) t.subscribers (λ _ lasting. not (has_passed (t.clock + ms) lasting.until)))
        (fits.1 instance eventgroup),
  )
  changed_fits t (PeerRebooted peer) leaves fits = (
    fits.0,
    λ instance eventgroup.
        at_most _ _ _ (count-retain_keys subscriptions_total exact_subscriptions (is_to instance eventgroup) t.subscribers (λ s. not (is_of_peer peer s)))
        (fits.1 instance eventgroup),
  )
  changed_fits t (SubscriptionStopped s) leaves fits = (
    fits.0,
    λ instance eventgroup.
        at_most _ _ _ (count-remove subscriptions_total exact_subscriptions (is_to instance eventgroup) t.subscribers s) (fits.1 instance eventgroup),
  )
  changed_fits t (OfferStopped stopped) leaves fits = (
    fits.0,
    λ instance eventgroup.
        at_most _ _ _ (count-retain_keys subscriptions_total exact_subscriptions (is_to instance eventgroup) t.subscribers (λ s. not (is_of_instance stopped s)))
        (fits.1 instance eventgroup),
  )
  changed_fits t item leaves fits = fits

  items_fit : (t : Tables) (items : List Item) → AllByRecursion Leaves items → Fits config t → Fits config (fold changed t items)
  items_fit t [] leaves fits = fits
  items_fit t (item ∷ items) leaves fits = items_fit (changed t item) items leaves.1 (changed_fits t item leaves.0 fits)

-- ---- rules

-- where no cause speaks against a Subscribe, there is room for one more
past : (offered major eventgroup : Bool) (cause : Option Cause)
    → (if not offered then Some NotOffered else if not major then Some WrongMajor else if not eventgroup then Some UnknownEventgroup else cause) ≡ None → cause ≡ None
past true true true cause none = none
past true true false cause none = absurd (cc)
past true false eventgroup cause none = absurd (cc)
past false major eventgroup cause none = absurd (cc)

room_if : (limit count : ℕ) (b : Bool) → nat_le limit count ≡ b → (if b then Some Full else None) ≡ None → count < limit
room_if limit count true is none = absurd (cc)
room_if limit count false is none = leb-false limit count is

limit_is : (head : EventgroupEntry) (up : Bool) (service : Option OfferedService) → (rules_by head up service).limit ≡ option_map_or (λ service. service.subscribers) service 0
limit_is head up None = refl
limit_is head up (Some service) = refl

abbrev is_subscribing : Rule → Bool
is_subscribing (TakesSubscribe peer head endpoint) = true
is_subscribing r = false

never : (b : Bool) → b ≡ false → b ≡ true → ⊥
never true other is = absurd (cc)
never false other is = absurd (cc)

module _ (config : Config) (t : Tables) (fits : Fits config t) where
  item_left : (r : Rule) → is_subscribing r ≡ false → (item : Item) → IsMet item r t → Leaves item
  item_left r other (SubscriptionAccepted s ttl) met = never (is_subscribing r) other (ap is_subscribing met.taken)
  item_left r other item met = tt

  others_fit : (r : Rule) → is_subscribing r ≡ false → Fits config (fold changed t (rule r t).items)
  others_fit r other =
      items_fit config t (rule r t).items (all_weaker (λ item. IsMet item r t) Leaves (item_left r other) (rule r t).items (rule_noted t r)) fits

  module _ (peer : Ipv4Addr) (head : EventgroupEntry) where
    room_for : (endpoint : SocketAddrV4) → nack_cause (rules_for head t) (subscribe_in peer head (Some endpoint)) (live_subscribers t) ≡ None
        → count_beside (subscription_at (subscribe_in peer head (Some endpoint)) endpoint) (live_subscribers t) < most_subscribers config (eventgroup_in head).instance
    room_for endpoint none =
        let rules = rules_for head t in
        let s : Subscription = subscription_at (subscribe_in peer head (Some endpoint)) endpoint in
        subst (λ limit. count_beside s (live_subscribers t) < limit)
        (limit_is head (is_up t (eventgroup_in head).instance) (offered_as t.config (eventgroup_in head).instance)
        ∙ ap (λ c. most_subscribers c (eventgroup_in head).instance) fits.0)
        (room_if rules.limit (count_beside s (live_subscribers t)) (nat_le rules.limit (count_beside s (live_subscribers t))) refl
        (past rules.is_offered rules.is_same_major rules.is_known_eventgroup _ none))

    subscribe_fits : (endpoint : Option SocketAddrV4) (cause : Option Cause) → nack_cause (rules_for head t) (subscribe_in peer head endpoint) (live_subscribers t) ≡ cause
        → Fits config (fold changed t (subscribe_by head (subscribe_in peer head endpoint) cause).items)
    subscribe_fits endpoint (Some cause) is = fits
    subscribe_fits None None is = fits
    subscribe_fits (Some endpoint) None is = (
      fits.0,
      accepted_fits config (subscription_at (subscribe_in peer head (Some endpoint)) endpoint) (deadline_after t.clock head.ttl) t.clock t.subscribers (room_for endpoint is) fits.1,
    )

  rule_fits : (r : Rule) → Fits config (fold changed t (rule r t).items)
  rule_fits (TakesSubscribe peer head endpoint) = subscribe_fits peer head endpoint _ refl
  rule_fits r = others_fit r refl

-- ---- plans, steps and inputs

module _ (config : Config) where
  pub run_fits : (p : Plan) (w : Work Tables) → Fits config w.state → Fits config (run plain p w).state
  run_fits rest w fits = fits
  run_fits (act r) w fits = rule_fits config w.state fits r
  run_fits (both p q) w fits = run_fits q (run plain p w) (run_fits p w fits)
  run_fits (asks f) w fits = run_fits (f w.state) w fits
  run_fits (replying f) w fits = run_fits (f w.replies) (record w { replies = [] }) fits

  pub started_fits : (delay : ℕ) → Fits config (answers_of (start_of config delay))
  started_fits delay = (
    refl,
    λ instance eventgroup.
        at_most _ _ _ (len-retain_keys-≤ subscriptions_total exact_subscriptions empty (is_to instance eventgroup))
        (subst (λ n. n ≤ most_subscribers config instance) (sym (len-empty subscription_cmp (Lasting (Unit {0})))) (omega arith)),
  )

  step_fits : (h : History) (plan : Plan) (refusal : Option NodeError) → Fits config (answers_of h) → Fits config (answers_of (stepped h (unless_refused refusal plan h)))
  step_fits h plan (Some refusal) fits = fits
  step_fits h plan None fits = subst (λ (w : Work Tables). Fits config w.state) (sym (run_shown plan (work_on h))) (run_fits plan (shown_work (work_on h)) fits)

  inputs_fit : (delay : ℕ) (inputs : List Input) → Fits config (answers_of (after_inputs (start_of config delay) inputs))
  inputs_fit delay [] = started_fits delay
  inputs_fit delay (input ∷ earlier) =
      let h : History = after_inputs (start_of config delay) earlier in step_fits h (plan_of input) (refusal_of input (answers_of h)) (inputs_fit delay earlier)

  pub within_limits : (delay : ℕ) (inputs : List Input) → AreWithinLimits config (subscribers_in (after_inputs (start_of config delay) inputs).items)
  within_limits delay inputs = (inputs_fit delay inputs).1

  -- and so is each list of different ones
  pub listed_within : (delay : ℕ) (inputs : List Input) (instance : InstanceId) (eventgroup : ℕ) (live : List Subscription) → IsDistinct (eq_by_cmp subscription_cmp) live
      → AllByRecursion (λ s. (is_to instance eventgroup s ≡ true) × (is_live (after_inputs (start_of config delay) inputs).items s ≡ true)) live
      → length live ≤ most_subscribers config instance
  listed_within delay inputs instance eventgroup live apart are =
      let all : SubscriberMap = subscribers_in (after_inputs (start_of config delay) inputs).items in
      at_most _ _ _
      (different subscriptions_total exact_subscriptions (retain_keys all (is_to instance eventgroup)) live apart
      (all_weaker (λ s. (is_to instance eventgroup s ≡ true) × (is_some (get all s) ≡ true)) (λ s. is_some (get (retain_keys all (is_to instance eventgroup)) s) ≡ true)
      (λ s both. passes subscriptions_total exact_subscriptions all (is_to instance eventgroup) s both.0 both.1) live are))
      (within_limits delay inputs instance eventgroup)
