-- How the Subscribes that are said change what is kept of subscriptions and of their last counters.
use Rattle.std.proofs.Common.{◌≡◌, ◌⊎◌, inl, inr, ℕ, Bool, true, false, cond, if◌then◌else◌, eqb, eqb-true, List, [], ◌∷◌, ◌++◌, Option, None, Some, refl, sym, ap, subst, ◌∙◌}
use Rattle.std.specs.FinMap as finite
use Rattle.std.specs.FinMap.{get-insert}
use Rattle.std.specs.List.{AllByRecursion, Contains, flat_map}
use Rattle.std.specs.Option.{option_map_or}
use Rattle.std.specs.Ordering.{eq_by_cmp}
use Rattle.std.specs.declared.net.ipv4_addr.Ipv4Addr.{Ipv4Addr}
use Rattle.std.proofs.lemmas.List.Elements.{Contains-append_cases, Contains-append_left, Contains-append_right, filter-append}
use Rattle.someip_tables.proofs.Entries.{own_test, same_by_test}
use Rattle.sd_core.specs.EventgroupOrder.{eventgroups_total, exact_eventgroups}
use Rattle.someip_node_rules.specs.histories.WishQuestions.{same_eventgroup}
use Rattle.someip_world_rules.specs.exchanges.Beginnings.{SentSubscribe, about, begun_after, counter_after}
use Rattle.someip_world_rules.specs.exchanges.KeyOrder.{exact_subscriptions, subscription_cmp, subscriptions_total}
use Rattle.someip_world_rules.specs.declared.exchanges.exchange_key.ExchangeKey.{ExchangeKey}
use Rattle.someip_world_rules.specs.declared.exchanges.exchange_key.ExchangeKey.TheVariants as keys
use Rattle.someip_world_rules.specs.declared.exchanges.exchange_key.SubscriptionExchange.{SubscriptionExchange}
use Rattle.someip_world_rules.specs.declared.exchanges.naming.Naming.{Naming}
use Rattle.someip_world_rules.specs.declared.exchanges.naming.Side.{Side}
use Rattle.someip_world_rules.specs.declared.exchanges.naming.Side.TheVariants.{Answerer, Opener}
use Rattle.someip_world_rules.proofs.about_exchanges.beginnings.AgreeingLemmas.{subscribe_with}
use Rattle.someip_node_rules.proofs.lists.MemberLemmas.{only_one}
use Rattle.someip_world_rules.proofs.about_exchanges.runs.Among.{is_among}
use Rattle.someip_world_rules.proofs.about_exchanges.beginnings.BeginningLemmas.{begun-append, counter-append}
use Rattle.someip_world_rules.proofs.about_exchanges.openings.CallOpenings.{opener_of}
use Rattle.someip_world_verdict.specs.Booking.{Openings, opened_by, opened_by_all, opened_by_key, subscribed}
use Rattle.someip_world_verdict.specs.Contents.{subscribe_said}
use Rattle.someip_world_verdict.specs.declared.said.Said.{Said}
use Rattle.someip_world_verdict.proofs.keeping.SaidSteps.{begun, next_both, none_among}
use Rattle.someip_world_verdict.proofs.keeping.TakenSteps.{IsNext}

-- a Subscribe that is said is one of a client at an address
abbrev pub IsOwn : Ipv4Addr → Said → Type 0
IsOwn address s = s.subscribes ≡ true → (k : SubscriptionExchange) × (s.naming ≡ opener_of (keys.Subscription k)) × (k.client ≡ address)

-- the Subscribe that begins a subscription
abbrev pub of_key : SubscriptionExchange → SentSubscribe
of_key k = subscribe_with k.eventgroup k.server k.counter

module _ (n : ℕ) (address : Ipv4Addr) (k : SubscriptionExchange) where
  -- the counter that is kept of the eventgroup
  abbrev last_in : Openings → Option ℕ
  last_in o = finite.get o.counters k.eventgroup

  -- of some Subscribes one begins the subscription
  abbrev pub IsBegun : Option ℕ → List SentSubscribe → Type 0
  IsBegun last sent = (k.client ≡ address) × Contains (begun_after last (about k.eventgroup sent)) (of_key k)

  -- what is kept after some Subscribes were sent: the last counter, and the step of the subscription
  pub record Follows (sent : List SentSubscribe) (o now : Openings) : Type 0 where
    pub counted : finite.get now.counters k.eventgroup ≡ counter_after (finite.get o.counters k.eventgroup) (about k.eventgroup sent)
    pub taken : IsNext n (IsBegun (finite.get o.counters k.eventgroup) sent) (finite.get o.taken.subscriptions k) (finite.get now.taken.subscriptions k)

  -- ---- none, and one list after another

  -- where no Subscribe is said
  follows_none : (o now : Openings) → now.counters ≡ o.counters → now.taken.subscriptions ≡ o.taken.subscriptions → Follows [] o now
  follows_none o now counters subscriptions = record {
    counted = ap (λ m. finite.get m k.eventgroup) counters;
    taken = inr (λ begins. none_among (of_key k) begins.1, ap (λ m. finite.get m k) subscriptions);
  }

  module _ (xs ys : List SentSubscribe) (a b c : Openings) where
    -- what begins in both lists
    begun_both : finite.get b.counters k.eventgroup ≡ counter_after (last_in a) (about k.eventgroup xs)
        → begun_after (last_in a) (about k.eventgroup (xs ++ ys)) ≡ begun_after (last_in a) (about k.eventgroup xs) ++ begun_after (last_in b) (about k.eventgroup ys)
    begun_both counted =
        ap (begun_after (last_in a)) (filter-append (λ s. same_eventgroup k.eventgroup s.eventgroup) xs ys)
        ∙ begun-append (last_in a) (about k.eventgroup xs) (about k.eventgroup ys)
        ∙ ap (λ last. begun_after (last_in a) (about k.eventgroup xs) ++ begun_after last (about k.eventgroup ys)) (sym counted)

    -- what is kept after both
    follows_both : Follows xs a b → Follows ys b c → Follows (xs ++ ys) a c
    follows_both first second =
        let both = begun_both first.counted in
        record {
          counted =
              second.counted ∙ ap (λ last. counter_after last (about k.eventgroup ys)) first.counted
              ∙ sym (counter-append (last_in a) (about k.eventgroup xs) (about k.eventgroup ys))
              ∙ ap (counter_after (last_in a)) (sym (filter-append (λ s. same_eventgroup k.eventgroup s.eventgroup) xs ys));
          taken =
              next_both n (IsBegun (last_in a) xs) (IsBegun (last_in b) ys) (IsBegun (last_in a) (xs ++ ys))
              (finite.get a.taken.subscriptions k) (finite.get b.taken.subscriptions k) (finite.get c.taken.subscriptions k)
              (λ x. (x.0, subst (λ zs. Contains zs (of_key k)) (sym both) (Contains-append_left (begun_after (last_in a) (about k.eventgroup xs)) (begun_after (last_in b) (about k.eventgroup ys)) (of_key k) x.1)))
              (λ y. (y.0, subst (λ zs. Contains zs (of_key k)) (sym both) (Contains-append_right (begun_after (last_in a) (about k.eventgroup xs)) (begun_after (last_in b) (about k.eventgroup ys)) (of_key k) y.1)))
              (λ z. cases z.0 (Contains-append_cases (begun_after (last_in a) (about k.eventgroup xs)) (begun_after (last_in b) (about k.eventgroup ys)) (of_key k)
              (subst (λ zs. Contains zs (of_key k)) both z.1)))
              first.taken second.taken;
        }
      where
        cases : k.client ≡ address → Contains (begun_after (last_in a) (about k.eventgroup xs)) (of_key k) ⊎ Contains (begun_after (last_in b) (about k.eventgroup ys)) (of_key k)
            → IsBegun (last_in a) xs ⊎ IsBegun (last_in b) ys
        cases client (inl here) = inl (client, here)
        cases client (inr there) = inr (client, there)

  -- ---- one Subscribe

  -- it has a counter
  abbrev has : Option ℕ → ℕ → Bool
  has last counter = option_map_or (λ c. eqb c counter) last false

  -- then that is the counter
  has_is : (last : Option ℕ) (counter : ℕ) → has last counter ≡ true → last ≡ Some counter
  has_is None counter is = absurd cc
  has_is (Some c) counter is = ap Some (eqb-true c counter is)

  module _ (own : SubscriptionExchange) (client : own.client ≡ address) (o : Openings) where
    -- the test of the last counter, and of the eventgroup
    abbrev then_is : Bool → Openings
    then_is c = if c then o else begun n own o

    abbrev about_own : Bool → List SentSubscribe
    about_own b = if b then of_key own ∷ [] else []

    -- the last counter of the eventgroup after the subscription began
    counter_inserted : (b : Bool) → same_eventgroup k.eventgroup own.eventgroup ≡ b → last_in (begun n own o) ≡ cond b (Some own.counter) (last_in o)
    counter_inserted b is =
        get-insert eventgroups_total o.counters own.eventgroup own.counter k.eventgroup ∙ ap (λ t. cond t (Some own.counter) (last_in o)) is

    -- the last counter after the Subscribe
    one_counted : (b c : Bool) → same_eventgroup k.eventgroup own.eventgroup ≡ b → has (finite.get o.counters own.eventgroup) own.counter ≡ c
        → last_in (then_is c) ≡ counter_after (last_in o) (about_own b)
    one_counted true true same last =
        ap (finite.get o.counters) (same_by_test exact_eventgroups k.eventgroup own.eventgroup same) ∙ has_is (finite.get o.counters own.eventgroup) own.counter last
    one_counted true false same last = counter_inserted true same
    one_counted false true same last = refl
    one_counted false false same last = counter_inserted false same

    -- the entry of the subscription after that one began
    entry_inserted : (e : Bool) → eq_by_cmp subscription_cmp k own ≡ e
        → finite.get (begun n own o).taken.subscriptions k ≡ cond e (Some n) (finite.get o.taken.subscriptions k)
    entry_inserted e is =
        get-insert subscriptions_total o.taken.subscriptions own n k ∙ ap (λ t. cond t (Some n) (finite.get o.taken.subscriptions k)) is

    -- the subscription of the same key is about the same eventgroup
    own_eventgroup : k ≡ own → same_eventgroup k.eventgroup own.eventgroup ≡ true
    own_eventgroup same = ap (λ (x : SubscriptionExchange). same_eventgroup k.eventgroup x.eventgroup) (sym same) ∙ own_test eventgroups_total k.eventgroup

    abbrev IsFirst : Bool → Type 0
    IsFirst b = (k.client ≡ address) × Contains (begun_after (last_in o) (about_own b)) (of_key k)

    abbrev NextIf : Bool → Bool → Type 0
    NextIf b c = IsNext n (IsFirst b) (finite.get o.taken.subscriptions k) (finite.get (then_is c).taken.subscriptions k)

    -- a subscription of another eventgroup stays
    other_group : (e : Bool) → eq_by_cmp subscription_cmp k own ≡ e → same_eventgroup k.eventgroup own.eventgroup ≡ false → NextIf false false
    other_group true is differs = let same = own_eventgroup (same_by_test exact_subscriptions k own is) in absurd cc
    other_group false is differs = inr (λ first. none_among (of_key k) first.1, entry_inserted false is)

    -- one with another counter begins
    begins_one : same_eventgroup k.eventgroup own.eventgroup ≡ true → has (finite.get o.counters own.eventgroup) own.counter ≡ false
        → begun_after (last_in o) (of_key own ∷ []) ≡ of_key own ∷ []
    begins_one same last =
        let at : last_in o ≡ finite.get o.counters own.eventgroup = ap (finite.get o.counters) (same_by_test exact_eventgroups k.eventgroup own.eventgroup same) in
        ap (λ b. if b then [] else of_key own ∷ []) (ap (λ l. has l own.counter) at ∙ last)

    -- one with the last counter renews
    renews_one : same_eventgroup k.eventgroup own.eventgroup ≡ true → has (finite.get o.counters own.eventgroup) own.counter ≡ true
        → begun_after (last_in o) (of_key own ∷ []) ≡ []
    renews_one same last =
        let at : last_in o ≡ finite.get o.counters own.eventgroup = ap (finite.get o.counters) (same_by_test exact_eventgroups k.eventgroup own.eventgroup same) in
        ap (λ b. if b then [] else of_key own ∷ []) (ap (λ l. has l own.counter) at ∙ last)

    -- the client is the same, so the keys are
    same_key : k.client ≡ address → of_key own ≡ of_key k → own ≡ k
    same_key mine same = λ i. record {
      client = (client ∙ sym mine) i;
      server = (same i).server;
      eventgroup = (same i).eventgroup;
      counter = (same i).counter;
    }

    -- one that begins is just the subscription of its key
    own_group : (e : Bool) → eq_by_cmp subscription_cmp k own ≡ e → begun_after (last_in o) (of_key own ∷ []) ≡ of_key own ∷ [] → NextIf true false
    own_group true is begins =
        let same = same_by_test exact_subscriptions k own is in
        inl (
          (ap (λ (x : SubscriptionExchange). x.client) same ∙ client, subst (λ xs. Contains xs (of_key k)) (sym begins) (is_among (of_key own) (of_key k) (ap of_key same))),
          entry_inserted true is,
        )
    own_group false is begins = inr (λ first. differs first.0 (only_one (of_key own) (of_key k) (subst (λ xs. Contains xs (of_key k)) begins first.1)), entry_inserted false is)
      where
        differs : k.client ≡ address → of_key k ≡ of_key own → ⊥
        differs mine same =
            let tied : eq_by_cmp subscription_cmp k own ≡ true = ap (eq_by_cmp subscription_cmp k) (same_key mine (sym same)) ∙ own_test subscriptions_total k in
            absurd cc

    -- the entry of the subscription after the Subscribe
    one_taken : (b c : Bool) → same_eventgroup k.eventgroup own.eventgroup ≡ b → has (finite.get o.counters own.eventgroup) own.counter ≡ c → NextIf b c
    one_taken false true same last = inr (λ first. none_among (of_key k) first.1, refl)
    one_taken false false same last = other_group (eq_by_cmp subscription_cmp k own) refl same
    one_taken true true same last =
        inr (λ first. none_among (of_key k) (subst (λ xs. Contains xs (of_key k)) (renews_one same last) first.1), refl)
    one_taken true false same last = own_group (eq_by_cmp subscription_cmp k own) refl (begins_one same last)

    -- so what is kept follows it
    follows_one : Follows (of_key own ∷ []) o (subscribed n own o)
    follows_one = record {
      counted = one_counted (same_eventgroup k.eventgroup own.eventgroup) (has (finite.get o.counters own.eventgroup) own.counter) refl refl;
      taken = one_taken (same_eventgroup k.eventgroup own.eventgroup) (has (finite.get o.counters own.eventgroup) own.counter) refl refl;
    }

  -- ---- what is said

  -- what is no Subscribe begins nothing
  said_alone : (side : Side) (key : ExchangeKey) (o : Openings) → Follows [] o (opened_by_key n false side key o)
  said_alone Opener (keys.Call own) o = follows_none o _ refl refl
  said_alone Opener (keys.Subscription own) o = follows_none o _ refl refl
  said_alone Opener (keys.Event own) o = follows_none o _ refl refl
  said_alone Answerer key o = follows_none o _ refl refl

  -- what is kept after one naming
  said_one : (subscribes : Bool) (naming : Naming) (o : Openings) → IsOwn address (record { naming = naming; subscribes = subscribes })
      → Follows (subscribe_said (record { naming = naming; subscribes = subscribes })) o (opened_by n (record { naming = naming; subscribes = subscribes }) o)
  said_one false naming o own = said_alone naming.side naming.key o
  said_one true naming o own =
      let is = own refl in
      subst (λ m. Follows (subscribe_said (record { naming = m; subscribes = true })) o (opened_by n (record { naming = m; subscribes = true }) o)) (sym is.1)
      (follows_one is.0 is.2 o)

  -- what is kept after all that is said, where each Subscribe of it is the client's own
  pub all_follow : (said : List Said) → AllByRecursion (IsOwn address) said → (o : Openings) → Follows (flat_map subscribe_said said) o (opened_by_all n said o)
  all_follow [] own o = follows_none o o refl refl
  all_follow (s ∷ said) own o =
      follows_both (subscribe_said s) (flat_map subscribe_said said) o (opened_by n s o) (opened_by_all n said (opened_by n s o))
      (said_one s.subscribes s.naming o own.0) (all_follow said own.1 (opened_by n s o))
