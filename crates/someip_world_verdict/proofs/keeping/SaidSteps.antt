-- How what some datagrams say changes what is kept of calls and of events.
use Rattle.std.proofs.Common.{◌≡◌, ◌⊎◌, inl, inr, ℕ, Bool, true, false, cond, if◌then◌else◌, List, [], ◌∷◌, ◌==◌, map, Option, Some, refl, sym, ap, ◌∙◌}
use Rattle.std.specs.FinMap as finite
use Rattle.std.specs.FinMap.{get-insert}
use Rattle.std.specs.List.{Contains}
use Rattle.std.specs.Option.{option_map_or}
use Rattle.std.specs.Ordering.{eq_by_cmp}
use Rattle.std.proofs.lemmas.List.Elements.{Contains-append_cases, Contains-append_left, Contains-append_right}
use Rattle.someip_tables.proofs.Entries.{own_test, same_by_test}
use Rattle.someip_node_rules.proofs.lists.MemberLemmas.{at_member, only_one}
use Rattle.someip_world_rules.specs.exchanges.KeyOrder.{calls_total, call_cmp, exact_calls}
use Rattle.someip_world_rules.specs.declared.exchanges.exchange_key.CallExchange.{CallExchange}
use Rattle.someip_world_rules.specs.declared.exchanges.exchange_key.ExchangeKey.{ExchangeKey}
use Rattle.someip_world_rules.specs.declared.exchanges.exchange_key.ExchangeKey.TheVariants as keys
use Rattle.someip_world_rules.specs.declared.exchanges.exchange_key.SubscriptionExchange.{SubscriptionExchange}
use Rattle.someip_world_rules.specs.declared.exchanges.naming.Naming.{Naming}
use Rattle.someip_world_rules.specs.declared.exchanges.naming.Side.{Side}
use Rattle.someip_world_rules.specs.declared.exchanges.naming.Side.TheVariants.{Answerer, Opener}
use Rattle.someip_world_rules.proofs.about_exchanges.runs.Among.{is_among}
use Rattle.someip_world_rules.proofs.about_exchanges.openings.CallOpenings.{opener_of}
use Rattle.someip_world_verdict.specs.Books.{taken_with}
use Rattle.someip_world_verdict.specs.Booking.{Openings, opened_by, opened_by_all, opened_by_key}
use Rattle.someip_world_verdict.specs.declared.said.Said.{Said}
use Rattle.someip_world_verdict.proofs.keeping.TakenSteps.{IsNext}

-- ---- one step after another

-- a key that one of two opens, or the other
pub next_both : (n : ℕ) (P Q R : Type 0) (a b c : Option ℕ) → (P → R) → (Q → R) → (R → P ⊎ Q) → IsNext n P a b → IsNext n Q b c → IsNext n R a c
next_both n P Q R a b c left right back one (inl own) = inl (right own.0, own.1)
next_both n P Q R a b c left right back (inl own) (inr other) = inl (left own.0, other.1 ∙ own.1)
next_both n P Q R a b c left right back (inr one) (inr other) = inr (λ r. cases (back r), other.1 ∙ one.1)
  where
    cases : P ⊎ Q → ⊥
    cases (inl p) = one.0 p
    cases (inr q) = other.0 q

-- the same, where it is said otherwise when a key is opened
pub next_same : (n : ℕ) (P Q : Type 0) (was now : Option ℕ) → (P → Q) → (Q → P) → IsNext n P was now → IsNext n Q was now
next_same n P Q was now to back (inl own) = inl (to own.0, own.1)
next_same n P Q was now to back (inr other) = inr (λ q. other.0 (back q), other.1)

-- nothing stands in no list
pub none_among : {X : Type 0} (x : X) → Contains [] x → ⊥
none_among x among = at_member (λ y. ⊥) [] x tt among

module _ (n : ℕ) where
  -- what is kept as a subscription begins
  abbrev pub begun : SubscriptionExchange → Openings → Openings
  begun k o = record { taken = taken_with (keys.Subscription k) n o.taken; counters = finite.insert o.counters k.eventgroup k.counter }

  -- it does not where its counter is the last one of its eventgroup
  abbrev pub repeats : SubscriptionExchange → Openings → Bool
  repeats k o = option_map_or (λ counter. counter == k.counter) (finite.get o.counters k.eventgroup) false

  -- ---- calls

  -- a Subscribe leaves what is kept of calls and events
  if_begun : (b : Bool) (k : SubscriptionExchange) (o : Openings)
      → ((if b then o else begun k o).taken.calls ≡ o.taken.calls) × ((if b then o else begun k o).taken.events ≡ o.taken.events)
  if_begun true k o = (refl, refl)
  if_begun false k o = (refl, refl)

  module _ (k : CallExchange) where
    -- a naming of the call by the opener takes the key, one of another call does not
    by_call : (own : CallExchange) (o : Openings) (b : Bool) → eq_by_cmp call_cmp k own ≡ b
        → IsNext n (opener_of (keys.Call own) ≡ opener_of (keys.Call k)) (finite.get o.taken.calls k) (finite.get (finite.insert o.taken.calls own n) k)
    by_call own o true is =
        inl (
          ap (λ x. opener_of (keys.Call x)) (sym (same_by_test exact_calls k own is)),
          get-insert calls_total o.taken.calls own n k ∙ ap (λ b. cond b (Some n) (finite.get o.taken.calls k)) is,
        )
    by_call own o false is =
        inr (λ same. differs (ap (λ (x : Naming). x.key) same), get-insert calls_total o.taken.calls own n k ∙ ap (λ b. cond b (Some n) (finite.get o.taken.calls k)) is)
      where
        differs : keys.Call own ≡ keys.Call k → ⊥
        differs same =
            let one : own ≡ k = cc in
            let tied : eq_by_cmp call_cmp k own ≡ true = ap (eq_by_cmp call_cmp k) one ∙ own_test calls_total k in
            absurd cc

    -- what one naming makes of the entry of a call
    call_by : (subscribes : Bool) (side : Side) (key : ExchangeKey) (o : Openings)
        → IsNext n (record { key = key; side = side } ≡ opener_of (keys.Call k)) (finite.get o.taken.calls k) (finite.get (opened_by_key n subscribes side key o).taken.calls k)
    call_by subscribes Opener (keys.Call own) o = by_call own o (eq_by_cmp call_cmp k own) refl
    call_by true Opener (keys.Subscription own) o =
        inr (λ same. let other = ap (λ (x : Naming). x.key) same in absurd cc, ap (λ m. finite.get m k) (if_begun (repeats own o) own o).0)
    call_by false Opener (keys.Subscription own) o = inr (λ same. let other = ap (λ (x : Naming). x.key) same in absurd cc, refl)
    call_by subscribes Opener (keys.Event own) o = inr (λ same. let other = ap (λ (x : Naming). x.key) same in absurd cc, refl)
    call_by subscribes Answerer key o = inr (λ same. let other = ap (λ (x : Naming). x.side) same in absurd cc, refl)

    -- and what all of them make of it
    pub calls_by : (said : List Said) (o : Openings)
        → IsNext n (Contains (map (λ s. s.naming) said) (opener_of (keys.Call k))) (finite.get o.taken.calls k) (finite.get (opened_by_all n said o).taken.calls k)
    calls_by [] o = inr (none_among (opener_of (keys.Call k)), refl)
    calls_by (s ∷ said) o =
        next_both n (s.naming ≡ opener_of (keys.Call k)) (Contains (map (λ x. x.naming) said) (opener_of (keys.Call k)))
        (Contains (map (λ x. x.naming) (s ∷ said)) (opener_of (keys.Call k)))
        (finite.get o.taken.calls k) (finite.get (opened_by n s o).taken.calls k) (finite.get (opened_by_all n said (opened_by n s o)).taken.calls k)
        (λ own. Contains-append_left (s.naming ∷ []) (map (λ x. x.naming) said) (opener_of (keys.Call k)) (is_among s.naming (opener_of (keys.Call k)) (sym own)))
        (λ there. Contains-append_right (s.naming ∷ []) (map (λ x. x.naming) said) (opener_of (keys.Call k)) there)
        (λ among. cases (Contains-append_cases (s.naming ∷ []) (map (λ x. x.naming) said) (opener_of (keys.Call k)) among))
        (call_by s.subscribes s.naming.side s.naming.key o)
        (calls_by said (opened_by n s o))
      where
        cases : Contains (s.naming ∷ []) (opener_of (keys.Call k)) ⊎ Contains (map (λ x. x.naming) said) (opener_of (keys.Call k))
            → (s.naming ≡ opener_of (keys.Call k)) ⊎ Contains (map (λ x. x.naming) said) (opener_of (keys.Call k))
        cases (inl here) = inl (sym (only_one s.naming (opener_of (keys.Call k)) here))
        cases (inr there) = inr there

  -- ---- events

  -- no naming takes the key of an event
  event_by : (subscribes : Bool) (side : Side) (key : ExchangeKey) (o : Openings) → (opened_by_key n subscribes side key o).taken.events ≡ o.taken.events
  event_by subscribes Opener (keys.Call own) o = refl
  event_by true Opener (keys.Subscription own) o = (if_begun (repeats own o) own o).1
  event_by false Opener (keys.Subscription own) o = refl
  event_by subscribes Opener (keys.Event own) o = refl
  event_by subscribes Answerer key o = refl

  -- no datagram takes the key of an event
  pub events_by : (said : List Said) (o : Openings) → (opened_by_all n said o).taken.events ≡ o.taken.events
  events_by [] o = refl
  events_by (s ∷ said) o = events_by said (opened_by n s o) ∙ event_by s.subscribes s.naming.side s.naming.key o
