-- Of the Subscribes that a step sends about an eventgroup exactly those open an exchange whose counter is not the last one.
use Rattle.std.proofs.Common.{◌≡◌, ℕ, List, Option, None, Some, Ok, arith, refl, ap, sym, subst, ◌∙◌}
use Rattle.std.specs.List.{Contains, flat_map}
use Rattle.std.specs.declared.net.ipv4_addr.Ipv4Addr.{Ipv4Addr}
use Rattle.sd_core.specs.declared.eventgroup.Eventgroup.{Eventgroup}
use Rattle.someip_node_rules.specs.declared.error.NodeError.{NodeError}
use Rattle.someip_node_rules.specs.histories.History.{History, answers_of, historic}
use Rattle.someip_node_rules.specs.rules.Inputs.{Input, plan_of, refusal_of}
use Rattle.someip_node_rules.specs.histories.Items as items
use Rattle.someip_node_rules.specs.histories.Items.{Item}
use Rattle.someip_node_rules.specs.rules.Plans.{Plan, Work, run}
use Rattle.someip_node_rules.specs.steps.Steps.{step, unless_refused, work_on}
use Rattle.someip_node_rules.specs.trails.Trails.{Done, given_by, trail_of}
use Rattle.someip_node_rules.specs.histories.WishQuestions.{course_at}
use Rattle.someip_node_rules.proofs.trails.MeaningLemmas.{done_by}
use Rattle.someip_node_rules.proofs.rules.StepRules.{config_there}
use Rattle.someip_world_rules.specs.exchanges.Beginnings.{SentSubscribe, about, begun_after, counter_after, last_counter, subscribes_in}
use Rattle.someip_world_rules.specs.exchanges.Namings.{of_subscription}
use Rattle.someip_world_rules.specs.exchanges.Openings.{Begins, Opens, OpensBy}
use Rattle.someip_world_rules.specs.declared.exchanges.exchange_key.ExchangeKey.{ExchangeKey}
use Rattle.someip_world_rules.specs.declared.exchanges.exchange_key.ExchangeKey.TheVariants as keys
use Rattle.someip_world_rules.proofs.about_exchanges.beginnings.AgreeingLemmas.{subscribe_with}
use Rattle.someip_world_rules.proofs.about_exchanges.beginnings.BeginningWalks.{Speaks}
use Rattle.someip_world_rules.proofs.about_exchanges.beginnings.InputBeginnings.{input_speaks}
use Rattle.someip_world_rules.proofs.about_exchanges.beginnings.SubscribesLemmas.{HasTtls}

-- ---- the key of a subscription

-- what it says beside the client
abbrev subscription_in : ExchangeKey → Option (Ipv4Addr × Eventgroup × ℕ)
subscription_in (keys.Subscription s) = Some (s.server, s.eventgroup, s.counter)
subscription_in key = None

module _ (s : History) (q : Eventgroup) (address peer : Ipv4Addr) (counter : ℕ) where
  abbrev own_key : ExchangeKey
  own_key = of_subscription address peer q counter

  -- the item by which it is opened begins the subscription
  opened_begins : (item : Item) → ((e : Eventgroup) × (p : Ipv4Addr) × (k : ℕ) × Begins s item e p k × (own_key ≡ of_subscription s.config.address p e k)) → Begins s item q peer counter
  opened_begins item (e, p, k, begins, is) =
      let same : Some (peer, q, counter) ≡ Some (p, e, k) = ap subscription_in is in
      let one : (peer, q, counter) ≡ (p, e, k) = cc in
      subst (λ (x : Ipv4Addr × Eventgroup × ℕ). Begins s item x.1 x.0 x.2) (sym one) begins

  pub opens_begins : (item : Item) → Opens s item own_key → Begins s item q peer counter
  opens_begins (items.Called call to session) opens = let none : ◌≡◌ {A = Option (Ipv4Addr × Eventgroup × ℕ)} (Some (peer, q, counter)) None = ap subscription_in opens in absurd cc
  opens_begins (items.Published event) opens = let none : ◌≡◌ {A = Option (Ipv4Addr × Eventgroup × ℕ)} (Some (peer, q, counter)) None = ap subscription_in opens.is in absurd cc
  opens_begins item opens = opened_begins item opens

  -- and the item that begins it opens it
  pub begins_opens : (item : Item) → s.config.address ≡ address → Begins s item q peer counter → Opens s item own_key
  begins_opens (items.Called call to session) is begins = let more = begins.more in absurd (omega (arith, more))
  begins_opens (items.Published event) is begins = let more = begins.more in absurd (omega (arith, more))
  begins_opens item is begins = (q, peer, counter, begins, ap (λ a. of_subscription a peer q counter) (sym is))

-- ---- a step

-- a step that is done was not refused
not_refused : (refusal : Option NodeError) (plan : Plan) (h : History) (done : Work History) → unless_refused refusal plan h ≡ Ok done → refusal ≡ None
not_refused None plan h done is = refl
not_refused (Some fault) plan h done is = absurd cc

-- the configuration of a node is the same at each rule of a step
same_address : (h : History) (input : Input) (done : Done) → Contains (trail_of h input) done → done.before.state.config.address ≡ h.config.address
same_address h input done among =
    ap (λ config. config.address) (config_there h input done among)

module _ (h : History) (input : Input) (q : Eventgroup) (done : Work History) (ttls : HasTtls h.config) (is : step h input ≡ Ok done) where
  -- the Subscribes of the eventgroup that the step sends
  abbrev sent : List SentSubscribe
  sent = about q (flat_map subscribes_in (given_by (trail_of h input)))

  abbrev last : Option ℕ
  last = last_counter (course_at h.items q).begun

  speaks : Speaks q (work_on h) (run historic (plan_of input) (work_on h)) (trail_of h input)
  speaks = input_speaks q h ttls input (not_refused (refusal_of input (answers_of h)) (plan_of input) h done is)

  -- their last counter is that of the last beginning then
  pub counted_begin : last_counter (course_at done.state.items q).begun ≡ counter_after last sent
  counted_begin = ap (λ (w : Work History). last_counter (course_at w.state.items q).begun) (done_by h input (refusal_of input (answers_of h)) done is) ∙ speaks.agrees.counted

  -- what is opened was sent with another counter than the last one
  pub only_begin : (peer : Ipv4Addr) (counter : ℕ) → OpensBy h input (of_subscription h.config.address peer q counter) → Contains (begun_after last sent) (subscribe_with q peer counter)
  only_begin peer counter o =
      speaks.agrees.only peer counter
      (record {
        done = o.done;
        among = o.among;
        item = o.item;
        meets = o.meets;
        begins = opens_begins o.done.before.state q h.config.address peer counter o.item o.opens;
      })

  -- and what was sent so opens one
  pub all_begin : (peer : Ipv4Addr) (counter : ℕ) → Contains (begun_after last sent) (subscribe_with q peer counter) → OpensBy h input (of_subscription h.config.address peer q counter)
  all_begin peer counter among =
      let b = speaks.agrees.all peer counter among in
      record {
        done = b.done;
        among = b.among;
        item = b.item;
        meets = b.meets;
        opens = begins_opens b.done.before.state q h.config.address peer counter b.item (same_address h input b.done b.among) b.begins;
      }
