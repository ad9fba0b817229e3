-- Each subscription that stands at a client was opened in a step: before it, and within it.
use Rattle.std.proofs.Common.{◌≡◌, ◌⊎◌, inl, inr, ℕ, suc, ◌<◌, ◌≤◌, ◌%◌, true, List, [], ◌∷◌, ◌++◌, length, take, slice_get, None, Some, Result, Ok, Err, arith, refl, sym, ap, subst, append_assoc, ◌∙◌}
use Rattle.std.specs.List.{AllByRecursion, Contains}
use Rattle.std.proofs.lemmas.List.Elements.{Contains-append_right}
use Rattle.std.proofs.lemmas.List.{append-nil}
use Rattle.std.specs.declared.net.ipv4_addr.Ipv4Addr.{Ipv4Addr}
use Rattle.std.specs.declared.net.socket_addr.SocketAddrV4.{SocketAddrV4}
use Rattle.sd_core.specs.declared.eventgroup.Eventgroup.{Eventgroup}
use Rattle.sd_core.specs.declared.received.ReceivedOffer.{ReceivedOffer}
use Rattle.sd_core.specs.declared.wish.Beginning.{Beginning}
use Rattle.sd_core.specs.declared.wish.SubscribeAnswer.{SubscribeAnswer}
use Rattle.someip_node_rules.specs.declared.config.Config.{Config}
use Rattle.someip_node_rules.specs.declared.error.NodeError.{NodeError}
use Rattle.someip_node_rules.specs.histories.History.{History, met}
use Rattle.someip_node_rules.specs.rules.Inputs.{Input, plan_of}
use Rattle.someip_node_rules.specs.histories.Items as items
use Rattle.someip_node_rules.specs.histories.Items.{Item}
use Rattle.someip_node_rules.specs.rules.Plans.{Work}
use Rattle.someip_node_rules.specs.histories.Questions.{clock_at}
use Rattle.someip_node_rules.specs.steps.Steps.{step, work_on}
use Rattle.someip_node_rules.specs.trails.Trails.{Done, after, met_by, outcome_of, trail_of}
use Rattle.someip_node_rules.specs.histories.WishQuestions.{course_at, is_answered_by, known_peer_at, same_eventgroup}
use Rattle.someip_node_rules.proofs.trails.MeetingLemmas.{state_met}
use Rattle.someip_node_rules.proofs.lists.MemberLemmas.{at_member}
use Rattle.someip_node_rules.proofs.rules.PlanLemmas.{before_each}
use Rattle.someip_node_rules.proofs.rules.StepRules.{config_kept, config_there}
use Rattle.someip_world_schedule.specs.declared.step.Step.{Step}
use Rattle.someip_world_setup.specs.declared.setup_node.SetupNode.{SetupNode}
use Rattle.someip_world_rules.specs.Deeds.{Takes}
use Rattle.someip_world_rules.specs.Runs.{World, history_after}
use Rattle.someip_world_rules.specs.Turns.{LeadTo, Turn}
use Rattle.someip_world_rules.specs.Deliveries.{Does}
use Rattle.someip_world_rules.proofs.Fronts.{within}
use Rattle.someip_world_rules.specs.exchanges.Namings.{of_subscription}
use Rattle.someip_world_rules.specs.declared.exchanges.exchange_key.ExchangeKey.{ExchangeKey}
use Rattle.someip_world_rules.specs.exchanges.Openings.{Begins, Opened, Opens}
use Rattle.someip_world_rules.proofs.about_exchanges.beginnings.CourseLemmas.{BeginsAt, GoesOn, acked_so, offered_so, tame_goes_on, wished_so}
use Rattle.someip_world_safety.proofs.runs.EachNode.{each_node}
use Rattle.someip_world_safety.proofs.subscriptions.RuleItems.{AWish, AllTame, AnAck, AnOffer, Kinds, Tame, after_more, kinds_of}

module _ (nodes : List SetupNode) (configs : List Config) (ss : List Step) where
  -- an exchange of a key was opened in a step, or in an earlier one
  abbrev pub WasOpened : ℕ → ExchangeKey → Type 0
  WasOpened n key = (j : ℕ) × (j ≤ n) × Opened nodes configs ss j key

  -- ---- within a step

  module _ (n : ℕ) (does : Does nodes configs ss n) where
    abbrev h : History
    h = does.turn.history

    abbrev trail : List Done
    trail = trail_of does.turn.history does.input

    abbrev address : Ipv4Addr
    address = does.turn.history.config.address

    -- all subscriptions that stand at a history within the step were opened
    abbrev pub AllOpened : History → Type 0
    AllOpened at = (q : Eventgroup) (b : Beginning) → (course_at at.items q).beginning ≡ Some b → WasOpened n (of_subscription address b.peer q b.counter)

    -- tame items leave it so
    tame_step : (xs : List Item) (at : History) → AllTame xs → AllOpened at → AllOpened (after at xs)
    tame_step [] at all old = old
    tame_step (x ∷ xs) at all old = tame_step xs (met at x) all.1 (λ q b is. old q b ((tame_goes_on x at.items q all.0).keeps b is))

    module _ (d : Done) (among : Contains trail d) (own : d.before.state.config.address ≡ address) where
      abbrev at : History
      at = d.before.state

      -- what begins by an item of a rule opens its exchange in this step
      begins_so : (x : Item) (q : Eventgroup) (peer : Ipv4Addr) (counter : ℕ) (b : Beginning) → (outcome_of d).items ≡ x ∷ []
          → ((key : ExchangeKey) → (e : Eventgroup) × (p : Ipv4Addr) × (c : ℕ) × Begins at x e p c × (key ≡ of_subscription at.config.address p e c) → Opens at x key)
          → BeginsAt (course_at at.items q) (course_at (met at x).items q) peer counter → (course_at (met at x).items q).beginning ≡ Some b
          → WasOpened n (of_subscription address b.peer q b.counter)
      begins_so x q peer counter b one opens begins is =
          let same : record { peer = peer; counter = counter; until = None } ≡ b = let stands = begins.stands in cc in
          let key_is : of_subscription at.config.address peer q counter ≡ of_subscription address b.peer q b.counter =
          (λ i. of_subscription (own i) (same i).peer q (same i).counter) in (
            n,
            omega arith,
            subst (Opened nodes configs ss n) key_is (record {
              does = does;
              by = record {
                done = d;
                among = among;
                item = x;
                meets = one;
                opens = opens (of_subscription at.config.address peer q counter) (q, peer, counter, record { more = begins.count; stands = begins.stands }, refl);
              };
            }),
          )

      module _ (old : AllOpened at) where
        -- an Offer
        offer_step : (offer : ReceivedOffer) (endpoint : SocketAddrV4) → (outcome_of d).items ≡ items.OfferCounted offer endpoint ∷ [] → AllOpened (met at (items.OfferCounted offer endpoint))
        offer_step offer endpoint one q b is = cases (offered_so offer endpoint at.items q)
          where
            cases : GoesOn (course_at at.items q) (course_at (items.OfferCounted offer endpoint ∷ at.items) q)
                ⊎ BeginsAt (course_at at.items q) (course_at (items.OfferCounted offer endpoint ∷ at.items) q) offer.peer ((course_at at.items q).begun % 16) → WasOpened n (of_subscription address b.peer q b.counter)
            cases (inl goes) = old q b (goes.keeps b is)
            cases (inr begins) = begins_so (items.OfferCounted offer endpoint) q offer.peer _ b one (λ key o. o) begins is

        -- a wish
        wish_step : (eventgroup : Eventgroup) → (outcome_of d).items ≡ items.Wished eventgroup ∷ [] → AllOpened (met at (items.Wished eventgroup))
        wish_step eventgroup one q b is = cases (wished_so eventgroup at.items q)
          where
            cases : GoesOn (course_at at.items q) (course_at (items.Wished eventgroup ∷ at.items) q)
                ⊎ ((peer : Ipv4Addr) × (known_peer_at at.items eventgroup.instance ≡ Some peer)
                × BeginsAt (course_at at.items q) (course_at (items.Wished eventgroup ∷ at.items) q) peer ((course_at at.items q).begun % 16)) → WasOpened n (of_subscription address b.peer q b.counter)
            cases (inl goes) = old q b (goes.keeps b is)
            cases (inr begins) = begins_so (items.Wished eventgroup) q begins.0 _ b one (λ key o. o) begins.2 is

        -- an Ack
        ack_step : (answer : SubscribeAnswer) (ttl : ℕ) → AllOpened (met at (items.AckCame answer ttl))
        ack_step answer ttl q b is = cases ((acked_so answer ttl at.items q).keeps b is)
          where
            cases : ((course_at at.items q).beginning ≡ Some b)
                ⊎ ((was : Beginning) × ((course_at at.items q).beginning ≡ Some was) × (was.peer ≡ b.peer) × (was.counter ≡ b.counter) × (is_answered_by (clock_at at.items) answer was ≡ true)
                × (same_eventgroup q answer.eventgroup ≡ true)) → WasOpened n (of_subscription address b.peer q b.counter)
            cases (inl stood) = old q b stood
            cases (inr w) = subst (WasOpened n) (λ i. of_subscription address (w.2 i) q (w.3 i)) (old q w.0 w.1)

        -- a rule
        done_step : Kinds d.by (outcome_of d).items → AllOpened (after at (outcome_of d).items)
        done_step (Tame all) = tame_step (outcome_of d).items at all old
        done_step (AnOffer offer endpoint by one) = subst (λ xs. AllOpened (after at xs)) (sym one) (offer_step offer endpoint one)
        done_step (AnAck peer head answer ttl by named counted of one) = subst (λ xs. AllOpened (after at xs)) (sym one) (ack_step answer ttl)
        done_step (AWish eventgroup by one) = subst (λ xs. AllOpened (after at xs)) (sym one) (wish_step eventgroup one)

    -- before a rule and after it
    abbrev pub OpenedAround : Done → Type 0
    OpenedAround d = AllOpened d.before.state × AllOpened (after d.before.state (outcome_of d).items)

    -- through the rules of the step, one after the other
    walk : (earlier later : List Done) → trail ≡ earlier ++ later → AllOpened (after h (met_by earlier)) → AllByRecursion OpenedAround later × AllOpened (after h (met_by trail))
    walk earlier [] is old = (tt, subst (λ ds. AllOpened (after h (met_by ds))) (sym (is ∙ append-nil earlier)) old)
    walk earlier (d ∷ later) is old =
        let at = (before_each (plan_of does.input) (work_on h) earlier later d is).0 in
        let among : Contains trail d = subst (λ ds. Contains ds d) (sym is) (Contains-append_right earlier (d ∷ later) d (0, omega arith, refl)) in
        let own : d.before.state.config.address ≡ address = ap (λ c. c.address) (config_there h does.input d among) in
        let here : AllOpened d.before.state = subst AllOpened (sym at) old in
        let next : AllOpened (after d.before.state (outcome_of d).items) = done_step d among own here (kinds_of d.before.state d.by) in
        let rest = walk (earlier ++ d ∷ []) later (is ∙ sym (append_assoc earlier (d ∷ []) later))
        (subst AllOpened (ap (λ x. after x (outcome_of d).items) at ∙ after_more h earlier d) next) in
        (((here, next), rest.0), rest.1)

    -- after the whole step
    all_after : AllOpened h → AllOpened (after h (met_by trail))
    all_after old = (walk [] trail refl old).1

    -- and around each of its rules
    pub all_around : AllOpened h → (d : Done) → Contains trail d → OpenedAround d
    all_around old d among = at_member OpenedAround trail d (walk [] trail refl old).0 among

  -- ---- from step to step

  -- those that stand at a node before a step were opened in earlier ones
  abbrev pub WereOpened : ℕ → ℕ → History → Type 0
  WereOpened n place h =
      (q : Eventgroup) (b : Beginning) → (course_at h.items q).beginning ≡ Some b
      → (j : ℕ) × (j < n) × Opened nodes configs ss j (of_subscription h.config.address b.peer q b.counter)

  -- an earlier step is at most the step
  sooner : (n : ℕ) (key : ExchangeKey) → (j : ℕ) × (j < n) × Opened nodes configs ss j key → WasOpened n key
  sooner n key o = let less = o.1 in (o.0, omega (arith, less), o.2)

  -- a step is before the next
  later : (n : ℕ) (key : ExchangeKey) → WasOpened n key → (j : ℕ) × (j < suc n) × Opened nodes configs ss j key
  later n key o = let less = o.1 in (o.0, omega (arith, less), o.2)

  -- after a step that takes an input
  goes : (n : ℕ) (s : Step) (t : Turn nodes configs ss n s) (input : Input) → t.deed ≡ Takes input → (due : Result (Work History) NodeError) → step t.history input ≡ due → WereOpened n t.place t.history
      → WereOpened (suc n) t.place (history_after t.history due)
  goes n s t input takes (Err refusal) due was q b is = later n _ (sooner n _ (was q b is))
  goes n s t input takes (Ok done) due was q b is =
      let does : Does nodes configs ss n = record { step = s; turn = t; input = input; takes = takes; done = done; happened = due } in
      let end = state_met t.history input done due in
      let own : t.history.config.address ≡ done.state.config.address = sym (ap (λ x. x.config.address) end ∙ ap (λ c. c.address) (config_kept t.history (met_by (trail_of t.history input)))) in
      subst (λ a. (j : ℕ) × (j < suc n) × Opened nodes configs ss j (of_subscription a b.peer q b.counter)) own
      (later n _ (all_after n does (λ e c stands. sooner n _ (was e c stands)) q b (subst (λ x. (course_at x.items q).beginning ≡ Some b) end is)))

  -- before each step
  all_opened : (n : ℕ) (w : World) → n ≤ length ss → LeadTo nodes configs (take n ss) w → (place : ℕ) (h : History) → slice_get w.histories place ≡ Some h → WereOpened n place h
  all_opened =
      each_node nodes configs ss WereOpened (λ n place config delay q b is. absurd cc)
      (λ n place h idle alive was q b is. later n _ (sooner n _ (was q b is))) goes

  -- those that stand where a step begins were opened
  pub opened_first : (n : ℕ) (does : Does nodes configs ss n) → AllOpened n does does.turn.history
  opened_first n does q b is =
      let t = does.turn in
      let inside = within ss n does.step t.here in
      sooner n _ (all_opened n t.before (omega (arith, inside)) t.led t.place t.history t.stands q b is)
