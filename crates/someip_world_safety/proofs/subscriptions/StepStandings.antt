-- Within a step, a subscription that stands at a client is the newest exchange of its key; and where it was acknowledged by a server that is no liar, that accepted it.
use Rattle.std.proofs.Common.{◌≡◌, ◌⊎◌, inl, inr, ℕ, suc, ◌<◌, ◌≤◌, ◌%◌, Bool, true, false, ltb, List, [], ◌∷◌, ◌++◌, slice_get, None, Some, arith, refl, sym, ap, subst, append_assoc, ◌∙◌}
use Rattle.std.specs.List.{AllByRecursion, Contains}
use Rattle.std.proofs.lemmas.List.Elements.{Contains-append_right}
use Rattle.std.proofs.lemmas.Bool.{ltb-true, ltb-false}
use Rattle.std.proofs.lemmas.List.{append-nil}
use Rattle.std.specs.declared.net.ipv4_addr.Ipv4Addr.{Ipv4Addr}
use Rattle.std.specs.declared.net.socket_addr.SocketAddrV4.{SocketAddrV4}
use Rattle.someip_tables.proofs.Entries.{same_by_test}
use Rattle.someip_tables.specs.declared.deadline.Deadline.{Deadline}
use Rattle.sd_wire.specs.declared.entry.EventgroupEntry.{EventgroupEntry}
use Rattle.sd_core.specs.declared.eventgroup.Eventgroup.{Eventgroup}
use Rattle.sd_core.specs.declared.received.ReceivedOffer.{ReceivedOffer}
use Rattle.sd_core.specs.declared.wish.Beginning.{Beginning}
use Rattle.sd_core.specs.declared.wish.SubscribeAnswer.{SubscribeAnswer}
use Rattle.sd_core.specs.EventgroupOrder.{exact_eventgroups}
use Rattle.someip_node_rules.specs.declared.config.Config.{Config}
use Rattle.someip_node_rules.specs.histories.History.{History, met}
use Rattle.someip_node_rules.specs.rules.Inputs.{plan_of}
use Rattle.someip_node_rules.specs.histories.Items as items
use Rattle.someip_node_rules.specs.histories.Items.{Item}
use Rattle.someip_node_rules.specs.rules.Learning.{eventgroup_in}
use Rattle.someip_node_rules.specs.rules.Plans.{TakesAck, TakesOffer, Wishes}
use Rattle.someip_node_rules.specs.histories.Questions.{clock_at}
use Rattle.someip_node_rules.specs.steps.Steps.{work_on}
use Rattle.someip_node_rules.specs.trails.Trails.{Done, after, met_by, outcome_of, trail_of}
use Rattle.someip_node_rules.specs.histories.WishQuestions.{course_at, is_answered_by, known_peer_at, same_eventgroup}
use Rattle.someip_node_rules.proofs.lists.MemberLemmas.{at_member}
use Rattle.someip_node_rules.proofs.rules.PlanLemmas.{before_each}
use Rattle.someip_node_rules.proofs.rules.StepRules.{config_there}
use Rattle.someip_world_schedule.specs.declared.step.Step.{Step}
use Rattle.someip_world_setup.specs.declared.setup_node.SetupNode.{SetupNode}
use Rattle.someip_world_rules.specs.Datagrams.{SentDatagram}
use Rattle.someip_world_rules.specs.Runs.{World}
use Rattle.someip_world_rules.specs.Deliveries.{Delivers, Does, LivesOn}
use Rattle.someip_world_rules.specs.Liars.{IsHonest}
use Rattle.someip_world_rules.specs.exchanges.Belonging.{Belongs}
use Rattle.someip_world_rules.specs.exchanges.Namings.{of_subscription}
use Rattle.someip_world_rules.specs.declared.exchanges.exchange_key.ExchangeKey.{ExchangeKey}
use Rattle.someip_world_rules.specs.exchanges.Openings.{Begins, Opened, Opens}
use Rattle.someip_world_rules.specs.exchanges.CleanReuse.{IsCleanBefore, Old}
use Rattle.someip_world_rules.proofs.about_exchanges.beginnings.CourseLemmas.{BeginsAt, GoesOn, acked_so, offered_so, tame_goes_on, wished_so}
use Rattle.someip_world_safety.specs.Subscriptions.{WasAccepted}
use Rattle.someip_world_safety.proofs.subscriptions.RuleItems.{AWish, AllTame, AnAck, AnOffer, Kinds, MayBegin, Tame, after_more, answered_parts, kinds_of}

-- ---- the invariant

module _ (nodes : List SetupNode) (configs : List Config) (ss : List Step) where
  -- the key of a subscription that stands
  abbrev pub key_at : Ipv4Addr → Eventgroup → Beginning → ExchangeKey
  key_at address q b = of_subscription address b.peer q b.counter

  -- the server accepted a Subscribe that belongs to an exchange that was opened in a step
  pub record IsAcked (n : ℕ) (address peer : Ipv4Addr) (q : Eventgroup) (counter begun : ℕ) : Type 0 where
    pub since : ℕ
    pub from : begun ≤ since
    pub before : since < n
    pub accepted : WasAccepted nodes configs ss n address peer q counter since

  -- a subscription that stands before a step was begun in a step of the same life, and no newer one has its key. An Ack of a
  -- liar says nothing
  pub record IsBegun (n place : ℕ) (address : Ipv4Addr) (q : Eventgroup) (b : Beginning) : Type 0 where
    pub begun : ℕ
    pub before : begun < n
    pub opened : Opened nodes configs ss begun (key_at address q b)
    pub lives : LivesOn nodes configs ss place begun n
    pub last : (i : ℕ) → begun < i → i < n → Opened nodes configs ss i (key_at address q b) → ⊥
    pub acked : (until : Deadline) → b.until ≡ Some until → IsHonest nodes configs b.peer → IsAcked n address b.peer q b.counter begun

  -- all that stand at the nodes of a world are so
  abbrev pub AreBegun : ℕ → World → Type 0
  AreBegun n w =
      (place : ℕ) (h : History) (q : Eventgroup) (b : Beginning) → slice_get w.histories place ≡ Some h → (course_at h.items q).beginning ≡ Some b
      → IsBegun n place h.config.address q b

  -- what an Ack that came in a step says: it belongs to an exchange, as of an earlier step, and the Subscribe that it answers
  -- was accepted by the server
  pub record AckSays (n : ℕ) (address peer : Ipv4Addr) (q : Eventgroup) (counter : ℕ) : Type 0 where
    pub sent : ℕ
    pub datagram : SentDatagram
    pub delivers : Delivers nodes configs ss n sent datagram
    pub since : ℕ
    pub before : since < n
    pub belongs : Belongs nodes configs ss sent datagram (of_subscription address peer q counter) since
    pub accepted : WasAccepted nodes configs ss n address peer q counter since

  -- each Ack that is taken in a step, from no liar, says so
  abbrev pub AcksSay : Type 0
  AcksSay =
      (n : ℕ) (does : Does nodes configs ss n) (d : Done) (peer : Ipv4Addr) (head : EventgroupEntry) → Contains (trail_of does.turn.history does.input) d → d.by ≡ TakesAck peer head
      → IsHonest nodes configs peer → AckSays n does.turn.history.config.address peer (eventgroup_in head) head.counter

  -- in a step in which an Ack is taken from no liar no subscription begins
  abbrev pub AcksBeginNone : Type 0
  AcksBeginNone =
      (n : ℕ) (does : Does nodes configs ss n) (d e : Done) (peer : Ipv4Addr) (head : EventgroupEntry) → Contains (trail_of does.turn.history does.input) d → d.by ≡ TakesAck peer head
      → Contains (trail_of does.turn.history does.input) e → MayBegin e.by → IsHonest nodes configs peer → ⊥

  -- ---- within a step

  module _ (n : ℕ) (does : Does nodes configs ss n) (acks : AcksSay) (alone : AcksBeginNone) (clean : IsCleanBefore nodes configs ss (suc n)) where
    abbrev h : History
    h = does.turn.history

    abbrev trail : List Done
    trail = trail_of does.turn.history does.input

    abbrev address : Ipv4Addr
    address = does.turn.history.config.address

    abbrev place : ℕ
    place = does.turn.place

    -- a subscription that stands within the step: it stood before and none began since, or it began in this step, and no server
    -- but a liar acknowledged it
    pub data InStep (at : History) (q : Eventgroup) (b : Beginning) : Type 0 where
      Before : (course_at at.items q).begun ≡ (course_at h.items q).begun → IsBegun n place address q b → InStep at q b
      Now : Opened nodes configs ss n (key_at address q b) → (IsHonest nodes configs b.peer → b.until ≡ None) → (e : Done) → Contains trail e → MayBegin e.by → InStep at q b

    abbrev pub AllInStep : History → Type 0
    AllInStep at = (q : Eventgroup) (b : Beginning) → (course_at at.items q).beginning ≡ Some b → InStep at q b

    -- a course that goes on leaves it so
    goes_on_so : (at next : History) (q : Eventgroup) (b : Beginning) → GoesOn (course_at at.items q) (course_at next.items q)
        → ((b : Beginning) → (course_at at.items q).beginning ≡ Some b → InStep at q b) → (course_at next.items q).beginning ≡ Some b → InStep next q b
    goes_on_so at next q b goes old is = cases (old b (goes.keeps b is))
      where
        cases : InStep at q b → InStep next q b
        cases (Before count begun) = Before (goes.count ∙ count) begun
        cases (Now opened none e there may) = Now opened none e there may

    -- tame items leave it so
    tame_step : (xs : List Item) (at : History) → AllTame xs → AllInStep at → AllInStep (after at xs)
    tame_step [] at all old = old
    tame_step (x ∷ xs) at all old = tame_step xs (met at x) all.1 (λ q b is. goes_on_so at (met at x) q b (tame_goes_on x at.items q all.0) (old q) is)

    module _ (d : Done) (among : Contains trail d) (own : d.before.state.config.address ≡ address) where
      abbrev at : History
      at = d.before.state

      -- what begins by an item of a rule opens its exchange in this step
      begins_so : (x : Item) (q : Eventgroup) (peer : Ipv4Addr) (counter : ℕ) (b : Beginning) → MayBegin d.by → (outcome_of d).items ≡ x ∷ []
          → ((key : ExchangeKey) → (e : Eventgroup) × (p : Ipv4Addr) × (c : ℕ) × Begins at x e p c × (key ≡ of_subscription at.config.address p e c) → Opens at x key)
          → BeginsAt (course_at at.items q) (course_at (met at x).items q) peer counter → (course_at (met at x).items q).beginning ≡ Some b → InStep (met at x) q b
      begins_so x q peer counter b may one opens begins is =
          let same : record { peer = peer; counter = counter; until = None } ≡ b = let stands = begins.stands in cc in
          let address_is : of_subscription at.config.address peer q counter ≡ of_subscription address b.peer q b.counter =
          (λ i. of_subscription (own i) (same i).peer q (same i).counter) in
          Now
          (subst (Opened nodes configs ss n) address_is (record {
            does = does;
            by = record {
              done = d;
              among = among;
              item = x;
              meets = one;
              opens = opens (of_subscription at.config.address peer q counter) (q, peer, counter, record { more = begins.count; stands = begins.stands }, refl);
            };
          }))
          (λ honest. sym (ap (λ y. y.until) same)) d among may

      module _ (old : AllInStep at) where
        -- an Offer
        offer_step : (offer : ReceivedOffer) (endpoint : SocketAddrV4) → d.by ≡ TakesOffer offer → (outcome_of d).items ≡ items.OfferCounted offer endpoint ∷ [] → AllInStep (met at (items.OfferCounted offer endpoint))
        offer_step offer endpoint by one q b is = cases (offered_so offer endpoint at.items q)
          where
            cases : GoesOn (course_at at.items q) (course_at (items.OfferCounted offer endpoint ∷ at.items) q)
                ⊎ BeginsAt (course_at at.items q) (course_at (items.OfferCounted offer endpoint ∷ at.items) q) offer.peer ((course_at at.items q).begun % 16) → InStep (met at (items.OfferCounted offer endpoint)) q b
            cases (inl goes) = goes_on_so at (met at (items.OfferCounted offer endpoint)) q b goes (old q) is
            cases (inr begins) = begins_so (items.OfferCounted offer endpoint) q offer.peer _ b (subst MayBegin (sym by) tt) one (λ key o. o) begins is

        -- a wish
        wish_step : (eventgroup : Eventgroup) → d.by ≡ Wishes eventgroup → (outcome_of d).items ≡ items.Wished eventgroup ∷ [] → AllInStep (met at (items.Wished eventgroup))
        wish_step eventgroup by one q b is = cases (wished_so eventgroup at.items q)
          where
            cases : GoesOn (course_at at.items q) (course_at (items.Wished eventgroup ∷ at.items) q)
                ⊎ ((peer : Ipv4Addr) × (known_peer_at at.items eventgroup.instance ≡ Some peer)
                × BeginsAt (course_at at.items q) (course_at (items.Wished eventgroup ∷ at.items) q) peer ((course_at at.items q).begun % 16)) → InStep (met at (items.Wished eventgroup)) q b
            cases (inl goes) = goes_on_so at (met at (items.Wished eventgroup)) q b goes (old q) is
            cases (inr begins) = begins_so (items.Wished eventgroup) q begins.0 _ b (subst MayBegin (sym by) tt) one (λ key o. o) begins.2 is

        -- an Ack that answers a subscription belongs to it: else its key was taken, and the delivery breaks clean reuse
        acked_step : (peer : Ipv4Addr) (head : EventgroupEntry) (answer : SubscribeAnswer) (ttl : ℕ) → d.by ≡ TakesAck peer head → answer.eventgroup ≡ eventgroup_in head → answer.counter ≡ head.counter
            → answer.peer ≡ peer → AllInStep (met at (items.AckCame answer ttl))
        acked_step peer head answer ttl by named counted of q b is = cases ((acked_so answer ttl at.items q).keeps b is)
          where
            count : (course_at (met at (items.AckCame answer ttl)).items q).begun ≡ (course_at at.items q).begun
            count = (acked_so answer ttl at.items q).count

            -- it came from the server of this subscription
            from_server : (was : Beginning) → was.peer ≡ b.peer → is_answered_by (clock_at at.items) answer was ≡ true → peer ≡ b.peer
            from_server was same_peer answers = let both = answered_parts (clock_at at.items) answer was answers in sym of ∙ sym both.0 ∙ same_peer

            -- the Ack is about this subscription
            says : (was : Beginning) → was.peer ≡ b.peer → was.counter ≡ b.counter → is_answered_by (clock_at at.items) answer was ≡ true → same_eventgroup q answer.eventgroup ≡ true
                → IsHonest nodes configs b.peer → AckSays n address b.peer q b.counter
            says was same_peer same_counter answers same honest =
                let eventgroup : eventgroup_in head ≡ q = sym (same_by_test exact_eventgroups q answer.eventgroup same ∙ named) in
                let both = answered_parts (clock_at at.items) answer was answers in
                let peers : peer ≡ b.peer = from_server was same_peer answers in
                let counters : head.counter ≡ b.counter = sym counted ∙ sym both.1 ∙ same_counter in
                subst (λ p. AckSays n address p q b.counter) peers
                (subst (λ c. AckSays n address peer q c) counters
                (subst (λ e. AckSays n address peer e head.counter) eventgroup (acks n does d peer head among by (subst (IsHonest nodes configs) (sym peers) honest))))

            breaks : (a : AckSays n address b.peer q b.counter) (i : ℕ) → a.since < i → i < n → Opened nodes configs ss i (key_at address q b) → ⊥
            breaks a i later within opened =
                clean n (omega arith)
                (Old (record {
                  sent = a.sent;
                  datagram = a.datagram;
                  delivers = a.delivers;
                  key = key_at address q b;
                  since = a.since;
                  belongs = a.belongs;
                  taken = record { i = i; after = later; before = within; opened = opened };
                }))

            acked_now : (was : Beginning) (begun : IsBegun n place address q was) → was.peer ≡ b.peer → was.counter ≡ b.counter → (IsHonest nodes configs b.peer → AckSays n address b.peer q b.counter)
                → IsBegun n place address q b
            acked_now was begun same_peer same_counter heard =
                let one : key_at address q was ≡ key_at address q b = (λ i. of_subscription address (same_peer i) q (same_counter i)) in
                let opened : Opened nodes configs ss begun.begun (key_at address q b) = subst (Opened nodes configs ss begun.begun) one begun.opened in
                let early = begun.before in
                record {
                  begun = begun.begun;
                  before = begun.before;
                  opened = opened;
                  lives = begun.lives;
                  last = λ i after until o. begun.last i after until (subst (Opened nodes configs ss i) (sym one) o);
                  acked = λ until ends honest. let a = heard honest in record {
                    since = a.since;
                    from = not_later a begun.begun early opened (ltb a.since begun.begun) refl;
                    before = a.before;
                    accepted = a.accepted;
                  };
                }
              where
                not_later : (a : AckSays n address b.peer q b.counter) (i : ℕ) → i < n → Opened nodes configs ss i (key_at address q b) → (k : Bool) → ltb a.since i ≡ k → i ≤ a.since
                not_later a i lt opened true is = absurd (breaks a i (ltb-true a.since i is) lt opened)
                not_later a i lt opened false is = ltb-false a.since i is

            -- what stood before, by how it stood
            by_old : (was : Beginning) → InStep at q was → was.peer ≡ b.peer → was.counter ≡ b.counter → peer ≡ b.peer → (IsHonest nodes configs b.peer → AckSays n address b.peer q b.counter)
                → InStep (met at (items.AckCame answer ttl)) q b
            by_old was (Before same begun) same_peer same_counter peers heard = Before (count ∙ same) (acked_now was begun same_peer same_counter heard)
            by_old was (Now opened none e there may) same_peer same_counter peers heard =
                Now (subst (Opened nodes configs ss n) (λ i. of_subscription address (same_peer i) q (same_counter i)) opened)
                (λ honest. absurd (alone n does d e peer head among by there may (subst (IsHonest nodes configs) (sym peers) honest))) e there may

            -- what the Ack does not answer
            plain : InStep at q b → InStep (met at (items.AckCame answer ttl)) q b
            plain (Before same begun) = Before (count ∙ same) begun
            plain (Now opened none e there may) = Now opened none e there may

            cases : ((course_at at.items q).beginning ≡ Some b)
                ⊎ ((was : Beginning) × ((course_at at.items q).beginning ≡ Some was) × (was.peer ≡ b.peer) × (was.counter ≡ b.counter) × (is_answered_by (clock_at at.items) answer was ≡ true)
                × (same_eventgroup q answer.eventgroup ≡ true)) → InStep (met at (items.AckCame answer ttl)) q b
            cases (inl stood) = plain (old q b stood)
            cases (inr w) = by_old w.0 (old q w.0 w.1) w.2 w.3 (from_server w.0 w.2 w.4) (says w.0 w.2 w.3 w.4 w.5)

        -- a rule
        done_step : Kinds d.by (outcome_of d).items → AllInStep (after at (outcome_of d).items)
        done_step (Tame all) = tame_step (outcome_of d).items at all old
        done_step (AnOffer offer endpoint by one) = subst (λ xs. AllInStep (after at xs)) (sym one) (offer_step offer endpoint by one)
        done_step (AnAck peer head answer ttl by named counted of one) = subst (λ xs. AllInStep (after at xs)) (sym one) (acked_step peer head answer ttl by named counted of)
        done_step (AWish eventgroup by one) = subst (λ xs. AllInStep (after at xs)) (sym one) (wish_step eventgroup by one)

    -- with a rule of the step, and before it
    over_rule : (earlier later : List Done) (d : Done) → trail ≡ earlier ++ d ∷ later → AllInStep (after h (met_by earlier))
        → AllInStep d.before.state × AllInStep (after h (met_by (earlier ++ d ∷ [])))
    over_rule earlier later d is old =
        let at = (before_each (plan_of does.input) (work_on h) earlier later d is).0 in
        let among : Contains trail d = subst (λ ds. Contains ds d) (sym is) (Contains-append_right earlier (d ∷ later) d (0, omega arith, refl)) in
        let own : d.before.state.config.address ≡ address = ap (λ c. c.address) (config_there h does.input d among) in
        let here : AllInStep d.before.state = subst AllInStep (sym at) old in
        let next : AllInStep (after d.before.state (outcome_of d).items) = done_step d among own here (kinds_of d.before.state d.by) in
        (here, subst AllInStep (ap (λ x. after x (outcome_of d).items) at ∙ after_more h earlier d) next)

    -- the rules of the step but some
    moved : (earlier later : List Done) (d : Done) → trail ≡ earlier ++ d ∷ later → trail ≡ (earlier ++ d ∷ []) ++ later
    moved earlier later d is = is ∙ sym (append_assoc earlier (d ∷ []) later)

    -- through the rules of the step, one after the other
    walk : (earlier later : List Done) → trail ≡ earlier ++ later → AllInStep (after h (met_by earlier)) → AllInStep (after h (met_by trail))
    walk earlier [] is old = subst (λ ds. AllInStep (after h (met_by ds))) (sym (is ∙ append-nil earlier)) old
    walk earlier (d ∷ later) is old = walk (earlier ++ d ∷ []) later (moved earlier later d is) (over_rule earlier later d is old).1

    each_before : (earlier later : List Done) → trail ≡ earlier ++ later → AllInStep (after h (met_by earlier)) → AllByRecursion (λ d. AllInStep d.before.state) later
    each_before earlier [] is old = tt
    each_before earlier (d ∷ later) is old =
        let both = over_rule earlier later d is old in (both.0, each_before (earlier ++ d ∷ []) later (moved earlier later d is) both.1)

    -- the whole step
    pub all_in_step : AllInStep h → AllInStep (after h (met_by trail))
    all_in_step old = walk [] trail refl old

    -- before each rule of the step
    pub before_rule : AllInStep h → (d : Done) → Contains trail d → AllInStep d.before.state
    before_rule old d among = at_member (λ x. AllInStep x.before.state) trail d (each_before [] trail refl old) among
