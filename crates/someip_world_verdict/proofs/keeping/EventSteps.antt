-- The event that a step publishes takes just the key that the step opens.
use Rattle.std.proofs.Common.{◌≡◌, inl, inr, ℕ, suc, Bool, true, false, cond, if◌then◌else◌, List, [], ◌∷◌, Option, None, Some, Ok, Err, refl, sym, ap, subst, ◌∙◌}
use Rattle.std.specs.FinMap as finite
use Rattle.std.specs.FinMap.{get-insert}
use Rattle.std.specs.List.{AllZip}
use Rattle.std.specs.Map.{lookup}
use Rattle.std.specs.Option.{option_map}
use Rattle.std.specs.Ordering.{eq_by_cmp}
use Rattle.std.specs.declared.net.socket_addr.SocketAddrV4.{SocketAddrV4}
use Rattle.someip_tables.proofs.Entries.{own_test, same_by_test}
use Rattle.sd_core.specs.Keys.{instance_cmp}
use Rattle.sd_core.specs.declared.keys.InstanceId.{InstanceId}
use Rattle.someip_rpc.specs.Events.{event_of}
use Rattle.someip_tables.specs.Sessions.{session_after_last}
use Rattle.someip_rpc.specs.Sessions.{session_after}
use Rattle.someip_rpc.specs.declared.ids.EventId.{EventId}
use Rattle.someip_node_rules.specs.histories.CallQuestions.{times_published}
use Rattle.someip_node_rules.specs.trails.Copies.{IsCopy, IsCopyOfOffer}
use Rattle.someip_node_rules.specs.forms.GoodConfigs.{is_good}
use Rattle.someip_node_rules.specs.histories.History.{History}
use Rattle.someip_node_rules.specs.rules.Inputs as inputs
use Rattle.someip_node_rules.specs.rules.Inputs.{Input}
use Rattle.someip_node_rules.specs.rules.Plans.{Work}
use Rattle.someip_node_rules.specs.forms.Setups.{offered_as}
use Rattle.someip_node_rules.specs.steps.Steps.{step}
use Rattle.someip_node_rules.specs.declared.config.Config.{Config}
use Rattle.someip_node_rules.specs.declared.config.OfferedService.{OfferedService}
use Rattle.someip_world_schedule.specs.declared.step.Step.{Step}
use Rattle.someip_world_schedule.specs.declared.step.Step.TheVariants as steps
use Rattle.someip_world_rules.specs.Datagrams.{SentDatagram, datagram_at}
use Rattle.someip_world_rules.specs.Deeds.{Takes, deed_of, delivery, is_addressed}
use Rattle.someip_world_rules.specs.declared.line.Line.{Line}
use Rattle.someip_world_rules.specs.declared.step_fault.StepFault.TheVariants.{BadDelay, ClockPast, NotAddressed, PayloadTooLong}
use Rattle.someip_world_rules.specs.exchanges.KeyOrder.{event_cmp, events_total, exact_events}
use Rattle.someip_world_rules.specs.exchanges.Namings.{of_event}
use Rattle.someip_world_rules.specs.exchanges.Openings.{OpensBy}
use Rattle.someip_world_rules.specs.declared.exchanges.exchange_key.EventExchange.{EventExchange}
use Rattle.someip_world_rules.specs.declared.exchanges.exchange_key.ExchangeKey.TheVariants as keys
use Rattle.someip_world_rules.proofs.about_exchanges.openings.EventOpenings.{next_key, publish_opens, publish_opens_one, publish_to_opens, publish_to_opens_one, publishes_offered, publishes_to_offered}
use Rattle.someip_world_rules.proofs.about_exchanges.openings.OpeningItems.{other_opens_no_event}
use Rattle.someip_world_rules.proofs.about_exchanges.openings.RuleInputs.{is_publication}
use Rattle.someip_world_verdict.specs.Books.{LifeKept, TakenKeys, taken_with}
use Rattle.someip_world_verdict.specs.Booking.{publication_by, publication_in, publication_of, published_key}
use Rattle.someip_world_verdict.proofs.StepInputs.{restart_takes_none, takes_same}
use Rattle.someip_world_verdict.proofs.keeping.SaidSteps.{next_same}
use Rattle.someip_world_verdict.proofs.keeping.TakenSteps.{IsNext}

-- ---- an offer of a copied configuration

-- what a configuration offers where a copy of it offers a service
pub record IsOriginal (config : Config) (instance : InstanceId) (copied : OfferedService) : Type 0 where
  pub service : OfferedService
  pub offered : offered_as config instance ≡ Some service
  pub copy : IsCopyOfOffer service copied

module _ (instance : InstanceId) (copied : OfferedService) where
  -- beside an offer of the copy stands the one that it is a copy of
  original_in : (xs ys : List (InstanceId × OfferedService)) → AllZip (λ a b. (b.0 ≡ a.0) × IsCopyOfOffer a.1 b.1) xs ys
      → lookup (eq_by_cmp instance_cmp instance) ys ≡ Some copied → (service : OfferedService) × (lookup (eq_by_cmp instance_cmp instance) xs ≡ Some service) × IsCopyOfOffer service copied
  original_in xs [] all is = absurd cc
  original_in [] (y ∷ ys) all is = absurd all
  original_in (x ∷ xs) (y ∷ ys) all is = cases (eq_by_cmp instance_cmp instance y.0) (λ found. original_in xs ys all.1 found) refl is
    where
      cases : (b : Bool)
          → (lookup (eq_by_cmp instance_cmp instance) ys ≡ Some copied → (service : OfferedService) × (lookup (eq_by_cmp instance_cmp instance) xs ≡ Some service) × IsCopyOfOffer service copied)
          → eq_by_cmp instance_cmp instance y.0 ≡ b → cond b (Some y.1) (lookup (eq_by_cmp instance_cmp instance) ys) ≡ Some copied
          → (service : OfferedService) × (cond (eq_by_cmp instance_cmp instance x.0) (Some x.1) (lookup (eq_by_cmp instance_cmp instance) xs) ≡ Some service) × IsCopyOfOffer service copied
      cases true more test found =
          let same : y.1 ≡ copied = cc in
          let first : eq_by_cmp instance_cmp instance x.0 ≡ true = ap (eq_by_cmp instance_cmp instance) (sym all.0.0) ∙ test in
          (x.1, ap (λ b. cond b (Some x.1) (lookup (eq_by_cmp instance_cmp instance) xs)) first, subst (IsCopyOfOffer x.1) same all.0.1)
      cases false more test found =
          let rest = more found in
          let first : eq_by_cmp instance_cmp instance x.0 ≡ false = ap (eq_by_cmp instance_cmp instance) (sym all.0.0) ∙ test in
          (rest.0, ap (λ b. cond b (Some x.1) (lookup (eq_by_cmp instance_cmp instance) xs)) first ∙ rest.1, rest.2)

  -- the original offers it too
  pub original : (config copy : Config) → IsCopy config copy → offered_as copy instance ≡ Some copied → IsOriginal config instance copied
  original config copy is offered =
      let found = original_in config.offers.entries copy.offers.entries is.1 offered in
      record { service = found.0; offered = found.1; copy = found.2 }

-- ---- the key of an event

module _ (n : ℕ) (k : EventExchange) (taken : TakenKeys) where
  -- one that is taken
  taken_own : (own : EventExchange) (b : Bool) → eq_by_cmp event_cmp k own ≡ b
      → IsNext n (keys.Event k ≡ keys.Event own) (finite.get taken.events k) (finite.get (finite.insert taken.events own n) k)
  taken_own own true is =
      inl (ap (λ x. keys.Event x) (same_by_test exact_events k own is), get-insert events_total taken.events own n k ∙ ap (λ b. cond b (Some n) (finite.get taken.events k)) is)
  taken_own own false is = inr (differs, get-insert events_total taken.events own n k ∙ ap (λ b. cond b (Some n) (finite.get taken.events k)) is)
    where
      differs : keys.Event k ≡ keys.Event own → ⊥
      differs same =
          let one : k ≡ own = cc in
          let tied : eq_by_cmp event_cmp k own ≡ true = ap (eq_by_cmp event_cmp k) (sym one) ∙ own_test events_total k in
          absurd cc

  module _ (h : History) (config : Config) (copy : IsCopy config h.config) (life : LifeKept)
      (sessions : (e : EventId) → session_after_last (finite.get life.sessions e) ≡ session_after (suc (times_published h.items e)) 0)
      (instance : InstanceId) (service : OfferedService) (offered : offered_as h.config instance ≡ Some service) (event : ℕ) (payload : List ℕ) where
    -- the one of the next publication of an event
    abbrev own_exchange : EventExchange
    own_exchange = record {
      server = service.rules.endpoint;
      message = record { service = service.rules.service; method = event };
      client_id = 0;
      session = session_after (suc (times_published h.items (event_of service.rules event))) 0;
    }

    -- by what is kept of sessions it is this
    same_key : (o : OfferedService) → IsCopyOfOffer o service → (publication_by life o event).key ≡ next_key h instance service offered event payload
    same_key o is =
        let rules = is.1.0 in
        (λ i. of_event (sym rules i).endpoint (sym rules i).service event 0 (session_after_last (finite.get life.sessions (event_of (sym rules i) event))))
        ∙ ap (of_event service.rules.endpoint service.rules.service event 0) (sessions (event_of service.rules event))

    -- so the publication takes it alone
    pub publication_next : IsNext n (keys.Event k ≡ next_key h instance service offered event payload) (finite.get taken.events k)
        (finite.get (published_key n (publication_of config life instance event) taken).events k)
    publication_next =
        let o = original instance service config h.config copy offered in
        subst (λ (x : Option OfferedService). IsNext n (keys.Event k ≡ next_key h instance service offered event payload) (finite.get taken.events k) (finite.get (published_key n (option_map (λ s. publication_by life s event) x) taken).events k))
        (sym o.offered)
        (subst (λ key. IsNext n (keys.Event k ≡ next_key h instance service offered event payload) (finite.get taken.events k) (finite.get (taken_with key n taken).events k))
        (sym (same_key o.service o.copy)) (taken_own own_exchange (eq_by_cmp event_cmp k own_exchange) refl))

-- ---- a step

module _ (n : ℕ) (k : EventExchange) (taken : TakenKeys) (h : History) (lines : List Line) (input : Input) where
  -- the step that opened a publication last, after this one
  abbrev NextBy : Config → LifeKept → Step → Type 0
  NextBy config life s = IsNext n (OpensBy h input (keys.Event k)) (finite.get taken.events k) (finite.get (published_key n (publication_in config life s) taken).events k)

  -- where no event is published, none is opened
  no_publication : is_publication input ≡ false → IsNext n (OpensBy h input (keys.Event k)) (finite.get taken.events k) (finite.get taken.events k)
  no_publication other = inr (other_opens_no_event h input other k, refl)

  -- a delivery publishes nothing
  no_delivery : (o : Option SentDatagram) → delivery h.config o ≡ Ok (Takes input) → is_publication input ≡ false
  no_delivery None is = absurd cc
  no_delivery (Some d) is = cases (is_addressed h.config d) is
    where
      cases : (b : Bool) → (if b then Ok (Takes (inputs.Datagram d.from d.to d.bytes)) else Err NotAddressed) ≡ Ok (Takes input) → is_publication input ≡ false
      cases true e = let same : inputs.Datagram d.from d.to d.bytes ≡ input = cc in ap is_publication (sym same)
      cases false e = absurd cc

  module _ (config : Config) (copy : IsCopy config h.config) (life : LifeKept)
      (sessions : (e : EventId) → session_after_last (finite.get life.sessions e) ≡ session_after (suc (times_published h.items e)) 0)
      (done : Work History) (did : step h input ≡ Ok done) (well : is_good h.config ≡ true) where
    -- a publication to all
    to_all : (instance : InstanceId) (event : ℕ) (payload : List ℕ) → inputs.Publish instance event payload ≡ input
        → IsNext n (OpensBy h input (keys.Event k)) (finite.get taken.events k) (finite.get (published_key n (publication_of config life instance event) taken).events k)
    to_all instance event payload is =
        let offer = publishes_offered h instance event payload done (ap (step h) is ∙ did) in
        next_same n (keys.Event k ≡ next_key h instance offer.0 offer.1 event payload) (OpensBy h input (keys.Event k)) (finite.get taken.events k)
        (finite.get (published_key n (publication_of config life instance event) taken).events k)
        (λ own. subst (λ x. OpensBy h x (keys.Event k)) is (publish_opens h instance offer.0 offer.1 event payload (keys.Event k) own))
        (λ opens. publish_opens_one h instance offer.0 offer.1 event payload well (keys.Event k) (subst (λ x. OpensBy h x (keys.Event k)) (sym is) opens))
        (publication_next n k taken h config copy life sessions instance offer.0 offer.1 event payload)

    -- and one to an endpoint
    to_one : (instance : InstanceId) (eventgroup : ℕ) (endpoint : SocketAddrV4) (event : ℕ) (payload : List ℕ) → inputs.PublishTo instance eventgroup endpoint event payload ≡ input
        → IsNext n (OpensBy h input (keys.Event k)) (finite.get taken.events k) (finite.get (published_key n (publication_of config life instance event) taken).events k)
    to_one instance eventgroup endpoint event payload is =
        let offer = publishes_to_offered h instance eventgroup endpoint event payload done (ap (step h) is ∙ did) in
        next_same n (keys.Event k ≡ next_key h instance offer.0 offer.1 event payload) (OpensBy h input (keys.Event k)) (finite.get taken.events k)
        (finite.get (published_key n (publication_of config life instance event) taken).events k)
        (λ own. subst (λ x. OpensBy h x (keys.Event k)) is (publish_to_opens h instance offer.0 offer.1 event payload eventgroup endpoint (keys.Event k) own))
        (λ opens. publish_to_opens_one h instance offer.0 offer.1 event payload eventgroup endpoint well (keys.Event k) (subst (λ x. OpensBy h x (keys.Event k)) (sym is) opens))
        (publication_next n k taken h config copy life sessions instance offer.0 offer.1 event payload)

    -- the event of each step
    pub events_step : (s : Step) → deed_of h lines s ≡ Ok (Takes input) → NextBy config life s
    events_step (steps.Publish node instance event payload) is = to_all instance event payload (takes_same _ (inputs.Publish instance event payload) input PayloadTooLong is)
    events_step (steps.PublishTo node group to event payload) is =
        to_one group.instance group.id to event payload (takes_same _ (inputs.PublishTo group.instance group.id to event payload) input PayloadTooLong is)
    events_step (steps.Tick node ms) is = no_publication (ap is_publication (sym (takes_same _ (inputs.Tick ms) input ClockPast is)))
    events_step (steps.Deliver number node) is = no_publication (no_delivery (datagram_at lines number) is)
    events_step (steps.Call node kind instance method payload) is =
        no_publication (ap is_publication (sym (takes_same _ (inputs.Call kind instance method payload) input PayloadTooLong is)))
    events_step (steps.Answer node token reply payload) is =
        no_publication (ap is_publication (sym (takes_same _ (inputs.Answer token reply payload) input PayloadTooLong is)))
    events_step (steps.Subscribe node group) is = let same : inputs.Subscribe group ≡ input = cc in no_publication (ap is_publication (sym same))
    events_step (steps.Unsubscribe node group) is = let same : inputs.Unsubscribe group ≡ input = cc in no_publication (ap is_publication (sym same))
    events_step (steps.StopOffer node instance) is = let same : inputs.StopOffer instance ≡ input = cc in no_publication (ap is_publication (sym same))
    events_step (steps.Restart node delay) is = absurd (restart_takes_none _ delay input BadDelay is)
    events_step (steps.Inject node port to payload) is = absurd cc
