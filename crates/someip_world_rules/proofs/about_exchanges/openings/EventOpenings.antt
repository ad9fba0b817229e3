-- A publication opens exactly the exchange of its event, by the session that counts its publications; and what it sends
-- names that one alone.
use Rattle.std.proofs.Common.{◌≡◌, ℕ, suc, true, List, [], ◌∷◌, map, Some, Ok, ap, refl, subst, sym, ◌∙◌}
use Rattle.std.specs.List.{AllByRecursion, Contains}
use Rattle.std.specs.Option.{option_map_or}
use Rattle.std.specs.declared.net.socket_addr.SocketAddrV4.{SocketAddrV4}
use Rattle.sd_core.specs.declared.keys.InstanceId.{InstanceId}
use Rattle.someip_rpc.specs.Events.{event_of}
use Rattle.someip_rpc.specs.Sessions.{session_after}
use Rattle.someip_rpc.specs.declared.ids.EventId.{EventId}
use Rattle.someip_node_rules.specs.declared.config.OfferedService.{OfferedService}
use Rattle.someip_node_rules.specs.histories.CallQuestions.{times_published}
use Rattle.someip_node_rules.specs.rules.Publishing.{publishes_by, publishes_to_by}
use Rattle.someip_node_rules.specs.forms.GoodConfigs.{is_good}
use Rattle.someip_node_rules.specs.histories.History.{History, answers_of}
use Rattle.someip_node_rules.specs.rules.Inputs as inputs
use Rattle.someip_node_rules.specs.rules.Inputs.{Input}
use Rattle.someip_node_rules.specs.histories.Items as items
use Rattle.someip_node_rules.specs.rules.Outcomes.{nothing}
use Rattle.someip_node_rules.specs.forms.Outputs.{Given, Sends}
use Rattle.someip_node_rules.specs.rules.Plans as plans
use Rattle.someip_node_rules.specs.rules.Plans.{Rule, Work}
use Rattle.someip_node_laws.specs.Published.{publication}
use Rattle.someip_node_rules.specs.forms.Setups.{offered_as}
use Rattle.someip_node_rules.specs.steps.Steps.{step, work_on}
use Rattle.someip_node_rules.specs.trails.Trails.{Done, given_by, outcome_of, trail_of}
use Rattle.someip_node_rules.proofs.lists.MemberLemmas.{all_from_members, all_map, at_member, only_one}
use Rattle.someip_node_laws.proofs.rules.PublishedLemmas.{is_published, is_published_to}
use Rattle.someip_world_rules.specs.exchanges.Namings.{named_in, of_event}
use Rattle.someip_world_rules.specs.exchanges.Openings.{IsEventKey, Opens, OpensBy}
use Rattle.someip_world_rules.specs.declared.exchanges.exchange_key.ExchangeKey.{ExchangeKey}
use Rattle.someip_world_rules.specs.declared.exchanges.naming.Naming.{Naming}
use Rattle.someip_world_rules.proofs.about_exchanges.openings.CallOpenings.{opener_of}
use Rattle.someip_world_rules.proofs.about_exchanges.runs.GoodOffers.{offered_own}
use Rattle.someip_world_rules.proofs.about_exchanges.runs.Among.{is_among}

-- ---- the instance is offered

pub publishes_offered : (h : History) (instance : InstanceId) (event : ℕ) (payload : List ℕ) (done : Work History)
    → step h (inputs.Publish instance event payload) ≡ Ok done → (service : OfferedService) × (offered_as h.config instance ≡ Some service)
publishes_offered h instance event payload done is = let p = is_published h instance event payload done is in (p.service, p.offered)

pub publishes_to_offered : (h : History) (instance : InstanceId) (eventgroup : ℕ) (endpoint : SocketAddrV4) (event : ℕ) (payload : List ℕ) (done : Work History)
    → step h (inputs.PublishTo instance eventgroup endpoint event payload) ≡ Ok done → (service : OfferedService) × (offered_as h.config instance ≡ Some service)
publishes_to_offered h instance eventgroup endpoint event payload done is =
    let p = is_published_to h instance eventgroup endpoint event payload done is in (p.service, p.offered)

module _ (h : History) (instance : InstanceId) (service : OfferedService) (offered : offered_as h.config instance ≡ Some service) (event : ℕ) (payload : List ℕ) where
  abbrev own : EventId
  own = event_of service.rules event

  -- the key of the next publication of the event
  abbrev pub next_key : ExchangeKey
  next_key = of_event service.rules.endpoint service.rules.service event 0 (session_after (suc (times_published h.items own)) 0)

  -- ---- which keys are the event's

  -- where the configuration is good, there is one
  one_key : is_good h.config ≡ true → (key : ExchangeKey) → IsEventKey h own key → key ≡ next_key
  one_key good key e =
      let mine = offered_own h.config good instance service offered in
      let theirs = offered_own h.config good e.instance e.service e.offered in
      let same_instance : instance ≡ e.instance = λ i. record {
        service = (sym mine.0 ∙ ap (λ (x : EventId). x.service) e.of ∙ theirs.0) i;
        instance = (sym mine.1 ∙ ap (λ (x : EventId). x.instance) e.of ∙ theirs.1) i;
      } in
      let found : Some e.service ≡ Some service = sym e.offered ∙ ap (offered_as h.config) (sym same_instance) ∙ offered in
      let same : e.service ≡ service = cc in
      let number : e.number ≡ event = ap (λ (x : EventId). x.event) (sym e.of) in
      e.is ∙ (λ i. of_event (same i).rules.endpoint (same i).rules.service (number i) 0 (session_after (suc (times_published h.items own)) 0))

  own_key : (key : ExchangeKey) → key ≡ next_key → IsEventKey h own key
  own_key key is = record { instance = instance; service = service; offered = offered; number = event; of = refl; is = is }

  -- ---- what a rule that publishes opens

  module _ (input : Input) (r : Rule) (one : trail_of h input ≡ record { by = r; before = work_on h } ∷ [])
      (meets : (outcome_of (record { by = r; before = work_on h })).items ≡ items.Published own ∷ []) where
    abbrev only : Done
    only = record { by = r; before = work_on h }

    opens_next : (key : ExchangeKey) → key ≡ next_key → OpensBy h input key
    opens_next key is = record {
      done = only;
      among = subst (λ dones. Contains dones only) (sym one) (is_among only only refl);
      item = items.Published own;
      meets = meets;
      opens = own_key key is;
    }

    opens_one : is_good h.config ≡ true → (key : ExchangeKey) → OpensBy h input key → key ≡ next_key
    opens_one good key o =
        let same : o.done ≡ only = only_one only o.done (subst (λ dones. Contains dones o.done) one o.among) in
        let opens : Opens h o.item key = subst (λ d. Opens d.before.state o.item key) same o.opens in
        let own_item : items.Published own ∷ [] ≡ o.item ∷ [] = sym meets ∙ subst (λ d. (outcome_of d).items ≡ o.item ∷ []) same o.meets in
        let item : o.item ≡ items.Published own = cc in
        one_key good key (subst (λ x. Opens h x key) item opens)

  -- ---- publications to all

  to_all : (outcome_of (record { by = plans.Publishes instance event payload; before = work_on h })).items ≡ items.Published own ∷ []
  to_all = ap (λ o. (option_map_or (λ s. publishes_by instance s event payload (answers_of h)) o nothing).items) offered

  -- a publication opens the next key of its event
  pub publish_opens : (key : ExchangeKey) → key ≡ next_key → OpensBy h (inputs.Publish instance event payload) key
  publish_opens = opens_next (inputs.Publish instance event payload) (plans.Publishes instance event payload) refl to_all

  -- and no other
  pub publish_opens_one : is_good h.config ≡ true → (key : ExchangeKey) → OpensBy h (inputs.Publish instance event payload) key → key ≡ next_key
  publish_opens_one = opens_one (inputs.Publish instance event payload) (plans.Publishes instance event payload) refl to_all

  -- ---- publications to one endpoint

  module _ (eventgroup : ℕ) (endpoint : SocketAddrV4) where
    to_endpoint : (outcome_of (record { by = plans.PublishesTo instance endpoint event payload; before = work_on h })).items ≡ items.Published own ∷ []
    to_endpoint = ap (λ o. (option_map_or (λ s. publishes_to_by s endpoint event payload (answers_of h)) o nothing).items) offered

    pub publish_to_opens : (key : ExchangeKey) → key ≡ next_key → OpensBy h (inputs.PublishTo instance eventgroup endpoint event payload) key
    publish_to_opens = opens_next (inputs.PublishTo instance eventgroup endpoint event payload) (plans.PublishesTo instance endpoint event payload) refl to_endpoint

    pub publish_to_opens_one : is_good h.config ≡ true → (key : ExchangeKey) → OpensBy h (inputs.PublishTo instance eventgroup endpoint event payload) key
        → key ≡ next_key
    publish_to_opens_one = opens_one (inputs.PublishTo instance eventgroup endpoint event payload) (plans.PublishesTo instance endpoint event payload) refl to_endpoint

  -- ---- what is sent

  -- the message of the publication names its key
  abbrev NamesOwn : Given → Type 0
  NamesOwn given = AllByRecursion (λ n. n ≡ opener_of next_key) (named_in given)

  names_own : (to : SocketAddrV4) → NamesOwn (Sends service.rules.endpoint to (publication h service event payload))
  names_own to = (refl, tt)

  pub publish_names : (done : Work History) → step h (inputs.Publish instance event payload) ≡ Ok done
      → (given : Given) → Contains (given_by (trail_of h (inputs.Publish instance event payload))) given → (n : Naming) → Contains (named_in given) n → n ≡ opener_of next_key
  publish_names done is given told n named =
      let p = is_published h instance event payload done is in
      let there = p.offered in
      let same : p.service ≡ service = cc in
      let all : given_by (trail_of h (inputs.Publish instance event payload)) ≡ map (λ endpoint. Sends service.rules.endpoint endpoint (publication h service event payload)) p.endpoints =
      p.given ∙ ap (λ (s : OfferedService). map (λ endpoint. Sends s.rules.endpoint endpoint (publication h s event payload)) p.endpoints) same in
      at_member (λ x. x ≡ opener_of next_key) (named_in given) n
      (at_member NamesOwn (map (λ endpoint. Sends service.rules.endpoint endpoint (publication h service event payload)) p.endpoints) given
      (all_map NamesOwn (λ endpoint. Sends service.rules.endpoint endpoint (publication h service event payload)) p.endpoints
      (all_from_members (λ endpoint. NamesOwn (Sends service.rules.endpoint endpoint (publication h service event payload))) p.endpoints
      (λ endpoint _. names_own endpoint)))
      (subst (λ gs. Contains gs given) all told)) named

  pub publish_to_names : (eventgroup : ℕ) (endpoint : SocketAddrV4) (done : Work History) → step h (inputs.PublishTo instance eventgroup endpoint event payload) ≡ Ok done
      → (given : Given) → Contains (given_by (trail_of h (inputs.PublishTo instance eventgroup endpoint event payload))) given
      → (n : Naming) → Contains (named_in given) n → n ≡ opener_of next_key
  publish_to_names eventgroup endpoint done is given told n named =
      let p = is_published_to h instance eventgroup endpoint event payload done is in
      let there = p.offered in
      let same : p.service ≡ service = cc in
      let all : given_by (trail_of h (inputs.PublishTo instance eventgroup endpoint event payload)) ≡ Sends service.rules.endpoint endpoint (publication h service event payload) ∷ [] =
      p.given ∙ ap (λ (s : OfferedService). Sends s.rules.endpoint endpoint (publication h s event payload) ∷ []) same in
      at_member (λ x. x ≡ opener_of next_key) (named_in given) n
      (at_member NamesOwn (Sends service.rules.endpoint endpoint (publication h service event payload) ∷ []) given
      (names_own endpoint, tt) (subst (λ gs. Contains gs given) all told)) named
