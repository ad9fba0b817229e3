-- An event goes to exactly the endpoints that are live for it, each once.
use Rattle.std.proofs.Common.{◌≡◌, ◌↔◌, ℕ, Bool, true, false, not, cond, ◌&&◌, eqb, ltb, List, [], ◌∷◌, map, length, Option, None, Some, Ok, refl, ap, sym, ◌∙◌, subst}
use Rattle.std.specs.List.{Any, Contains, flat_map, fold, list_any}
use Rattle.std.specs.Option.{is_some, option_map_or}
use Rattle.std.specs.Ordering.{eq_by_cmp, nat_cmp}
use Rattle.std.specs.Cmp.{eq_by_cmp_equiv}
use Rattle.std.specs.BTreeMap as tree
use Rattle.std.specs.BTreeSet.{BTreeSet, contains}
use Rattle.std.specs.FinMap.{contains_key-keys, get, keys}
use Rattle.std.specs.declared.net.socket_addr.SocketAddrV4.{SocketAddrV4}
use Rattle.std.proofs.lemmas.Bool.{and_from, and_parts, eqb-true, eq-eqb}
use Rattle.std.proofs.lemmas.List.{append-nil}
use Rattle.std.proofs.lemmas.List.Folds.{Any-from_list_any, list_any-from_Any}
use Rattle.std.proofs.lemmas.Map.Lookups.{exact_unsigned}
use Rattle.std.proofs.lemmas.Map.Views.{Contains-from_any, list_any-from_Contains}
use Rattle.someip_tables.specs.declared.lasting.Lasting.{Lasting}
use Rattle.someip_tables.specs.Deadlines.{has_passed}
use Rattle.someip_tables.specs.EndpointOrder.{endpoints_total, exact_endpoints}
use Rattle.someip_tables.specs.Endpoints.{endpoint_cmp}
use Rattle.someip_tables.specs.Lastings.{unless_passed}
use Rattle.someip_tables.proofs.Entries.{own_test, same_by_test}
use Rattle.someip_tables.proofs.Expiry.{get-unexpired}
use Rattle.someip_tables.proofs.Sorted.{sorted_set-rises}
use Rattle.sd_core.specs.declared.keys.InstanceId.{InstanceId}
use Rattle.sd_core.specs.declared.subscription.Subscription.{Subscription}
use Rattle.sd_core.specs.Keys.{instance_cmp}
use Rattle.sd_core.specs.KeyOrder.{exact_instances, instances_total}
use Rattle.sd_core.specs.SubscriberTables.{SubscriberMap, endpoints_of, is_of_instance, is_to_any}
use Rattle.sd_core.specs.SubscriptionKeys.{subscription_cmp}
use Rattle.sd_core.specs.SubscriptionOrder.{exact_subscriptions, subscriptions_total}
use Rattle.sd_core.proofs.SubscriberLemmas.{any_endpoint}
use Rattle.someip_rpc.specs.declared.error.RpcError.{RpcError}
use Rattle.someip_rpc.specs.declared.error.RpcError.TheVariants.{NotOffered}
use Rattle.someip_rpc.specs.Events.{belongs, event_header, event_of, publish_refusal, publish_to_refusal}
use Rattle.someip_node_rules.specs.declared.config.OfferedService.{OfferedService}
use Rattle.someip_node_rules.specs.declared.error.NodeError.{NodeError}
use Rattle.someip_node_rules.specs.declared.error.NodeError.TheVariants.{Rpc}
use Rattle.someip_node_rules.specs.rules.Errors.{as_node_error}
use Rattle.someip_node_rules.specs.rules.Publishing.{publishes_by, publishes_to_by, eventgroups_of, event_message, publishing_refusal, publishing_to_refusal, subscriber_at}
use Rattle.someip_node_rules.specs.histories.History.{History, answers_of, met}
use Rattle.someip_node_rules.specs.rules.Inputs.{Publish, PublishTo}
use Rattle.someip_node_rules.specs.steps.Lives.{is_live}
use Rattle.someip_node_rules.specs.rules.Outcomes.{Outcome, nothing}
use Rattle.someip_node_rules.specs.forms.Outputs.{Sends, written}
use Rattle.someip_node_rules.specs.rules.Plans.{Plan, Publishes, PublishesTo, Work, rule}
use Rattle.someip_node_laws.specs.Published.{IsLiveAt, IsPublished, IsPublishedTo, publication}
use Rattle.someip_node_rules.specs.histories.Questions.{clock_at}
use Rattle.someip_node_rules.specs.forms.Setups.{offered_as}
use Rattle.someip_node_rules.specs.steps.Steps.{step, unless_refused}
use Rattle.someip_node_rules.specs.histories.SubscriberQuestions.{subscribed_at, subscribers_in}
use Rattle.someip_node_rules.specs.histories.Tables.{Tables, is_up, live_subscribers}
use Rattle.someip_node_rules.proofs.trails.MeaningLemmas.{done_by}
use Rattle.someip_node_laws.proofs.histories.NamedLemmas.{get-subscriber, next-event_session}
use Rattle.someip_node_rules.proofs.trails.WrittenLemmas.{sent_to_all}

-- ---- what is live

passed_again : (now : ℕ) (v : Option (Lasting (Unit {0}))) → is_some (unless_passed now (unless_passed now v)) ≡ is_some (unless_passed now v)
passed_again now None = refl
passed_again now (Some lasting) = cases (has_passed now lasting.until) refl
  where
    cases : (b : Bool) → has_passed now lasting.until ≡ b
        → is_some (unless_passed now (cond (not b) (Some lasting) None)) ≡ is_some (cond (not b) (Some lasting) None)
    cases true is = refl
    cases false is = rw is refl

live_key : (h : History) (s : Subscription) → is_some (get (live_subscribers (answers_of h)) s) ≡ is_live h.items s
live_key h s =
    ap is_some (get-unexpired subscriptions_total exact_subscriptions (clock_at h.items) (subscribers_in h.items) s ∙ ap (unless_passed (clock_at h.items)) (get-subscriber h.items s))
    ∙ passed_again (clock_at h.items) (subscribed_at h.items s) ∙ sym (ap is_some (get-subscriber h.items s))

same_subscription : (a b : Subscription) → eq_by_cmp subscription_cmp a b ≡ true → a ≡ b
same_subscription a b = same_by_test exact_subscriptions a b

same_endpoint : (a b : SocketAddrV4) → eq_by_cmp endpoint_cmp a b ≡ true → a ≡ b
same_endpoint a b = same_by_test exact_endpoints a b

live-from_key : (h : History) (s : Subscription) → Contains (keys (live_subscribers (answers_of h))) s → is_live h.items s ≡ true
live-from_key h s stands =
    sym (live_key h s) ∙ contains_key-keys (live_subscribers (answers_of h)) s
    ∙ list_any-from_Contains (eq_by_cmp_equiv subscriptions_total) s (keys (live_subscribers (answers_of h))) stands

key-from_live : (h : History) (s : Subscription) → is_live h.items s ≡ true → Contains (keys (live_subscribers (answers_of h))) s
key-from_live h s live =
    Contains-from_any same_subscription s (keys (live_subscribers (answers_of h)))
    (sym (contains_key-keys (live_subscribers (answers_of h)) s) ∙ live_key h s ∙ live)

-- ---- eventgroups

group-from_test : (eventgroups : List ℕ) (eventgroup : ℕ) → list_any (λ g. eqb g eventgroup) eventgroups ≡ true → Contains eventgroups eventgroup
group-from_test eventgroups eventgroup found =
    let any : Any (λ g. eqb g eventgroup ≡ true) eventgroups = Any-from_list_any (λ g. eqb g eventgroup) eventgroups found in
    subst (Contains eventgroups) (eqb-true any.1 eventgroup any.4) (any.0, any.2, any.3)

test-from_group : (eventgroups : List ℕ) (eventgroup : ℕ) → Contains eventgroups eventgroup → list_any (λ g. eqb g eventgroup) eventgroups ≡ true
test-from_group eventgroups eventgroup stands =
    list_any-from_Any (λ g. eqb g eventgroup) eventgroups (stands.0, eventgroup, stands.1, stands.2, eq-eqb eventgroup eventgroup refl)

-- ---- endpoints

module _ (h : History) (instance : InstanceId) (eventgroups : List ℕ) where
  abbrev live : SubscriberMap
  live = live_subscribers (answers_of h)

  abbrev aims_at : SocketAddrV4 → Subscription → Bool
  aims_at endpoint s = is_to_any instance eventgroups s && eq_by_cmp endpoint_cmp endpoint s.endpoint

  pub live-from_test : (endpoint : SocketAddrV4) → list_any (eq_by_cmp endpoint_cmp endpoint) (endpoints_of instance eventgroups live) ≡ true → IsLiveAt h instance eventgroups endpoint
  live-from_test endpoint found =
      let any : Any (λ s. aims_at endpoint s ≡ true) (keys live) = Any-from_list_any (aims_at endpoint) (keys live) (any_endpoint instance eventgroups endpoint live ∙ found) in
      let parts = and_parts (is_to_any instance eventgroups any.1) (eq_by_cmp endpoint_cmp endpoint any.1.endpoint) any.4 in
      let to = and_parts (is_of_instance instance any.1) (list_any (λ g. eqb g any.1.eventgroup) eventgroups) parts.0 in
      record {
        subscription = any.1;
        asked = same_by_test exact_instances any.1.instance instance to.0;
        grouped = group-from_test eventgroups any.1.eventgroup to.1;
        aimed = sym (same_endpoint endpoint any.1.endpoint parts.1);
        live = live-from_key h any.1 (any.0, any.2, any.3);
      }

  test-from_live : (endpoint : SocketAddrV4) → IsLiveAt h instance eventgroups endpoint → list_any (eq_by_cmp endpoint_cmp endpoint) (endpoints_of instance eventgroups live) ≡ true
  test-from_live endpoint is =
      let key : Contains (keys live) is.subscription = key-from_live h is.subscription is.live in
      let own : eq_by_cmp endpoint_cmp endpoint is.subscription.endpoint ≡ true = subst (λ e. eq_by_cmp endpoint_cmp e is.subscription.endpoint ≡ true) is.aimed (own_test endpoints_total is.subscription.endpoint) in
      let of : is_of_instance instance is.subscription ≡ true = subst (λ i. eq_by_cmp instance_cmp is.subscription.instance i ≡ true) is.asked (own_test instances_total is.subscription.instance) in
      let aims : aims_at endpoint is.subscription ≡ true = and_from _ _ (and_from _ _ of (test-from_group eventgroups is.subscription.eventgroup is.grouped)) own in
      sym (any_endpoint instance eventgroups endpoint live) ∙ list_any-from_Any (aims_at endpoint) (keys live) (key.0, is.subscription, key.1, key.2, aims)

  endpoints_live : (endpoint : SocketAddrV4) → Contains (endpoints_of instance eventgroups live) endpoint ↔ IsLiveAt h instance eventgroups endpoint
  endpoints_live endpoint = (
    λ stands. live-from_test endpoint (list_any-from_Contains (eq_by_cmp_equiv endpoints_total) endpoint (endpoints_of instance eventgroups live) stands),
    λ is. Contains-from_any same_endpoint endpoint (endpoints_of instance eventgroups live) (test-from_live endpoint is),
  )

-- ---- what is sent

message_is : (h : History) (service : OfferedService) (event : ℕ) (payload : List ℕ) → event_message service event payload (answers_of h) ≡ publication h service event payload
message_is h service event payload =
    ap (λ (session : ℕ). record { header = event_header service.rules event session; payload = payload }) (next-event_session h.items (event_of service.rules event))

not_refused : (refusal : Option NodeError) (plan : Plan) (h : History) (done : Work History) → unless_refused refusal plan h ≡ Ok done → refusal ≡ None
not_refused None plan h done is = refl
not_refused (Some refusal) plan h done is = absurd (cc)

module _ (h : History) (instance : InstanceId) (event : ℕ) (payload : List ℕ) where
  abbrev t : Tables
  t = answers_of h

  abbrev endpoints : OfferedService → List SocketAddrV4
  endpoints service = endpoints_of instance (eventgroups_of service event) (live_subscribers t)

  module _ (done : Work History) (is : step h (Publish instance event payload) ≡ Ok done) where
    by_service : (service : Option OfferedService) → offered_as h.config instance ≡ service → IsPublished h instance event payload done
    by_service None none =
        let refused : publishing_refusal instance event payload t ≡ Some (Rpc NotOffered) = ap (λ o. option_map_or (λ (service : OfferedService). as_node_error (publish_refusal service.rules (is_up t instance) t.config.common.message_limit event (length payload))) o (Some (Rpc NotOffered))) none in
        let taken : publishing_refusal instance event payload t ≡ None = not_refused _ _ h done is in
        absurd (cc)
    by_service (Some service) offered =
        let said : (rule (Publishes instance event payload) t) ≡ publishes_by instance service event payload t = ap (λ o. option_map_or (λ s. publishes_by instance s event payload t) o nothing) offered in
        let gave : (rule (Publishes instance event payload) t).given ≡ map (λ to. Sends service.rules.endpoint to (publication h service event payload)) (endpoints service) = ap (λ (o : Outcome). o.given) said ∙ ap (λ m. map (λ to. Sends service.rules.endpoint to m) (endpoints service)) (message_is h service event payload) in
        let did = done_by h (Publish instance event payload) _ done is in
        record {
          service = service;
          offered = offered;
          endpoints = endpoints service;
          rise = sorted_set-rises endpoints_total exact_endpoints _;
          live = endpoints_live h instance (eventgroups_of service event);
          given = append-nil _ ∙ gave;
          sent = ap (λ (w : Work History). w.outputs) did ∙ ap (flat_map written) gave ∙ sent_to_all service.rules.endpoint (publication h service event payload) (endpoints service);
          noted = ap (λ (w : Work History). w.state) did ∙ ap (λ (o : Outcome). fold met h o.items) said;
        }

    pub is_published : IsPublished h instance event payload done
    is_published = by_service (offered_as h.config instance) refl

-- ---- to one endpoint

no_error : (refusal : Option RpcError) → as_node_error refusal ≡ None → refusal ≡ None
no_error None is = refl
no_error (Some refusal) is = absurd (cc)

passes : (up known long live : Bool) (a b c d : RpcError) → cond (not up) (Some a) (cond (not known) (Some b) (cond long (Some c) (cond (not live) (Some d) None))) ≡ None → (known ≡ true) × (live ≡ true)
passes true true false true a b c d is = (refl, refl)
passes true true false false a b c d is = absurd (cc)
passes true true true live a b c d is = absurd (cc)
passes true false long live a b c d is = absurd (cc)
passes false known long live a b c d is = absurd (cc)

group_of : (groups : Option (BTreeSet ℕ)) (eventgroup : ℕ) → option_map_or (λ eventgroups. contains nat_cmp eventgroups eventgroup) groups false ≡ true
    → Contains (option_map_or (λ (g : BTreeSet ℕ). g.keys) groups []) eventgroup
group_of None eventgroup is = absurd (cc)
group_of (Some groups) eventgroup is = Contains-from_any (λ a b. same_by_test exact_unsigned a b) eventgroup groups.keys is

-- why it is refused by the set-up of the instance
abbrev refusal_by : History → InstanceId → ℕ → SocketAddrV4 → ℕ → List ℕ → OfferedService → Option NodeError
refusal_by h instance eventgroup endpoint event payload service =
    as_node_error (publish_to_refusal service.rules (is_up (answers_of h) instance) h.config.common.message_limit
    (subscriber_at instance eventgroup endpoint (answers_of h)) event (length payload))

module _ (h : History) (instance : InstanceId) (eventgroup : ℕ) (endpoint : SocketAddrV4) (event : ℕ) (payload : List ℕ) (done : Work History)
    (is : step h (PublishTo instance eventgroup endpoint event payload) ≡ Ok done) where
  to_service : (service : Option OfferedService) → offered_as h.config instance ≡ service → IsPublishedTo h instance eventgroup endpoint event payload done
  to_service None none =
      let refused : publishing_to_refusal instance eventgroup endpoint event payload (answers_of h) ≡ Some (Rpc NotOffered) = ap (λ o. option_map_or (refusal_by h instance eventgroup endpoint event payload) o (Some (Rpc NotOffered))) none in
      let taken : publishing_to_refusal instance eventgroup endpoint event payload (answers_of h) ≡ None = not_refused _ _ h done is in
      absurd (cc)
  to_service (Some service) offered =
      let taken : publishing_to_refusal instance eventgroup endpoint event payload (answers_of h) ≡ None = not_refused _ _ h done is in
      let allowed : refusal_by h instance eventgroup endpoint event payload service ≡ None = sym (ap (λ o. option_map_or (refusal_by h instance eventgroup endpoint event payload) o (Some (Rpc NotOffered))) offered) ∙ taken in
      let parts = passes (is_up (answers_of h) instance) (belongs service.rules event eventgroup) (ltb h.config.common.message_limit (length payload)) (subscriber_at instance eventgroup endpoint (answers_of h)).is_live _ _ _ _ (no_error _ allowed) in
      let said : (rule (PublishesTo instance endpoint event payload) (answers_of h)) ≡ publishes_to_by service endpoint event payload (answers_of h) = ap (λ o. option_map_or (λ s. publishes_to_by s endpoint event payload (answers_of h)) o nothing) offered in
      let gave : (rule (PublishesTo instance endpoint event payload) (answers_of h)).given ≡ Sends service.rules.endpoint endpoint (publication h service event payload) ∷ [] = ap (λ (o : Outcome). o.given) said ∙ ap (λ m. Sends service.rules.endpoint endpoint m ∷ []) (message_is h service event payload) in
      let did = done_by h (PublishTo instance eventgroup endpoint event payload) _ done is in
      record {
        service = service;
        offered = offered;
        belongs = group_of (tree.get nat_cmp service.rules.events event) eventgroup parts.0;
        live = live-from_test h instance (eventgroup ∷ []) endpoint parts.1;
        given = append-nil _ ∙ gave;
        sent = ap (λ (w : Work History). w.outputs) did ∙ ap (flat_map written) gave ∙ append-nil _;
        noted = ap (λ (w : Work History). w.state) did ∙ ap (λ (o : Outcome). fold met h o.items) said;
      }

  pub is_published_to : IsPublishedTo h instance eventgroup endpoint event payload done
  is_published_to = to_service (offered_as h.config instance) refl
