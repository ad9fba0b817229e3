-- What a server with one subscription publishes.
use Rattle.std.proofs.Common.{◌≡◌, ℕ, Bool, true, false, ltb, not, ◌&&◌, if◌then◌else◌, List, [], ◌∷◌, length, arith, None, Some, Ok, refl, sym, ap, subst, ◌∙◌}
use Rattle.std.specs.List.{Contains, flat_map}
use Rattle.std.specs.List.Sorted.{IsStrictlySortedBy}
use Rattle.std.specs.Option.{is_some, option_map_or}
use Rattle.std.specs.Cmp.{Equal-is}
use Rattle.std.specs.Ordering.{eq_by_cmp}
use Rattle.std.specs.declared.cmp.Ordering.TheVariants.{Less, Equal}
use Rattle.std.specs.declared.net.socket_addr.SocketAddrV4.{SocketAddrV4}
use Rattle.std.proofs.lemmas.Bool.{le-ltb}
use Rattle.std.proofs.lemmas.List.{append-nil}
use Rattle.someip_tables.specs.Deadlines.{deadline_after}
use Rattle.someip_tables.specs.EndpointOrder.{endpoints_total}
use Rattle.someip_tables.specs.Endpoints.{endpoint_cmp}
use Rattle.someip_tables.specs.Lastings.{unless_passed}
use Rattle.someip_tables.proofs.Entries.{own_test, same_by_test}
use Rattle.sd_core.specs.declared.subscription.Subscription.{Subscription}
use Rattle.sd_core.specs.SubscriptionKeys.{subscription_cmp}
use Rattle.sd_core.specs.SubscriptionOrder.{exact_subscriptions}
use Rattle.someip_rpc.specs.Events.{publish_refusal}
use Rattle.someip_rpc.specs.declared.error.RpcError.TheVariants.{NotOffered, TooLong, UnknownEvent}
use Rattle.someip_node_rules.specs.declared.config.Config.{Config}
use Rattle.someip_node_rules.specs.declared.config.OfferedService.{OfferedService}
use Rattle.someip_node_rules.specs.declared.error.NodeError.TheVariants.{Rpc}
use Rattle.someip_node_rules.specs.rules.Errors.{as_node_error}
use Rattle.someip_node_rules.specs.rules.Publishing.{eventgroups_of, publishing_refusal}
use Rattle.someip_node_rules.specs.histories.History.{History, answers_of, historic}
use Rattle.someip_node_rules.specs.rules.Inputs as inputs
use Rattle.someip_node_rules.specs.rules.Inputs.{plan_of}
use Rattle.someip_node_rules.specs.steps.Lives.{is_live, was_stopped}
use Rattle.someip_node_rules.specs.forms.Outputs.{datagrams_of}
use Rattle.someip_node_rules.specs.rules.Plans.{Work, run}
use Rattle.someip_node_laws.specs.Published.{IsLiveAt, IsPublished, publication}
use Rattle.someip_node_rules.specs.steps.Steps.{step, unless_refused, work_on}
use Rattle.someip_node_rules.specs.histories.SubscriberQuestions.{stands_until}
use Rattle.someip_node_rules.specs.histories.Tables.{is_up}
use Rattle.someip_node_rules.specs.histories.Questions.{clock_at}
use Rattle.someip_node_laws.proofs.histories.LiveLemmas.{ends_then, lives_before}
use Rattle.someip_node_laws.proofs.histories.NamedLemmas.{get-subscriber}
use Rattle.someip_node_laws.proofs.rules.PublishedLemmas.{is_published}
use Rattle.someip_node_laws.proofs.histories.UpLemmas.{up_is}
use Rattle.someip_world_rules.specs.RunExamples.{CanPublish, GivesJust, subscribed_for}

-- ---- a set of one endpoint, or of none

none_at_all : {X : Type 0} (xs : List X) → ((x : X) → Contains xs x → ⊥) → xs ≡ []
none_at_all [] none = refl
none_at_all (x ∷ xs) none = absurd (none x (0, omega arith, refl))

one_at_most : (xs : List SocketAddrV4) (x : SocketAddrV4) → IsStrictlySortedBy endpoint_cmp xs → Contains xs x → ((y : SocketAddrV4) → Contains xs y → y ≡ x) → xs ≡ x ∷ []
unfolding IsStrictlySortedBy
one_at_most [] x rise among same = absurd (omega (arith, among.1))
one_at_most (y ∷ []) x rise among same = ap (λ z. z ∷ []) (same y (0, omega arith, refl))
one_at_most (y ∷ z ∷ ys) x rise among same =
    let first : y ≡ x = same y (0, omega arith, refl) in
    let second : z ≡ x = same z (1, omega arith, refl) in
    let own : endpoint_cmp x x ≡ Equal = (Equal-is (endpoint_cmp x x)).0 (own_test endpoints_total x) in
    let less : endpoint_cmp y z ≡ Less = rise.0.0 in absurd cc

-- ---- who is live

module _ (ms : ℕ) (config : Config) (s : Subscription) where
  abbrev h : History
  h = subscribed_for ms config s

  only_that : (other : Subscription) → is_live h.items other ≡ true → other ≡ s
  only_that other live = cases (eq_by_cmp subscription_cmp other s) refl (sym (ap is_some (get-subscriber h.items other)) ∙ live)
    where
      cases : (b : Bool) → eq_by_cmp subscription_cmp other s ≡ b
          → is_some (unless_passed (clock_at h.items) (if b then Some (stands_until (deadline_after 0 3)) else None)) ≡ true → other ≡ s
      cases true same live = same_by_test exact_subscriptions other s same
      cases false same live = absurd cc

  module _ (service : OfferedService) (event : ℕ) (payload : List ℕ) (can : CanPublish config service s event payload) where
    abbrev input : inputs.Input
    input = inputs.Publish s.instance event payload

    -- it is not refused
    up : is_up (answers_of h) s.instance ≡ true
    up = up_is h s.instance ∙ ap (λ o. is_some o && not (was_stopped h.items s.instance)) can.offered

    taken : publishing_refusal s.instance event payload (answers_of h) ≡ None
    taken =
        let long : ltb config.common.message_limit (length payload) ≡ false = le-ltb config.common.message_limit (length payload) can.short in
        ap (λ o. option_map_or (λ (service : OfferedService). as_node_error (publish_refusal service.rules (is_up (answers_of h) s.instance) config.common.message_limit event (length payload)))
        o (Some (Rpc NotOffered))) can.offered
        ∙ (λ i. as_node_error (if not (up i) then Some NotOffered else if not (can.known i) then Some UnknownEvent else if long i then Some TooLong else None))

    abbrev did : Work History
    did = run historic (plan_of input) (work_on h)

    does : step h input ≡ Ok did
    does = ap (λ r. unless_refused r (plan_of input) h) taken

    is_so : IsPublished h s.instance event payload did
    is_so = is_published h s.instance event payload did does

    same_service : is_so.service ≡ service
    same_service = let a = is_so.offered in let b = can.offered in cc

    -- to its endpoint alone, if it is live
    aimed : (endpoint : SocketAddrV4) → Contains is_so.endpoints endpoint → endpoint ≡ s.endpoint
    aimed endpoint stands = let at = (is_so.live endpoint).0 stands in sym at.aimed ∙ ap (λ x. x.endpoint) (only_that at.subscription at.live)

    given_so : (endpoints : List SocketAddrV4) → is_so.endpoints ≡ endpoints
        → did.outputs ≡ flat_map (λ endpoint. datagrams_of service.rules.endpoint endpoint (publication h service event payload)) endpoints
    given_so endpoints are =
        is_so.sent ∙ ap (λ x. flat_map (λ endpoint. datagrams_of x.rules.endpoint endpoint (publication h x event payload)) is_so.endpoints) same_service
        ∙ ap (flat_map (λ endpoint. datagrams_of service.rules.endpoint endpoint (publication h service event payload))) are

    pub one : is_live h.items s ≡ true → GivesJust h input (datagrams_of service.rules.endpoint s.endpoint (publication h service event payload))
    one live =
        let at : IsLiveAt h s.instance (eventgroups_of is_so.service event) s.endpoint =
        record { subscription = s; asked = refl; grouped = subst (λ x. Contains (eventgroups_of x event) s.eventgroup) (sym same_service) can.grouped; aimed = refl; live = live } in
        let among : Contains is_so.endpoints s.endpoint = (is_so.live s.endpoint).1 at in
        (did, does, given_so (s.endpoint ∷ []) (one_at_most is_so.endpoints s.endpoint is_so.rise among aimed) ∙ append-nil _)

    pub none : is_live h.items s ≡ false → GivesJust h input []
    none dead = (did, does, given_so [] (none_at_all is_so.endpoints (λ endpoint stands. gone ((is_so.live endpoint).0 stands))))
      where
        gone : {endpoint : SocketAddrV4} → IsLiveAt h s.instance (eventgroups_of is_so.service event) endpoint → ⊥
        gone at =
            let live = at.live in
            let same : at.subscription ≡ s = only_that at.subscription live in
            let other : is_live h.items s ≡ true = subst (λ x. is_live h.items x ≡ true) same live in absurd cc

pub to_one : (config : Config) (service : OfferedService) (s : Subscription) (event : ℕ) (payload : List ℕ) → CanPublish config service s event payload
    → GivesJust (subscribed_for 2999 config s) (inputs.Publish s.instance event payload)
    (datagrams_of service.rules.endpoint s.endpoint (publication (subscribed_for 2999 config s) service event payload))
to_one config service s event payload can = one 2999 config s service event payload can (lives_before s)

pub to_none : (config : Config) (service : OfferedService) (s : Subscription) (event : ℕ) (payload : List ℕ) → CanPublish config service s event payload
    → GivesJust (subscribed_for 3000 config s) (inputs.Publish s.instance event payload) []
to_none config service s event payload can = none 3000 config s service event payload can (ends_then s)
