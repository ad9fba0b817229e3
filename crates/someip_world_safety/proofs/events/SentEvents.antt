-- An event that was sent was published, to an endpoint that was live for it.
use Rattle.std.proofs.Common.{◌≡◌, inl, inr, ℕ, ◌<◌, List, [], ◌∷◌, map, Ok, refl, sym, ap, subst, ◌∙◌}
use Rattle.std.specs.List.{Contains}
use Rattle.std.specs.declared.net.socket_addr.SocketAddrV4.{SocketAddrV4}
use Rattle.someip_wire.specs.declared.header.Header.{Header}
use Rattle.someip_wire.specs.declared.header.MessageType.TheVariants as kinds
use Rattle.someip_wire.specs.Spelling.{MessageValue}
use Rattle.sd_core.specs.declared.keys.InstanceId.{InstanceId}
use Rattle.someip_rpc.specs.declared.call.CallKind.{CallKind}
use Rattle.someip_rpc.specs.declared.call.CallKind.TheVariants as calls
use Rattle.someip_rpc.specs.declared.request.Reply.{Reply}
use Rattle.someip_rpc.specs.declared.request.Reply.TheVariants as replies
use Rattle.someip_rpc.specs.Calls.{kind_of_call}
use Rattle.someip_rpc.specs.Servers.{kind_of_reply}
use Rattle.someip_node_rules.specs.declared.config.Config.{Config}
use Rattle.someip_node_rules.specs.rules.Publishing.{eventgroups_of}
use Rattle.someip_node_rules.specs.histories.History.{History, answers_of}
use Rattle.someip_node_rules.specs.rules.Inputs.{Publish, PublishTo}
use Rattle.someip_node_rules.specs.trails.Meanings.{GivenBy}
use Rattle.someip_node_rules.specs.forms.Outputs as outputs
use Rattle.someip_node_rules.specs.rules.Plans as plans
use Rattle.someip_node_rules.specs.rules.Plans.{Rule}
use Rattle.someip_node_laws.specs.Published.{IsLiveAt, publication}
use Rattle.someip_node_rules.specs.trails.SendingRules.{IsSent}
use Rattle.someip_node_rules.specs.steps.Steps.{step}
use Rattle.someip_node_rules.specs.histories.Tables.{Tables}
use Rattle.someip_node_rules.specs.trails.Trails.{given_by, trail_of}
use Rattle.someip_node_rules.proofs.lists.MemberLemmas.{all_from_members, all_map, at_member, only_one}
use Rattle.someip_node_laws.proofs.rules.PublishedLemmas.{is_published, is_published_to}
use Rattle.someip_world_schedule.specs.declared.step.Step.{Step}
use Rattle.someip_world_setup.specs.declared.setup_node.SetupNode.{SetupNode}
use Rattle.someip_world_rules.specs.Deliveries.{Does}
use Rattle.someip_world_rules.proofs.about_exchanges.openings.RuleInputs.{AskedBy, done_asked}
use Rattle.someip_world_safety.specs.Events.{WasPublished}

-- ---- which messages are events

-- a call is no event
no_call : (kind : CallKind) → kind_of_call kind ≡ kinds.Notification → ⊥
no_call calls.Request is = absurd cc
no_call calls.RequestNoReturn is = absurd cc

-- and no answer is one
no_reply : (reply : Reply) → kind_of_reply reply ≡ kinds.Notification → ⊥
no_reply (replies.Response code) is = absurd cc
no_reply (replies.Error code) is = absurd cc

-- ---- to whom an event goes

-- what a publication gives goes from its source to one of its endpoints, and is its message
among_sent : (source : SocketAddrV4) (endpoints : List SocketAddrV4) (own : MessageValue) (from to : SocketAddrV4) (m : MessageValue)
    → Contains (map (λ endpoint. outputs.Sends source endpoint own) endpoints) (outputs.Sends from to m) → Contains endpoints to × (source ≡ from) × (own ≡ m)
among_sent source endpoints own from to m among =
    at_member (λ g. g ≡ outputs.Sends from to m → Contains endpoints to × (source ≡ from) × (own ≡ m)) (map (λ endpoint. outputs.Sends source endpoint own) endpoints) (outputs.Sends from to m)
    (all_map (λ g. g ≡ outputs.Sends from to m → Contains endpoints to × (source ≡ from) × (own ≡ m)) (λ endpoint. outputs.Sends source endpoint own) endpoints
    (all_from_members (λ endpoint. outputs.Sends source endpoint own ≡ outputs.Sends from to m → Contains endpoints to × (source ≡ from) × (own ≡ m)) endpoints
    (λ endpoint stands is.
    let aimed : endpoint ≡ to = cc in
    let of : source ≡ from = cc in
    let same : own ≡ m = cc in
    (subst (Contains endpoints) aimed stands, of, same)))) among refl

-- an endpoint that is live for one eventgroup is live for each list with it
live_for_all : (h : History) (instance : InstanceId) (eventgroups : List ℕ) (group : ℕ) (endpoint : SocketAddrV4)
    → Contains eventgroups group → IsLiveAt h instance (group ∷ []) endpoint → IsLiveAt h instance eventgroups endpoint
live_for_all h instance eventgroups group endpoint belongs live = record {
  subscription = live.subscription;
  asked = live.asked;
  grouped = subst (Contains eventgroups) (sym (only_one group live.subscription.eventgroup live.grouped)) belongs;
  aimed = live.aimed;
  live = live.live;
}

-- ---- events that a step sends

module _ (nodes : List SetupNode) (configs : List Config) (steps : List Step) (n i : ℕ) (before : i < n) (does : Does nodes configs steps i)
    (from to : SocketAddrV4) (header : Header) (payload : List ℕ) (kind : header.kind ≡ kinds.Notification) where
  abbrev h : History
  h = does.turn.history

  abbrev m : MessageValue
  m = record { header = header; payload = payload }

  abbrev Due : Type 0
  Due = WasPublished nodes configs steps n (record { service = header.service; method = header.method }) payload from to

  module _ (told : Contains (given_by (trail_of h does.input)) (outputs.Sends from to m)) where
    -- an event that is published to all goes to endpoints that are live
    by_all : (instance : InstanceId) (event : ℕ) (bytes : List ℕ) → does.input ≡ Publish instance event bytes → Due
    by_all instance event bytes is =
        let p = is_published h instance event bytes does.done (subst (λ x. step h x ≡ Ok does.done) is does.happened) in
        let gave = ap (λ x. given_by (trail_of h x)) is ∙ p.given in
        let one = among_sent p.service.rules.endpoint p.endpoints (publication h p.service event bytes) from to m (subst (λ gs. Contains gs (outputs.Sends from to m)) gave told) in
        let named : event ≡ header.method = ap (λ x. x.header.method) one.2 in
        let says : bytes ≡ payload = ap (λ x. x.payload) one.2 in
        record {
          i = i;
          before = before;
          does = does;
          instance = instance;
          offer = p.service;
          offered = p.offered;
          named = ap (λ x. x.header.service) one.2;
          at = one.1;
          how = inl (is ∙ (λ k. Publish instance (named k) (says k)));
          live = subst (λ e. IsLiveAt h instance (eventgroups_of p.service e) to) named ((p.live to).0 one.0);
          given = m;
          gave = told;
          says = refl;
        }

    -- and one that is published to one endpoint goes to that, which is live
    by_one : (instance : InstanceId) (group : ℕ) (endpoint : SocketAddrV4) (event : ℕ) (bytes : List ℕ) → does.input ≡ PublishTo instance group endpoint event bytes → Due
    by_one instance group endpoint event bytes is =
        let p = is_published_to h instance group endpoint event bytes does.done (subst (λ x. step h x ≡ Ok does.done) is does.happened) in
        let gave = ap (λ x. given_by (trail_of h x)) is ∙ p.given in
        let one = among_sent p.service.rules.endpoint (endpoint ∷ []) (publication h p.service event bytes) from to m (subst (λ gs. Contains gs (outputs.Sends from to m)) gave told) in
        let aimed : endpoint ≡ to = sym (only_one endpoint to one.0) in
        let named : event ≡ header.method = ap (λ x. x.header.method) one.2 in
        let says : bytes ≡ payload = ap (λ x. x.payload) one.2 in
        let live = live_for_all h instance (eventgroups_of p.service event) group endpoint p.belongs p.live in
        record {
          i = i;
          before = before;
          does = does;
          instance = instance;
          offer = p.service;
          offered = p.offered;
          named = ap (λ x. x.header.service) one.2;
          at = one.1;
          how = inr (group, is ∙ (λ k. PublishTo instance group (aimed k) (named k) (says k)));
          live = subst (λ e. IsLiveAt h instance (eventgroups_of p.service e) to) named (subst (IsLiveAt h instance (eventgroups_of p.service event)) aimed live);
          given = m;
          gave = told;
          says = refl;
        }

    -- a message of the kind of events is given only by the rules that publish
    by_rule : (r : Rule) (t : Tables) → AskedBy r does.input → IsSent r t from to m → Due
    by_rule (plans.Calls c instance method bytes) t asked s = absurd (no_call c (sym (ap (λ x. x.header.kind) s.is) ∙ kind))
    by_rule (plans.Answers token reply bytes) t asked s = absurd (no_reply reply (sym (ap (λ x. x.header.kind) s.is) ∙ kind))
    by_rule (plans.TakesRequest instance peer head bytes) t asked s = let e = sym (ap (λ x. x.header.kind) s.is) ∙ kind in absurd cc
    by_rule (plans.Publishes instance event bytes) t asked s = by_all instance event bytes asked
    by_rule (plans.PublishesTo instance endpoint event bytes) t asked s = by_one instance asked.0 endpoint event bytes asked.1
    by_rule r t asked s = absurd s

    -- each message of the kind of events that a step gives was published in it
    pub sent_published : GivenBy h does.input (outputs.Sends from to m) → Due
    sent_published by = by_rule by.done.by (answers_of by.done.before.state) (done_asked h does.input _ by) by.holds
