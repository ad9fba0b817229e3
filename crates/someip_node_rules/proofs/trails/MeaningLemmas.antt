-- What is given says of the rule that gave it.
use Rattle.std.proofs.Common.{◌≡◌, ℕ, ◌+◌, Bool, true, false, cond, List, [], ◌∷◌, map, Option, None, Some, Result, Ok, Err, refl, ap, ◌∙◌, inl, inr}
use Rattle.std.specs.List.{AllByRecursion, Contains, find, flat_map}
use Rattle.std.specs.Option.{option_map, option_map_or}
use Rattle.std.specs.FinMap as finite
use Rattle.std.specs.Ordering.{eq_by_cmp}
use Rattle.std.proofs.lemmas.Bool.{cond_both}
use Rattle.std.specs.declared.net.ipv4_addr.Ipv4Addr.{Ipv4Addr}
use Rattle.std.specs.declared.net.socket_addr.SocketAddrV4.{SocketAddrV4}
use Rattle.someip_wire.specs.declared.header.Header.{Header}
use Rattle.someip_wire.specs.declared.header.MessageType.{MessageType}
use Rattle.someip_wire.specs.declared.header.MessageType.TheVariants as kinds
use Rattle.someip_tables.specs.Lastings.{expired}
use Rattle.someip_reassembly.specs.declared.error.TpError.{TpError}
use Rattle.someip_reassembly.specs.declared.reassembly.Offered.{Offered}
use Rattle.someip_reassembly.specs.declared.reassembly.Offered.TheVariants.{Part, Whole}
use Rattle.someip_reassembly.specs.SegmentOffers.{SegmentOffer}
use Rattle.someip_reassembly.specs.Sent.{PieceValue, sent}
use Rattle.sd_wire.specs.declared.entry.EventgroupEntry.{EventgroupEntry}
use Rattle.sd_session.specs.declared.peers.Seen.{Seen}
use Rattle.sd_session.specs.declared.peers.Seen.TheVariants.{Same}
use Rattle.sd_session.specs.declared.peers.Seen.TheVariants as seen_as
use Rattle.sd_session.specs.declared.stamp.Channel.{Channel}
use Rattle.sd_session.specs.declared.stamp.Stamp.{Stamp}
use Rattle.sd_session.specs.Peers.{stamps_of, told_by}
use Rattle.sd_core.specs.declared.error.Cause.{Cause}
use Rattle.sd_core.specs.declared.eventgroup.Eventgroup.{Eventgroup}
use Rattle.sd_core.specs.declared.keys.InstanceId.{InstanceId}
use Rattle.sd_core.specs.declared.received.Counted.{Counted}
use Rattle.sd_core.specs.declared.received.Counted.TheVariants.{New, Moved}
use Rattle.sd_core.specs.declared.received.Counted.TheVariants as known_as
use Rattle.sd_core.specs.declared.received.ReceivedOffer.{ReceivedOffer}
use Rattle.sd_core.specs.declared.received.Uncounted.{Uncounted}
use Rattle.sd_core.specs.declared.received.Uncounted.TheVariants.{Unwanted}
use Rattle.sd_core.specs.declared.received.Uncounted.TheVariants as left_out
use Rattle.sd_core.specs.declared.wish.Acked.{Acked}
use Rattle.sd_core.specs.declared.wish.Acked.TheVariants.{Renewed}
use Rattle.sd_core.specs.declared.wish.Acked.TheVariants as acked_as
use Rattle.sd_core.specs.Endings.{ends_at}
use Rattle.sd_core.specs.Keys.{instance_cmp}
use Rattle.sd_core.specs.SeekTables.{is_stopped, known_of, uncounted}
use Rattle.sd_core.specs.SubscriberTables.{endpoints_of, nack_cause}
use Rattle.sd_core.specs.Wishes.{is_with, told_by_ack, wish_of}
use Rattle.sd_core.specs.WishTables.{begun_where}
use Rattle.someip_rpc.specs.declared.call.CallKind.{CallKind}
use Rattle.someip_rpc.specs.declared.error.DropCause.{DropCause}
use Rattle.someip_rpc.specs.declared.ids.CallKey.{CallKey}
use Rattle.someip_rpc.specs.declared.request.Asked.{Asked}
use Rattle.someip_rpc.specs.declared.request.Reply.{Reply}
use Rattle.someip_rpc.specs.declared.request.RequestFault.{RequestFault}
use Rattle.someip_rpc.specs.Answers.{answer_drop}
use Rattle.someip_rpc.specs.Requests.{request_fault}
use Rattle.someip_node_rules.specs.declared.config.OfferedService.{OfferedService}
use Rattle.someip_node_rules.specs.declared.config.WantedService.{WantedService}
use Rattle.someip_node_rules.specs.declared.error.NodeError.{NodeError}
use Rattle.someip_node_rules.specs.declared.output.Output.{Output}
use Rattle.someip_node_rules.specs.declared.output.Output.TheVariants as output
use Rattle.someip_node_rules.specs.rules.Answering.{answers_request}
use Rattle.someip_node_rules.specs.rules.Calling.{call_of, calls_at}
use Rattle.someip_node_rules.specs.rules.Publishing.{event_message, eventgroups_of, publishes_by, publishes_to_by}
use Rattle.someip_node_rules.specs.rules.Ticking.{lapsed, timed_out}
use Rattle.someip_node_rules.specs.histories.History.{History, answers_of, historic}
use Rattle.someip_node_rules.specs.rules.Inputs.{Input, plan_of, refusal_of}
use Rattle.someip_node_rules.specs.rules.Learning.{ack_told, answer_in, eventgroup_in, hearing_by, known_told, nack_told, offer_by, offer_counts}
use Rattle.someip_node_rules.specs.trails.Meanings.{GivenBy, IsTold, Means}
use Rattle.someip_node_rules.specs.rules.Messages.{answer_by, by_type, event_by, oneway_by, publisher, is_event_of, request_by, request_to, segment_by}
use Rattle.someip_node_rules.specs.rules.Outcomes.{Outcome, endings, endings_of, has_instance, nothing, those_of, unsubscribed}
use Rattle.someip_node_rules.specs.forms.Outputs.{Given, Sends, Announces as Announced, Tells, datagram_of, written}
use Rattle.someip_node_rules.specs.rules.Plans.{Rule, Drops, TakesSegment, TakesRequest, TakesAnswer, TakesEvent, Hears, TakesFind, TakesOffer, TakesStopOffer, TakesSubscribe, TakesStopSubscribe, TakesAck, TakesNack, Announces, RepliesTo, Ticks, Calls, Answers, Publishes, PublishesTo, Wishes, TakesBack, Stops, Work, rule, run}
use Rattle.someip_node_rules.specs.forms.Setups.{offered_as, wanted_instances}
use Rattle.someip_node_rules.specs.steps.Steps.{step, unless_refused, work_on}
use Rattle.someip_node_rules.specs.rules.ServerSubscribing.{rules_for, subscribe_by, subscribe_in}
use Rattle.someip_node_rules.specs.histories.Tables.{Tables, is_up, known_endpoint, live_subscribers, passed_instances, waiting_calls}
use Rattle.someip_node_rules.specs.trails.Trails.{given_by, trail_of}
use Rattle.someip_node_rules.proofs.lists.MemberLemmas.{all_append, all_flat_map, all_members, all_weaker, at_member, found}
use Rattle.someip_node_rules.proofs.rules.PlanLemmas.{outputs_of_run}
use Rattle.someip_node_rules.proofs.rules.StepRules.{all_said}

-- ---- each rule

all_ended : (P : Output → Type 0) → ((eventgroup : Eventgroup) → P (output.Unsubscribed eventgroup)) → (eventgroups : List Eventgroup) → AllByRecursion P (unsubscribed eventgroups)
all_ended P means [] = tt
all_ended P means (eventgroup ∷ eventgroups) = (means eventgroup, all_ended P means eventgroups)

-- whatever ends
all_endings : (P : Output → Type 0) → ((instance : InstanceId) → P (output.Gone instance)) → ((eventgroup : Eventgroup) → P (output.Unsubscribed eventgroup))
    → (instances gone : List InstanceId) (eventgroups : List Eventgroup) → AllByRecursion P (endings instances gone eventgroups)
all_endings P gone_means ended_means [] gone eventgroups = tt
all_endings P gone_means ended_means (instance ∷ instances) gone eventgroups =
    all_append P (endings_of gone eventgroups instance) (endings instances gone eventgroups)
    (all_append P (cond (has_instance gone instance) (output.Gone instance ∷ []) []) (unsubscribed (those_of instance eventgroups))
    (cond_both (has_instance gone instance) _ _ (AllByRecursion P) (λ _. (gone_means instance, tt)) (λ _. tt)) (all_ended P ended_means (those_of instance eventgroups)))
    (all_endings P gone_means ended_means instances gone eventgroups)

module _ (t : Tables) where
  -- what a rule tells means what it should
  abbrev Meant : Rule → Outcome → Type 0
  Meant r o = AllByRecursion (λ given. Means given r t) o.given

  segment_meant : (o : SegmentOffer) (result : Result Offered TpError) → Meant (TakesSegment o) (segment_by o result)
  segment_meant o (Ok Part) = tt
  segment_meant o (Ok Whole) = tt
  segment_meant o (Err refusal) = (tt, tt)

  module _ (instance : InstanceId) (from : SocketAddrV4) (header : Header) (payload : List ℕ) where
    abbrev OfRequest : Outcome → Type 0
    OfRequest o = Meant (TakesRequest instance from header payload) o

    module _ (service : OfferedService) (offered : offered_as t.config instance ≡ Some service) where
      request_meant : header.kind ≡ kinds.Request → (fault : Option RequestFault) → request_fault service.rules (is_up t instance) header t.server.requests t.server.next ≡ fault
          → OfRequest (request_by instance service.rules from header payload fault t)
      request_meant kind None checked =
          ((from, header, refl, record { service = service; offered = offered; checked = checked; named = refl; numbered = inl (kind, refl) }), tt)
      request_meant kind (Some fault) checked =
          (record { service = service; offered = offered; fault = fault; kind = kind; fails = checked; from_instance = refl; back = refl; is = refl }, tt)

      oneway_meant : header.kind ≡ kinds.RequestNoReturn → (fault : Option RequestFault) → request_fault service.rules (is_up t instance) header t.server.requests t.server.next ≡ fault
          → OfRequest (oneway_by instance header payload fault)
      oneway_meant kind None checked =
          ((from, header, refl, record { service = service; offered = offered; checked = checked; named = refl; numbered = inr (kind, refl) }), tt)
      oneway_meant kind (Some fault) checked = (tt, tt)

      type_meant : (kind : MessageType) (a b : Outcome) → (kind ≡ kinds.Request → OfRequest a) → (kind ≡ kinds.RequestNoReturn → OfRequest b) → OfRequest (by_type kind a b)
      type_meant kinds.Request a b ma mb = ma refl
      type_meant kinds.RequestNoReturn a b ma mb = mb refl
      type_meant _ a b ma mb = (tt, tt)

      service_meant : OfRequest (request_to instance service from header payload t)
      service_meant = type_meant header.kind _ _ (λ kind. request_meant kind _ refl) (λ kind. oneway_meant kind _ refl)

    instance_meant : (offered : Option OfferedService) → offered_as t.config instance ≡ offered
        → OfRequest (option_map_or (λ service. request_to instance service from header payload t) offered nothing)
    instance_meant None is = tt
    instance_meant (Some service) is = service_meant service is

  answer_meant : (from : SocketAddrV4) (header : Header) (payload : List ℕ) (cause : Option DropCause) → answer_drop t.config.client_id from header (waiting_calls t) ≡ cause
      → Meant (TakesAnswer from header payload) (answer_by header payload cause)
  answer_meant from header payload None awaited =
      ((from, header, refl, record { awaited = awaited; named = refl; numbered = refl; told = refl }), tt)
  answer_meant from header payload (Some cause) awaited = (tt, tt)

  -- the want of the instance that published an event
  want_found : (from : SocketAddrV4) (header : Header) (instance : InstanceId) (first : Option (InstanceId × WantedService))
      → find (is_event_of t from header) t.config.wants.entries ≡ first → option_map (λ want. want.0) first ≡ Some instance
      → (want : WantedService) × (find (is_event_of t from header) t.config.wants.entries ≡ Some (instance, want))
  want_found from header instance None is named = absurd (cc)
  want_found from header instance (Some want) is named =
      let same : want.0 ≡ instance = cc in (want.1, is ∙ ap (λ (i : InstanceId). Some (i, want.1)) same)

  event_meant : (from : SocketAddrV4) (header : Header) (payload : List ℕ) (instance : Option InstanceId) → publisher t from header ≡ instance
      → Meant (TakesEvent from header payload) (event_by header payload instance)
  event_meant from header payload None first = (tt, tt)
  event_meant from header payload (Some instance) first =
      let want = want_found from header instance (find (is_event_of t from header) t.config.wants.entries) refl first in
      let parts = found (is_event_of t from header) t.config.wants.entries (instance, want.0) want.1 in
      ((from, header, refl, record { want = want.0; wanted = parts.0; published = parts.1; first = first; named = refl }), tt)

  told_meant : (r : Rule) (outputs : List Output) → AllByRecursion (λ o. IsTold o r t) outputs → AllByRecursion (λ given. Means given r t) (map Tells outputs)
  told_meant r [] all = tt
  told_meant r (o ∷ outputs) all = (all.0, told_meant r outputs all.1)

  hearing_meant : (peer : Ipv4Addr) (channel : Channel) (stamp : Stamp) (seen : Seen) → told_by channel stamp (stamps_of t.peers peer) ≡ seen
      → Meant (Hears peer channel stamp) (hearing_by peer channel stamp seen t)
  hearing_meant peer channel stamp Same is = tt
  hearing_meant peer channel stamp seen_as.Rebooted is = (
    (channel, stamp, refl, is),
    told_meant (Hears peer channel stamp) _ (all_endings (λ o. IsTold o (Hears peer channel stamp) t) (λ _. tt) (λ _. tt) (wanted_instances t.config)
        (finite.keys (known_of peer t.clock t.seek)) (finite.keys (begun_where (λ eventgroup beginning. is_with peer beginning) t.wishes))),
  )

  known_meant : (o : ReceivedOffer) → uncounted o t.clock t.seek ≡ None → (endpoint : SocketAddrV4) → o.endpoint ≡ Some endpoint → (counted : Counted)
      → AllByRecursion (λ given. Means given (TakesOffer o) t) (map Tells (known_told o.instance endpoint counted))
  known_meant o counts endpoint is New = ((o, refl, counts, refl, is), tt)
  known_meant o counts endpoint is Moved = ((o, refl, counts, refl, is), tt)
  known_meant o counts endpoint is known_as.Renewed = tt

  endpoint_meant : (o : ReceivedOffer) → uncounted o t.clock t.seek ≡ None → (endpoint : Option SocketAddrV4) → o.endpoint ≡ endpoint
      → Meant (TakesOffer o) (option_map_or (λ endpoint. offer_counts o endpoint t) endpoint nothing)
  endpoint_meant o counts None is = tt
  endpoint_meant o counts (Some endpoint) is = known_meant o counts endpoint is _

  offer_meant : (o : ReceivedOffer) (cause : Option Uncounted) → uncounted o t.clock t.seek ≡ cause → Meant (TakesOffer o) (offer_by o cause t)
  offer_meant o None counts = endpoint_meant o counts o.endpoint refl
  offer_meant o (Some Unwanted) counts = tt
  offer_meant o (Some left_out.NoEndpoint) counts = (tt, tt)
  offer_meant o (Some left_out.OtherPeer) counts = (tt, tt)

  subscribe_meant : (peer : Ipv4Addr) (head : EventgroupEntry) (endpoint : Option SocketAddrV4) (cause : Option Cause)
      → nack_cause (rules_for head t) (subscribe_in peer head endpoint) (live_subscribers t) ≡ cause
      → Meant (TakesSubscribe peer head endpoint) (subscribe_by head (subscribe_in peer head endpoint) cause)
  subscribe_meant peer head endpoint (Some cause) is = ((peer, head, endpoint, refl, refl, is), tt)
  subscribe_meant peer head None None is = tt
  subscribe_meant peer head (Some endpoint) None is = ((peer, head, refl, refl, refl, is), tt)

  ack_meant : (peer : Ipv4Addr) (head : EventgroupEntry) (acked : Acked)
      → told_by_ack t.clock (answer_in peer head t) (wish_of (finite.get t.wishes (eventgroup_in head))).stage ≡ acked
      → AllByRecursion (λ given. Means given (TakesAck peer head) t) (map Tells (ack_told (eventgroup_in head) head.counter acked))
  ack_meant peer head acked_as.Subscribed is = ((peer, head, refl, refl, refl, is), tt)
  ack_meant peer head Renewed is = tt
  ack_meant peer head acked_as.NotPending is = (tt, tt)

  nack_meant : (peer : Ipv4Addr) (head : EventgroupEntry) (ended : Bool) → AllByRecursion (λ given. Means given (TakesNack peer head) t) (map Tells (nack_told (eventgroup_in head) ended))
  nack_meant peer head true = (tt, tt)
  nack_meant peer head false = (tt, tt)

  timed_meant : (ms : ℕ) (keys : List CallKey) → AllByRecursion (Contains (finite.keys (expired (t.clock + ms) t.client.pending))) keys
      → AllByRecursion (λ o. IsTold o (Ticks ms) t) (map (λ call. output.TimedOut call.message call.session) keys)
  timed_meant ms [] all = tt
  timed_meant ms (key ∷ keys) all = ((ms, refl, all.0), timed_meant ms keys all.1)

  call_meant : (kind : CallKind) (instance : InstanceId) (method : ℕ) (payload : List ℕ) (endpoint : Option SocketAddrV4) → known_endpoint t instance ≡ endpoint
      → Meant (Calls kind instance method payload) (option_map_or (λ peer. calls_at (call_of kind instance method t) payload peer t) endpoint nothing)
  call_meant kind instance method payload None is = tt
  call_meant kind instance method payload (Some peer) is =
      ((kind, instance, method, payload, refl, refl, refl), (record { known = is; from_client = refl; is = refl }, tt))

  answers_meant : (token : ℕ) (reply : Reply) (payload : List ℕ) (request : Option Asked) → finite.get t.server.requests token ≡ request
      → Meant (Answers token reply payload) (option_map_or (answers_request token reply payload) request nothing)
  answers_meant token reply payload None is = tt
  answers_meant token reply payload (Some request) is =
      (record { request = request; waits = is; from_instance = refl; back = refl; is = refl }, tt)

  module _ (instance : InstanceId) (event : ℕ) (payload : List ℕ) where
    sends_meant : (service : OfferedService) → offered_as t.config instance ≡ Some service → (endpoints : List SocketAddrV4)
        → AllByRecursion (Contains (endpoints_of instance (eventgroups_of service event) (live_subscribers t))) endpoints
        → AllByRecursion (λ given. Means given (Publishes instance event payload) t) (map (λ to. Sends service.rules.endpoint to (event_message service event payload t)) endpoints)
    sends_meant service is [] all = tt
    sends_meant service is (to ∷ endpoints) all =
        (record { service = service; offered = is; from_instance = refl; to_is = all.0; is = refl }, sends_meant service is endpoints all.1)

    publish_meant : (service : Option OfferedService) → offered_as t.config instance ≡ service
        → Meant (Publishes instance event payload) (option_map_or (λ service. publishes_by instance service event payload t) service nothing)
    publish_meant None is = tt
    publish_meant (Some service) is =
        let to : List SocketAddrV4 = endpoints_of instance (eventgroups_of service event) (live_subscribers t) in
        sends_meant service is to (all_members to)

    publish_to_meant : (endpoint : SocketAddrV4) (service : Option OfferedService) → offered_as t.config instance ≡ service
        → Meant (PublishesTo instance endpoint event payload) (option_map_or (λ service. publishes_to_by service endpoint event payload t) service nothing)
    publish_to_meant endpoint None is = tt
    publish_to_meant endpoint (Some service) is =
        (record { service = service; offered = is; from_instance = refl; to_is = refl; is = refl }, tt)

  pub rule_meant : (r : Rule) → Meant r (rule r t)
  rule_meant (Drops reason) = (tt, tt)
  rule_meant (TakesSegment o) = segment_meant o _
  rule_meant (TakesRequest instance from header payload) = instance_meant instance from header payload (offered_as t.config instance) refl
  rule_meant (TakesAnswer from header payload) = answer_meant from header payload _ refl
  rule_meant (TakesEvent from header payload) = event_meant from header payload _ refl
  rule_meant (Hears peer channel stamp) = hearing_meant peer channel stamp _ refl
  rule_meant (TakesFind head) = tt
  rule_meant (TakesOffer o) = offer_meant o _ refl
  rule_meant (TakesStopOffer instance major peer) =
      cond_both (is_stopped instance major peer t.clock t.seek) _ _ (Meant (TakesStopOffer instance major peer))
      (λ _. (
        tt,
        told_meant (TakesStopOffer instance major peer) _ (all_ended (λ o. IsTold o (TakesStopOffer instance major peer) t) (λ _. tt)
            (finite.keys (begun_where (λ eventgroup beginning. eq_by_cmp instance_cmp eventgroup.instance instance) t.wishes))),
      )) (λ _. tt)
  rule_meant (TakesSubscribe peer head endpoint) = subscribe_meant peer head endpoint _ refl
  rule_meant (TakesStopSubscribe peer head None) = (tt, tt)
  rule_meant (TakesStopSubscribe peer head (Some endpoint)) = tt
  rule_meant (TakesAck peer head) = ack_meant peer head _ refl
  rule_meant (TakesNack peer head) = nack_meant peer head _
  rule_meant (Announces entries) = ((refl, refl, refl, refl), tt)
  rule_meant (RepliesTo peer entries) = ((refl, refl, refl, refl), tt)
  rule_meant (Ticks ms) =
      told_meant (Ticks ms) _
      (all_append (λ o. IsTold o (Ticks ms) t) (timed_out (t.clock + ms) t) (lapsed (t.clock + ms) t)
      (timed_meant ms (finite.keys (expired (t.clock + ms) t.client.pending)) (all_members (finite.keys (expired (t.clock + ms) t.client.pending))))
      (all_endings (λ o. IsTold o (Ticks ms) t) (λ _. tt) (λ _. tt) (wanted_instances t.config) (passed_instances (t.clock + ms) t)
      (finite.keys (begun_where (ends_at (t.clock + ms) (passed_instances (t.clock + ms) t)) t.wishes))))
  rule_meant (Calls kind instance method payload) = call_meant kind instance method payload (known_endpoint t instance) refl
  rule_meant (Answers token reply payload) = answers_meant token reply payload (finite.get t.server.requests token) refl
  rule_meant (Publishes instance event payload) = publish_meant instance event payload (offered_as t.config instance) refl
  rule_meant (PublishesTo instance endpoint event payload) = publish_to_meant instance event payload endpoint (offered_as t.config instance) refl
  rule_meant (Wishes eventgroup) = tt
  rule_meant (TakesBack eventgroup None) = tt
  rule_meant (TakesBack eventgroup (Some beginning)) = (tt, tt)
  rule_meant (Stops instance) = tt

-- ---- steps

module _ (h : History) (input : Input) where
  pub all_given : AllByRecursion (GivenBy h input) (given_by (trail_of h input))
  all_given = all_said h input Means (λ o. o.given) (λ r t. rule_meant t r)

  -- what a step that is not refused did
  pub done_by : (refusal : Option NodeError) (done : Work History) → unless_refused refusal (plan_of input) h ≡ Ok done → done ≡ run historic (plan_of input) (work_on h)
  done_by None done is = cc
  done_by (Some refusal) done is = absurd (cc)

  pub outputs_written : (done : Work History) → step h input ≡ Ok done → done.outputs ≡ flat_map written (given_by (trail_of h input))
  outputs_written done is =
      ap (λ (w : Work History). w.outputs) (done_by (refusal_of input (answers_of h)) done is) ∙ outputs_of_run (plan_of input) (work_on h)

-- ---- what is told, among the outputs

abbrev pub is_sent : Output → Bool
is_sent (output.Sent from to bytes) = true
is_sent o = false

module _ (all : List Given) where
  -- an output that is no datagram was told
  abbrev pub WasTold : Output → Type 0
  WasTold o = is_sent o ≡ false → Contains all (Tells o)

  pieces_told : (from to : SocketAddrV4) (pieces : List PieceValue) → AllByRecursion WasTold (map (datagram_of from to) pieces)
  pieces_told from to [] = tt
  pieces_told from to (piece ∷ pieces) = (λ is. absurd (cc), pieces_told from to pieces)

  given_told : (given : Given) → Contains all given → AllByRecursion WasTold (written given)
  given_told (Sends from to m) stands = pieces_told from to (sent m)
  given_told (Announced from to stamp entries) stands = (λ is. absurd (cc), tt)
  given_told (Tells o) stands = (λ is. stands, tt)

  pub told_from_output : (o : Output) → Contains (flat_map written all) o → is_sent o ≡ false → Contains all (Tells o)
  told_from_output o stands =
      at_member WasTold (flat_map written all) o (all_flat_map WasTold written all (all_weaker (Contains all) (λ given. AllByRecursion WasTold (written given)) given_told all (all_members all))) stands
