-- What an item says of the rule by which it was met.
use Rattle.std.proofs.Common.{◌≡◌, ℕ, List, Option, None, Some, Result, Ok, Err, refl, ap, ◌∙◌, inl, inr}
use Rattle.std.specs.List.{AllByRecursion}
use Rattle.std.specs.Option.{option_map_or}
use Rattle.std.specs.FinMap as finite
use Rattle.std.proofs.lemmas.Bool.{cond_both}
use Rattle.std.specs.declared.net.ipv4_addr.Ipv4Addr.{Ipv4Addr}
use Rattle.std.specs.declared.net.socket_addr.SocketAddrV4.{SocketAddrV4}
use Rattle.someip_wire.specs.declared.header.Header.{Header}
use Rattle.someip_wire.specs.declared.header.MessageType.{MessageType}
use Rattle.someip_wire.specs.declared.header.MessageType.TheVariants as kinds
use Rattle.someip_reassembly.specs.declared.error.TpError.{TpError}
use Rattle.someip_reassembly.specs.declared.reassembly.Offered.{Offered}
use Rattle.someip_reassembly.specs.declared.reassembly.Offered.TheVariants.{Part, Whole}
use Rattle.someip_reassembly.specs.SegmentOffers.{SegmentOffer, judgement}
use Rattle.sd_wire.specs.declared.entry.EventgroupEntry.{EventgroupEntry}
use Rattle.sd_session.specs.declared.peers.Seen.{Seen}
use Rattle.sd_session.specs.declared.peers.Seen.TheVariants.{Same}
use Rattle.sd_session.specs.declared.peers.Seen.TheVariants as seen_as
use Rattle.sd_session.specs.declared.stamp.Channel.{Channel}
use Rattle.sd_session.specs.declared.stamp.Stamp.{Stamp}
use Rattle.sd_session.specs.Peers.{stamps_of, told_by}
use Rattle.sd_core.specs.declared.error.Cause.{Cause}
use Rattle.sd_core.specs.declared.keys.InstanceId.{InstanceId}
use Rattle.sd_core.specs.declared.received.ReceivedOffer.{ReceivedOffer}
use Rattle.sd_core.specs.declared.received.Uncounted.{Uncounted}
use Rattle.sd_core.specs.declared.received.Uncounted.TheVariants.{Unwanted}
use Rattle.sd_core.specs.declared.received.Uncounted.TheVariants as left_out
use Rattle.sd_core.specs.SeekTables.{is_stopped, uncounted}
use Rattle.sd_core.specs.SubscriberTables.{nack_cause}
use Rattle.someip_rpc.specs.declared.call.CallKind.{CallKind}
use Rattle.someip_rpc.specs.declared.error.DropCause.{DropCause}
use Rattle.someip_rpc.specs.declared.request.Asked.{Asked}
use Rattle.someip_rpc.specs.declared.request.Reply.{Reply}
use Rattle.someip_rpc.specs.declared.request.RequestFault.{RequestFault}
use Rattle.someip_rpc.specs.Answers.{answer_drop}
use Rattle.someip_rpc.specs.Requests.{request_fault}
use Rattle.someip_node_rules.specs.declared.config.OfferedService.{OfferedService}
use Rattle.someip_node_rules.specs.rules.Answering.{answers_request}
use Rattle.someip_node_rules.specs.rules.Calling.{call_of, calls_at}
use Rattle.someip_node_rules.specs.rules.Publishing.{publishes_by, publishes_to_by}
use Rattle.someip_node_rules.specs.histories.History.{History, answers_of}
use Rattle.someip_node_rules.specs.rules.Inputs.{Input, plan_of, refusal_of}
use Rattle.someip_node_rules.specs.rules.Learning.{hearing_by, offer_by, offer_counts}
use Rattle.someip_node_rules.specs.trails.Meetings.{IsMet, MetBy}
use Rattle.someip_node_rules.specs.rules.Messages.{answer_by, by_type, event_by, oneway_by, request_by, request_to, segment_by}
use Rattle.someip_node_rules.specs.rules.Outcomes.{Outcome, nothing}
use Rattle.someip_node_rules.specs.rules.Plans.{Rule, Drops, TakesSegment, TakesRequest, TakesAnswer, TakesEvent, Hears, TakesFind, TakesOffer, TakesStopOffer, TakesSubscribe, TakesStopSubscribe, TakesAck, TakesNack, Announces, RepliesTo, Ticks, Calls, Answers, Publishes, PublishesTo, Wishes, TakesBack, Stops, Work, rule}
use Rattle.someip_node_rules.specs.forms.Setups.{limits_of, offered_as}
use Rattle.someip_node_rules.specs.steps.Steps.{step, work_on}
use Rattle.someip_node_rules.specs.rules.ServerSubscribing.{rules_for, subscribe_by, subscribe_in}
use Rattle.someip_node_rules.specs.histories.Tables.{Tables, is_up, known_endpoint, live_subscribers, waiting_calls}
use Rattle.someip_node_rules.specs.trails.Trails.{after, met_by, trail_of}
use Rattle.someip_node_rules.proofs.trails.MeaningLemmas.{done_by}
use Rattle.someip_node_rules.proofs.rules.PlanLemmas.{state_of_run}
use Rattle.someip_node_rules.proofs.rules.StepRules.{all_said}

-- ---- each rule

module _ (t : Tables) where
  -- the items of a rule say what they should
  abbrev pub Noted : Rule → Outcome → Type 0
  Noted r o = AllByRecursion (λ item. IsMet item r t) o.items

  segment_noted : (o : SegmentOffer) (result : Result Offered TpError) → judgement (limits_of t.config) t.clock o t.parts ≡ result → Noted (TakesSegment o) (segment_by o result)
  segment_noted o (Ok Part) is = (refl, tt)
  segment_noted o (Ok Whole) is = (refl, ((o, refl, is, refl), tt))
  segment_noted o (Err refusal) is = (refl, tt)

  module _ (instance : InstanceId) (from : SocketAddrV4) (header : Header) (payload : List ℕ) where
    abbrev OfRequest : Outcome → Type 0
    OfRequest o = Noted (TakesRequest instance from header payload) o

    module _ (service : OfferedService) (offered : offered_as t.config instance ≡ Some service) where
      request_noted : header.kind ≡ kinds.Request → (fault : Option RequestFault) → request_fault service.rules (is_up t instance) header t.server.requests t.server.next ≡ fault
          → OfRequest (request_by instance service.rules from header payload fault t)
      request_noted kind None checked = (
        record {
          instance = instance;
          from = from;
          header = header;
          payload = payload;
          taken = refl;
          kind = kind;
          service = service;
          offered = offered;
          checked = checked;
          is = refl;
        },
        tt,
      )
      request_noted kind (Some fault) checked = tt

      oneway_noted : (fault : Option RequestFault) → OfRequest (oneway_by instance header payload fault)
      oneway_noted None = tt
      oneway_noted (Some fault) = tt

      type_noted : (kind : MessageType) (a b : Outcome) → (kind ≡ kinds.Request → OfRequest a) → OfRequest b → OfRequest (by_type kind a b)
      type_noted kinds.Request a b na nb = na refl
      type_noted kinds.RequestNoReturn a b na nb = nb
      type_noted _ a b na nb = tt

    instance_noted : (offered : Option OfferedService) → offered_as t.config instance ≡ offered
        → OfRequest (option_map_or (λ service. request_to instance service from header payload t) offered nothing)
    instance_noted None is = tt
    instance_noted (Some service) is = type_noted service is header.kind _ _ (λ kind. request_noted service is kind _ refl) (oneway_noted service is _)

  answer_noted : (from : SocketAddrV4) (header : Header) (payload : List ℕ) (cause : Option DropCause) → answer_drop t.config.client_id from header (waiting_calls t) ≡ cause
      → Noted (TakesAnswer from header payload) (answer_by header payload cause)
  answer_noted from header payload None awaited = ((from, header, payload, refl, awaited, refl), tt)
  answer_noted from header payload (Some cause) awaited = tt

  event_noted : (r : Rule) (header : Header) (payload : List ℕ) (instance : Option InstanceId) → Noted r (event_by header payload instance)
  event_noted r header payload None = tt
  event_noted r header payload (Some instance) = tt

  hearing_noted : (peer : Ipv4Addr) (channel : Channel) (stamp : Stamp) (seen : Seen) → told_by channel stamp (stamps_of t.peers peer) ≡ seen
      → Noted (Hears peer channel stamp) (hearing_by peer channel stamp seen t)
  hearing_noted peer channel stamp Same is = (refl, tt)
  hearing_noted peer channel stamp seen_as.Rebooted is = ((channel, stamp, refl, is), (refl, tt))

  endpoint_noted : (o : ReceivedOffer) → uncounted o t.clock t.seek ≡ None → (endpoint : Option SocketAddrV4) → o.endpoint ≡ endpoint
      → Noted (TakesOffer o) (option_map_or (λ endpoint. offer_counts o endpoint t) endpoint nothing)
  endpoint_noted o counts None is = tt
  endpoint_noted o counts (Some endpoint) is = ((refl, counts, is), tt)

  offer_noted : (o : ReceivedOffer) (cause : Option Uncounted) → uncounted o t.clock t.seek ≡ cause → Noted (TakesOffer o) (offer_by o cause t)
  offer_noted o None counts = endpoint_noted o counts o.endpoint refl
  offer_noted o (Some Unwanted) counts = tt
  offer_noted o (Some left_out.NoEndpoint) counts = tt
  offer_noted o (Some left_out.OtherPeer) counts = tt

  subscribe_noted : (peer : Ipv4Addr) (head : EventgroupEntry) (endpoint : Option SocketAddrV4) (cause : Option Cause)
      → nack_cause (rules_for head t) (subscribe_in peer head endpoint) (live_subscribers t) ≡ cause
      → Noted (TakesSubscribe peer head endpoint) (subscribe_by head (subscribe_in peer head endpoint) cause)
  subscribe_noted peer head endpoint (Some cause) is = tt
  subscribe_noted peer head None None is = tt
  subscribe_noted peer head (Some endpoint) None is =
      (record { peer = peer; head = head; endpoint = endpoint; taken = refl; accepted = is; is = refl; lasts = refl }, tt)

  call_noted : (kind : CallKind) (instance : InstanceId) (method : ℕ) (payload : List ℕ) (endpoint : Option SocketAddrV4) → known_endpoint t instance ≡ endpoint
      → Noted (Calls kind instance method payload) (option_map_or (λ peer. calls_at (call_of kind instance method t) payload peer t) endpoint nothing)
  call_noted kind instance method payload None is = tt
  call_noted kind instance method payload (Some peer) is =
      (record { kind = kind; instance = instance; method = method; payload = payload; made = refl; known = is; is = refl; numbered = refl }, tt)

  answers_noted : (token : ℕ) (reply : Reply) (payload : List ℕ) (request : Option Asked) → finite.get t.server.requests token ≡ request
      → Noted (Answers token reply payload) (option_map_or (answers_request token reply payload) request nothing)
  answers_noted token reply payload None is = tt
  answers_noted token reply payload (Some request) is = ((reply, payload, request, refl, is), tt)

  publish_noted : (instance : InstanceId) (event : ℕ) (payload : List ℕ) (service : Option OfferedService) → offered_as t.config instance ≡ service
      → Noted (Publishes instance event payload) (option_map_or (λ service. publishes_by instance service event payload t) service nothing)
  publish_noted instance event payload None is = tt
  publish_noted instance event payload (Some service) is = ((instance, service, event, payload, is, refl, inl refl), tt)

  publish_to_noted : (instance : InstanceId) (endpoint : SocketAddrV4) (event : ℕ) (payload : List ℕ) (service : Option OfferedService) → offered_as t.config instance ≡ service
      → Noted (PublishesTo instance endpoint event payload) (option_map_or (λ service. publishes_to_by service endpoint event payload t) service nothing)
  publish_to_noted instance endpoint event payload None is = tt
  publish_to_noted instance endpoint event payload (Some service) is = ((instance, service, event, payload, is, refl, inr (endpoint, refl)), tt)

  pub rule_noted : (r : Rule) → Noted r (rule r t)
  rule_noted (Drops reason) = tt
  rule_noted (TakesSegment o) = segment_noted o _ refl
  rule_noted (TakesRequest instance from header payload) = instance_noted instance from header payload (offered_as t.config instance) refl
  rule_noted (TakesAnswer from header payload) = answer_noted from header payload _ refl
  rule_noted (TakesEvent from header payload) = event_noted (TakesEvent from header payload) header payload _
  rule_noted (Hears peer channel stamp) = hearing_noted peer channel stamp _ refl
  rule_noted (TakesFind head) = tt
  rule_noted (TakesOffer o) = offer_noted o _ refl
  rule_noted (TakesStopOffer instance major peer) =
      cond_both (is_stopped instance major peer t.clock t.seek) _ _ (Noted (TakesStopOffer instance major peer)) (λ is. ((major, peer, refl, is), tt)) (λ _. tt)
  rule_noted (TakesSubscribe peer head endpoint) = subscribe_noted peer head endpoint _ refl
  rule_noted (TakesStopSubscribe peer head None) = tt
  rule_noted (TakesStopSubscribe peer head (Some endpoint)) = ((peer, head, endpoint, refl, refl), tt)
  rule_noted (TakesAck peer head) = ((peer, head, refl, refl, refl), tt)
  rule_noted (TakesNack peer head) = ((peer, head, refl, refl), tt)
  rule_noted (Announces entries) = ((entries, refl), tt)
  rule_noted (RepliesTo peer entries) = ((entries, refl), tt)
  rule_noted (Ticks ms) = (refl, tt)
  rule_noted (Calls kind instance method payload) = call_noted kind instance method payload (known_endpoint t instance) refl
  rule_noted (Answers token reply payload) = answers_noted token reply payload (finite.get t.server.requests token) refl
  rule_noted (Publishes instance event payload) = publish_noted instance event payload (offered_as t.config instance) refl
  rule_noted (PublishesTo instance endpoint event payload) = publish_to_noted instance endpoint event payload (offered_as t.config instance) refl
  rule_noted (Wishes eventgroup) = (refl, tt)
  rule_noted (TakesBack eventgroup None) = ((None, refl), tt)
  rule_noted (TakesBack eventgroup (Some beginning)) = ((Some beginning, refl), tt)
  rule_noted (Stops instance) = (refl, tt)

-- ---- steps

module _ (h : History) (input : Input) where
  pub all_met : AllByRecursion (MetBy h input) (met_by (trail_of h input))
  all_met = all_said h input IsMet (λ o. o.items) (λ r t. rule_noted t r)

  pub state_met : (done : Work History) → step h input ≡ Ok done → done.state ≡ after h (met_by (trail_of h input))
  state_met done is = ap (λ (w : Work History). w.state) (done_by h input (refusal_of input (answers_of h)) done is) ∙ state_of_run (plan_of input) (work_on h)
