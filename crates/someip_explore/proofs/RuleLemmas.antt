-- What a rule says, and why an input is refused, with maps of the configuration that lie elsewhere.
use Rattle.std.proofs.Common.{◌≡◌, ℕ, ◌+◌, ◌==◌, Bool, false, not, ◌&&◌, ◌||◌, List, [], ◌∷◌, ◌++◌, length, map, nat_lt, Option, None, Some, is_some, if◌then◌else◌, refl, ap, ◌∙◌}
use Rattle.std.specs.List.{flat_map, list_any}
use Rattle.std.specs.Map.{lookup}
use Rattle.std.specs.BTreeSet.{contains}
use Rattle.std.specs.Option.{option_map_or}
use Rattle.std.specs.BTreeMap.{BTreeMap, is_at}
use Rattle.std.specs.BTreeMap as tree
use Rattle.std.specs.FinMap as finite
use Rattle.std.specs.Ordering.{eq_by_cmp, nat_cmp}
use Rattle.someip_tables.specs.Endpoints.{endpoint_cmp}
use Rattle.std.specs.declared.net.ipv4_addr.Ipv4Addr.{Ipv4Addr}
use Rattle.std.specs.declared.net.socket_addr.SocketAddrV4.{SocketAddrV4}
use Rattle.std.specs.Net.Socket.{v4_ip, v4_port}
use Rattle.someip_wire.specs.declared.header.Header.{Header}
use Rattle.someip_wire.specs.declared.header.MessageType.{MessageType}
use Rattle.someip_wire.specs.declared.header.MessageType.TheVariants as kinds
use Rattle.sd_wire.specs.declared.entry.EventgroupEntry.{EventgroupEntry}
use Rattle.sd_session.specs.Peers.{stamps_of, told_by}
use Rattle.sd_session.specs.declared.peers.Seen.{Seen}
use Rattle.sd_session.specs.declared.peers.Seen.TheVariants as seen_as
use Rattle.sd_session.specs.declared.stamp.Channel.{Channel}
use Rattle.sd_session.specs.declared.stamp.Channel.TheVariants.{Multicast, Unicast}
use Rattle.sd_session.specs.declared.stamp.Stamp.{Stamp}
use Rattle.sd_core.specs.Endings.{ends_at}
use Rattle.sd_core.specs.Keys.{instance_cmp}
use Rattle.sd_core.specs.OfferTables.{answering}
use Rattle.sd_core.specs.SeekTables.{counted_as, known_of, uncounted}
use Rattle.sd_core.specs.Sendings.{due_at}
use Rattle.sd_core.specs.SubscriberTables.{endpoints_of, nack_cause}
use Rattle.sd_core.specs.WishTables.{begun_where, subscribes}
use Rattle.sd_core.specs.Wishes.{is_with, sent_at_once, wish_of}
use Rattle.sd_core.specs.declared.eventgroup.Eventgroup.{Eventgroup}
use Rattle.sd_core.specs.declared.keys.InstanceId.{InstanceId}
use Rattle.sd_core.specs.declared.received.ReceivedOffer.{ReceivedOffer}
use Rattle.sd_core.specs.declared.received.Uncounted.{Uncounted}
use Rattle.sd_core.specs.declared.wish.OutgoingSubscribe.{OutgoingSubscribe}
use Rattle.someip_rpc.specs.Events.{event_of, publish_refusal, publish_to_refusal}
use Rattle.someip_rpc.specs.Requests.{is_declared, lacks_room, request_fault}
use Rattle.someip_rpc.specs.declared.call.CallKind.{CallKind}
use Rattle.someip_rpc.specs.declared.error.RpcError.TheVariants.{NotOffered, NotSubscribed, TooLong, UnknownEvent}
use Rattle.someip_rpc.specs.declared.request.RequestFault.{RequestFault}
use Rattle.someip_rpc.specs.declared.request.RequestFault.TheVariants as faults
use Rattle.someip_node_rules.specs.declared.config.Config.{Config}
use Rattle.someip_node_rules.specs.declared.config.OfferedService.{OfferedService}
use Rattle.someip_node_rules.specs.declared.config.WantedService.{WantedService}
use Rattle.someip_node_rules.specs.declared.error.NodeError.TheVariants.{NotWanted, Rpc}
use Rattle.someip_node_rules.specs.declared.output.Output.TheVariants as outputs
use Rattle.someip_node_rules.specs.declared.target.Target.TheVariants as target
use Rattle.someip_node_rules.specs.forms.Entries.{find_entry, offer_entry, subscribe_entry}
use Rattle.someip_node_rules.specs.forms.Outputs.{Sends, Tells}
use Rattle.someip_node_rules.specs.forms.Setups.{client_endpoint, discovery_port, offered_as, ports_of, wanted_as, wanted_instances}
use Rattle.someip_node_rules.specs.histories.Items.{OfferCounted, PeerHeard, PeerRebooted, Published, Ticked}
use Rattle.someip_node_rules.specs.histories.Tables.{Tables, is_up, known_endpoint, known_offer, known_peer, live_subscribers, passed_instances}
use Rattle.someip_node_rules.specs.rules.Inputs.{Input, refusal_of}
use Rattle.someip_node_rules.specs.rules.Inputs as inputs
use Rattle.someip_node_rules.specs.rules.Calling.{call_of, calls_at}
use Rattle.someip_node_rules.specs.rules.ClientSubscribing.{stop_subscribe_of, wish_entries, wishing_refusal}
use Rattle.someip_node_rules.specs.rules.Errors.{as_node_error}
use Rattle.someip_node_rules.specs.rules.Handling.{instance_target, same_address, target_of}
use Rattle.someip_node_rules.specs.rules.Learning.{ack_by, answer_in, eventgroup_in, hearing_by, known_told, nack_by, offer_by, offer_counts, subscribe_to}
use Rattle.someip_node_rules.specs.rules.Messages.{by_type, event_by, is_event_of, is_subscribed_by, oneway_by, publisher, request_by, request_to}
use Rattle.someip_node_rules.specs.rules.Offering.{offer_of, sought_by, stop_offer_of}
use Rattle.someip_node_rules.specs.rules.Outcomes.{endings, meets, nothing}
use Rattle.someip_node_rules.specs.rules.Plans.{Rule, rule, Drops, TakesSegment, TakesRequest, TakesAnswer, TakesEvent, Hears, TakesFind, TakesOffer, TakesStopOffer, TakesSubscribe, TakesStopSubscribe, TakesAck, TakesNack, Announces, RepliesTo, Ticks, Calls, Answers, Publishes, PublishesTo, Wishes, TakesBack, Stops}
use Rattle.someip_node_rules.specs.rules.Publishing.{event_message, publishes_by, publishes_to_by, subscriber_at}
use Rattle.someip_node_rules.specs.rules.ServerSubscribing.{rules_by, rules_for, subscribe_by, subscribe_in}
use Rattle.someip_node_rules.specs.rules.Ticking.{due_entries, find_of, timed_out}
use Rattle.someip_node_rules.specs.trails.Copies.{IsCopyOfOffer, IsCopyOfWant}
use Rattle.someip_tables.specs.Tables.{map_of}
use Rattle.someip_explore.proofs.CopyLemmas.{Alike, Events, first_key, found_so, laid_offer, laid_want, mapped, of_offer, of_want}

-- tables with other maps of what is offered and wanted
abbrev pub with_maps : Config → BTreeMap InstanceId OfferedService → BTreeMap InstanceId WantedService → Config
with_maps c o w = record c { offers = o; wants = w }

abbrev pub moved_tables : Tables → BTreeMap InstanceId OfferedService → BTreeMap InstanceId WantedService → Tables
moved_tables t o w = record t { config = with_maps t.config o w }

-- ---- what a service is asked

same_declared : (s : OfferedService) (l : Events) (kind : MessageType) (method : ℕ) → is_declared (laid_offer s l).rules kind method ≡ is_declared s.rules kind method
same_declared s l kinds.Request method = refl
same_declared s l kinds.RequestNoReturn method = refl
same_declared s l kinds.Notification method = refl
same_declared s l kinds.Response method = refl
same_declared s l kinds.Error method = refl
same_declared s l kinds.TpRequest method = refl
same_declared s l kinds.TpRequestNoReturn method = refl
same_declared s l kinds.TpNotification method = refl
same_declared s l kinds.TpResponse method = refl
same_declared s l kinds.TpError method = refl

module _ (t : Tables) (o : BTreeMap InstanceId OfferedService) (w : BTreeMap InstanceId WantedService)
    (os : Alike IsCopyOfOffer t.config.offers.entries o.entries) (ws : Alike IsCopyOfWant t.config.wants.entries w.entries) where
  -- the tables
  abbrev u : Tables
  u = moved_tables t o w

  -- what is made of the offer of an instance, or of none
  of_offered : {A : Type 0} (R : Option OfferedService → A) → ((s : OfferedService) (m : Events) → m.entries ≡ s.rules.events.entries → R (Some (laid_offer s m)) ≡ R (Some s)) → (instance : InstanceId)
      → R (offered_as u.config instance) ≡ R (offered_as t.config instance)
  of_offered R blind instance =
      found_so IsCopyOfOffer R (of_offer (λ s. R (Some s)) blind) (is_at (instance_cmp instance)) t.config.offers.entries o.entries os

  of_wanted : {A : Type 0} (R : Option WantedService → A) → ((s : WantedService) (m : Events) → m.entries ≡ s.groups.entries → R (Some (laid_want s m)) ≡ R (Some s)) → (instance : InstanceId)
      → R (wanted_as u.config instance) ≡ R (wanted_as t.config instance)
  of_wanted R blind instance =
      found_so IsCopyOfWant R (of_want (λ s. R (Some s)) blind) (is_at (instance_cmp instance)) t.config.wants.entries w.entries ws

  same_wanted : wanted_instances u.config ≡ wanted_instances t.config
  same_wanted = mapped IsCopyOfWant (λ e. e.0) (λ k a b is. refl) t.config.wants.entries w.entries ws

  -- ---- entries

  pub same_offer_of : (instance : InstanceId) → offer_of u instance ≡ offer_of t instance
  same_offer_of instance = of_offered (λ s. option_map_or (λ service. offer_entry instance service.ttl service ∷ []) s []) (λ s m e. refl) instance

  pub same_stop_offer_of : (instance : InstanceId) → stop_offer_of u instance ≡ stop_offer_of t instance
  same_stop_offer_of instance = of_offered (λ s. option_map_or (λ service. offer_entry instance 0 service ∷ []) s []) (λ s m e. refl) instance

  same_find_of : (instance : InstanceId) → find_of u instance ≡ find_of t instance
  same_find_of instance = of_wanted (λ s. option_map_or (λ want. find_entry instance want.major ∷ []) s []) (λ s m e. refl) instance

  pub same_due : (now : ℕ) → due_entries now u ≡ due_entries now t
  same_due now i =
      flat_map (λ instance. same_offer_of instance i) (finite.keys (due_at now t.offers.up))
      ++ flat_map (λ instance. same_find_of instance i) (finite.keys (due_at now t.seek.finding))

  pub same_subscribe_to : (s : OutgoingSubscribe) → subscribe_to u s ≡ subscribe_to t s
  same_subscribe_to s =
      of_wanted (λ found. option_map_or (λ want. subscribe_entry (client_endpoint t.config) want.major want.ttl s.eventgroup s.counter ∷ []) found []) (λ s m e. refl)
      s.eventgroup.instance

  pub same_wish_entries : (eventgroup : Eventgroup) → wish_entries eventgroup u ≡ wish_entries eventgroup t
  same_wish_entries eventgroup i =
      option_map_or (λ c. same_subscribe_to (record { eventgroup = eventgroup; counter = c }) i)
      (sent_at_once t.clock (known_peer t eventgroup.instance) (wish_of (finite.get t.wishes eventgroup))) []

  pub same_stop_subscribe_of : (eventgroup : Eventgroup) (counter : ℕ) → stop_subscribe_of u eventgroup counter ≡ stop_subscribe_of t eventgroup counter
  same_stop_subscribe_of eventgroup counter =
      of_wanted (λ found. option_map_or (λ want. subscribe_entry (client_endpoint t.config) want.major 0 eventgroup counter ∷ []) found []) (λ s m e. refl)
      eventgroup.instance

  -- ---- what a datagram reaches

  same_ports : ports_of u.config ≡ ports_of t.config
  same_ports =
      ap (map_of nat_cmp)
      (mapped IsCopyOfOffer (λ e. (e.1.rules.endpoint.port, e.0)) (λ k. of_offer (λ s. (s.rules.endpoint.port, k)) (λ s m e. refl)) t.config.offers.entries o.entries os)

  pub same_target : (to : SocketAddrV4) → target_of u.config to ≡ target_of t.config to
  same_target to i =
      if same_address (v4_ip to) t.config.address
      then (if v4_port to == discovery_port then target.Discovery Unicast
      else if v4_port to == t.config.client_port then target.Client
      else instance_target (finite.get (same_ports i) (v4_port to)))
      else if same_address (v4_ip to) t.config.common.group && (v4_port to == discovery_port) then target.Discovery Multicast
      else target.Nowhere

  -- ---- events

  same_event_of : (from : SocketAddrV4) (header : Header) (k : InstanceId) (a b : WantedService) → IsCopyOfWant a b
      → is_event_of t from header (k, b) ≡ is_event_of t from header (k, a)
  same_event_of from header k = of_want (λ s. is_event_of t from header (k, s))
      (λ s m e i. (k.service == header.service) && (s.major == header.interface)
      && option_map_or (λ endpoint. eq_by_cmp endpoint_cmp endpoint from) (known_endpoint t k) false
      && list_any (is_subscribed_by t k header.method) (e i))

  same_publisher : (from : SocketAddrV4) (header : Header) → publisher u from header ≡ publisher t from header
  same_publisher from header = first_key IsCopyOfWant (is_event_of t from header) (same_event_of from header) t.config.wants.entries w.entries ws

  -- ---- rules

  same_request_by : (instance : InstanceId) (s : OfferedService) (l : Events) (from : SocketAddrV4) (header : Header) (payload : List ℕ) (fault : Option RequestFault)
      → request_by instance (laid_offer s l).rules from header payload fault t ≡ request_by instance s.rules from header payload fault t
  same_request_by instance s l from header payload None = refl
  same_request_by instance s l from header payload (Some fault) = refl

  -- the first check that a request fails
  same_fault : (s : OfferedService) (l : Events) (up : Bool) (header : Header)
      → request_fault (laid_offer s l).rules up header t.server.requests t.server.next ≡ request_fault s.rules up header t.server.requests t.server.next
  same_fault s l up header i =
      if not (up && (header.service == s.rules.service)) then Some faults.UnknownService
      else if not (header.interface == s.rules.major) then Some faults.WrongInterface
      else if not (is_declared s.rules kinds.Request header.method || is_declared s.rules kinds.RequestNoReturn header.method) then Some faults.UnknownMethod
      else if not (same_declared s l header.kind header.method i) then Some faults.WrongType
      else if lacks_room header.kind t.server.requests t.server.next then Some faults.NotReady
      else None

  same_request_to : (instance : InstanceId) (from : SocketAddrV4) (header : Header) (payload : List ℕ) (s : OfferedService) (l : Events)
      → request_to instance (laid_offer s l) from header payload t ≡ request_to instance s from header payload t
  same_request_to instance from header payload s l =
      let up = is_up t instance in
      let fault = request_fault s.rules up header t.server.requests t.server.next in
      (λ i. by_type header.kind (request_by instance (laid_offer s l).rules from header payload (same_fault s l up header i) t)
      (oneway_by instance header payload (same_fault s l up header i)))
      ∙ (λ i. by_type header.kind (same_request_by instance s l from header payload fault i) (oneway_by instance header payload fault))

  same_request_as : (instance : InstanceId) (from : SocketAddrV4) (header : Header) (payload : List ℕ) (found : Option OfferedService)
      → option_map_or (λ service. request_to instance service from header payload u) found nothing ≡ option_map_or (λ service. request_to instance service from header payload t) found nothing
  same_request_as instance from header payload None = refl
  same_request_as instance from header payload (Some s) =
      let fault = request_fault s.rules (is_up t instance) header t.server.requests t.server.next in
      λ i. by_type header.kind (of_tables fault i) (oneway_by instance header payload fault)
    where
      of_tables : (fault : Option RequestFault) → request_by instance s.rules from header payload fault u ≡ request_by instance s.rules from header payload fault t
      of_tables None = refl
      of_tables (Some fault) = refl

  same_hearing : (peer : Ipv4Addr) (channel : Channel) (stamp : Stamp) (seen : Seen) → hearing_by peer channel stamp seen u ≡ hearing_by peer channel stamp seen t
  same_hearing peer channel stamp seen_as.Same = refl
  same_hearing peer channel stamp seen_as.Rebooted = λ i.
      meets (PeerRebooted peer ∷ PeerHeard peer channel stamp ∷ [])
      (outputs.Rebooted peer
      ∷ endings (same_wanted i) (finite.keys (known_of peer t.clock t.seek)) (finite.keys (begun_where (λ eventgroup beginning. is_with peer beginning) t.wishes)))

  same_counts : (offer : ReceivedOffer) (endpoint : SocketAddrV4) → offer_counts offer endpoint u ≡ offer_counts offer endpoint t
  same_counts offer endpoint i = record {
    items = OfferCounted offer endpoint ∷ [];
    given = map Tells (known_told offer.instance endpoint (counted_as endpoint (known_offer t offer.instance)));
    replies = flat_map (λ s. same_subscribe_to s i) (subscribes t.clock offer.instance offer.peer t.wishes);
  }

  same_offer_by : (offer : ReceivedOffer) (cause : Option Uncounted) → offer_by offer cause u ≡ offer_by offer cause t
  same_offer_by offer None = λ i. option_map_or (λ endpoint. same_counts offer endpoint i) offer.endpoint nothing
  same_offer_by offer (Some cause) = refl

  same_rules_for : (head : EventgroupEntry) → rules_for head u ≡ rules_for head t
  same_rules_for head =
      of_offered (rules_by head (is_up t (eventgroup_in head).instance))
      (λ s m e i. record {
        is_offered = is_up t (eventgroup_in head).instance;
        is_same_major = s.rules.major == head.major;
        is_known_eventgroup = list_any (λ e. contains nat_cmp e.1 head.eventgroup) (e i);
        limit = s.subscribers;
      })
      (eventgroup_in head).instance

  same_answer_in : (peer : Ipv4Addr) (head : EventgroupEntry) → answer_in peer head u ≡ answer_in peer head t
  same_answer_in peer head i = record {
    eventgroup = eventgroup_in head;
    has_wanted_major = of_wanted (λ found. option_map_or (λ want. want.major == head.major) found false) (λ s m e. refl) (eventgroup_in head).instance i;
    peer = peer;
    counter = head.counter;
  }

  same_call : (kind : CallKind) (instance : InstanceId) (method : ℕ) → call_of kind instance method u ≡ call_of kind instance method t
  same_call kind instance method i = record {
    kind = kind;
    message = record { service = instance.service; method = method };
    interface = of_wanted (λ found. option_map_or (λ want. want.major) found 0) (λ s m e. refl) instance i;
  }

  pub same_rule : (r : Rule) → rule r u ≡ rule r t
  same_rule (Drops reason) = refl
  same_rule (TakesSegment offered) = refl
  same_rule (TakesRequest instance from header payload) =
      same_request_as instance from header payload (offered_as u.config instance)
      ∙ of_offered (λ found. option_map_or (λ service. request_to instance service from header payload t) found nothing) (λ s m e. same_request_to instance from header payload s m) instance
  same_rule (TakesAnswer from header payload) = refl
  same_rule (TakesEvent from header payload) = λ i. event_by header payload (same_publisher from header i)
  same_rule (Hears peer channel stamp) = same_hearing peer channel stamp (told_by channel stamp (stamps_of t.peers peer))
  same_rule (TakesFind head) = λ i.
      record nothing { replies = flat_map (λ instance. same_offer_of instance i) (finite.keys (answering (sought_by head) t.offers)) }
  same_rule (TakesOffer offer) = same_offer_by offer (uncounted offer t.clock t.seek)
  same_rule (TakesStopOffer instance major peer) = refl
  same_rule (TakesSubscribe peer head endpoint) = λ i.
      subscribe_by head (subscribe_in peer head endpoint) (nack_cause (same_rules_for head i) (subscribe_in peer head endpoint) (live_subscribers t))
  same_rule (TakesStopSubscribe peer head endpoint) = refl
  same_rule (TakesAck peer head) = λ i. ack_by (same_answer_in peer head i) head.ttl t
  same_rule (TakesNack peer head) = λ i. nack_by (same_answer_in peer head i) t
  same_rule (Announces entries) = refl
  same_rule (RepliesTo peer entries) = refl
  same_rule (Ticks ms) = λ i.
      meets (Ticked ms ∷ [])
      (timed_out (t.clock + ms) t
      ++ endings (same_wanted i) (passed_instances (t.clock + ms) t)
      (finite.keys (begun_where (ends_at (t.clock + ms) (passed_instances (t.clock + ms) t)) t.wishes)))
  same_rule (Calls kind instance method payload) = λ i.
      option_map_or (λ peer. calls_at (same_call kind instance method i) payload peer t) (known_endpoint t instance) nothing
  same_rule (Answers token reply payload) = refl
  same_rule (Publishes instance event payload) =
      of_offered (λ found. option_map_or (λ service. publishes_by instance service event payload t) found nothing)
      (λ s m e i. record {
        items = Published (event_of s.rules event) ∷ [];
        given =
            map (λ to. Sends s.rules.endpoint to (event_message s event payload t))
            (endpoints_of instance (option_map_or (λ groups. groups.keys) (lookup (is_at (nat_cmp event)) (e i)) []) (live_subscribers t));
        replies = [];
      })
      instance
  same_rule (PublishesTo instance endpoint event payload) =
      of_offered (λ found. option_map_or (λ service. publishes_to_by service endpoint event payload t) found nothing) (λ s m e. refl) instance
  same_rule (Wishes eventgroup) = refl
  same_rule (TakesBack eventgroup None) = refl
  same_rule (TakesBack eventgroup (Some beginning)) = refl
  same_rule (Stops instance) = refl

  -- ---- refusals

  same_wishing : (eventgroup : Eventgroup) → wishing_refusal eventgroup u ≡ wishing_refusal eventgroup t
  same_wishing eventgroup i =
      if of_wanted (λ found. option_map_or (λ want. is_some (tree.get nat_cmp want.groups eventgroup.id)) found false) (λ s m e j. is_some (lookup (is_at (nat_cmp eventgroup.id)) (e j))) eventgroup.instance i
      then None else Some NotWanted

  pub same_refusal : (input : Input) → refusal_of input u ≡ refusal_of input t
  same_refusal (inputs.Datagram from to bytes) = refl
  same_refusal (inputs.Tick ms) = refl
  same_refusal (inputs.Call kind instance method payload) = refl
  same_refusal (inputs.Answer token reply payload) = refl
  same_refusal (inputs.Publish instance event payload) =
      of_offered
      (λ found. option_map_or
      (λ service. as_node_error (publish_refusal service.rules (is_up t instance) t.config.common.message_limit event (length payload))) found (Some (Rpc NotOffered)))
      (λ s m e i. as_node_error
      (if not (is_up t instance) then Some NotOffered
      else if not (is_some (lookup (is_at (nat_cmp event)) (e i))) then Some UnknownEvent
      else if nat_lt t.config.common.message_limit (length payload) then Some TooLong
      else None))
      instance
  same_refusal (inputs.PublishTo instance eventgroup endpoint event payload) =
      of_offered
      (λ found. option_map_or
      (λ service. as_node_error (publish_to_refusal service.rules (is_up t instance) t.config.common.message_limit
      (subscriber_at instance eventgroup endpoint t) event (length payload))) found (Some (Rpc NotOffered)))
      (λ s m e i. as_node_error
      (if not (is_up t instance) then Some NotOffered
      else if not (option_map_or (λ groups. contains nat_cmp groups eventgroup) (lookup (is_at (nat_cmp event)) (e i)) false) then Some UnknownEvent
      else if nat_lt t.config.common.message_limit (length payload) then Some TooLong
      else if not (subscriber_at instance eventgroup endpoint t).is_live then Some NotSubscribed
      else None))
      instance
  same_refusal (inputs.Subscribe eventgroup) = same_wishing eventgroup
  same_refusal (inputs.Unsubscribe eventgroup) = same_wishing eventgroup
  same_refusal (inputs.StopOffer instance) = refl
