-- What each input makes a node begin agrees with the Subscribes that it sends.
use Rattle.std.proofs.Common.{◌≡◌, inl, inr, ℕ, ◌+◌, Bool, true, false, not, if◌then◌else◌, List, [], ◌∷◌, ◌++◌, Option, None, Some, Result, Ok, Err, refl, ap, sym, subst, ◌∙◌}
use Rattle.std.specs.List.{AllByRecursion}
use Rattle.std.specs.Option.{option_map_or}
use Rattle.std.specs.Net.Socket.{v4_ip}
use Rattle.std.specs.declared.net.ipv4_addr.Ipv4Addr.{Ipv4Addr}
use Rattle.std.specs.declared.net.socket_addr.SocketAddrV4.{SocketAddrV4}
use Rattle.std.proofs.lemmas.Bool.{cond_both}
use Rattle.std.proofs.lemmas.List.{append-nil}
use Rattle.someip_wire.specs.declared.error.WireError.{WireError}
use Rattle.someip_wire.specs.declared.header.Header.{Header}
use Rattle.someip_wire.specs.declared.header.MessageType.{MessageType}
use Rattle.someip_wire.specs.declared.header.MessageType.TheVariants as kinds
use Rattle.someip_wire.specs.Kinds.{has_tp_flag, without_tp_flag}
use Rattle.someip_wire.specs.Reading.{items_of}
use Rattle.someip_wire.specs.Spelling.{MessageValue}
use Rattle.someip_reassembly.specs.declared.error.TpError.{TpError}
use Rattle.someip_reassembly.specs.Keys.{segment_key}
use Rattle.someip_reassembly.specs.SegmentOffers.{SegmentOffer, offer}
use Rattle.someip_reassembly.specs.TpHeader.{segment_in}
use Rattle.sd_wire.specs.declared.entry.EntryHead.{EntryHead}
use Rattle.sd_wire.specs.declared.entry.EntryHead.TheVariants as heads
use Rattle.sd_wire.specs.declared.entry.EventgroupEntry.{EventgroupEntry}
use Rattle.sd_wire.specs.declared.entry.ServiceEntry.{ServiceEntry}
use Rattle.sd_wire.specs.declared.error.SdError.{SdError}
use Rattle.sd_wire.specs.contents.Endpoints.{first_udp_endpoint, options_of}
use Rattle.sd_wire.specs.contents.Kinds.{is_ack, is_find, is_stop_offer, is_stop_subscribe, is_subscribe}
use Rattle.sd_wire.specs.decoding.Program.{reading}
use Rattle.sd_wire.specs.contents.Values.{EntryValue, ReadValue, SdValue, good, bad_run}
use Rattle.sd_session.specs.declared.stamp.Channel.{Channel}
use Rattle.sd_session.specs.Peers.{may_hold}
use Rattle.sd_core.specs.declared.eventgroup.Eventgroup.{Eventgroup}
use Rattle.sd_core.specs.declared.keys.InstanceId.{InstanceId}
use Rattle.sd_core.specs.declared.wish.Beginning.{Beginning}
use Rattle.someip_node_rules.specs.declared.config.OfferedService.{OfferedService}
use Rattle.someip_node_rules.specs.declared.config.WantedService.{WantedService}
use Rattle.someip_node_rules.specs.declared.drops.DropReason.TheVariants.{NoPort, NotSd, Own, PeersFull}
use Rattle.someip_node_rules.specs.declared.error.NodeError.TheVariants.{NotWanted}
use Rattle.someip_node_rules.specs.declared.receiver.Receiver.TheVariants.{Group, Peer}
use Rattle.someip_node_rules.specs.declared.target.Target.{Target}
use Rattle.someip_node_rules.specs.declared.target.Target.TheVariants as target
use Rattle.someip_node_rules.specs.rules.ClientSubscribing.{standing_of, stop_subscribe_of, wish_entries}
use Rattle.someip_node_rules.specs.rules.Offering.{stop_offer_of}
use Rattle.someip_node_rules.specs.rules.Ticking.{due_entries}
use Rattle.someip_node_rules.specs.forms.Entries.{offer_entry, subscribe_entry}
use Rattle.someip_node_rules.specs.rules.Handling.{client_plan, completed_plan, datagram_plan, discovery_plan, entries_plan, entry_plan, eventgroup_plan, good_plan, heard_plan, is_valid_discovery, item_plan, message_plan, reading_plan, same_address, segment_plan, service_plan, target_of, target_plan, whole_plan}
use Rattle.someip_node_rules.specs.histories.History.{History, answers_of, historic}
use Rattle.someip_node_rules.specs.rules.Inputs as inputs
use Rattle.someip_node_rules.specs.rules.Inputs.{Input, peer_plan, plan_of, refusal_of, stop_subscribe_plan}
use Rattle.someip_node_rules.specs.rules.Learning.{received_offer}
use Rattle.someip_node_rules.specs.rules.Messages.{completed}
use Rattle.someip_node_rules.specs.rules.Plans as plans
use Rattle.someip_node_rules.specs.rules.Plans.{Plan, Rule, Work, act, asks, both, each, run}
use Rattle.someip_node_rules.specs.forms.Receivers.{message_plan_to, messages_plan_to}
use Rattle.someip_node_rules.specs.trails.Replies.{IsDue}
use Rattle.someip_node_rules.specs.forms.Setups.{client_endpoint, is_wanted_eventgroup, offered_as, wanted_as}
use Rattle.someip_node_rules.specs.steps.Steps.{work_on}
use Rattle.someip_node_rules.specs.histories.Tables.{Tables, known_peer}
use Rattle.someip_node_rules.specs.trails.Trails.{trail, trail_of}
use Rattle.someip_node_rules.proofs.lists.MemberLemmas.{all_members, all_weaker}
use Rattle.someip_node_rules.proofs.trails.ReplyLemmas.{due_says}
use Rattle.someip_world_rules.specs.exchanges.Beginnings.{subscribe_in_head}
use Rattle.someip_world_rules.proofs.about_exchanges.beginnings.AgreeingLemmas.{Agrees, agrees_both}
use Rattle.someip_world_rules.proofs.about_exchanges.beginnings.BeginningWalks.{Collecting, Speaking, Speaks, begun, collecting_act, collecting_each, collecting_offer, one_reply, speaking_act, speaking_both, speaking_each, speaking_message, speaking_messages, speaking_replies, speaking_rest, told, told-append, told_none}
use Rattle.someip_world_rules.proofs.about_exchanges.beginnings.RuleBeginnings.{IsOther, wish_agrees, wish_agrees_none}
use Rattle.someip_world_rules.proofs.about_exchanges.beginnings.SubscribesLemmas.{HasTtls, said}

module _ (q : Eventgroup) where
  -- ---- what depends on what the node met

  speaking_asks : (f : Tables → Plan) → ((t : Tables) → Speaking q (f t)) → Speaking q (asks f)
  speaking_asks f each w = each (answers_of w.state) w

  -- ---- entries

  module _ (peer : Ipv4Addr) where
    collecting_service : (head : ServiceEntry) (endpoint : Option SocketAddrV4) → Collecting q peer (service_plan peer head endpoint)
    collecting_service head endpoint =
        cond_both (is_find head) _ _ (Collecting q peer) (λ _. collecting_act q peer (plans.TakesFind head) refl refl)
        (λ _.
        cond_both (is_stop_offer head) _ _ (Collecting q peer) (λ _. collecting_act q peer (plans.TakesStopOffer _ head.major peer) refl refl)
        (λ _. collecting_offer q (received_offer peer head endpoint)))

    collecting_eventgroup : (head : EventgroupEntry) (endpoint : Option SocketAddrV4) → Collecting q peer (eventgroup_plan peer head endpoint)
    collecting_eventgroup head endpoint =
        cond_both (is_subscribe head) _ _ (Collecting q peer) (λ _. collecting_act q peer (plans.TakesSubscribe peer head endpoint) refl refl)
        (λ _.
        cond_both (is_stop_subscribe head) _ _ (Collecting q peer) (λ _. collecting_act q peer (plans.TakesStopSubscribe peer head endpoint) refl refl)
        (λ _.
        cond_both (is_ack head) _ _ (Collecting q peer) (λ _. collecting_act q peer (plans.TakesAck peer head) refl refl)
        (λ _. collecting_act q peer (plans.TakesNack peer head) refl refl)))

    collecting_entry : (e : ReadValue) → Collecting q peer (entry_plan peer e)
    collecting_entry (good e) = by_head e.head
      where
        by_head : (head : EntryHead) → Collecting q peer (good_plan peer head (first_udp_endpoint (options_of e)))
        by_head (heads.Service head) = collecting_service head (first_udp_endpoint (options_of e))
        by_head (heads.Eventgroup head) = collecting_eventgroup head (first_udp_endpoint (options_of e))
    collecting_entry (bad_run (heads.Service head)) = collecting_act q peer (plans.Drops _) refl refl
    collecting_entry (bad_run (heads.Eventgroup head)) =
        cond_both (is_subscribe head) _ _ (Collecting q peer) (λ _. collecting_act q peer (plans.TakesSubscribe peer head None) refl refl)
        (λ _. collecting_act q peer (plans.Drops _) refl refl)

    speaking_entries : (entries : List ReadValue) → Speaking q (entries_plan peer entries)
    speaking_entries entries = speaking_replies q peer (each (entry_plan peer) entries) (collecting_each q peer (entry_plan peer) collecting_entry entries)

    -- ---- a message of Service Discovery

    speaking_heard : (channel : Channel) (session : ℕ) (v : SdValue) → Speaking q (heard_plan peer channel session v)
    speaking_heard channel session v =
        let hears : Rule = plans.Hears peer channel (record { session = session; reboot = v.flags.reboot }) in
        speaking_asks (λ t. if not (may_hold t.config.common.peers t.peers peer) then act (plans.Drops PeersFull) else both (act hears) (entries_plan peer v.entries)) (λ t.
        cond_both (not (may_hold t.config.common.peers t.peers peer)) (act (plans.Drops PeersFull)) (both (act hears) (entries_plan peer v.entries)) (Speaking q)
        (λ _. speaking_act q (plans.Drops PeersFull) refl refl refl)
        (λ _. speaking_both q (act hears) (entries_plan peer v.entries) (speaking_act q hears refl refl refl) (speaking_entries v.entries)))

    speaking_reading : (channel : Channel) (session : ℕ) (read : Result SdValue SdError) → Speaking q (reading_plan peer channel session read)
    speaking_reading channel session (Err fault) = speaking_act q (plans.Drops _) refl refl refl
    speaking_reading channel session (Ok v) = speaking_heard channel session v

    speaking_discovery : (channel : Channel) (m : MessageValue) → Speaking q (discovery_plan peer channel m)
    speaking_discovery channel m =
        cond_both (is_valid_discovery m.header) _ _ (Speaking q) (λ _. speaking_reading channel m.header.session (reading m.payload)) (λ _. speaking_act q (plans.Drops NotSd) refl refl refl)

  -- ---- messages of the application

  speaking_client : (from : SocketAddrV4) (header : Header) (payload : List ℕ) (kind : MessageType) → Speaking q (client_plan from header payload kind)
  speaking_client from header payload kinds.Notification = speaking_act q (plans.TakesEvent from header payload) refl refl refl
  speaking_client from header payload _ = speaking_act q (plans.TakesAnswer from header payload) refl refl refl

  speaking_whole : (goal : Target) (from : SocketAddrV4) (header : Header) (payload : List ℕ) → Speaking q (whole_plan goal from header payload)
  speaking_whole (target.Instance instance) from header payload = speaking_act q (plans.TakesRequest instance from header payload) refl refl refl
  speaking_whole target.Client from header payload = speaking_client from header payload header.kind
  speaking_whole (target.Discovery channel) from header payload = speaking_rest q
  speaking_whole target.Nowhere from header payload = speaking_rest q

  speaking_completed : (goal : Target) (from : SocketAddrV4) (header : Header) (whole : Option (List ℕ)) → Speaking q (completed_plan goal from header whole)
  speaking_completed goal from header None = speaking_rest q
  speaking_completed goal from header (Some payload) = speaking_whole goal from (record header { kind = without_tp_flag header.kind }) payload

  speaking_segment : (goal : Target) (from to : SocketAddrV4) (header : Header) (read : Result (ℕ × Bool × List ℕ) TpError) → Speaking q (segment_plan goal from to header read)
  speaking_segment goal from to header (Err fault) = speaking_act q (plans.Drops _) refl refl refl
  speaking_segment goal from to header (Ok r) =
      let o : SegmentOffer = offer (segment_key from to header) r.0 r.1 r.2 in
      speaking_asks (λ t. both (act (plans.TakesSegment o)) (completed_plan goal from header (completed o t)))
      (λ t. speaking_both q (act (plans.TakesSegment o)) (completed_plan goal from header (completed o t)) (speaking_act q (plans.TakesSegment o) refl refl refl) (speaking_completed goal from header (completed o t)))

  speaking_application : (goal : Target) (from to : SocketAddrV4) (m : MessageValue) → Speaking q (message_plan goal from to m)
  speaking_application goal from to m =
      cond_both (has_tp_flag m.header.kind) _ _ (Speaking q) (λ _. speaking_segment goal from to m.header (segment_in m.payload)) (λ _. speaking_whole goal from m.header m.payload)

  -- ---- datagrams

  speaking_item : (goal : Target) (from to : SocketAddrV4) (item : Result MessageValue WireError) → Speaking q (item_plan goal from to item)
  speaking_item goal from to (Err fault) = speaking_act q (plans.Drops _) refl refl refl
  speaking_item (target.Discovery channel) from to (Ok m) = speaking_discovery (v4_ip from) channel m
  speaking_item (target.Instance instance) from to (Ok m) = speaking_application (target.Instance instance) from to m
  speaking_item target.Client from to (Ok m) = speaking_application target.Client from to m
  speaking_item target.Nowhere from to (Ok m) = speaking_application target.Nowhere from to m

  speaking_items : (goal : Target) (from to : SocketAddrV4) (items : List (Result MessageValue WireError)) → Speaking q (each (item_plan goal from to) items)
  speaking_items goal from to items = speaking_each q (λ _. Unit {0}) (item_plan goal from to) (λ item _. speaking_item goal from to item) items (all_weaker _ (λ _. Unit {0}) (λ _ _. tt) items (all_members items))

  speaking_target : (goal : Target) (from to : SocketAddrV4) (bytes : List ℕ) → Speaking q (target_plan goal from to bytes)
  speaking_target target.Nowhere from to bytes = speaking_act q (plans.Drops NoPort) refl refl refl
  speaking_target (target.Discovery channel) from to bytes = speaking_items (target.Discovery channel) from to (items_of bytes)
  speaking_target (target.Instance instance) from to bytes = speaking_items (target.Instance instance) from to (items_of bytes)
  speaking_target target.Client from to bytes = speaking_items target.Client from to (items_of bytes)

  speaking_datagram : (from to : SocketAddrV4) (bytes : List ℕ) → Speaking q (datagram_plan from to bytes)
  speaking_datagram from to bytes =
      speaking_asks (λ t. if same_address (v4_ip from) t.config.address then act (plans.Drops Own) else target_plan (target_of t.config to) from to bytes) (λ t.
      cond_both (same_address (v4_ip from) t.config.address) (act (plans.Drops Own)) (target_plan (target_of t.config to) from to bytes) (Speaking q) (λ _. speaking_act q (plans.Drops Own) refl refl refl) (λ _. speaking_target (target_of t.config to) from to bytes))

  -- ---- the clock, and what is stopped

  due_other : (now : ℕ) (t : Tables) (e : EntryValue) → IsDue now t e → IsOther e
  due_other now t e (inl offer) = λ peer. ap (λ v. subscribe_in_head peer v.head) offer.4
  due_other now t e (inr find) = λ peer. ap (λ v. subscribe_in_head peer v.head) find.4

  speaking_tick : (ms : ℕ) → Speaking q (plan_of (inputs.Tick ms))
  speaking_tick ms =
      speaking_asks (λ t. both (act (plans.Ticks ms)) (messages_plan_to Group (due_entries (t.clock + ms) t))) (λ t.
      speaking_both q (act (plans.Ticks ms)) (messages_plan_to Group (due_entries (t.clock + ms) t)) (speaking_act q (plans.Ticks ms) refl refl refl)
      (speaking_messages q Group (due_entries (t.clock + ms) t) (all_weaker (IsDue (t.clock + ms) t) IsOther (due_other (t.clock + ms) t) (due_entries (t.clock + ms) t) (due_says t (t.clock + ms)))))

  stop_offer_other : (t : Tables) (instance : InstanceId) → AllByRecursion IsOther (stop_offer_of t instance)
  stop_offer_other t instance = by (offered_as t.config instance)
    where
      by : (service : Option OfferedService) → AllByRecursion IsOther (option_map_or (λ service. offer_entry instance 0 service ∷ []) service [])
      by None = tt
      by (Some service) = ((λ peer. refl), tt)

  speaking_stop_offer : (instance : InstanceId) → Speaking q (plan_of (inputs.StopOffer instance))
  speaking_stop_offer instance =
      speaking_asks (λ t. both (message_plan_to Group (stop_offer_of t instance)) (act (plans.Stops instance)))
      (λ t. speaking_both q (message_plan_to Group (stop_offer_of t instance)) (act (plans.Stops instance)) (speaking_message q Group (stop_offer_of t instance) (stop_offer_other t instance)) (speaking_act q (plans.Stops instance) refl refl refl))

  stop_subscribe_other : (t : Tables) (e : Eventgroup) (counter : ℕ) → AllByRecursion IsOther (stop_subscribe_of t e counter)
  stop_subscribe_other t e counter = by (wanted_as t.config e.instance)
    where
      by : (want : Option WantedService) → AllByRecursion IsOther (option_map_or (λ want. subscribe_entry (client_endpoint t.config) want.major 0 e counter ∷ []) want [])
      by None = tt
      by (Some want) = ((λ peer. refl), tt)

  speaking_stop_subscribe : (t : Tables) (e : Eventgroup) (stands : Option Beginning) → Speaking q (stop_subscribe_plan e stands t)
  speaking_stop_subscribe t e None = speaking_rest q
  speaking_stop_subscribe t e (Some b) = speaking_message q (Peer b.peer) (stop_subscribe_of t e b.counter) (stop_subscribe_other t e b.counter)

  speaking_back : (e : Eventgroup) → Speaking q (plan_of (inputs.Unsubscribe e))
  speaking_back e =
      speaking_asks (λ t. both (stop_subscribe_plan e (standing_of e t) t) (act (plans.TakesBack e (standing_of e t)))) (λ t.
      speaking_both q (stop_subscribe_plan e (standing_of e t) t) (act (plans.TakesBack e (standing_of e t))) (speaking_stop_subscribe t e (standing_of e t)) (speaking_act q (plans.TakesBack e (standing_of e t)) refl refl refl))

  -- ---- a wish

  module _ (h : History) (ttls : HasTtls h.config) (e : Eventgroup) (wanted : is_wanted_eventgroup h.config e ≡ true) where
    abbrev t : Tables
    t = answers_of h

    abbrev start : Work History
    start = work_on h

    abbrev WishSpeaks : Plan → Type 0
    WishSpeaks p = Speaks q start (run historic p start) (trail p start)

    wish_speaks : (known : Option Ipv4Addr) → known_peer t e.instance ≡ known → WishSpeaks (both (act (plans.Wishes e)) (peer_plan known (wish_entries e t)))
    wish_speaks None is = record {
      agrees = subst (Agrees q (begun q start) (begun q (run historic (act (plans.Wishes e)) start)) (trail (act (plans.Wishes e)) start)) (sym (told_none q (plans.Wishes e) start refl)) (wish_agrees_none q start e is);
      none = refl;
    }
    wish_speaks (Some peer) is =
        let mid = run historic (act (plans.Wishes e)) start in
        let es : List EntryValue = wish_entries e t in
        let reply : Plan = act (plans.RepliesTo peer es) in
        let x = one_reply q peer es mid in
        let whole : told q (trail (act (plans.Wishes e)) start ++ trail reply mid) ≡ said q peer es ++ [] =
        told-append q (trail (act (plans.Wishes e)) start) (trail reply mid) ∙ ap (λ l. l ++ told q (trail reply mid)) (told_none q (plans.Wishes e) start refl) ∙ x.1 ∙ sym (append-nil (said q peer es)) in
        record {
          agrees = subst (Agrees q (begun q start) (begun q (run historic reply mid)) (trail (act (plans.Wishes e)) start ++ trail reply mid)) (sym whole)
              (agrees_both q (begun q start) (begun q mid) (begun q (run historic reply mid)) (trail (act (plans.Wishes e)) start) (trail reply mid) (said q peer es) []
              (wish_agrees q start e ttls wanted peer is) x.0);
          none = refl;
        }

  -- ---- each input

  wanted_by : (b : Bool) {E : Type 0} (fault : E) → (if b then None else Some fault) ≡ None → b ≡ true
  wanted_by true fault is = refl
  wanted_by false fault is = absurd cc

  pub input_speaks : (h : History) → HasTtls h.config → (input : Input) → refusal_of input (answers_of h) ≡ None
      → Speaks q (work_on h) (run historic (plan_of input) (work_on h)) (trail_of h input)
  input_speaks h ttls (inputs.Datagram from to bytes) is = speaking_datagram from to bytes (work_on h) ttls refl
  input_speaks h ttls (inputs.Tick ms) is = speaking_tick ms (work_on h) ttls refl
  input_speaks h ttls (inputs.Call kind instance method payload) is = speaking_act q (plans.Calls kind instance method payload) refl refl refl (work_on h) ttls refl
  input_speaks h ttls (inputs.Answer token reply payload) is = speaking_act q (plans.Answers token reply payload) refl refl refl (work_on h) ttls refl
  input_speaks h ttls (inputs.Publish instance event payload) is = speaking_act q (plans.Publishes instance event payload) refl refl refl (work_on h) ttls refl
  input_speaks h ttls (inputs.PublishTo instance eventgroup endpoint event payload) is = speaking_act q (plans.PublishesTo instance endpoint event payload) refl refl refl (work_on h) ttls refl
  input_speaks h ttls (inputs.Subscribe eventgroup) is =
      wish_speaks h ttls eventgroup (wanted_by (is_wanted_eventgroup h.config eventgroup) NotWanted is) (known_peer (answers_of h) eventgroup.instance) refl
  input_speaks h ttls (inputs.Unsubscribe eventgroup) is = speaking_back eventgroup (work_on h) ttls refl
  input_speaks h ttls (inputs.StopOffer instance) is = speaking_stop_offer instance (work_on h) ttls refl
