-- What a node does with an input, with maps of the configuration that lie elsewhere.
use Rattle.std.proofs.Common.{◌≡◌, ℕ, ◌+◌, Bool, true, false, not, List, [], ◌∷◌, ◌++◌, Option, None, Some, Result, Ok, Err, if◌then◌else◌, fold, refl, sym, ap, subst, ◌∙◌}
use Rattle.std.specs.List.{flat_map}
use Rattle.std.specs.BTreeMap.{BTreeMap}
use Rattle.std.specs.declared.net.ipv4_addr.Ipv4Addr.{Ipv4Addr}
use Rattle.std.specs.declared.net.socket_addr.SocketAddrV4.{SocketAddrV4}
use Rattle.std.specs.Net.Socket.{v4_ip}
use Rattle.someip_wire.specs.declared.error.WireError.{WireError}
use Rattle.someip_wire.specs.declared.header.Header.{Header}
use Rattle.someip_wire.specs.declared.header.MessageType.{MessageType}
use Rattle.someip_wire.specs.declared.header.MessageType.TheVariants as kinds
use Rattle.someip_wire.specs.Kinds.{has_tp_flag, without_tp_flag}
use Rattle.someip_wire.specs.Reading.{items_of}
use Rattle.someip_wire.specs.Spelling.{MessageValue}
use Rattle.someip_reassembly.specs.declared.error.TpError.{TpError}
use Rattle.someip_reassembly.specs.SegmentOffers.{offer}
use Rattle.someip_reassembly.specs.TpHeader.{segment_in}
use Rattle.sd_wire.specs.declared.entry.EntryHead.{EntryHead}
use Rattle.sd_wire.specs.declared.entry.EntryHead.TheVariants.{Service, Eventgroup}
use Rattle.sd_wire.specs.declared.entry.EventgroupEntry.{EventgroupEntry}
use Rattle.sd_wire.specs.declared.entry.ServiceEntry.{ServiceEntry}
use Rattle.sd_wire.specs.declared.error.SdError.{SdError}
use Rattle.sd_wire.specs.contents.Endpoints.{first_udp_endpoint, options_of}
use Rattle.sd_wire.specs.contents.Kinds.{is_ack, is_find, is_stop_offer, is_stop_subscribe, is_subscribe}
use Rattle.sd_wire.specs.contents.Values.{EntryValue, ReadValue, SdValue, good, bad_run}
use Rattle.sd_wire.specs.decoding.Program.{reading}
use Rattle.sd_session.specs.Peers.{may_hold}
use Rattle.sd_session.specs.declared.stamp.Channel.{Channel}
use Rattle.sd_core.specs.declared.eventgroup.Eventgroup as keys
use Rattle.sd_core.specs.declared.keys.InstanceId.{InstanceId}
use Rattle.sd_core.specs.declared.wish.Beginning.{Beginning}
use Rattle.someip_tables.specs.Lastings.{unless_passed}
use Rattle.someip_tables.specs.Tables.{map_of}
use Rattle.sd_core.specs.Keys.{instance_cmp}
use Rattle.someip_node_rules.specs.declared.drops.DropReason.TheVariants.{Own}
use Rattle.someip_node_rules.specs.declared.config.Config.{Config}
use Rattle.someip_node_rules.specs.declared.config.OfferedService.{OfferedService}
use Rattle.someip_node_rules.specs.declared.config.WantedService.{WantedService}
use Rattle.someip_node_rules.specs.declared.error.NodeError.{NodeError}
use Rattle.someip_node_rules.specs.declared.receiver.Receiver.{Receiver}
use Rattle.someip_node_rules.specs.declared.receiver.Receiver.TheVariants.{Group, Peer}
use Rattle.someip_node_rules.specs.declared.target.Target.{Target}
use Rattle.someip_node_rules.specs.declared.target.Target.TheVariants as target
use Rattle.someip_node_rules.specs.forms.Entries.{fronts}
use Rattle.someip_node_rules.specs.forms.Outputs.{written}
use Rattle.someip_node_rules.specs.forms.Receivers.{message_plan_to, messages_plan_to}
use Rattle.someip_node_rules.specs.forms.Setups.{wanted_instances}
use Rattle.someip_node_rules.specs.histories.CallQuestions.{awaited_by, call_made, call_sessions_in}
use Rattle.someip_node_rules.specs.histories.History.{History, answers_of, historic, met}
use Rattle.someip_node_rules.specs.histories.Items as items
use Rattle.someip_node_rules.specs.histories.Items.{Item}
use Rattle.someip_node_rules.specs.histories.OfferQuestions.{offered_instances, offering_at, version_of, versions_of}
use Rattle.someip_node_rules.specs.histories.SeekQuestions.{finding_at, known_in, majors_of}
use Rattle.someip_node_rules.specs.histories.Questions.{clock_at, latest, table_of}
use Rattle.someip_node_rules.specs.histories.Tables.{Tables, known_peer}
use Rattle.someip_node_rules.specs.rules.ClientSubscribing.{standing_of}
use Rattle.someip_node_rules.specs.rules.Handling.{client_plan, completed_plan, datagram_plan, discovery_plan, entry_plan, eventgroup_plan, good_plan, heard_plan, is_valid_discovery, item_plan, message_plan, reading_plan, same_address, segment_plan, service_plan, target_of, target_plan, whole_plan}
use Rattle.someip_node_rules.specs.rules.Inputs.{Input, peer_plan, plan_of, refusal_of, stop_offer_plan, stop_subscribe_plan, subscribe_plan, tick_plan, unsubscribe_plan}
use Rattle.someip_node_rules.specs.rules.Inputs as inputs
use Rattle.someip_node_rules.specs.rules.Outcomes.{Outcome}
use Rattle.someip_node_rules.specs.rules.Plans.{Plan, Work, rest, act, both, asks, replying, each, rule, run, Drops, TakesBack, Ticks, Wishes, Stops}
use Rattle.someip_node_rules.specs.steps.Steps.{step, unless_refused, work_on}
use Rattle.someip_node_rules.specs.trails.Copies.{IsCopy, IsCopyOfOffer, IsCopyOfWant}
use Rattle.someip_explore.proofs.CopyLemmas.{Alike, mapped, of_offer, of_want}
use Rattle.someip_explore.proofs.RuleLemmas.{moved_tables, same_due, same_refusal, same_rule, same_stop_offer_of, same_stop_subscribe_of, same_target, same_wish_entries, with_maps}

-- what is made of tables is the same with maps that lie elsewhere
abbrev pub IsBlind : {A : Type 0} → (Tables → A) → Type 0
IsBlind f =
    (t : Tables) (o : BTreeMap InstanceId OfferedService) (w : BTreeMap InstanceId WantedService) → Alike IsCopyOfOffer t.config.offers.entries o.entries
    → Alike IsCopyOfWant t.config.wants.entries w.entries → f (moved_tables t o w) ≡ f t

-- all that a plan asks is
abbrev pub AsksValues : Plan → Type 0
AsksValues rest = Unit {0}
AsksValues (act r) = Unit {0}
AsksValues (both p q) = AsksValues p × AsksValues q
AsksValues (asks f) = IsBlind f × ((t : Tables) → AsksValues (f t))
AsksValues (replying f) = (replies : List EntryValue) → AsksValues (f replies)

-- ---- the plans of inputs

each_asks : {X : Type 0} (f : X → Plan) → ((x : X) → AsksValues (f x)) → (xs : List X) → AsksValues (each f xs)
each_asks f all [] = tt
each_asks f all (x ∷ xs) = (all x, each_asks f all xs)

one_of : (b : Bool) (p q : Plan) → AsksValues p → AsksValues q → AsksValues (if b then p else q)
one_of true p q asks_p asks_q = asks_p
one_of false p q asks_p asks_q = asks_q

to_receiver : (receiver : Receiver) (entries : List EntryValue) → AsksValues (message_plan_to receiver entries)
to_receiver Group entries = tt
to_receiver (Peer peer) entries = tt

all_to_receiver : (receiver : Receiver) (entries : List EntryValue) → AsksValues (messages_plan_to receiver entries)
all_to_receiver receiver entries = each_asks (message_plan_to receiver) (to_receiver receiver) (fronts entries)

of_client : (from : SocketAddrV4) (header : Header) (payload : List ℕ) (kind : MessageType) → AsksValues (client_plan from header payload kind)
of_client from header payload kinds.Notification = tt
of_client from header payload kinds.Request = tt
of_client from header payload kinds.RequestNoReturn = tt
of_client from header payload kinds.Response = tt
of_client from header payload kinds.Error = tt
of_client from header payload kinds.TpRequest = tt
of_client from header payload kinds.TpRequestNoReturn = tt
of_client from header payload kinds.TpNotification = tt
of_client from header payload kinds.TpResponse = tt
of_client from header payload kinds.TpError = tt

of_whole : (goal : Target) (from : SocketAddrV4) (header : Header) (payload : List ℕ) → AsksValues (whole_plan goal from header payload)
of_whole (target.Instance instance) from header payload = tt
of_whole target.Client from header payload = of_client from header payload header.kind
of_whole (target.Discovery channel) from header payload = tt
of_whole target.Nowhere from header payload = tt

of_completed : (goal : Target) (from : SocketAddrV4) (header : Header) (message : Option (List ℕ)) → AsksValues (completed_plan goal from header message)
of_completed goal from header None = tt
of_completed goal from header (Some payload) = of_whole goal from (record header { kind = without_tp_flag header.kind }) payload

of_segment : (goal : Target) (from to : SocketAddrV4) (header : Header) (found : Result (ℕ × Bool × List ℕ) TpError) → AsksValues (segment_plan goal from to header found)
of_segment goal from to header (Err fault) = tt
of_segment goal from to header (Ok r) = (λ t o w os ws. refl, λ t. (tt, of_completed goal from header _))

of_message : (goal : Target) (from to : SocketAddrV4) (m : MessageValue) → AsksValues (message_plan goal from to m)
of_message goal from to m =
    one_of (has_tp_flag m.header.kind) _ _ (of_segment goal from to m.header (segment_in m.payload)) (of_whole goal from m.header m.payload)

of_service : (peer : Ipv4Addr) (head : ServiceEntry) (endpoint : Option SocketAddrV4) → AsksValues (service_plan peer head endpoint)
of_service peer head endpoint = one_of (is_find head) _ _ tt (one_of (is_stop_offer head) _ _ tt tt)

of_eventgroup : (peer : Ipv4Addr) (head : EventgroupEntry) (endpoint : Option SocketAddrV4) → AsksValues (eventgroup_plan peer head endpoint)
of_eventgroup peer head endpoint = one_of (is_subscribe head) _ _ tt (one_of (is_stop_subscribe head) _ _ tt (one_of (is_ack head) _ _ tt tt))

of_entry : (peer : Ipv4Addr) (entry : ReadValue) → AsksValues (entry_plan peer entry)
of_entry peer (good e) = of_good e.head
  where
    of_good : (head : EntryHead) → AsksValues (good_plan peer head (first_udp_endpoint (options_of e)))
    of_good (Service head) = of_service peer head (first_udp_endpoint (options_of e))
    of_good (Eventgroup head) = of_eventgroup peer head (first_udp_endpoint (options_of e))
of_entry peer (bad_run (Service head)) = tt
of_entry peer (bad_run (Eventgroup head)) = one_of (is_subscribe head) _ _ tt tt

of_heard : (peer : Ipv4Addr) (channel : Channel) (session : ℕ) (v : SdValue) → AsksValues (heard_plan peer channel session v)
of_heard peer channel session v = (
  λ t o w os ws. refl,
  λ t. one_of (not (may_hold t.config.common.peers t.peers peer)) _ _ tt (tt, (each_asks (entry_plan peer) (of_entry peer) v.entries, all_to_receiver (Peer peer))),
)

of_reading : (peer : Ipv4Addr) (channel : Channel) (session : ℕ) (read : Result SdValue SdError) → AsksValues (reading_plan peer channel session read)
of_reading peer channel session (Err fault) = tt
of_reading peer channel session (Ok v) = of_heard peer channel session v

of_discovery : (peer : Ipv4Addr) (channel : Channel) (m : MessageValue) → AsksValues (discovery_plan peer channel m)
of_discovery peer channel m = one_of (is_valid_discovery m.header) _ _ (of_reading peer channel m.header.session (reading m.payload)) tt

of_item : (goal : Target) (from to : SocketAddrV4) (item : Result MessageValue WireError) → AsksValues (item_plan goal from to item)
of_item goal from to (Err fault) = tt
of_item (target.Discovery channel) from to (Ok m) = of_discovery (v4_ip from) channel m
of_item (target.Instance instance) from to (Ok m) = of_message (target.Instance instance) from to m
of_item target.Client from to (Ok m) = of_message target.Client from to m
of_item target.Nowhere from to (Ok m) = of_message target.Nowhere from to m

of_target : (goal : Target) (from to : SocketAddrV4) (bytes : List ℕ) → AsksValues (target_plan goal from to bytes)
of_target target.Nowhere from to bytes = tt
of_target (target.Discovery channel) from to bytes = each_asks _ (of_item (target.Discovery channel) from to) (items_of bytes)
of_target (target.Instance instance) from to bytes = each_asks _ (of_item (target.Instance instance) from to) (items_of bytes)
of_target target.Client from to bytes = each_asks _ (of_item target.Client from to) (items_of bytes)

of_datagram : (from to : SocketAddrV4) (bytes : List ℕ) → AsksValues (datagram_plan from to bytes)
of_datagram from to bytes = (
  λ t o w os ws i. if same_address (v4_ip from) t.config.address then act (Drops Own) else target_plan (same_target t o w os ws to i) from to bytes,
  λ t. one_of (same_address (v4_ip from) t.config.address) _ _ tt (of_target (target_of t.config to) from to bytes),
)

to_peer : (peer : Option Ipv4Addr) (entries : List EntryValue) → AsksValues (peer_plan peer entries)
to_peer None entries = tt
to_peer (Some peer) entries = tt

stop_subscribe_blind : (eventgroup : keys.Eventgroup) (t : Tables) (o : BTreeMap InstanceId OfferedService) (w : BTreeMap InstanceId WantedService)
    → Alike IsCopyOfOffer t.config.offers.entries o.entries → Alike IsCopyOfWant t.config.wants.entries w.entries → (standing : Option Beginning)
    → stop_subscribe_plan eventgroup standing (moved_tables t o w) ≡ stop_subscribe_plan eventgroup standing t
stop_subscribe_blind eventgroup t o w os ws None = refl
stop_subscribe_blind eventgroup t o w os ws (Some beginning) = λ i. message_plan_to (Peer beginning.peer) (same_stop_subscribe_of t o w os ws eventgroup beginning.counter i)

of_stop_subscribe : (eventgroup : keys.Eventgroup) (standing : Option Beginning) (t : Tables) → AsksValues (stop_subscribe_plan eventgroup standing t)
of_stop_subscribe eventgroup None t = tt
of_stop_subscribe eventgroup (Some beginning) t = tt

pub of_input : (input : Input) → AsksValues (plan_of input)
of_input (inputs.Datagram from to bytes) = of_datagram from to bytes
of_input (inputs.Tick ms) = (
  λ t o w os ws i. both (act (Ticks ms)) (messages_plan_to Group (same_due t o w os ws (t.clock + ms) i)),
  λ t. (tt, all_to_receiver Group _),
)
of_input (inputs.Call kind instance method payload) = tt
of_input (inputs.Answer token reply payload) = tt
of_input (inputs.Publish instance event payload) = tt
of_input (inputs.PublishTo instance eventgroup endpoint event payload) = tt
of_input (inputs.Subscribe eventgroup) = (
  λ t o w os ws i. both (act (Wishes eventgroup)) (peer_plan (known_peer t eventgroup.instance) (same_wish_entries t o w os ws eventgroup i)),
  λ t. (tt, to_peer (known_peer t eventgroup.instance) _),
)
of_input (inputs.Unsubscribe eventgroup) = (
  λ t o w os ws i. both (stop_subscribe_blind eventgroup t o w os ws (standing_of eventgroup t) i) (act (TakesBack eventgroup (standing_of eventgroup t))),
  λ t. (of_stop_subscribe eventgroup (standing_of eventgroup t) t, tt),
)
of_input (inputs.StopOffer instance) = (
  λ t o w os ws i. both (message_plan_to Group (same_stop_offer_of t o w os ws instance i)) (act (Stops instance)),
  λ t. (tt, tt),
)

-- ---- the tables of a history

-- a history with another configuration
abbrev pub moved : History → Config → History
moved h d = record h { config = d }

same_awaited : (c : Config) (o : BTreeMap InstanceId OfferedService) (w : BTreeMap InstanceId WantedService) (item : Item) → awaited_by (with_maps c o w) item ≡ awaited_by c item
same_awaited c o w (items.Ticked ms) = refl
same_awaited c o w (items.SegmentOffered offered) = refl
same_awaited c o w (items.MessageTaken key) = refl
same_awaited c o w (items.PeerRebooted peer) = refl
same_awaited c o w (items.PeerHeard peer channel stamp) = refl
same_awaited c o w (items.OfferCounted offer endpoint) = refl
same_awaited c o w (items.OfferWithdrawn instance) = refl
same_awaited c o w (items.SubscriptionAccepted s ttl) = refl
same_awaited c o w (items.SubscriptionStopped s) = refl
same_awaited c o w (items.AckCame answer ttl) = refl
same_awaited c o w (items.NackCame answer) = refl
same_awaited c o w items.GroupAddressed = refl
same_awaited c o w (items.PeerAddressed peer) = refl
same_awaited c o w (items.Called call peer session) = refl
same_awaited c o w (items.AnswerTaken key) = refl
same_awaited c o w (items.Requested request) = refl
same_awaited c o w (items.Answered token) = refl
same_awaited c o w (items.Published event) = refl
same_awaited c o w (items.Wished eventgroup) = refl
same_awaited c o w (items.Unwished eventgroup) = refl
same_awaited c o w (items.OfferStopped instance) = refl

module _ (h : History) (o : BTreeMap InstanceId OfferedService) (w : BTreeMap InstanceId WantedService)
    (os : Alike IsCopyOfOffer h.config.offers.entries o.entries) (ws : Alike IsCopyOfWant h.config.wants.entries w.entries) where
  same_versions : versions_of (with_maps h.config o w) ≡ versions_of h.config
  same_versions =
      ap (map_of instance_cmp)
      (mapped IsCopyOfOffer (λ e. (e.0, version_of e.1)) (λ k. of_offer (λ s. (k, version_of s)) (λ s m e. refl)) h.config.offers.entries o.entries os)

  same_offered : offered_instances (with_maps h.config o w) ≡ offered_instances h.config
  same_offered = mapped IsCopyOfOffer (λ e. e.0) (λ k a b is. refl) h.config.offers.entries o.entries os

  same_majors : majors_of (with_maps h.config o w) ≡ majors_of h.config
  same_majors =
      ap (map_of instance_cmp)
      (mapped IsCopyOfWant (λ e. (e.0, e.1.major)) (λ k. of_want (λ s. (k, s.major)) (λ s m e. refl)) h.config.wants.entries w.entries ws)

  same_wants : wanted_instances (with_maps h.config o w) ≡ wanted_instances h.config
  same_wants = mapped IsCopyOfWant (λ e. e.0) (λ k a b is. refl) h.config.wants.entries w.entries ws

  same_tables : answers_of (moved h (with_maps h.config o w)) ≡ moved_tables (answers_of h) o w
  same_tables i = record (answers_of h) {
    config = with_maps h.config o w;
    offers = record { versions = same_versions i; up = table_of (same_offered i) (offering_at h.config.common.phases h.delay h.items) };
    seek = record {
      wanted = same_majors i;
      known = known_in h.items;
      finding = table_of (same_wants i) (finding_at h.config.common.phases h.delay h.items);
    };
    client = record {
      pending = table_of (flat_map call_made h.items) (λ key. unless_passed (clock_at h.items) (latest (λ item. same_awaited h.config o w item i) (λ _. None) h.items key));
      sessions = call_sessions_in h.items;
    };
  }

-- what is asked of a history is the same over a copy of its configuration
pub asked : {A : Type 0} (f : Tables → A) → IsBlind f → (h : History) (d : Config) → IsCopy h.config d → f (answers_of (moved h d)) ≡ f (answers_of h)
asked f blind h d copy =
    (λ i. f (answers_of (moved h (copy.0 i)))) ∙ ap f (same_tables h d.offers d.wants copy.1 copy.2)
    ∙ blind (answers_of h) d.offers d.wants copy.1 copy.2

-- ---- a run of a plan

abbrev pub moved_work : Config → Work History → Work History
moved_work d w = record w { state = moved w.state d }

met_moved : (d : Config) (h : History) (xs : List Item) → fold met (moved h d) xs ≡ moved (fold met h xs) d
met_moved d h [] = refl
met_moved d h (x ∷ xs) = met_moved d (met h x) xs

met_kept : (h : History) (xs : List Item) → (fold met h xs).config ≡ h.config
met_kept h [] = refl
met_kept h (x ∷ xs) = met_kept (met h x) xs

pub run_kept : (p : Plan) (w : Work History) → (run historic p w).state.config ≡ w.state.config
run_kept rest w = refl
run_kept (act r) w = met_kept w.state (rule r (answers_of w.state)).items
run_kept (both p q) w = run_kept q (run historic p w) ∙ run_kept p w
run_kept (asks f) w = run_kept (f (answers_of w.state)) w
run_kept (replying f) w = run_kept (f w.replies) (record w { replies = [] })

does_moved : (d : Config) (w : Work History) (said other : Outcome) → other ≡ said
    → record {
      state = fold met (moved w.state d) other.items;
      outputs = w.outputs ++ flat_map written other.given;
      replies = w.replies ++ other.replies;
    }
    ≡ moved_work d (record {
      state = fold met w.state said.items;
      outputs = w.outputs ++ flat_map written said.given;
      replies = w.replies ++ said.replies;
    })
does_moved d w said other same =
    (λ i. record {
      state = fold met (moved w.state d) (same i).items;
      outputs = w.outputs ++ flat_map written (same i).given;
      replies = w.replies ++ (same i).replies;
    })
    ∙ (λ i. record {
      state = met_moved d w.state said.items i;
      outputs = w.outputs ++ flat_map written said.given;
      replies = w.replies ++ said.replies;
    })

run_moved : (d : Config) (p : Plan) → AsksValues p → (w : Work History) → IsCopy w.state.config d → run historic p (moved_work d w) ≡ moved_work d (run historic p w)
run_moved d rest values w copy = refl
run_moved d (act r) values w copy =
    does_moved d w (rule r (answers_of w.state)) (rule r (answers_of (moved w.state d))) (asked (rule r) (λ t o w os ws. same_rule t o w os ws r) w.state d copy)
run_moved d (both p q) values w copy =
    ap (run historic q) (run_moved d p values.0 w copy)
    ∙ run_moved d q values.1 (run historic p w) (subst (λ c. IsCopy c d) (sym (run_kept p w)) copy)
run_moved d (asks f) values w copy =
    ap (λ p. run historic p (moved_work d w)) (asked f values.0 w.state d copy) ∙ run_moved d (f (answers_of w.state)) (values.1 (answers_of w.state)) w copy
run_moved d (replying f) values w copy = run_moved d (f w.replies) (values w.replies) (record w { replies = [] }) copy

-- ---- a step of a node

abbrev pub moved_result : Config → Result (Work History) NodeError → Result (Work History) NodeError
moved_result d (Ok done) = Ok (moved_work d done)
moved_result d (Err refusal) = Err refusal

pub step_moved : (h : History) (d : Config) → IsCopy h.config d → (input : Input) → step (moved h d) input ≡ moved_result d (step h input)
step_moved h d copy input =
    (λ i. unless_refused (asked (refusal_of input) (λ t o w os ws. same_refusal t o w os ws input) h d copy i) (plan_of input) (moved h d))
    ∙ cases (refusal_of input (answers_of h))
  where
    cases : (refusal : Option NodeError) → unless_refused refusal (plan_of input) (moved h d) ≡ moved_result d (unless_refused refusal (plan_of input) h)
    cases (Some refusal) = refl
    cases None = ap Ok (run_moved d (plan_of input) (of_input input) (work_on h) copy)
