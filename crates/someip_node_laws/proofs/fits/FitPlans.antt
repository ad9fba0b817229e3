-- Each rule that an input brings about fits, and so does what it leaves.
use Rattle.std.proofs.Common.{◌≡◌, ℕ, ◌+◌, arith, ◌<◌, ◌^◌, Bool, true, not, List, [], ◌∷◌, Option, None, Some, Result, Ok, Err, refl, sym, subst}
use Rattle.std.specs.List.{AllByRecursion, Contains}
use Rattle.std.specs.FinMap as finite
use Rattle.std.proofs.lemmas.Bool.{cond_both}
use Rattle.std.specs.Net.Socket.{v4_ip}
use Rattle.std.specs.declared.net.ipv4_addr.Ipv4Addr.{Ipv4Addr}
use Rattle.someip_wire.specs.declared.error.WireError.{WireError}
use Rattle.someip_wire.specs.declared.header.Header.{Header}
use Rattle.someip_wire.specs.declared.header.MessageType.{MessageType}
use Rattle.someip_wire.specs.declared.header.MessageType.TheVariants as kinds
use Rattle.someip_wire.specs.Kinds.{has_tp_flag, without_tp_flag}
use Rattle.someip_wire.specs.Reading.{items_of}
use Rattle.someip_wire.specs.Spelling.{Fits, MessageValue}
use Rattle.someip_reassembly.specs.declared.error.TpError.{TpError}
use Rattle.someip_reassembly.specs.Keys.{segment_key}
use Rattle.someip_reassembly.specs.SegmentOffers.{offer}
use Rattle.someip_reassembly.specs.TpHeader.{segment_in}
use Rattle.sd_wire.specs.declared.entry.EntryHead.{EntryHead}
use Rattle.sd_wire.specs.declared.entry.EntryHead.TheVariants.{Service, Eventgroup}
use Rattle.sd_wire.specs.declared.entry.EventgroupEntry.{EventgroupEntry}
use Rattle.sd_wire.specs.declared.entry.ServiceEntry.{ServiceEntry}
use Rattle.sd_wire.specs.declared.error.SdError.{SdError}
use Rattle.sd_wire.specs.contents.Endpoints.{first_udp_endpoint, options_of}
use Rattle.sd_wire.specs.fronts.Fronts.{HasOneEndpointAtMost, front_lengths}
use Rattle.sd_wire.specs.contents.Kinds.{is_ack, is_find, is_stop_offer, is_stop_subscribe, is_subscribe}
use Rattle.sd_wire.specs.decoding.Program.{reading}
use Rattle.sd_wire.specs.layout.Spelling.{EventgroupFits, HeadFits}
use Rattle.sd_wire.specs.fronts.Splitting.{FitsDatagram}
use Rattle.sd_wire.specs.contents.Values.{EntryValue, ReadValue, SdValue, good, bad_run}
use Rattle.sd_wire.specs.encoding.Writing.{EntryFits}
use Rattle.sd_wire.proofs.fronts.AloneLemmas.{endpoint_fronts}
use Rattle.sd_wire.proofs.fronts.FrontLemmas.{lengths_are}
use Rattle.sd_session.specs.declared.stamp.Channel.{Channel}
use Rattle.sd_session.specs.Peers.{may_hold}
use Rattle.sd_core.specs.declared.eventgroup.Eventgroup as groups
use Rattle.sd_core.specs.declared.wish.Beginning.{Beginning}
use Rattle.sd_core.specs.Wishes.{sent_at_once, wish_of}
use Rattle.someip_node_rules.specs.declared.config.Config.{Config}
use Rattle.someip_node_rules.specs.declared.receiver.Receiver.{Receiver}
use Rattle.someip_node_rules.specs.declared.receiver.Receiver.TheVariants.{Group, Peer}
use Rattle.someip_node_rules.specs.declared.target.Target.{Target}
use Rattle.someip_node_rules.specs.declared.target.Target.TheVariants.{Instance, Client, Discovery, Nowhere}
use Rattle.someip_node_rules.specs.rules.ClientSubscribing.{standing_of, wish_entries, wish_entries_by}
use Rattle.someip_node_rules.specs.rules.Ticking.{due_entries}
use Rattle.someip_node_rules.specs.forms.Entries.{fronts}
use Rattle.someip_node_laws.specs.Fitting.{FitsConfig, FitsHistory, FitsInput, FitsItem, FitsPacket, FitsWire, head_of}
use Rattle.someip_node_rules.specs.rules.Handling.{client_plan, completed_plan, datagram_plan, discovery_plan, entries_plan, entry_plan, eventgroup_plan, good_plan, heard_plan, is_valid_discovery, item_plan, items_plan, message_plan, reading_plan, same_address, segment_plan, service_plan, target_of, target_plan, whole_plan}
use Rattle.someip_node_rules.specs.histories.History.{History, answers_of, historic, met, start_of}
use Rattle.someip_node_rules.specs.trails.Meanings.{GivenBy}
use Rattle.someip_node_rules.specs.forms.Outputs.{Given}
use Rattle.someip_node_rules.specs.rules.Inputs.{Input, Datagram, Tick, Call, Answer, Publish, PublishTo, Subscribe, Unsubscribe, StopOffer, peer_plan, plan_of, stop_subscribe_plan}
use Rattle.someip_node_rules.specs.histories.Items.{Item}
use Rattle.someip_node_rules.specs.rules.Messages as messages
use Rattle.someip_node_rules.specs.trails.Packets.{Packet, HasDiscovery, HasMessage}
use Rattle.someip_node_rules.specs.rules.Plans.{Plan, Rule, Work, does, each, rule, run}
use Rattle.someip_node_rules.specs.forms.Receivers.{message_plan_to, messages_plan_to}
use Rattle.someip_node_rules.specs.trails.Replies.{IsDue, IsReply}
use Rattle.someip_node_rules.specs.forms.Setups.{offered_as, wanted_as}
use Rattle.someip_node_rules.specs.steps.Steps.{step, work_on}
use Rattle.someip_node_rules.specs.histories.Tables.{known_peer}
use Rattle.someip_node_rules.specs.trails.Trails.{after, met_by, trail_of}
use Rattle.someip_node_laws.proofs.fits.FitEntries.{FitsEntry, FitsFront, FitsHead, due_fits, front_none, reply_fits, stop_front, subscribe_front}
use Rattle.someip_node_laws.proofs.fits.FitItems.{at_once_fits, standing_fits}
use Rattle.someip_node_laws.proofs.fits.FitRules.{FitsRule, HeaderFits, items_fit, means_fits}
use Rattle.someip_node_rules.proofs.trails.MeetingLemmas.{state_met}
use Rattle.someip_node_rules.proofs.lists.MemberLemmas.{all_append, all_both, all_fronts, all_from_members, all_members, all_weaker, at_member}
use Rattle.someip_node_rules.proofs.rules.PlanLemmas.{Allows, Might, run_keeps, state_of_run, trail_keeps}
use Rattle.someip_node_rules.proofs.trails.ReplyLemmas.{due_says}
use Rattle.someip_node_laws.proofs.rules.RuleReplies.{rule_replied}

-- ---- what a rule leaves

-- a history fits, and so do the replies so far
abbrev pub IsSound : Work History → Type 0
IsSound w = FitsHistory w.state × AllByRecursion FitsEntry w.replies

pub after_fits : (h : History) (xs : List Item) → FitsHistory h → AllByRecursion FitsItem xs → FitsHistory (after h xs)
after_fits h [] fits all = fits
after_fits h (x ∷ xs) fits all = after_fits (met h x) xs (fits.0, (all.0, fits.1)) all.1

head_fits : (r : Rule) → FitsRule r → (h : History) (fits : FitsHistory h) → FitsHead h fits r
head_fits (Rule.TakesSubscribe peer head endpoint) own h fits = own
head_fits r own h fits = tt

rule_keeps : (r : Rule) (w : Work History) → IsSound w → FitsRule r → IsSound (does historic (rule r) w)
rule_keeps r w sound own = (
  after_fits w.state (rule r (answers_of w.state)).items sound.0 (items_fit w.state sound.0 r own),
  all_append FitsEntry w.replies (rule r (answers_of w.state)).replies sound.1
      (all_weaker (IsReply r (answers_of w.state)) FitsEntry (reply_fits w.state sound.0 r (head_fits r own w.state sound.0)) (rule r (answers_of w.state)).replies
      (rule_replied (answers_of w.state) r)),
)

rule_forgets : (w : Work History) → IsSound w → IsSound (record w { replies = [] })
rule_forgets w sound = (sound.0, tt)

abbrev pub FitsPlan : Plan → Work History → Type 0
FitsPlan plan w = Allows historic IsSound (λ r v. FitsRule r) plan w

-- ---- messages of Service Discovery

alone : (entries : List EntryValue) → AllByRecursion FitsEntry entries → AllByRecursion FitsFront (fronts entries)
alone entries all =
    all_both (AllByRecursion EntryFits) FitsDatagram FitsFront (λ front each fits. (each, fits)) (fronts entries)
    (all_fronts EntryFits (front_lengths entries) entries (all_weaker FitsEntry EntryFits (λ e own. own.0) entries all))
    (endpoint_fronts entries (front_lengths entries) (all_weaker FitsEntry HasOneEndpointAtMost (λ e own. own.1) entries all) (lengths_are entries))

message_fits : (receiver : Receiver) (front : List EntryValue) → FitsFront front → (w : Work History) → FitsPlan (message_plan_to receiver front) w
message_fits Group front fits w = fits
message_fits (Peer peer) front fits w = fits

all_each : {X : Type 0} (Q : X → Type 0) (f : X → Plan) → ((x : X) → Q x → (w : Work History) → IsSound w → FitsPlan (f x) w)
    → (xs : List X) → AllByRecursion Q xs → (w : Work History) → IsSound w → FitsPlan (each f xs) w
all_each Q f allow [] all w sound = tt
all_each Q f allow (x ∷ xs) all w sound = (allow x all.0 w sound, λ then. all_each Q f allow xs all.1 (run historic (f x) w) then)

messages_fit : (receiver : Receiver) (entries : List EntryValue) → AllByRecursion FitsEntry entries → (w : Work History) → IsSound w → FitsPlan (messages_plan_to receiver entries) w
messages_fit receiver entries all w sound =
    all_each FitsFront (message_plan_to receiver) (λ front fits v _. message_fits receiver front fits v) (fronts entries) (alone entries all) w sound

-- ---- datagrams

module _ (p : Packet) (fits : FitsPacket p) where
  header_of : (m : MessageValue) (kind : MessageType) → Fits m → HeaderFits (record m.header { kind = kind })
  header_of m kind own = record {
    service = own.service;
    method = own.method;
    length = omega arith;
    client = own.client;
    session = own.session;
    interface = own.interface;
    code = own.code;
  }

  client_fits : (header : Header) (payload : List ℕ) (kind : MessageType) (w : Work History) → FitsPlan (client_plan p.from header payload kind) w
  client_fits header payload kinds.Notification w = tt
  client_fits header payload kinds.Request w = tt
  client_fits header payload _ w = tt

  whole_fits : (goal : Target) (header : Header) (payload : List ℕ) → HeaderFits header → (w : Work History) → FitsPlan (whole_plan goal p.from header payload) w
  whole_fits (Instance instance) header payload own w = own
  whole_fits Client header payload own w = client_fits header payload header.kind w
  whole_fits (Discovery channel) header payload own w = tt
  whole_fits Nowhere header payload own w = tt

  completed_fits : (goal : Target) (m : MessageValue) → Fits m → (whole : Option (List ℕ)) (w : Work History) → FitsPlan (completed_plan goal p.from m.header whole) w
  completed_fits goal m own None w = tt
  completed_fits goal m own (Some payload) w =
      whole_fits goal (record m.header { kind = without_tp_flag m.header.kind }) payload (header_of m (without_tp_flag m.header.kind) own) w

  segment_fits : (goal : Target) (m : MessageValue) → Fits m → (read : Result (ℕ × Bool × List ℕ) TpError) (w : Work History) → FitsPlan (segment_plan goal p.from p.to m.header read) w
  segment_fits goal m own (Err fault) w = tt
  segment_fits goal m own (Ok r) w =
      (tt, λ _. completed_fits goal m own (messages.completed (offer (segment_key p.from p.to m.header) r.0 r.1 r.2) (answers_of w.state)) _)

  application_fits : (goal : Target) (m : MessageValue) → Fits m → (w : Work History) → FitsPlan (message_plan goal p.from p.to m) w
  application_fits goal m own w =
      cond_both (has_tp_flag m.header.kind) _ _ (λ x. FitsPlan x w) (λ _. segment_fits goal m own (segment_in m.payload) w)
      (λ _. whole_fits goal m.header m.payload (header_of m m.header.kind own) w)

  -- ---- Service Discovery

  module _ (w : Work History) where
    service_fits : (head : ServiceEntry) (endpoint : _) → FitsPlan (service_plan (v4_ip p.from) head endpoint) w
    service_fits head endpoint =
        cond_both (is_find head) _ _ (λ x. FitsPlan x w) (λ _. tt)
        (λ _. cond_both (is_stop_offer head) _ _ (λ x. FitsPlan x w) (λ _. tt) (λ _. tt))

    eventgroup_fits : (head : EventgroupEntry) (endpoint : _) → EventgroupFits head → FitsPlan (eventgroup_plan (v4_ip p.from) head endpoint) w
    eventgroup_fits head endpoint own =
        cond_both (is_subscribe head) _ _ (λ x. FitsPlan x w) (λ _. own)
        (λ _.
        cond_both (is_stop_subscribe head) _ _ (λ x. FitsPlan x w) (λ _. tt)
        (λ _. cond_both (is_ack head) _ _ (λ x. FitsPlan x w) (λ _. tt) (λ _. tt)))

    good_fits : (head : EntryHead) (endpoint : _) → HeadFits head → FitsPlan (good_plan (v4_ip p.from) head endpoint) w
    good_fits (Service head) endpoint own = service_fits head endpoint
    good_fits (Eventgroup head) endpoint own = eventgroup_fits head endpoint own

    entry_fits : (e : ReadValue) → HeadFits (head_of e) → FitsPlan (entry_plan (v4_ip p.from) e) w
    entry_fits (good e) own = good_fits e.head (first_udp_endpoint (options_of e)) own
    entry_fits (bad_run (Service head)) own = tt
    entry_fits (bad_run (Eventgroup head)) own = cond_both (is_subscribe head) _ _ (λ x. FitsPlan x w) (λ _. own) (λ _. tt)

  entries_fit : (entries : List ReadValue) → AllByRecursion (λ e. HeadFits (head_of e)) entries → (w : Work History) → IsSound w → FitsPlan (entries_plan (v4_ip p.from) entries) w
  entries_fit entries all w sound = (
    all_each (λ e. HeadFits (head_of e)) (entry_plan (v4_ip p.from)) (λ e own v _. entry_fits v e own) entries all w sound,
    λ then none. messages_fit (Peer (v4_ip p.from)) _ then.1 _ none,
  )

  heard_fits : (channel : Channel) (session : ℕ) (v : SdValue) → AllByRecursion (λ e. HeadFits (head_of e)) v.entries
      → (w : Work History) → IsSound w → FitsPlan (heard_plan (v4_ip p.from) channel session v) w
  heard_fits channel session v all w sound =
      cond_both (not (may_hold (answers_of w.state).config.common.peers (answers_of w.state).peers (v4_ip p.from))) _ _ (λ x. FitsPlan x w) (λ _. tt)
      (λ _. (tt, λ then. entries_fit v.entries all _ then))

  reading_fits : (channel : Channel) (m : MessageValue) → HasMessage p m → is_valid_discovery m.header ≡ true → (read : Result SdValue SdError) → reading m.payload ≡ read
      → (w : Work History) → IsSound w → FitsPlan (reading_plan (v4_ip p.from) channel m.header.session read) w
  reading_fits channel m stands found (Err fault) is w sound = tt
  reading_fits channel m stands found (Ok v) is w sound =
      let has : HasDiscovery p m.header.session v = record { message = m; stands = stands; discovery = found; numbered = refl; reads = is } in
      heard_fits channel m.header.session v
      (all_from_members (λ e. HeadFits (head_of e)) v.entries (λ e within. fits.entries e (record { session = m.header.session; value = v; stands = has; within = within }))) w sound

  discovery_fits : (channel : Channel) (m : MessageValue) → HasMessage p m → (w : Work History) → IsSound w → FitsPlan (discovery_plan (v4_ip p.from) channel m) w
  discovery_fits channel m stands w sound =
      cond_both (is_valid_discovery m.header) _ _ (λ x. FitsPlan x w) (λ found. reading_fits channel m stands found (reading m.payload) refl w sound) (λ _. tt)

  item_fits : (goal : Target) (item : Result MessageValue WireError) → Contains (items_of p.bytes) item → (w : Work History) → IsSound w → FitsPlan (item_plan goal p.from p.to item) w
  item_fits goal (Err fault) stands w sound = tt
  item_fits (Discovery channel) (Ok m) stands w sound = discovery_fits channel m stands w sound
  item_fits (Instance instance) (Ok m) stands w sound = application_fits (Instance instance) m (fits.messages m stands) w
  item_fits Client (Ok m) stands w sound = application_fits Client m (fits.messages m stands) w
  item_fits Nowhere (Ok m) stands w sound = application_fits Nowhere m (fits.messages m stands) w

  messages_of_fit : (goal : Target) (w : Work History) → IsSound w → FitsPlan (items_plan goal p.from p.to (items_of p.bytes)) w
  messages_of_fit goal w sound =
      all_each (Contains (items_of p.bytes)) (item_plan goal p.from p.to) (item_fits goal) (items_of p.bytes) (all_members (items_of p.bytes)) w sound

  target_fits : (goal : Target) (w : Work History) → IsSound w → FitsPlan (target_plan goal p.from p.to p.bytes) w
  target_fits Nowhere w sound = tt
  target_fits (Discovery channel) w sound = messages_of_fit (Discovery channel) w sound
  target_fits (Instance instance) w sound = messages_of_fit (Instance instance) w sound
  target_fits Client w sound = messages_of_fit Client w sound

  datagram_fits : (h : History) → FitsHistory h → FitsPlan (datagram_plan p.from p.to p.bytes) (work_on h)
  datagram_fits h sound =
      cond_both (same_address (v4_ip p.from) h.config.address) _ _ (λ x. FitsPlan x (work_on h)) (λ _. tt)
      (λ _. target_fits (target_of h.config p.to) (work_on h) (sound, tt))

-- ---- each input

module _ (h : History) (fits : FitsHistory h) where
  wish_front : (eventgroup : groups.Eventgroup) → eventgroup.id < 2 ^ 16 → (known : Option Ipv4Addr) (counter : Option ℕ)
      → sent_at_once (answers_of h).clock known (wish_of (finite.get (answers_of h).wishes eventgroup)) ≡ counter
      → FitsFront (wish_entries_by (answers_of h) eventgroup counter)
  wish_front eventgroup id known None is = front_none
  wish_front eventgroup id known (Some counter) is =
      subscribe_front h.config fits.0 eventgroup (λ w. w.ttl) counter (λ w short. short) id (at_once_fits h.items eventgroup (answers_of h).clock known counter is)
      (wanted_as h.config eventgroup.instance) refl

  wish_fits : (eventgroup : groups.Eventgroup) → eventgroup.id < 2 ^ 16 → (known : Option Ipv4Addr) (w : Work History) → FitsPlan (peer_plan known (wish_entries eventgroup (answers_of h))) w
  wish_fits eventgroup id None w = tt
  wish_fits eventgroup id (Some peer) w = wish_front eventgroup id (known_peer (answers_of h) eventgroup.instance) _ refl

  back_fits : (eventgroup : groups.Eventgroup) → eventgroup.id < 2 ^ 16 → (stands : Option Beginning) → standing_of eventgroup (answers_of h) ≡ stands
      → (w : Work History) → FitsPlan (stop_subscribe_plan eventgroup stands (answers_of h)) w
  back_fits eventgroup id None is w = tt
  back_fits eventgroup id (Some beginning) is w =
      subscribe_front h.config fits.0 eventgroup (λ w. 0) beginning.counter (λ w short. omega arith) id (standing_fits h.items eventgroup (answers_of h).clock beginning is)
      (wanted_as h.config eventgroup.instance) refl

  plan_fits : (input : Input) → FitsInput input → FitsPlan (plan_of input) (work_on h)
  plan_fits (Datagram from to bytes) own = datagram_fits (record { from = from; to = to; bytes = bytes }) own h fits
  plan_fits (Tick ms) own = (
    tt,
    λ then.
        messages_fit Group (due_entries ((answers_of h).clock + ms) (answers_of h))
        (all_weaker (IsDue ((answers_of h).clock + ms) (answers_of h)) FitsEntry (due_fits h fits ((answers_of h).clock + ms)) (due_entries ((answers_of h).clock + ms) (answers_of h))
        (due_says (answers_of h) ((answers_of h).clock + ms))) _ then,
  )
  plan_fits (Call kind instance method payload) own = own
  plan_fits (Answer token reply payload) own = own
  plan_fits (Publish instance event payload) own = own
  plan_fits (PublishTo instance eventgroup endpoint event payload) own = own
  plan_fits (Subscribe eventgroup) own = (own, λ _. wish_fits eventgroup own (known_peer (answers_of h) eventgroup.instance) _)
  plan_fits (Unsubscribe eventgroup) own = (back_fits eventgroup own (standing_of eventgroup (answers_of h)) refl _, λ _. tt)
  plan_fits (StopOffer instance) own = (stop_front h.config fits.0 instance (offered_as h.config instance) refl, λ _. tt)

-- ---- a step

module _ (h : History) (input : Input) (fits : FitsHistory h) (own : FitsInput input) where
  pub given_fits : (given : Given) → GivenBy h input given → FitsWire given
  given_fits given by =
      let might =
      at_member (Might IsSound (λ r v. FitsRule r) rule_keeps rule_forgets) (trail_of h input) by.done
      (trail_keeps IsSound (λ r v. FitsRule r) rule_keeps rule_forgets (plan_of input) (work_on h) (fits, tt) (plan_fits h fits input own)) by.among in
      means_fits by.done.before.state might.0.0 by.done.by might.1 given by.holds

  pub met_fits : FitsHistory (after h (met_by (trail_of h input)))
  met_fits =
      subst FitsHistory (state_of_run (plan_of input) (work_on h))
      (run_keeps historic IsSound (λ r v. FitsRule r) rule_keeps rule_forgets (plan_of input) (work_on h) (fits, tt) (plan_fits h fits input own)).0

  pub done_fits : (done : Work History) → step h input ≡ Ok done → FitsHistory done.state
  done_fits done is = subst FitsHistory (sym (state_met h input done is)) met_fits

pub started_fits : (config : Config) (delay : ℕ) → FitsConfig config → FitsHistory (start_of config delay)
started_fits config delay fits = (fits, tt)
