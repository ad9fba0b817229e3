-- Each rule of what a datagram brings about is about what stands in the datagram.
use Rattle.std.proofs.Common.{◌≡◌, ℕ, Bool, true, not, List, [], ◌∷◌, ◌++◌, Option, None, Some, Result, Ok, Err, refl, inl, inr}
use Rattle.std.specs.List.{AllByRecursion, Contains}
use Rattle.std.proofs.lemmas.Bool.{cond_both}
use Rattle.std.proofs.lemmas.List.Elements.{Contains-append_left}
use Rattle.std.specs.Net.Socket.{v4_ip}
use Rattle.std.specs.declared.net.socket_addr.SocketAddrV4.{SocketAddrV4}
use Rattle.someip_wire.specs.declared.error.WireError.{WireError}
use Rattle.someip_wire.specs.declared.header.Header.{Header}
use Rattle.someip_wire.specs.declared.header.MessageType.{MessageType}
use Rattle.someip_wire.specs.declared.header.MessageType.TheVariants as kinds
use Rattle.someip_wire.specs.Kinds.{has_tp_flag, without_tp_flag}
use Rattle.someip_wire.specs.Reading.{items_of}
use Rattle.someip_wire.specs.Spelling.{MessageValue}
use Rattle.someip_reassembly.specs.declared.error.TpError.{TpError}
use Rattle.someip_reassembly.specs.Keys.{segment_key}
use Rattle.someip_reassembly.specs.SegmentOffers.{SegmentOffer, offer}
use Rattle.someip_reassembly.specs.TpHeader.{segment_in}
use Rattle.sd_wire.specs.declared.entry.EntryHead.{EntryHead}
use Rattle.sd_wire.specs.declared.entry.EntryHead.TheVariants.{Service, Eventgroup}
use Rattle.sd_wire.specs.declared.entry.EventgroupEntry.{EventgroupEntry}
use Rattle.sd_wire.specs.declared.entry.ServiceEntry.{ServiceEntry}
use Rattle.sd_wire.specs.declared.error.SdError.{SdError}
use Rattle.sd_wire.specs.contents.Endpoints.{first_udp_endpoint, options_of}
use Rattle.sd_wire.specs.contents.Kinds.{is_ack, is_find, is_stop_offer, is_stop_subscribe, is_subscribe}
use Rattle.sd_wire.specs.fronts.Fronts.{front_lengths}
use Rattle.sd_wire.specs.decoding.Program.{reading}
use Rattle.sd_wire.specs.contents.Values.{EntryValue, ReadValue, SdValue, good, bad_run}
use Rattle.sd_session.specs.declared.stamp.Channel.{Channel}
use Rattle.sd_session.specs.Peers.{may_hold}
use Rattle.someip_node_rules.specs.declared.target.Target.{Target}
use Rattle.someip_node_rules.specs.declared.target.Target.TheVariants.{Instance, Client, Discovery, Nowhere}
use Rattle.someip_node_rules.specs.declared.receiver.Receiver.TheVariants.{Peer}
use Rattle.someip_node_rules.specs.trails.Bringing.{OfDatagram, RepliesToEntry}
use Rattle.someip_node_rules.specs.forms.Entries.{fronts}
use Rattle.someip_node_rules.specs.rules.Handling.{client_plan, completed_plan, datagram_plan, discovery_plan, entries_plan, entry_plan, eventgroup_plan, good_plan, heard_plan, is_valid_discovery, item_plan, items_plan, message_plan, reading_plan, same_address, segment_plan, service_plan, target_of, target_plan, whole_plan}
use Rattle.someip_node_rules.specs.histories.History.{History, answers_of, historic}
use Rattle.someip_node_rules.specs.rules.Messages as messages
use Rattle.someip_node_rules.specs.trails.Packets.{Packet, Came, HasDiscovery, HasEntry, HasEventgroupEntry, HasMessage, HasSegment, HasServiceEntry}
use Rattle.someip_node_rules.specs.rules.Plans.{Plan, RepliesTo, Rule, TakesSegment, Work, does, each, run}
use Rattle.someip_node_rules.specs.forms.Receivers.{message_plan_to, messages_plan_to}
use Rattle.someip_node_rules.specs.steps.Steps.{work_on}
use Rattle.someip_node_rules.specs.trails.Trails.{Done, trail}
use Rattle.someip_node_rules.proofs.rules.EntryRules.{is_nack_left, is_offer_left}
use Rattle.someip_node_rules.proofs.lists.MemberLemmas.{all_fronts, all_from_members, all_members, all_weaker}
use Rattle.someip_node_rules.proofs.trails.TrailLemmas.{AllowsAfter}

module _ (h : History) (p : Packet) where
  -- each reply is that of an entry of the datagram
  abbrev pub AllReply : List Done → Work History → Type 0
  AllReply ds w = AllByRecursion (RepliesToEntry p ds) w.replies

  abbrev pub MayBe : List Done → Rule → Work History → Type 0
  MayBe ds r w = OfDatagram h p r ds

  abbrev pub Allowed : List Done → Plan → Work History → Type 0
  Allowed ds plan w = AllowsAfter AllReply MayBe ds plan w

  all_each : {X : Type 0} (Q : X → Type 0) (f : X → Plan) → ((x : X) → Q x → (ds : List Done) (w : Work History) → AllReply ds w → Allowed ds (f x) w)
      → (xs : List X) → AllByRecursion Q xs → (ds : List Done) (w : Work History) → AllReply ds w → Allowed ds (each f xs) w
  all_each Q f allow [] all ds w o = tt
  all_each Q f allow (x ∷ xs) all ds w o = (allow x all.0 ds w o, λ o'. all_each Q f allow xs all.1 (ds ++ trail (f x) w) (run historic (f x) w) o')

  -- ---- messages of the application

  client_allowed : (header : Header) (payload : List ℕ) (kind : MessageType) → header.kind ≡ kind → target_of h.config p.to ≡ Client
      → (ds : List Done) (w : Work History) → Came p header payload ds → Allowed ds (client_plan p.from header payload kind) w
  client_allowed header payload kinds.Notification is client ds w came = (refl, client, is, came)
  client_allowed header payload kinds.Request is client ds w came = (refl, client, came)
  client_allowed header payload _ is client ds w came = (refl, client, came)

  whole_allowed : (goal : Target) → target_of h.config p.to ≡ goal → (header : Header) (payload : List ℕ)
      → (ds : List Done) (w : Work History) → Came p header payload ds → Allowed ds (whole_plan goal p.from header payload) w
  whole_allowed (Instance instance) at header payload ds w came = (refl, at, came)
  whole_allowed Client at header payload ds w came = client_allowed header payload header.kind refl at ds w came
  whole_allowed (Discovery channel) at header payload ds w came = tt
  whole_allowed Nowhere at header payload ds w came = tt

  completed_allowed : (goal : Target) → target_of h.config p.to ≡ goal → (m : MessageValue) (o : SegmentOffer)
      → HasSegment p (record m.header { kind = without_tp_flag m.header.kind }) o → (ds : List Done) (before : Work History)
      → (whole : Option (List ℕ)) → messages.completed o (answers_of before.state) ≡ whole
      → Allowed (ds ++ record { by = TakesSegment o; before = before } ∷ []) (completed_plan goal p.from m.header whole) (does historic (messages.segment o) before)
  completed_allowed goal at m o s ds before None is = tt
  completed_allowed goal at m o s ds before (Some payload) is =
      whole_allowed goal at (record m.header { kind = without_tp_flag m.header.kind }) payload (ds ++ record { by = TakesSegment o; before = before } ∷ [])
      (does historic (messages.segment o) before)
      (inr (record { offer = o; segment = s; before = ds; took = record { by = TakesSegment o; before = before }; last = refl; by = refl; whole = is }))

  segment_allowed : (goal : Target) → target_of h.config p.to ≡ goal → (m : MessageValue) → HasMessage p m → has_tp_flag m.header.kind ≡ true
      → (read : Result (ℕ × Bool × List ℕ) TpError) → segment_in m.payload ≡ read → (ds : List Done) (w : Work History)
      → Allowed ds (segment_plan goal p.from p.to m.header read) w
  segment_allowed goal at m stands flagged (Err fault) is ds w = tt
  segment_allowed goal at m stands flagged (Ok r) is ds w =
      let o : SegmentOffer = offer (segment_key p.from p.to m.header) r.0 r.1 r.2 in
      let s : HasSegment p (record m.header { kind = without_tp_flag m.header.kind }) o = record { message = m; stands = stands; flagged = flagged; whole = refl; read = r; reads = is; offered = refl } in
      ((record m.header { kind = without_tp_flag m.header.kind }, s), λ _. completed_allowed goal at m o s ds w (messages.completed o (answers_of w.state)) refl)

  message_allowed : (goal : Target) → target_of h.config p.to ≡ goal → (m : MessageValue) → HasMessage p m
      → (ds : List Done) (w : Work History) → Allowed ds (message_plan goal p.from p.to m) w
  message_allowed goal at m stands ds w =
      cond_both (has_tp_flag m.header.kind) _ _ (λ x. Allowed ds x w) (λ flagged. segment_allowed goal at m stands flagged (segment_in m.payload) refl ds w)
      (λ whole. whole_allowed goal at m.header m.payload ds w (inl (record { stands = stands; whole = whole })))

  -- ---- Service Discovery

  module _ (channel : Channel) (at : target_of h.config p.to ≡ Discovery channel) (ds : List Done) (w : Work History) where
    service_allowed : (head : ServiceEntry) (endpoint : Option SocketAddrV4) → HasServiceEntry p head endpoint → Allowed ds (service_plan (v4_ip p.from) head endpoint) w
    service_allowed head endpoint stands =
        cond_both (is_find head) _ _ (λ x. Allowed ds x w) (λ find. ((channel, at), (find, (endpoint, stands))))
        (λ find.
        cond_both (is_stop_offer head) _ _ (λ x. Allowed ds x w) (λ stop. ((channel, at), (head, stop, (endpoint, stands), refl, refl, refl)))
        (λ stop. ((channel, at), (head, is_offer_left head find stop, stands, refl))))

    eventgroup_allowed : (head : EventgroupEntry) (endpoint : Option SocketAddrV4) → HasEventgroupEntry p head endpoint → Allowed ds (eventgroup_plan (v4_ip p.from) head endpoint) w
    eventgroup_allowed head endpoint stands =
        cond_both (is_subscribe head) _ _ (λ x. Allowed ds x w) (λ subscribe. ((channel, at), (subscribe, refl, inl stands)))
        (λ subscribe.
        cond_both (is_stop_subscribe head) _ _ (λ x. Allowed ds x w) (λ stop. ((channel, at), (stop, refl, stands)))
        (λ stop.
        cond_both (is_ack head) _ _ (λ x. Allowed ds x w) (λ ack. ((channel, at), (ack, refl, (endpoint, stands))))
        (λ ack. ((channel, at), (is_nack_left head subscribe stop ack, refl, (endpoint, stands))))))

    entry_allowed : (e : ReadValue) → HasEntry p e → Allowed ds (entry_plan (v4_ip p.from) e) w
    entry_allowed (good e) stands = by_head e.head refl
      where
        by_head : (head : EntryHead) → e.head ≡ head → Allowed ds (good_plan (v4_ip p.from) head (first_udp_endpoint (options_of e))) w
        by_head (Service head) is = service_allowed head (first_udp_endpoint (options_of e)) (record { entry = e; stands = stands; is = is; found = refl })
        by_head (Eventgroup head) is = eventgroup_allowed head (first_udp_endpoint (options_of e)) (record { entry = e; stands = stands; is = is; found = refl })
    entry_allowed (bad_run (Service head)) stands = tt
    entry_allowed (bad_run (Eventgroup head)) stands =
        cond_both (is_subscribe head) _ _ (λ x. Allowed ds x w) (λ subscribe. ((channel, at), (subscribe, refl, inr (stands, refl)))) (λ _. tt)

  -- a reply to an entry is that too once more was done
  pub reply_on : (ds more : List Done) (reply : EntryValue) → RepliesToEntry p ds reply → RepliesToEntry p (ds ++ more) reply
  reply_on ds more reply r = record { done = r.done; among = Contains-append_left ds more r.done r.among; entry = r.entry; gave = r.gave; says = r.says }

  fronts_allowed : (fs : List (List EntryValue)) (ds : List Done) → AllByRecursion (AllByRecursion (RepliesToEntry p ds)) fs → (w : Work History)
      → Allowed ds (each (message_plan_to (Peer (v4_ip p.from))) fs) w
  fronts_allowed [] ds all w = tt
  fronts_allowed (front ∷ fs) ds all w =
      let more : List Done = record { by = RepliesTo (v4_ip p.from) front; before = w } ∷ [] in (
        (refl, all.0),
        λ _.
            fronts_allowed fs (ds ++ more)
            (all_weaker (AllByRecursion (RepliesToEntry p ds)) (AllByRecursion (RepliesToEntry p (ds ++ more)))
            (λ replies. all_weaker (RepliesToEntry p ds) (RepliesToEntry p (ds ++ more)) (reply_on ds more) replies) fs all.1) _,
      )

  replies_allowed : (entries : List EntryValue) (ds : List Done) → AllByRecursion (RepliesToEntry p ds) entries → (w : Work History)
      → Allowed ds (messages_plan_to (Peer (v4_ip p.from)) entries) w
  replies_allowed entries ds all w = fronts_allowed (fronts entries) ds (all_fronts (RepliesToEntry p ds) (front_lengths entries) entries all) w

  entries_allowed : (channel : Channel) → target_of h.config p.to ≡ Discovery channel → (entries : List ReadValue) → AllByRecursion (HasEntry p) entries
      → (ds : List Done) (w : Work History) → AllReply ds w → Allowed ds (entries_plan (v4_ip p.from) entries) w
  entries_allowed channel at entries all ds w way = (
    all_each (HasEntry p) (entry_plan (v4_ip p.from)) (λ e stands es v _. entry_allowed channel at es v e stands) entries all ds w way,
    λ then none. replies_allowed _ _ then _,
  )

  heard_allowed : (channel : Channel) → target_of h.config p.to ≡ Discovery channel → (session : ℕ) (v : SdValue) → HasDiscovery p session v
      → (ds : List Done) (w : Work History) → Allowed ds (heard_plan (v4_ip p.from) channel session v) w
  heard_allowed channel at session v stands ds w =
      cond_both (not (may_hold (answers_of w.state).config.common.peers (answers_of w.state).peers (v4_ip p.from))) _ _ (λ x. Allowed ds x w) (λ _. tt)
      (λ _. (
        (refl, at, (v, stands, refl)),
        λ then.
            entries_allowed channel at v.entries
            (all_from_members (HasEntry p) v.entries (λ e within. record { session = session; value = v; stands = stands; within = within })) _ _ then,
      ))

  reading_allowed : (channel : Channel) → target_of h.config p.to ≡ Discovery channel → (m : MessageValue) → HasMessage p m → is_valid_discovery m.header ≡ true
      → (read : Result SdValue SdError) → reading m.payload ≡ read → (ds : List Done) (w : Work History)
      → Allowed ds (reading_plan (v4_ip p.from) channel m.header.session read) w
  reading_allowed channel at m stands is_sd (Err fault) is ds w = tt
  reading_allowed channel at m stands is_sd (Ok v) is ds w =
      heard_allowed channel at m.header.session v (record { message = m; stands = stands; discovery = is_sd; numbered = refl; reads = is }) ds w

  discovery_allowed : (channel : Channel) → target_of h.config p.to ≡ Discovery channel → (m : MessageValue) → HasMessage p m
      → (ds : List Done) (w : Work History) → Allowed ds (discovery_plan (v4_ip p.from) channel m) w
  discovery_allowed channel at m stands ds w =
      cond_both (is_valid_discovery m.header) _ _ (λ x. Allowed ds x w) (λ is_sd. reading_allowed channel at m stands is_sd (reading m.payload) refl ds w) (λ _. tt)

  -- ---- datagrams

  item_allowed : (goal : Target) → target_of h.config p.to ≡ goal → (item : Result MessageValue WireError) → Contains (items_of p.bytes) item
      → (ds : List Done) (w : Work History) → Allowed ds (item_plan goal p.from p.to item) w
  item_allowed goal at (Err fault) stands ds w = tt
  item_allowed (Discovery channel) at (Ok m) stands ds w = discovery_allowed channel at m stands ds w
  item_allowed (Instance instance) at (Ok m) stands ds w = message_allowed (Instance instance) at m stands ds w
  item_allowed Client at (Ok m) stands ds w = message_allowed Client at m stands ds w
  item_allowed Nowhere at (Ok m) stands ds w = message_allowed Nowhere at m stands ds w

  items_allowed : (goal : Target) → target_of h.config p.to ≡ goal → Allowed [] (items_plan goal p.from p.to (items_of p.bytes)) (work_on h)
  items_allowed goal at =
      all_each (Contains (items_of p.bytes)) (item_plan goal p.from p.to) (λ item stands ds w _. item_allowed goal at item stands ds w)
      (items_of p.bytes) (all_members (items_of p.bytes)) [] (work_on h) tt

  target_allowed : (goal : Target) → target_of h.config p.to ≡ goal → Allowed [] (target_plan goal p.from p.to p.bytes) (work_on h)
  target_allowed Nowhere at = tt
  target_allowed (Discovery channel) at = items_allowed (Discovery channel) at
  target_allowed (Instance instance) at = items_allowed (Instance instance) at
  target_allowed Client at = items_allowed Client at

  pub datagram_allowed : Allowed [] (datagram_plan p.from p.to p.bytes) (work_on h)
  datagram_allowed =
      cond_both (same_address (v4_ip p.from) h.config.address) _ _ (λ x. Allowed [] x (work_on h)) (λ _. tt)
      (λ _. target_allowed (target_of h.config p.to) refl)
