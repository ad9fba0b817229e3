-- A Subscribe or StopSubscribe that is sent belongs to an exchange that was opened.
use Rattle.std.proofs.Common.{◌≡◌, inl, inr, ℕ, List, [], ◌∷◌, Option, None, Some, arith, refl, sym, ap, subst, ◌∙◌}
use Rattle.std.specs.List.{AllByRecursion, Contains}
use Rattle.std.specs.Option.{option_map_or}
use Rattle.std.specs.Net.Socket.{v4_ip}
use Rattle.std.specs.FinMap as finite
use Rattle.std.specs.declared.net.ipv4_addr.Ipv4Addr.{Ipv4Addr}
use Rattle.std.specs.declared.net.socket_addr.SocketAddrV4.{SocketAddrV4}
use Rattle.sd_wire.specs.declared.entry.EntryHead.{EntryHead}
use Rattle.sd_wire.specs.declared.entry.EntryHead.TheVariants as heads
use Rattle.sd_wire.specs.declared.entry.EventgroupEntry.{EventgroupEntry}
use Rattle.sd_wire.specs.declared.entry.EventgroupKind.TheVariants as group_kinds
use Rattle.sd_wire.specs.contents.Values.{EntryValue}
use Rattle.sd_core.specs.declared.eventgroup.Eventgroup.{Eventgroup}
use Rattle.sd_core.specs.declared.wish.OutgoingSubscribe.{OutgoingSubscribe}
use Rattle.sd_core.specs.Wishes.{counter_in, sent_at_once, subscribing, wish_of}
use Rattle.someip_node_rules.specs.declared.config.Config.{Config}
use Rattle.someip_node_rules.specs.declared.config.WantedService.{WantedService}
use Rattle.someip_node_rules.specs.trails.Bringing.{Brings, OfEntry, RepliesToEntry}
use Rattle.someip_node_rules.specs.rules.ClientSubscribing.{stop_subscribe_of, wish_entries, wish_entries_by}
use Rattle.someip_node_rules.specs.forms.Entries.{subscribe_entry}
use Rattle.someip_node_rules.specs.histories.History.{History, answers_of, met}
use Rattle.someip_node_rules.specs.histories.Items as items
use Rattle.someip_node_rules.specs.rules.Inputs.{Input, Datagram, Tick, Call, Answer, Publish, PublishTo, Subscribe, Unsubscribe, StopOffer}
use Rattle.someip_node_rules.specs.rules.Learning.{eventgroup_in, subscribe_to}
use Rattle.someip_node_rules.specs.trails.Packets.{Packet}
use Rattle.someip_node_rules.specs.rules.Plans as plans
use Rattle.someip_node_rules.specs.rules.Plans.{Rule, RepliesTo, rule}
use Rattle.someip_node_rules.specs.histories.Questions.{clock_at}
use Rattle.someip_node_rules.specs.trails.Replies.{IsReply}
use Rattle.someip_node_rules.specs.forms.Setups.{client_endpoint, wanted_as}
use Rattle.someip_node_rules.specs.steps.Steps.{work_on}
use Rattle.someip_node_rules.specs.histories.Tables.{Tables, known_peer}
use Rattle.someip_node_rules.specs.trails.Trails.{Done, after, trail_of}
use Rattle.someip_node_rules.specs.histories.WishQuestions.{course_at, wish_at}
use Rattle.someip_node_rules.proofs.lists.MemberLemmas.{at_member}
use Rattle.someip_node_rules.proofs.histories.WishLives.{get-wish}
use Rattle.someip_world_schedule.specs.declared.step.Step.{Step}
use Rattle.someip_world_setup.specs.declared.setup_node.SetupNode.{SetupNode}
use Rattle.someip_world_rules.specs.Deliveries.{Does}
use Rattle.someip_world_rules.specs.exchanges.Namings.{of_subscription}
use Rattle.someip_world_safety.proofs.networks.KnownPeers.{standing_begun}
use Rattle.someip_world_safety.proofs.subscriptions.SentCounters.{StandsWith, counted_items, is_counted, offered_course, stands_counted, wished_course}
use Rattle.someip_world_safety.proofs.subscriptions.SentEntries.{IsGroupEntry}
use Rattle.someip_world_safety.proofs.subscriptions.StandingOpenings.{AllOpened, OpenedAround, WasOpened, all_around, opened_first}

-- ---- what the entries say

-- the part about an eventgroup
abbrev pub group_of : EntryHead → EventgroupEntry → EventgroupEntry
group_of (heads.Eventgroup head) other = head
group_of (heads.Service head) other = other

-- an entry is about an eventgroup, and has a counter
abbrev SaysOf : Eventgroup → ℕ → EntryValue → Type 0
SaysOf q counter e = (head : EventgroupEntry) → IsGroupEntry e head → (q ≡ eventgroup_in head) × (counter ≡ head.counter)

-- so it is with a Subscribe
subscribe_says : (endpoint : SocketAddrV4) (major ttl : ℕ) (q : Eventgroup) (counter : ℕ) → SaysOf q counter (subscribe_entry endpoint major ttl q counter)
subscribe_says endpoint major ttl q counter head is = (ap (λ x. eventgroup_in (group_of x head)) is, ap (λ x. (group_of x head).counter) is)

-- and with those of a wanted instance
all_say : (t : Tables) (q : Eventgroup) (counter : ℕ) (ttl_of : WantedService → ℕ) (want : Option WantedService)
    → AllByRecursion (SaysOf q counter) (option_map_or (λ w. subscribe_entry (client_endpoint t.config) w.major (ttl_of w) q counter ∷ []) want [])
all_say t q counter ttl_of None = tt
all_say t q counter ttl_of (Some want) = (subscribe_says (client_endpoint t.config) want.major (ttl_of want) q counter, tt)

module _ (nodes : List SetupNode) (configs : List Config) (ss : List Step) (n : ℕ) (does : Does nodes configs ss n) where
  abbrev h : History
  h = does.turn.history

  abbrev address : Ipv4Addr
  address = does.turn.history.config.address

  -- the exchange of a subscription of this node was opened
  abbrev pub Goal : Ipv4Addr → EventgroupEntry → Type 0
  Goal peer head = WasOpened nodes configs ss n (of_subscription address peer (eventgroup_in head) head.counter)

  -- what stands with a peer and a counter was opened
  by_course : (at : History) (q : Eventgroup) (peer : Ipv4Addr) (counter : ℕ) (head : EventgroupEntry) → AllOpened nodes configs ss n does at → StandsWith (course_at at.items q) peer counter
      → q ≡ eventgroup_in head → counter ≡ head.counter → Goal peer head
  by_course at q peer counter head opened stands about counts =
      subst (WasOpened nodes configs ss n) (λ i. of_subscription address (stands.2 i) (about i) ((stands.3 ∙ counts) i)) (opened q stands.0 stands.1)

  -- around the rules of this step
  around : (d : Done) → Contains (trail_of h does.input) d → OpenedAround nodes configs ss n does d
  around = all_around nodes configs ss n does (opened_first nodes configs ss n does)

  -- ---- replies to an Offer

  module _ (p : Packet) (earlier : List Done) (e : EntryValue) (head : EventgroupEntry) (about : IsGroupEntry e head) (kind : head.kind ≡ group_kinds.Subscribe)
      (reply : RepliesToEntry p earlier e) (among : Contains (trail_of h does.input) reply.done) where
    abbrev at : History
    at = reply.done.before.state

    by_rule : (r : Rule) → reply.done.by ≡ r → OfEntry p r → IsReply r (answers_of at) e → Goal (v4_ip p.from) head
    by_rule (plans.TakesFind f) by of says = let x = ap (λ y. y.head) says.4 in absurd cc
    by_rule (plans.TakesOffer o) by of says =
        let s : OutgoingSubscribe = says.1.0 in
        let gave : Contains (rule (plans.TakesOffer o) (answers_of at)).replies e = subst (λ r. Contains (rule r (answers_of at)).replies e) by reply.gave in
        let counts_at = counted_items o (answers_of at) e says.0 gave in
        let items_are = ap (λ r. (rule r (answers_of at)).items) by ∙ counts_at.1 in
        let after_it = subst (λ xs. AllOpened nodes configs ss n does (after at xs)) items_are (around reply.done among).1 in
        let counts = is_counted (clock_at at.items) o.instance o.peer at.items s says.1.2 in
        let stands = stands_counted at.items s.eventgroup (clock_at at.items) o.peer s.counter counts.1 in
        let course = offered_course at.items o counts_at.0 s.eventgroup counts.0 in
        let said = subscribe_says (client_endpoint (answers_of at).config) says.1.1.major says.1.1.ttl s.eventgroup s.counter head (ap (λ y. y.head) (sym says.1.4) ∙ about) in
        subst (λ a. Goal a head) (ap (λ x. x.peer) of.3)
        (by_course (met at (items.OfferCounted o counts_at.0)) s.eventgroup o.peer s.counter head after_it (subst (λ c. StandsWith c o.peer s.counter) (sym course) stands) said.0 said.1)
    by_rule (plans.TakesSubscribe peer asked endpoint) by of (inl says) = let x = ap (λ y. (group_of y.head head).kind) (sym says.3) ∙ ap (λ y. (group_of y head).kind) about ∙ kind in absurd cc
    by_rule (plans.TakesSubscribe peer asked endpoint) by of (inr says) = let x = ap (λ y. (group_of y.head head).kind) (sym says.2) ∙ ap (λ y. (group_of y head).kind) about ∙ kind in absurd cc
    by_rule r by of says = absurd says

    -- a Subscribe that is replied
    replied_opened : Goal (v4_ip p.from) head
    replied_opened = by_rule reply.done.by refl reply.entry reply.says

  -- ---- all inputs

  -- the entries of a wish
  wish_says : (q : Eventgroup) (peer : Ipv4Addr) (e : EntryValue) (head : EventgroupEntry) → known_peer (answers_of h) q.instance ≡ Some peer → Contains (wish_entries q (answers_of h)) e → IsGroupEntry e head
      → (counter : ℕ) × (counter_in (subscribing (clock_at h.items) peer (wish_at h.items q)).stage ≡ Some counter) × (q ≡ eventgroup_in head) × (counter ≡ head.counter)
  wish_says q peer e head known among about = cases (counter_in (subscribing (clock_at h.items) peer (wish_at h.items q)).stage) refl (subst (λ o. Contains (wish_entries_by (answers_of h) q o) e) is among)
    where
      is : sent_at_once (answers_of h).clock (known_peer (answers_of h) q.instance) (wish_of (finite.get (answers_of h).wishes q)) ≡ counter_in (subscribing (clock_at h.items) peer (wish_at h.items q)).stage
      is = ap (λ k. sent_at_once (answers_of h).clock k (wish_of (finite.get (answers_of h).wishes q))) known
          ∙ ap (λ w. counter_in (subscribing (clock_at h.items) peer w).stage) (get-wish h.items q)

      cases : (o : Option ℕ) → counter_in (subscribing (clock_at h.items) peer (wish_at h.items q)).stage ≡ o → Contains (wish_entries_by (answers_of h) q o) e
          → (counter : ℕ) × (counter_in (subscribing (clock_at h.items) peer (wish_at h.items q)).stage ≡ Some counter) × (q ≡ eventgroup_in head) × (counter ≡ head.counter)
      cases None k stands = absurd (at_member (λ x. ⊥) [] e tt stands)
      cases (Some counter) k stands =
          let said = at_member (SaysOf q counter) (subscribe_to (answers_of h) (record { eventgroup = q; counter = counter })) e (all_say (answers_of h) q counter (λ w. w.ttl) (wanted_as (answers_of h).config q.instance)) stands head about in
          (counter, k, said.0, said.1)

  -- a wish is the first of its step
  wish_first : (q : Eventgroup) → does.input ≡ Subscribe q → Contains (trail_of h does.input) (record { by = plans.Wishes q; before = work_on h })
  wish_first q is = subst (λ x. Contains (trail_of h x) (record { by = plans.Wishes q; before = work_on h })) (sym is) (0, omega arith, refl)

  -- what is sent to a peer
  pub peer_opened : (input : Input) → does.input ≡ input → (peer : Ipv4Addr) (own : List EntryValue) (earlier : List Done) (e : EntryValue) (head : EventgroupEntry) → Brings h input (RepliesTo peer own) earlier
      → Contains own e → IsGroupEntry e head → head.kind ≡ group_kinds.Subscribe → ((d : Done) → Contains earlier d → Contains (trail_of h does.input) d) → Goal peer head
  peer_opened (Datagram from to bytes) is peer own earlier e head m among about kind inside =
      let p : Packet = record { from = from; to = to; bytes = bytes } in
      let reply = at_member (RepliesToEntry p earlier) own e m.1 among in
      subst (λ a. Goal a head) (sym m.0) (replied_opened p earlier e head about kind reply (inside reply.done reply.among))
  peer_opened (Tick ms) is peer own earlier e head (inl m) among about kind inside = let x = m.0 in absurd cc
  peer_opened (Tick ms) is peer own earlier e head (inr m) among about kind inside = let x = m.1 in absurd cc
  peer_opened (Call k instance method bytes) is peer own earlier e head m among about kind inside = let x = m.0 in absurd cc
  peer_opened (Answer token reply bytes) is peer own earlier e head m among about kind inside = let x = m.0 in absurd cc
  peer_opened (Publish instance event bytes) is peer own earlier e head m among about kind inside = let x = m.0 in absurd cc
  peer_opened (PublishTo instance eventgroup endpoint event bytes) is peer own earlier e head m among about kind inside = let x = m.0 in absurd cc
  peer_opened (Subscribe q) is peer own earlier e head (inl m) among about kind inside = let x = m.0 in absurd cc
  peer_opened (Subscribe q) is peer own earlier e head (inr m) among about kind inside =
      let by = m.2 in
      let same : own ≡ wish_entries q (answers_of h) = cc in
      let one : m.0 ≡ peer = cc in
      let says = wish_says q peer e head (m.1 ∙ ap Some one) (subst (λ es. Contains es e) same among) about in
      let stands = stands_counted h.items q (clock_at h.items) peer says.0 says.1 in
      let course = wished_course h q peer (m.1 ∙ ap Some one) in
      by_course (met h (items.Wished q)) q peer says.0 head (around (record { by = plans.Wishes q; before = work_on h }) (wish_first q is)).1
      (subst (λ c. StandsWith c peer says.0) (sym course) stands) says.2 says.3
  peer_opened (Unsubscribe q) is peer own earlier e head (inl m) among about kind inside = absurd cc
  peer_opened (Unsubscribe q) is peer own earlier e head (inr m) among about kind inside =
      let by = m.2 in
      let same : own ≡ stop_subscribe_of (answers_of h) q m.0.counter = cc in
      let one : m.0.peer ≡ peer = cc in
      let said = at_member (SaysOf q m.0.counter) (stop_subscribe_of (answers_of h) q m.0.counter) e (all_say (answers_of h) q m.0.counter (λ w. 0) (wanted_as (answers_of h).config q.instance))
      (subst (λ es. Contains es e) same among) head about in
      by_course h q peer m.0.counter head (opened_first nodes configs ss n does) (m.0, standing_begun h q m.0 m.1, one, refl) said.0 said.1
  peer_opened (StopOffer instance) is peer own earlier e head (inl m) among about kind inside = absurd cc
  peer_opened (StopOffer instance) is peer own earlier e head (inr m) among about kind inside = let x = m.0 in absurd cc
