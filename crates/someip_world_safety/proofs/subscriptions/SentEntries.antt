-- Which entries about eventgroups a node sends, and that it sends no Find to a peer.
use Rattle.std.proofs.Common.{◌≡◌, ◌⊎◌, inl, inr, ℕ, ◌+◌, true, false, ◌&&◌, ltb, List, [], ◌∷◌, Option, None, Some, refl, sym, ap, subst, ◌∙◌}
use Rattle.std.specs.List.{AllByRecursion, Contains}
use Rattle.std.specs.Option.{option_map_or}
use Rattle.std.specs.Net.Socket.{v4_ip}
use Rattle.std.specs.declared.net.ipv4_addr.Ipv4Addr.{Ipv4Addr}
use Rattle.sd_wire.specs.declared.entry.EntryHead.TheVariants as heads
use Rattle.sd_wire.specs.declared.entry.EventgroupEntry.{EventgroupEntry}
use Rattle.sd_wire.specs.declared.entry.EventgroupKind.{EventgroupKind}
use Rattle.sd_wire.specs.declared.entry.EventgroupKind.TheVariants as group_kinds
use Rattle.sd_wire.specs.declared.entry.ServiceEntry.{ServiceEntry}
use Rattle.sd_wire.specs.declared.entry.ServiceKind.TheVariants as service_kinds
use Rattle.sd_wire.specs.contents.Kinds.{has_type_ack, has_type_find, has_type_subscribe, is_ack, is_find, is_subscribe}
use Rattle.sd_wire.specs.contents.Values.{EntryValue}
use Rattle.sd_core.specs.declared.eventgroup.Eventgroup.{Eventgroup}
use Rattle.sd_core.specs.declared.keys.InstanceId.{InstanceId}
use Rattle.sd_core.specs.declared.wish.Beginning.{Beginning}
use Rattle.someip_node_rules.specs.declared.config.OfferedService.{OfferedService}
use Rattle.someip_node_rules.specs.declared.config.WantedService.{WantedService}
use Rattle.someip_node_rules.specs.trails.Bringing.{Brings, RepliesToEntry}
use Rattle.someip_node_rules.specs.rules.ClientSubscribing.{standing_of, stop_subscribe_of, wish_entries, wish_entries_by}
use Rattle.someip_node_rules.specs.rules.Offering.{stop_offer_of}
use Rattle.someip_node_rules.specs.forms.Entries.{offer_entry, subscribe_entry}
use Rattle.someip_node_rules.specs.histories.History.{History, answers_of}
use Rattle.someip_node_rules.specs.rules.Inputs.{Input, Datagram, Tick, Call, Answer, Publish, PublishTo, Subscribe, Unsubscribe, StopOffer}
use Rattle.someip_node_rules.specs.trails.Packets.{Packet}
use Rattle.someip_node_rules.specs.rules.Plans as plans
use Rattle.someip_node_rules.specs.rules.Plans.{Rule, Announces, RepliesTo}
use Rattle.someip_node_rules.specs.trails.Replies.{IsDue, IsReply}
use Rattle.someip_node_rules.specs.forms.Setups.{client_endpoint, offered_as, wanted_as}
use Rattle.someip_node_rules.specs.histories.Tables.{Tables, known_peer}
use Rattle.someip_node_rules.specs.trails.Trails.{Done}
use Rattle.someip_node_rules.proofs.lists.MemberLemmas.{at_member}

-- an entry about an eventgroup, and one about an instance
abbrev pub IsGroupEntry : EntryValue → EventgroupEntry → Type 0
IsGroupEntry e head = e.head ≡ heads.Eventgroup head

abbrev pub IsInstanceEntry : EntryValue → ServiceEntry → Type 0
IsInstanceEntry e head = e.head ≡ heads.Service head

-- ---- kinds

-- an Ack has the type of an Ack
pub is_ack_kind : (head : EventgroupEntry) → is_ack head ≡ true → head.kind ≡ group_kinds.Ack
is_ack_kind head is = by head.kind is
  where
    by : (k : EventgroupKind) → (has_type_ack k && ltb 0 head.ttl) ≡ true → k ≡ group_kinds.Ack
    by group_kinds.Ack e = refl
    by group_kinds.Subscribe e = absurd cc

-- and a Subscribe that of a Subscribe
pub is_subscribe_kind : (head : EventgroupEntry) → is_subscribe head ≡ true → head.kind ≡ group_kinds.Subscribe
is_subscribe_kind head is = by head.kind is
  where
    by : (k : EventgroupKind) → (has_type_subscribe k && ltb 0 head.ttl) ≡ true → k ≡ group_kinds.Subscribe
    by group_kinds.Subscribe e = refl
    by group_kinds.Ack e = absurd cc

-- ---- what goes to the group

-- what is due is an Offer or a Find
due_no_group : (now : ℕ) (t : Tables) (e : EntryValue) (head : EventgroupEntry) → IsDue now t e → IsGroupEntry e head → ⊥
due_no_group now t e head (inl due) is = let same = due.4 in let o = ap (λ x. x.head) same in absurd cc
due_no_group now t e head (inr due) is = let same = due.4 in let o = ap (λ x. x.head) same in absurd cc

-- what is stopped is an Offer
stop_offer_no_group : (t : Tables) (instance : InstanceId) (e : EntryValue) (head : EventgroupEntry) → Contains (stop_offer_of t instance) e → IsGroupEntry e head → ⊥
stop_offer_no_group t instance e head among is = at_member (λ x. (g : EventgroupEntry) → IsGroupEntry x g → ⊥) (stop_offer_of t instance) e (by (offered_as t.config instance)) among head is
  where
    by : (o : Option OfferedService) → AllByRecursion (λ x. (g : EventgroupEntry) → IsGroupEntry x g → ⊥) (option_map_or (λ service. offer_entry instance 0 service ∷ []) o [])
    by None = tt
    by (Some service) = ((λ g is. absurd cc), tt)

-- an entry that was announced by an input as due or stopped is none about an eventgroup
pub announces_no_group : (h : History) (input : Input) (own : List EntryValue) (earlier : List Done) (e : EntryValue) (head : EventgroupEntry) → Brings h input (Announces own) earlier → Contains own e → IsGroupEntry e head → ⊥
announces_no_group h (Datagram from to bytes) own earlier e head m among is = absurd m.1
announces_no_group h (Tick ms) own earlier e head (inl m) among is = let x = m.0 in absurd cc
announces_no_group h (Tick ms) own earlier e head (inr m) among is =
    let by = m.1 in
    let same : own ≡ m.0 = cc in
    due_no_group ((answers_of h).clock + ms) (answers_of h) e head (at_member (IsDue ((answers_of h).clock + ms) (answers_of h)) m.0 e m.2 (subst (λ es. Contains es e) same among)) is
announces_no_group h (Call kind instance method bytes) own earlier e head m among is = let x = m.0 in absurd cc
announces_no_group h (Answer token reply bytes) own earlier e head m among is = let x = m.0 in absurd cc
announces_no_group h (Publish instance event bytes) own earlier e head m among is = let x = m.0 in absurd cc
announces_no_group h (PublishTo instance eventgroup endpoint event bytes) own earlier e head m among is = let x = m.0 in absurd cc
announces_no_group h (Subscribe eventgroup) own earlier e head (inl m) among is = let x = m.0 in absurd cc
announces_no_group h (Subscribe eventgroup) own earlier e head (inr m) among is = let x = m.2 in absurd cc
announces_no_group h (Unsubscribe eventgroup) own earlier e head (inl m) among is = absurd cc
announces_no_group h (Unsubscribe eventgroup) own earlier e head (inr m) among is = let x = m.2 in absurd cc
announces_no_group h (StopOffer instance) own earlier e head (inl m) among is = absurd cc
announces_no_group h (StopOffer instance) own earlier e head (inr m) among is =
    let by = m.0 in
    let same : own ≡ stop_offer_of (answers_of h) instance = cc in
    stop_offer_no_group (answers_of h) instance e head (subst (λ es. Contains es e) same among) is

-- ---- what goes to a peer

-- a Subscribe or StopSubscribe
abbrev IsAsking : EntryValue → Type 0
IsAsking e = (head : EventgroupEntry) × IsGroupEntry e head × (head.kind ≡ group_kinds.Subscribe)

-- the Subscribe of a wanted instance
subscribe_asks : (t : Tables) (o : Option WantedService) (eventgroup : Eventgroup) (counter : ℕ) (ttl_of : WantedService → ℕ)
    → AllByRecursion IsAsking (option_map_or (λ want. subscribe_entry (client_endpoint t.config) want.major (ttl_of want) eventgroup counter ∷ []) o [])
subscribe_asks t None eventgroup counter ttl_of = tt
subscribe_asks t (Some want) eventgroup counter ttl_of = ((_, refl, refl), tt)

-- and that of a wish
wish_asks : (t : Tables) (eventgroup : Eventgroup) (counter : Option ℕ) → AllByRecursion IsAsking (wish_entries_by t eventgroup counter)
wish_asks t eventgroup None = tt
wish_asks t eventgroup (Some counter) = subscribe_asks t (wanted_as t.config eventgroup.instance) eventgroup counter (λ want. want.ttl)

-- a peer is that of a known offer, or of a subscription that stands
abbrev pub IsPartner : History → Ipv4Addr → Type 0
IsPartner h peer =
    ((eventgroup : Eventgroup) × (known_peer (answers_of h) eventgroup.instance ≡ Some peer))
    ⊎ ((eventgroup : Eventgroup) × (b : Beginning) × (standing_of eventgroup (answers_of h) ≡ Some b) × (b.peer ≡ peer))

-- what a node sends to a peer by a datagram are replies, and by any other input Subscribes and StopSubscribes
pub data ToPeer (h : History) (input : Input) (peer : Ipv4Addr) (earlier : List Done) (e : EntryValue) : Type 0 where
  Back : (p : Packet) → input ≡ Datagram p.from p.to p.bytes → peer ≡ v4_ip p.from → RepliesToEntry p earlier e → ToPeer h input peer earlier e
  Asks : IsAsking e → IsPartner h peer → ToPeer h input peer earlier e

-- what a rule sends to a peer
pub to_peer : (h : History) (input : Input) (peer : Ipv4Addr) (own : List EntryValue) (earlier : List Done) (e : EntryValue) → Brings h input (RepliesTo peer own) earlier → Contains own e → ToPeer h input peer earlier e
to_peer h (Datagram from to bytes) peer own earlier e m among =
    let p : Packet = record { from = from; to = to; bytes = bytes } in Back p refl m.0 (at_member (RepliesToEntry p earlier) own e m.1 among)
to_peer h (Tick ms) peer own earlier e (inl m) among = let x = m.0 in absurd cc
to_peer h (Tick ms) peer own earlier e (inr m) among = let x = m.1 in absurd cc
to_peer h (Call kind instance method bytes) peer own earlier e m among = let x = m.0 in absurd cc
to_peer h (Answer token reply bytes) peer own earlier e m among = let x = m.0 in absurd cc
to_peer h (Publish instance event bytes) peer own earlier e m among = let x = m.0 in absurd cc
to_peer h (PublishTo instance eventgroup endpoint event bytes) peer own earlier e m among = let x = m.0 in absurd cc
to_peer h (Subscribe eventgroup) peer own earlier e (inl m) among = let x = m.0 in absurd cc
to_peer h (Subscribe eventgroup) peer own earlier e (inr m) among =
    let by = m.2 in
    let same : own ≡ wish_entries eventgroup (answers_of h) = cc in
    let one : m.0 ≡ peer = cc in
    Asks (at_member IsAsking (wish_entries eventgroup (answers_of h)) e (wish_asks (answers_of h) eventgroup _) (subst (λ es. Contains es e) same among))
    (inl (eventgroup, m.1 ∙ ap Some one))
to_peer h (Unsubscribe eventgroup) peer own earlier e (inl m) among = absurd cc
to_peer h (Unsubscribe eventgroup) peer own earlier e (inr m) among =
    let by = m.2 in
    let same : own ≡ stop_subscribe_of (answers_of h) eventgroup m.0.counter = cc in
    let one : m.0.peer ≡ peer = cc in
    Asks
    (at_member IsAsking (stop_subscribe_of (answers_of h) eventgroup m.0.counter) e
    (subscribe_asks (answers_of h) (wanted_as (answers_of h).config eventgroup.instance) eventgroup m.0.counter (λ want. 0)) (subst (λ es. Contains es e) same among))
    (inr (eventgroup, m.0, m.1, one))
to_peer h (StopOffer instance) peer own earlier e (inl m) among = absurd cc
to_peer h (StopOffer instance) peer own earlier e (inr m) among = let x = m.0 in absurd cc

-- ---- so no Find goes to a peer

-- no reply is a Find
reply_no_find : (r : Rule) (t : Tables) (e : EntryValue) (f : ServiceEntry) → IsReply r t e → IsInstanceEntry e f → is_find f ≡ true → ⊥
reply_no_find (plans.TakesFind sought) t e f says is find =
    let x = ap (λ y. y.head) says.4 in
    let kind : service_kinds.Offer ≡ f.kind = cc in
    let none : is_find f ≡ false = ap has_type_find (sym kind) in absurd cc
reply_no_find (plans.TakesOffer o) t e f says is find = let x = ap (λ y. y.head) says.1.4 in absurd cc
reply_no_find (plans.TakesSubscribe peer asked endpoint) t e f (inl says) is find = let x = ap (λ y. y.head) says.3 in absurd cc
reply_no_find (plans.TakesSubscribe peer asked endpoint) t e f (inr says) is find = let x = ap (λ y. y.head) says.2 in absurd cc
reply_no_find r t e f says is find = absurd says

-- and nothing else that goes to a peer
pub no_find_to_peer : (h : History) (input : Input) (peer : Ipv4Addr) (own : List EntryValue) (earlier : List Done) (e : EntryValue) (f : ServiceEntry) → Brings h input (RepliesTo peer own) earlier → Contains own e
    → IsInstanceEntry e f → is_find f ≡ true → ⊥
no_find_to_peer h input peer own earlier e f brought among is find = cases (to_peer h input peer own earlier e brought among)
  where
    cases : ToPeer h input peer earlier e → ⊥
    cases (Back p came back reply) = reply_no_find reply.done.by (answers_of reply.done.before.state) e f reply.says is find
    cases (Asks asks partner) = let x = asks.1 in absurd cc
