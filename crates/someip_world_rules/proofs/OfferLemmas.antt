-- The Offers that a node announces are those of its configuration.
use Rattle.std.proofs.Common.{◌≡◌, inl, inr, ℕ, ◌+◌, true, List, [], ◌∷◌, Option, None, Some, refl, sym, ap, subst, ◌∙◌}
use Rattle.std.specs.List.{AllByRecursion, Contains}
use Rattle.std.specs.Option.{option_map_or}
use Rattle.std.proofs.lemmas.List.Elements.{Contains-append_left}
use Rattle.std.specs.declared.net.ipv4_addr.Ipv4Addr.{Ipv4Addr}
use Rattle.std.specs.declared.net.socket_addr.SocketAddrV4.{SocketAddrV4}
use Rattle.sd_wire.specs.declared.entry.EntryHead.TheVariants.{Service, Eventgroup}
use Rattle.sd_wire.specs.declared.entry.EventgroupEntry.{EventgroupEntry}
use Rattle.sd_wire.specs.declared.entry.ServiceEntry.{ServiceEntry}
use Rattle.sd_wire.specs.declared.entry.ServiceKind.TheVariants.{Find}
use Rattle.sd_wire.specs.contents.Endpoints.{first_udp_endpoint, options_of}
use Rattle.sd_wire.specs.contents.Kinds.{is_offer}
use Rattle.sd_wire.specs.contents.Values.{EntryValue}
use Rattle.sd_session.specs.declared.stamp.Stamp.{Stamp}
use Rattle.sd_core.specs.declared.eventgroup.Eventgroup as groups
use Rattle.sd_core.specs.declared.keys.InstanceId.{InstanceId}
use Rattle.sd_core.specs.declared.wish.OutgoingSubscribe.{OutgoingSubscribe}
use Rattle.someip_node_rules.specs.declared.config.Config.{Config}
use Rattle.someip_node_rules.specs.declared.config.OfferedService.{OfferedService}
use Rattle.someip_node_rules.specs.declared.config.WantedService.{WantedService}
use Rattle.someip_node_rules.specs.trails.Bringing.{Brings, RepliesToEntry}
use Rattle.someip_node_rules.specs.rules.ClientSubscribing.{stop_subscribe_of, wish_entries, wish_entries_by}
use Rattle.someip_node_rules.specs.rules.Offering.{stop_offer_of}
use Rattle.someip_node_rules.specs.forms.Entries.{ack_entry, find_entry, offer_entry, subscribe_entry}
use Rattle.someip_node_rules.specs.histories.History.{History, answers_of}
use Rattle.someip_node_rules.specs.rules.Inputs as inputs
use Rattle.someip_node_rules.specs.rules.Inputs.{Input}
use Rattle.someip_node_rules.specs.trails.Meanings.{GivenBy}
use Rattle.someip_node_rules.specs.forms.Outputs as outputs
use Rattle.someip_node_rules.specs.trails.Packets.{Packet}
use Rattle.someip_node_rules.specs.rules.Plans.{Rule, Announces, RepliesTo, TakesFind, TakesOffer, TakesSubscribe}
use Rattle.someip_node_rules.specs.trails.Replies.{IsDue, IsFindOf, IsOfferOf, IsReply, IsSubscribeOf}
use Rattle.someip_node_rules.specs.trails.SendingRules as sending
use Rattle.someip_node_rules.specs.forms.Setups.{client_endpoint, offered_as, wanted_as}
use Rattle.someip_node_rules.specs.histories.Tables.{Tables}
use Rattle.someip_node_rules.specs.trails.Trails.{Done}
use Rattle.someip_node_rules.proofs.lists.MemberLemmas.{all_weaker, at_member}
use Rattle.someip_node_rules.proofs.rules.StepRules.{config_there}
use Rattle.someip_world_rules.specs.Announced.{IsConfigured}
use Rattle.someip_world_rules.specs.KnownOffers.{IsAmongAnnounced}

-- an Offer is of an instance that is configured; other entries are free
abbrev pub IsOwn : Config → EntryValue → Type 0
IsOwn config e =
    (head : ServiceEntry) → e.head ≡ Service head → is_offer head ≡ true
    → IsConfigured config (record { service = head.service; instance = head.instance }) head.major (first_udp_endpoint (options_of e))

-- ---- each kind of entry

module _ (config : Config) where
  offer_own : (instance : InstanceId) (ttl : ℕ) (service : OfferedService) → offered_as config instance ≡ Some service → IsOwn config (offer_entry instance ttl service)
  offer_own instance ttl service is head same offers =
      let of : instance.service ≡ head.service = cc in
      let number : instance.instance ≡ head.instance = cc in
      let major : service.rules.major ≡ head.major = cc in
      let named : record { service = head.service; instance = head.instance } ≡ instance = λ i. record { service = sym of i; instance = sym number i } in
      record { service = service; offered = ap (offered_as config) named ∙ is; versioned = major; at = refl }

  no_service : (e : EntryValue) (head : EventgroupEntry) → e.head ≡ Eventgroup head → IsOwn config e
  no_service e other is head same offers = absurd cc

  find_own : (instance : InstanceId) (major : ℕ) → IsOwn config (find_entry instance major)
  find_own instance major head same offers =
      let one : record { kind = Find; service = instance.service; instance = instance.instance; major = major; ttl = 3; minor = 0xFFFFFFFF } ≡ head = cc in
      let e = subst (λ x. is_offer x ≡ true) (sym one) offers in absurd cc

  subscribe_own : (endpoint : SocketAddrV4) (major ttl : ℕ) (eventgroup : groups.Eventgroup) (counter : ℕ) → IsOwn config (subscribe_entry endpoint major ttl eventgroup counter)
  subscribe_own endpoint major ttl eventgroup counter = no_service (subscribe_entry endpoint major ttl eventgroup counter) _ refl

  ack_own : (head : EventgroupEntry) (ttl : ℕ) → IsOwn config (ack_entry head ttl)
  ack_own head ttl = no_service (ack_entry head ttl) _ refl

-- ---- what a rule brings about

module _ (t : Tables) where
  as_offer : (instances : List InstanceId) (e : EntryValue) → IsOfferOf t instances e → IsOwn t.config e
  as_offer instances e of = subst (IsOwn t.config) (sym of.4) (offer_own t.config of.0 of.1.ttl of.1 of.3)

  as_find : (instances : List InstanceId) (e : EntryValue) → IsFindOf t instances e → IsOwn t.config e
  as_find instances e of = subst (IsOwn t.config) (sym of.4) (find_own t.config of.0 of.1.major)

  as_subscribe : (all : List OutgoingSubscribe) (e : EntryValue) → IsSubscribeOf t all e → IsOwn t.config e
  as_subscribe all e of = subst (IsOwn t.config) (sym of.4) (subscribe_own t.config (client_endpoint t.config) of.1.major of.1.ttl of.0.eventgroup of.0.counter)

  as_due : (now : ℕ) (e : EntryValue) → IsDue now t e → IsOwn t.config e
  as_due now e (inl of) = as_offer _ e of
  as_due now e (inr of) = as_find _ e of

  as_reply : (r : Rule) (e : EntryValue) → IsReply r t e → IsOwn t.config e
  as_reply (TakesFind head) e of = as_offer _ e of
  as_reply (TakesOffer o) e of = as_subscribe _ e of.1
  as_reply (TakesSubscribe peer head endpoint) e (inl of) = subst (IsOwn t.config) (sym of.3) (ack_own t.config head head.ttl)
  as_reply (TakesSubscribe peer head endpoint) e (inr of) = subst (IsOwn t.config) (sym of.2) (ack_own t.config head 0)
  as_reply r e of = absurd of

  stop_own : (instance : InstanceId) (service : Option OfferedService) → offered_as t.config instance ≡ service
      → AllByRecursion (IsOwn t.config) (option_map_or (λ s. offer_entry instance 0 s ∷ []) service [])
  stop_own instance None is = tt
  stop_own instance (Some service) is = (offer_own t.config instance 0 service is, tt)

  wanted_own : (eventgroup : groups.Eventgroup) (ttl : WantedService → ℕ) (counter : ℕ) (want : Option WantedService)
      → AllByRecursion (IsOwn t.config) (option_map_or (λ w. subscribe_entry (client_endpoint t.config) w.major (ttl w) eventgroup counter ∷ []) want [])
  wanted_own eventgroup ttl counter None = tt
  wanted_own eventgroup ttl counter (Some want) = (subscribe_own t.config (client_endpoint t.config) want.major (ttl want) eventgroup counter, tt)

  wish_own : (eventgroup : groups.Eventgroup) (counter : Option ℕ) → AllByRecursion (IsOwn t.config) (wish_entries_by t eventgroup counter)
  wish_own eventgroup None = tt
  wish_own eventgroup (Some counter) = wanted_own eventgroup (λ w. w.ttl) counter (wanted_as t.config eventgroup.instance)

-- ---- what is announced in a step

module _ (h : History) where
  abbrev Own : List EntryValue → Type 0
  Own entries = AllByRecursion (IsOwn h.config) entries

  -- rules were done at histories of this configuration
  abbrev Keep : List Done → Type 0
  Keep earlier = (done : Done) → Contains earlier done → done.before.state.config ≡ h.config

  replied_own : (p : Packet) (earlier : List Done) → Keep earlier → (e : EntryValue) → RepliesToEntry p earlier e → IsOwn h.config e
  replied_own p earlier keep e reply =
      subst (λ c. IsOwn c e) (keep reply.done reply.among) (as_reply (answers_of reply.done.before.state) reply.done.by e reply.says)

  group_own : (input : Input) (own : List EntryValue) (earlier : List Done) → Brings h input (Announces own) earlier → Own own
  group_own (inputs.Datagram from to bytes) own earlier m = absurd m.1
  group_own (inputs.Tick ms) own earlier (inl m) = let e = m.0 in absurd cc
  group_own (inputs.Tick ms) own earlier (inr m) =
      let r = m.1 in
      let same : own ≡ m.0 = cc in
      subst Own (sym same) (all_weaker (IsDue ((answers_of h).clock + ms) (answers_of h)) (IsOwn h.config) (as_due (answers_of h) ((answers_of h).clock + ms)) m.0 m.2)
  group_own (inputs.Call kind instance method payload) own earlier m = let e = m.0 in absurd cc
  group_own (inputs.Answer token reply payload) own earlier m = let e = m.0 in absurd cc
  group_own (inputs.Publish instance event payload) own earlier m = let e = m.0 in absurd cc
  group_own (inputs.PublishTo instance eventgroup endpoint event payload) own earlier m = let e = m.0 in absurd cc
  group_own (inputs.Subscribe eventgroup) own earlier (inl m) = let e = m.0 in absurd cc
  group_own (inputs.Subscribe eventgroup) own earlier (inr m) = let e = m.2 in absurd cc
  group_own (inputs.Unsubscribe eventgroup) own earlier (inl m) = absurd cc
  group_own (inputs.Unsubscribe eventgroup) own earlier (inr m) = let e = m.2 in absurd cc
  group_own (inputs.StopOffer instance) own earlier (inl m) = absurd cc
  group_own (inputs.StopOffer instance) own earlier (inr m) =
      let r = m.0 in
      let same : own ≡ stop_offer_of (answers_of h) instance = cc in
      subst Own (sym same) (stop_own (answers_of h) instance (offered_as h.config instance) refl)

  peer_own : (input : Input) (peer : Ipv4Addr) (own : List EntryValue) (earlier : List Done) → Keep earlier → Brings h input (RepliesTo peer own) earlier → Own own
  peer_own (inputs.Datagram from to bytes) peer own earlier keep m =
      all_weaker (RepliesToEntry (record { from = from; to = to; bytes = bytes }) earlier) (IsOwn h.config) (replied_own (record { from = from; to = to; bytes = bytes }) earlier keep) own m.1
  peer_own (inputs.Tick ms) peer own earlier keep (inl m) = let e = m.0 in absurd cc
  peer_own (inputs.Tick ms) peer own earlier keep (inr m) = let e = m.1 in absurd cc
  peer_own (inputs.Call kind instance method payload) peer own earlier keep m = let e = m.0 in absurd cc
  peer_own (inputs.Answer token reply payload) peer own earlier keep m = let e = m.0 in absurd cc
  peer_own (inputs.Publish instance event payload) peer own earlier keep m = let e = m.0 in absurd cc
  peer_own (inputs.PublishTo instance eventgroup endpoint event payload) peer own earlier keep m = let e = m.0 in absurd cc
  peer_own (inputs.Subscribe eventgroup) peer own earlier keep (inl m) = let e = m.0 in absurd cc
  peer_own (inputs.Subscribe eventgroup) peer own earlier keep (inr m) =
      let r = m.2 in
      let same : own ≡ wish_entries eventgroup (answers_of h) = cc in
      subst Own (sym same) (wish_own (answers_of h) eventgroup _)
  peer_own (inputs.Unsubscribe eventgroup) peer own earlier keep (inl m) = absurd cc
  peer_own (inputs.Unsubscribe eventgroup) peer own earlier keep (inr m) =
      let r = m.2 in
      let same : own ≡ stop_subscribe_of (answers_of h) eventgroup m.0.counter = cc in
      subst Own (sym same) (wanted_own (answers_of h) eventgroup (λ w. 0) m.0.counter (wanted_as h.config eventgroup.instance))
  peer_own (inputs.StopOffer instance) peer own earlier keep (inl m) = absurd cc
  peer_own (inputs.StopOffer instance) peer own earlier keep (inr m) = let e = m.0 in absurd cc

  rule_own : (input : Input) (r : Rule) (earlier : List Done) (t : Tables) (from to : SocketAddrV4) (stamp : Stamp) (entries : List EntryValue) → Keep earlier → Brings h input r earlier
      → sending.IsAnnounced r t from to stamp entries → Own entries
  rule_own input (Announces own) earlier t from to stamp entries keep brings says = subst Own (sym says.3) (group_own input own earlier brings)
  rule_own input (RepliesTo peer own) earlier t from to stamp entries keep brings says = subst Own (sym says.3) (peer_own input peer own earlier keep brings)
  rule_own input r earlier t from to stamp entries keep brings says = absurd says

pub announced_own : (h : History) (input : Input) (from to : SocketAddrV4) (stamp : Stamp) (entries : List EntryValue) → GivenBy h input (outputs.Announces from to stamp entries)
    → (head : ServiceEntry) (endpoint : Option SocketAddrV4) → IsAmongAnnounced entries head endpoint → is_offer head ≡ true
    → IsConfigured h.config (record { service = head.service; instance = head.instance }) head.major endpoint
announced_own h input from to stamp entries given head endpoint announced offers =
    let was = given.brought in
    let keep : Keep h was.earlier = λ done before.
    config_there h input done (subst (λ dones. Contains dones done) (sym was.trail) (Contains-append_left was.earlier (given.done ∷ was.later) done before)) in
    let all = rule_own h input given.done.by was.earlier (answers_of given.done.before.state) from to stamp entries keep was.brings given.holds in
    let own = at_member (IsOwn h.config) entries announced.0 all announced.1 in
    let one = own head announced.2 offers in
    subst (IsConfigured h.config (record { service = head.service; instance = head.instance }) head.major) (sym announced.3) one
