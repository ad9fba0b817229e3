-- What an entry that is sent says of the rule that gave it.
use Rattle.std.proofs.Common.{◌≡◌, ℕ, List, [], ◌∷◌, Option, None, Some, refl, inl, inr}
use Rattle.std.specs.List.{AllByRecursion, Contains, flat_map}
use Rattle.std.specs.FinMap as finite
use Rattle.std.specs.Option.{option_map_or}
use Rattle.std.proofs.lemmas.Bool.{cond_both}
use Rattle.std.specs.declared.net.ipv4_addr.Ipv4Addr.{Ipv4Addr}
use Rattle.std.specs.declared.net.socket_addr.SocketAddrV4.{SocketAddrV4}
use Rattle.sd_wire.specs.declared.entry.EventgroupEntry.{EventgroupEntry}
use Rattle.sd_core.specs.declared.error.Cause.{Cause}
use Rattle.sd_core.specs.declared.keys.InstanceId.{InstanceId}
use Rattle.sd_core.specs.declared.received.ReceivedOffer.{ReceivedOffer}
use Rattle.sd_core.specs.declared.received.Uncounted.{Uncounted}
use Rattle.sd_core.specs.declared.received.Uncounted.TheVariants.{Unwanted, NoEndpoint, OtherPeer}
use Rattle.sd_core.specs.declared.wish.OutgoingSubscribe.{OutgoingSubscribe}
use Rattle.sd_core.specs.OfferTables.{answering}
use Rattle.sd_core.specs.SeekTables.{is_stopped, uncounted}
use Rattle.sd_core.specs.Sendings.{due_at}
use Rattle.sd_core.specs.SubscriberTables.{nack_cause}
use Rattle.sd_core.specs.WishTables.{subscribes}
use Rattle.someip_node_rules.specs.declared.config.OfferedService.{OfferedService}
use Rattle.someip_node_rules.specs.declared.config.WantedService.{WantedService}
use Rattle.someip_node_rules.specs.trails.Bringing.{OfEntry}
use Rattle.someip_node_rules.specs.rules.Ticking.{due_entries, find_of}
use Rattle.someip_node_rules.specs.forms.Entries.{find_entry, offer_entry, subscribe_entry}
use Rattle.someip_node_rules.specs.rules.Learning.{offer_by, offer_counts, subscribe_to}
use Rattle.someip_node_rules.specs.rules.Outcomes.{Outcome, nothing}
use Rattle.someip_node_rules.specs.trails.Packets.{Packet}
use Rattle.someip_node_rules.specs.rules.Plans.{Rule, TakesAck, TakesFind, TakesNack, TakesOffer, TakesStopOffer, TakesStopSubscribe, TakesSubscribe, rule}
use Rattle.someip_node_rules.specs.trails.Replies.{IsDue, IsFindOf, IsOfferOf, IsReply, IsSubscribeOf}
use Rattle.someip_node_rules.specs.forms.Setups.{client_endpoint, offered_as, wanted_as}
use Rattle.someip_node_rules.specs.rules.Offering.{offer_of, sought_by}
use Rattle.someip_node_rules.specs.rules.ServerSubscribing.{rules_for, subscribe_by, subscribe_in}
use Rattle.someip_node_rules.specs.histories.Tables.{Tables, live_subscribers}
use Rattle.someip_node_rules.proofs.lists.MemberLemmas.{all_append, all_flat_map, all_members, all_weaker}

module _ (t : Tables) where
  -- ---- lists of entries

  offer_says : (instances : List InstanceId) (instance : InstanceId) → Contains instances instance → (service : Option OfferedService) → offered_as t.config instance ≡ service
      → AllByRecursion (IsOfferOf t instances) (option_map_or (λ s. offer_entry instance s.ttl s ∷ []) service [])
  offer_says instances instance among None is = tt
  offer_says instances instance among (Some service) is = ((instance, service, among, is, refl), tt)

  pub offers_say : (instances : List InstanceId) → AllByRecursion (IsOfferOf t instances) (flat_map (offer_of t) instances)
  offers_say instances =
      all_flat_map (IsOfferOf t instances) (offer_of t) instances
      (all_weaker (Contains instances) (λ i. AllByRecursion (IsOfferOf t instances) (offer_of t i)) (λ i among. offer_says instances i among (offered_as t.config i) refl) instances
      (all_members instances))

  find_says : (instances : List InstanceId) (instance : InstanceId) → Contains instances instance → (want : Option WantedService) → wanted_as t.config instance ≡ want
      → AllByRecursion (IsFindOf t instances) (option_map_or (λ w. find_entry instance w.major ∷ []) want [])
  find_says instances instance among None is = tt
  find_says instances instance among (Some want) is = ((instance, want, among, is, refl), tt)

  finds_say : (instances : List InstanceId) → AllByRecursion (IsFindOf t instances) (flat_map (find_of t) instances)
  finds_say instances =
      all_flat_map (IsFindOf t instances) (find_of t) instances
      (all_weaker (Contains instances) (λ i. AllByRecursion (IsFindOf t instances) (find_of t i)) (λ i among. find_says instances i among (wanted_as t.config i) refl) instances
      (all_members instances))

  subscribe_says : (all : List OutgoingSubscribe) (subscribe : OutgoingSubscribe) → Contains all subscribe → (want : Option WantedService)
      → wanted_as t.config subscribe.eventgroup.instance ≡ want
      → AllByRecursion (IsSubscribeOf t all) (option_map_or (λ w. subscribe_entry (client_endpoint t.config) w.major w.ttl subscribe.eventgroup subscribe.counter ∷ []) want [])
  subscribe_says all subscribe among None is = tt
  subscribe_says all subscribe among (Some want) is = ((subscribe, want, among, is, refl), tt)

  subscribes_say : (all : List OutgoingSubscribe) → AllByRecursion (IsSubscribeOf t all) (flat_map (subscribe_to t) all)
  subscribes_say all =
      all_flat_map (IsSubscribeOf t all) (subscribe_to t) all
      (all_weaker (Contains all) (λ s. AllByRecursion (IsSubscribeOf t all) (subscribe_to t s)) (λ s among. subscribe_says all s among (wanted_as t.config s.eventgroup.instance) refl) all
      (all_members all))

  -- ---- what is due

  pub due_says : (now : ℕ) → AllByRecursion (IsDue now t) (due_entries now t)
  due_says now =
      let ups : List InstanceId = finite.keys (due_at now t.offers.up) in
      let finding : List InstanceId = finite.keys (due_at now t.seek.finding) in
      all_append (IsDue now t) (flat_map (offer_of t) ups) (flat_map (find_of t) finding)
      (all_weaker (IsOfferOf t ups) (IsDue now t) (λ e is. inl is) (flat_map (offer_of t) ups) (offers_say ups))
      (all_weaker (IsFindOf t finding) (IsDue now t) (λ e is. inr is) (flat_map (find_of t) finding) (finds_say finding))

  -- ---- replies

  abbrev Replied : Rule → Outcome → Type 0
  Replied r o = AllByRecursion (IsReply r t) o.replies

  endpoint_replied : (o : ReceivedOffer) → uncounted o t.clock t.seek ≡ None → (endpoint : Option SocketAddrV4)
      → Replied (TakesOffer o) (option_map_or (λ endpoint. offer_counts o endpoint t) endpoint nothing)
  endpoint_replied o counts None = tt
  endpoint_replied o counts (Some endpoint) =
      let all : List OutgoingSubscribe = subscribes t.clock o.instance o.peer t.wishes in
      all_weaker (IsSubscribeOf t all) (IsReply (TakesOffer o) t) (λ e is. (counts, is)) (flat_map (subscribe_to t) all) (subscribes_say all)

  pub offer_replied : (o : ReceivedOffer) (cause : Option Uncounted) → uncounted o t.clock t.seek ≡ cause → Replied (TakesOffer o) (offer_by o cause t)
  offer_replied o None counts = endpoint_replied o counts o.endpoint
  offer_replied o (Some Unwanted) counts = tt
  offer_replied o (Some NoEndpoint) counts = tt
  offer_replied o (Some OtherPeer) counts = tt

  pub subscribe_replied : (peer : Ipv4Addr) (head : EventgroupEntry) (endpoint : Option SocketAddrV4) (cause : Option Cause)
      → nack_cause (rules_for head t) (subscribe_in peer head endpoint) (live_subscribers t) ≡ cause
      → Replied (TakesSubscribe peer head endpoint) (subscribe_by head (subscribe_in peer head endpoint) cause)
  subscribe_replied peer head endpoint (Some cause) is = (inr (cause, is, refl), tt)
  subscribe_replied peer head None None is = tt
  subscribe_replied peer head (Some endpoint) None is = (inl (endpoint, refl, is, refl), tt)

  -- the rules of entries, each
  pub entry_replied : (p : Packet) (r : Rule) → OfEntry p r → Replied r (rule r t)
  entry_replied p (TakesFind head) of = offers_say (finite.keys (answering (sought_by head) t.offers))
  entry_replied p (TakesOffer o) of = offer_replied o _ refl
  entry_replied p (TakesStopOffer instance major peer) of =
      cond_both (is_stopped instance major peer t.clock t.seek) _ _ (Replied (TakesStopOffer instance major peer)) (λ _. tt) (λ _. tt)
  entry_replied p (TakesSubscribe peer head endpoint) of = subscribe_replied peer head endpoint _ refl
  entry_replied p (TakesStopSubscribe peer head None) of = tt
  entry_replied p (TakesStopSubscribe peer head (Some endpoint)) of = tt
  entry_replied p (TakesAck peer head) of = tt
  entry_replied p (TakesNack peer head) of = tt
  entry_replied p r of = absurd of
