-- The entries that a node sends fit their fields, and one datagram each.
use Rattle.std.proofs.Common.{◌≡◌, inl, inr, ℕ, ◌<◌, ◌^◌, List, [], ◌∷◌, arith, Option, None, Some, refl, sym, subst}
use Rattle.std.specs.Prelude.{IfSome}
use Rattle.std.specs.List.{AllByRecursion, Contains}
use Rattle.std.specs.Option.{option_map_or}
use Rattle.std.specs.Net.Socket.{IsSocketAddrV4}
use Rattle.std.specs.declared.net.socket_addr.SocketAddrV4.{SocketAddrV4}
use Rattle.std.proofs.lemmas.Map.Views.{IfSome-get}
use Rattle.sd_wire.specs.declared.entry.EventgroupEntry.{EventgroupEntry}
use Rattle.sd_wire.specs.fronts.Fronts.{HasOneEndpointAtMost}
use Rattle.sd_wire.specs.layout.Spelling.{EventgroupFits, Ipv4Fits}
use Rattle.sd_wire.specs.fronts.Splitting.{FitsDatagram}
use Rattle.sd_wire.specs.contents.Values.{EntryValue}
use Rattle.sd_wire.specs.encoding.Writing.{EntryFits}
use Rattle.sd_wire.proofs.fronts.AloneLemmas.{endpoint_alone}
use Rattle.sd_wire.proofs.fronts.SplitLemmas.{packed_fits}
use Rattle.sd_core.specs.declared.eventgroup.Eventgroup as groups
use Rattle.sd_core.specs.declared.keys.InstanceId.{InstanceId}
use Rattle.sd_core.specs.declared.wish.OutgoingSubscribe.{OutgoingSubscribe}
use Rattle.sd_core.specs.KeyOrder.{exact_instances, instances_total}
use Rattle.someip_node_rules.specs.declared.config.Config.{Config}
use Rattle.someip_node_rules.specs.declared.config.OfferedService.{OfferedService}
use Rattle.someip_node_rules.specs.declared.config.WantedService.{WantedService}
use Rattle.someip_node_rules.specs.forms.Entries.{ack_entry, find_entry, offer_entry, subscribe_entry}
use Rattle.someip_node_laws.specs.Fitting.{FitsConfig, FitsHistory, FitsOffer, FitsWant}
use Rattle.someip_node_rules.specs.histories.History.{History, answers_of}
use Rattle.someip_node_rules.specs.rules.Plans.{Rule, TakesFind, TakesOffer, TakesSubscribe}
use Rattle.someip_node_rules.specs.trails.Replies.{IsDue, IsFindOf, IsOfferOf, IsReply, IsSubscribeOf}
use Rattle.someip_node_rules.specs.forms.Setups.{client_endpoint, offered_as, wanted_as}
use Rattle.someip_node_laws.proofs.fits.FitItems.{FitsSubscribe, subscribes_fit}
use Rattle.someip_node_rules.proofs.lists.MemberLemmas.{at_member}

-- an entry fits its fields, and has no option or one endpoint
abbrev pub FitsEntry : EntryValue → Type 0
FitsEntry e = EntryFits e × HasOneEndpointAtMost e

-- entries fit their fields, and one datagram
abbrev pub FitsFront : List EntryValue → Type 0
FitsFront entries = AllByRecursion EntryFits entries × FitsDatagram entries

pub front_none : FitsFront []
front_none = (tt, packed_fits [] [] [] (refl, refl) (omega arith))

front_one : (e : EntryValue) → FitsEntry e → FitsFront (e ∷ [])
front_one e fits = ((fits.0, tt), endpoint_alone e fits.1)

module _ (config : Config) (fits : FitsConfig config) where
  -- ---- what the configuration says of an instance

  if_some : {X : Type 0} (P : X → Type 0) (o : Option X) (x : X) → IfSome o P → o ≡ Some x → P x
  if_some P None x h is = absurd cc
  if_some P (Some y) x h is = let same : y ≡ x = cc in subst P same h

  pub offer_fits : (instance : InstanceId) (service : OfferedService) → offered_as config instance ≡ Some service → FitsOffer (instance, service)
  offer_fits instance service is =
      at_member FitsOffer config.offers.entries (instance, service) fits.offers
      (if_some (λ s. Contains config.offers.entries (instance, s)) (offered_as config instance) service (IfSome-get instances_total exact_instances config.offers instance) is)

  pub want_fits : (instance : InstanceId) (want : WantedService) → wanted_as config instance ≡ Some want → FitsWant (instance, want)
  want_fits instance want is =
      at_member FitsWant config.wants.entries (instance, want) fits.wants
      (if_some (λ w. Contains config.wants.entries (instance, w)) (wanted_as config instance) want (IfSome-get instances_total exact_instances config.wants instance) is)

  -- ---- each kind of entry

  endpoint_fits : (endpoint : SocketAddrV4) → IsSocketAddrV4 endpoint → Ipv4Fits (record { socket = endpoint; protocol = record { 0 = 0x11 } })
  endpoint_fits endpoint is = let port = is.1 in record { address = is.0; protocol = omega arith; port = port }

  offer_entry_fits : (instance : InstanceId) (ttl : ℕ) (service : OfferedService) → ttl < 2 ^ 24 → FitsOffer (instance, service) → FitsEntry (offer_entry instance ttl service)
  offer_entry_fits instance ttl service short offer =
      let endpoint = endpoint_fits service.rules.endpoint offer.endpoint in (
        (
          record { service = offer.instance.0; instance = offer.instance.1; major = offer.major; ttl = short; minor = offer.minor },
          (endpoint, tt),
          tt,
        ),
        inr (_, refl, endpoint),
      )

  find_entry_fits : (instance : InstanceId) (want : WantedService) → FitsWant (instance, want) → FitsEntry (find_entry instance want.major)
  find_entry_fits instance want own = (
    (
      record { service = own.instance.0; instance = own.instance.1; major = own.major; ttl = omega arith; minor = omega arith },
      tt,
      tt,
    ),
    inl refl,
  )

  subscribe_entry_fits : (eventgroup : groups.Eventgroup) (want : WantedService) (ttl counter : ℕ) → FitsWant (eventgroup.instance, want) → eventgroup.id < 2 ^ 16
      → ttl < 2 ^ 24 → counter < 16 → FitsEntry (subscribe_entry (client_endpoint config) want.major ttl eventgroup counter)
  subscribe_entry_fits eventgroup want ttl counter own id short few =
      let endpoint = endpoint_fits (client_endpoint config) (fits.address, fits.port) in (
        (
          record { service = own.instance.0; instance = own.instance.1; major = own.major; ttl = short; counter = few; eventgroup = id },
          (endpoint, tt),
          tt,
        ),
        inr (_, refl, endpoint),
      )

  ack_entry_fits : (head : EventgroupEntry) (ttl : ℕ) → EventgroupFits head → ttl < 2 ^ 24 → FitsEntry (ack_entry head ttl)
  ack_entry_fits head ttl own short = (
    (
      record { service = own.service; instance = own.instance; major = own.major; ttl = short; counter = own.counter; eventgroup = own.eventgroup },
      tt,
      tt,
    ),
    inl refl,
  )

  -- ---- what the calls of the application send

  pub stop_front : (instance : InstanceId) (service : Option OfferedService) → offered_as config instance ≡ service
      → FitsFront (option_map_or (λ s. offer_entry instance 0 s ∷ []) service [])
  stop_front instance None is = front_none
  stop_front instance (Some service) is =
      front_one (offer_entry instance 0 service) (offer_entry_fits instance 0 service (omega arith) (offer_fits instance service is))

  -- a Subscribe with its TTL, or with one of 0
  pub subscribe_front : (eventgroup : groups.Eventgroup) (ttl : WantedService → ℕ) (counter : ℕ) → ((want : WantedService) → want.ttl < 2 ^ 24 → ttl want < 2 ^ 24)
      → eventgroup.id < 2 ^ 16 → counter < 16 → (want : Option WantedService) → wanted_as config eventgroup.instance ≡ want
      → FitsFront (option_map_or (λ w. subscribe_entry (client_endpoint config) w.major (ttl w) eventgroup counter ∷ []) want [])
  subscribe_front eventgroup ttl counter short id few None is = front_none
  subscribe_front eventgroup ttl counter short id few (Some want) is =
      let own = want_fits eventgroup.instance want is in
      front_one (subscribe_entry (client_endpoint config) want.major (ttl want) eventgroup counter) (subscribe_entry_fits eventgroup want (ttl want) counter own id (short want own.ttl) few)

-- ---- replies, and what is due

module _ (h : History) (fits : FitsHistory h) where
  as_offer : (instances : List InstanceId) (e : EntryValue) → IsOfferOf (answers_of h) instances e → FitsEntry e
  as_offer instances e of =
      let offer = offer_fits h.config fits.0 of.0 of.1 of.3 in
      subst FitsEntry (sym of.4) (offer_entry_fits h.config fits.0 of.0 of.1.ttl of.1 offer.ttl offer)

  as_find : (instances : List InstanceId) (e : EntryValue) → IsFindOf (answers_of h) instances e → FitsEntry e
  as_find instances e of = subst FitsEntry (sym of.4) (find_entry_fits h.config fits.0 of.0 of.1 (want_fits h.config fits.0 of.0 of.1 of.3))

  as_subscribe : (all : List OutgoingSubscribe) → AllByRecursion FitsSubscribe all → (e : EntryValue) → IsSubscribeOf (answers_of h) all e → FitsEntry e
  as_subscribe all each e of =
      let own = want_fits h.config fits.0 of.0.eventgroup.instance of.1 of.3 in
      let one = at_member FitsSubscribe all of.0 each of.2 in
      subst FitsEntry (sym of.4) (subscribe_entry_fits h.config fits.0 of.0.eventgroup of.1 of.1.ttl of.0.counter own one.0 own.ttl one.1)

  pub due_fits : (now : ℕ) (e : EntryValue) → IsDue now (answers_of h) e → FitsEntry e
  due_fits now e (inl of) = as_offer _ e of
  due_fits now e (inr of) = as_find _ e of

  -- a Subscribe that is replied to fits its fields
  abbrev pub FitsHead : Rule → Type 0
  FitsHead (TakesSubscribe peer head endpoint) = EventgroupFits head
  FitsHead r = Unit {0}

  pub reply_fits : (r : Rule) → FitsHead r → (e : EntryValue) → IsReply r (answers_of h) e → FitsEntry e
  reply_fits (TakesFind head) own e of = as_offer _ e of
  reply_fits (TakesOffer o) own e of = as_subscribe _ (subscribes_fit h.items fits.1 _ o.instance o.peer) e of.1
  reply_fits (TakesSubscribe peer head endpoint) own e (inl of) = subst FitsEntry (sym of.3) (ack_entry_fits h.config fits.0 head head.ttl own own.ttl)
  reply_fits (TakesSubscribe peer head endpoint) own e (inr of) = subst FitsEntry (sym of.2) (ack_entry_fits h.config fits.0 head 0 own (omega arith))
  reply_fits r own e of = absurd of
