-- What a good configuration is made of, and a good offer.
use Rattle.std.proofs.Common.{◌≡◌, ◌≢◌, ◌≤◌, ◌==◌, nat_le, Bool, true, ◌&&◌, not, arith, List, [], ◌∷◌, Option, None, Some, subst}
use Rattle.std.specs.BTreeSet.{contains}
use Rattle.std.specs.List.{AllByRecursion, Contains, list_all, list_any}
use Rattle.std.specs.Net.Socket.{v4_ip, v4_port}
use Rattle.std.specs.Option.{IfSome}
use Rattle.std.specs.Ordering.{nat_cmp}
use Rattle.std.proofs.lemmas.Bool.{and_parts, eqb-true, leb-true}
use Rattle.std.proofs.lemmas.Map.Views.{IfSome-get}
use Rattle.someip_tables.proofs.Entries.{same_by_test}
use Rattle.someip_tables.specs.EndpointOrder.{exact_addresses}
use Rattle.sd_core.specs.KeyOrder.{exact_instances, instances_total}
use Rattle.sd_core.specs.declared.keys.InstanceId.{InstanceId}
use Rattle.someip_node_rules.specs.declared.config.Config.{Config}
use Rattle.someip_node_rules.specs.declared.config.OfferedService.{OfferedService}
use Rattle.someip_node_rules.specs.forms.GoodConfigs.{are_good_methods, has_good_eventgroups, has_own_ports, is_good, is_good_common, is_good_id, is_good_instance, is_good_offer, is_good_port, is_good_want, is_within}
use Rattle.someip_node_rules.specs.forms.Setups.{offered_as}
use Rattle.someip_node_rules.specs.rules.Handling.{same_address}
use Rattle.someip_node_rules.proofs.lists.MemberLemmas.{at_member}

-- ---- what holds of each of a list, and of the first of many

pub each_passes : {X : Type 0} (p : X → Bool) (xs : List X) → list_all p xs ≡ true → AllByRecursion (λ x. p x ≡ true) xs
each_passes p [] all = tt
each_passes p (x ∷ xs) all = let parts = and_parts (p x) (list_all p xs) all in (parts.0, each_passes p xs parts.1)

-- a conjunction of many, and its first part
abbrev pub and_then_all : Bool → List Bool → Bool
and_then_all a [] = a
and_then_all a (b ∷ bs) = and_then_all (a && b) bs

pub first_of : (a : Bool) (bs : List Bool) → and_then_all a bs ≡ true → a ≡ true
first_of a [] all = all
first_of a (b ∷ bs) all = (and_parts a b (first_of (a && b) bs all)).0

-- ---- configurations

module _ (config : Config) where
  abbrev Common : Bool
  Common = is_good_common config.common && not (same_address config.address config.common.group) && is_good_port config.client_port

  abbrev Offers : Bool
  Offers = list_all (is_good_offer config) config.offers.entries

  abbrev Wants : Bool
  Wants = list_all is_good_want config.wants.entries

  pub good_common : is_good config ≡ true → is_good_common config.common ≡ true
  good_common good =
      first_of (is_good_common config.common)
      (not (same_address config.address config.common.group) ∷ is_good_port config.client_port ∷ Offers ∷ Wants ∷ has_own_ports config ∷ [])
      good

  -- each of its offers is a good one
  pub good_offers : is_good config ≡ true → AllByRecursion (λ offer. is_good_offer config offer ≡ true) config.offers.entries
  good_offers good =
      each_passes (is_good_offer config) config.offers.entries (and_parts Common Offers (first_of (Common && Offers) (Wants ∷ has_own_ports config ∷ []) good)).1

  if_some : {X : Type 0} (P : X → Type 0) (o : Option X) (x : X) → IfSome o P → o ≡ Some x → P x
  if_some P None x h is = absurd cc
  if_some P (Some y) x h is = let same : y ≡ x = cc in subst P same h

  -- so what it offers as an instance is good
  pub offered_good : is_good config ≡ true → (instance : InstanceId) (service : OfferedService) → offered_as config instance ≡ Some service
      → is_good_offer config (instance, service) ≡ true
  offered_good good instance service is =
      at_member (λ offer. is_good_offer config offer ≡ true) config.offers.entries (instance, service) (good_offers good)
      (if_some (λ s. Contains config.offers.entries (instance, s)) (offered_as config instance) service (IfSome-get instances_total exact_instances config.offers instance) is)

  -- each of its wants is a good one
  pub good_wants : is_good config ≡ true → AllByRecursion (λ want. is_good_want want ≡ true) config.wants.entries
  good_wants good =
      each_passes is_good_want config.wants.entries (and_parts (Common && Offers) Wants (first_of (Common && Offers && Wants) (has_own_ports config ∷ []) good)).1

  pub good_ports : is_good config ≡ true → has_own_ports config ≡ true
  good_ports good = (and_parts (Common && Offers && Wants) (has_own_ports config) good).1

-- ---- offers

module _ (config : Config) (offer : InstanceId × OfferedService) where
  -- what comes after the address in the conjunction
  abbrev AfterAddress : List Bool
  AfterAddress =
      is_good_port (v4_port offer.1.rules.endpoint) ∷ not (v4_port offer.1.rules.endpoint == config.client_port)
      ∷ are_good_methods offer.1.rules.methods ∷ are_good_methods offer.1.rules.oneways
      ∷ not (list_any (contains nat_cmp offer.1.rules.methods) offer.1.rules.oneways.keys)
      ∷ list_all has_good_eventgroups offer.1.rules.events.entries ∷ is_within 1 1024 offer.1.subscribers ∷ []

  -- and after its instance
  abbrev AfterInstance : List Bool
  AfterInstance =
      nat_le offer.1.rules.major 0xFE ∷ nat_le offer.1.minor 0xFFFFFFFE ∷ not (offer.1.ttl == 0) ∷ same_address (v4_ip offer.1.rules.endpoint) config.address
      ∷ AfterAddress

  abbrev HasOwnService : Bool
  HasOwnService = is_good_instance offer.0 && (offer.1.rules.service == offer.0.service)

  abbrev HasOwnInstance : Bool
  HasOwnInstance = HasOwnService && (offer.1.rules.instance == offer.0.instance)

  -- it stands under its own instance
  pub own_service : is_good_offer config offer ≡ true → offer.1.rules.service ≡ offer.0.service
  own_service good =
      let both = first_of HasOwnService ((offer.1.rules.instance == offer.0.instance) ∷ AfterInstance) good in
      eqb-true offer.1.rules.service offer.0.service (and_parts (is_good_instance offer.0) (offer.1.rules.service == offer.0.service) both).1

  pub own_instance : is_good_offer config offer ≡ true → offer.1.rules.instance ≡ offer.0.instance
  own_instance good =
      eqb-true offer.1.rules.instance offer.0.instance (and_parts HasOwnService (offer.1.rules.instance == offer.0.instance) (first_of HasOwnInstance AfterInstance good)).1

  -- whose Service ID is not that of Service Discovery
  pub other_service : is_good_offer config offer ≡ true → offer.1.rules.service ≢ 0xFFFF
  other_service good same =
      let instance = first_of (is_good_instance offer.0) ((offer.1.rules.service == offer.0.service) ∷ (offer.1.rules.instance == offer.0.instance) ∷ AfterInstance) good in
      let service = (and_parts (is_good_id offer.0.service) (is_good_id offer.0.instance) instance).0 in
      let below : offer.0.service ≤ 0xFFFE = leb-true offer.0.service 0xFFFE (and_parts (nat_le 1 offer.0.service) (nat_le offer.0.service 0xFFFE) service).1 in
      let own = own_service good in omega (arith, below, own, same)

  -- it is at the address of its node
  pub own_address : is_good_offer config offer ≡ true → v4_ip offer.1.rules.endpoint ≡ config.address
  own_address good =
      let before = HasOwnInstance && nat_le offer.1.rules.major 0xFE && nat_le offer.1.minor 0xFFFFFFFE && not (offer.1.ttl == 0) in
      let address = same_address (v4_ip offer.1.rules.endpoint) config.address in
      same_by_test exact_addresses (v4_ip offer.1.rules.endpoint) config.address (and_parts before address (first_of (before && address) AfterAddress good)).1
