-- A copy of a configuration has the same values, and is as good.
use Rattle.std.proofs.Common.{◌≡◌, ◌∙◌, arith, refl, ap, ℕ, List, [], ◌∷◌, length}
use Rattle.std.specs.Prelude.{Bool, not, ◌&&◌, ◌==◌, map}
use Prim.Native.Nat.{suc}
use Rattle.std.specs.List.{AllZip, list_all}
use Rattle.std.specs.Ordering.{nat_cmp}
use Rattle.std.specs.FinMap as finite
use Rattle.sd_core.specs.declared.keys.InstanceId.{InstanceId}
use Rattle.someip_node_rules.specs.trails.Copies.{IsCopy, IsCopyOfOffer, IsCopyOfWant}
use Rattle.someip_node_rules.specs.forms.GoodConfigs.{has_own_ports, is_good, is_good_common, is_good_offer, is_good_port, is_good_want}
use Rattle.someip_node_rules.specs.rules.Handling.{same_address}
use Rattle.someip_node_rules.specs.declared.config.Config.{Config}
use Rattle.someip_node_rules.specs.declared.config.OfferedService.{OfferedService}
use Rattle.someip_node_rules.specs.declared.config.WantedService.{WantedService}
use Rattle.someip_world_setup_keys.specs.Made.{ConfigMade, OfferMade, WantMade, config_view, keys_of_set, offered_view, plain_entries, wanted_view}
use Rattle.std.specs.BTreeMap.{BTreeMap}
use Rattle.std.specs.BTreeSet.{BTreeSet}
use Rattle.someip_tables.specs.Tables.{map_of}

-- ---- lists of pairs

pub maps_agree : {X Y : Type 0} (R : X → X → Type 0) (f : X → Y) → ((a b : X) → R a b → f b ≡ f a) → (xs ys : List X) → AllZip R xs ys → map f ys ≡ map f xs
maps_agree R f each [] [] z = refl
maps_agree R f each [] (y ∷ ys) z = absurd z
maps_agree R f each (x ∷ xs) [] z = absurd z
maps_agree R f each (x ∷ xs) (y ∷ ys) z = λ i. each x y z.0 i ∷ maps_agree R f each xs ys z.1 i

pub all_agree : {X : Type 0} (R : X → X → Type 0) (p q : X → Bool) → ((a b : X) → R a b → q b ≡ p a) → (xs ys : List X) → AllZip R xs ys → list_all q ys ≡ list_all p xs
all_agree R p q each [] [] z = refl
all_agree R p q each [] (y ∷ ys) z = absurd z
all_agree R p q each (x ∷ xs) [] z = absurd z
all_agree R p q each (x ∷ xs) (y ∷ ys) z = λ i. each x y z.0 i && all_agree R p q each xs ys z.1 i

pub lengths_agree : {X : Type 0} (R : X → X → Type 0) (xs ys : List X) → AllZip R xs ys → length ys ≡ length xs
lengths_agree R [] [] z = refl
lengths_agree R [] (y ∷ ys) z = absurd z
lengths_agree R (x ∷ xs) [] z = absurd z
lengths_agree R (x ∷ xs) (y ∷ ys) z = ap suc (lengths_agree R xs ys z.1)

-- ---- entries

abbrev OfOffers : InstanceId × OfferedService → InstanceId × OfferedService → Type 0
OfOffers a b = (b.0 ≡ a.0) × IsCopyOfOffer a.1 b.1

abbrev OfWants : InstanceId × WantedService → InstanceId × WantedService → Type 0
OfWants a b = (b.0 ≡ a.0) × IsCopyOfWant a.1 b.1

-- an offer with its events in another map
abbrev moved_offer : OfferedService → BTreeMap ℕ (BTreeSet ℕ) → OfferedService
moved_offer o events = record o { rules = record o.rules { events = events } }

offer_moved : (a b : InstanceId × OfferedService) → OfOffers a b → b ≡ (a.0, moved_offer a.1 b.1.rules.events)
offer_moved a b c = λ i. (c.0 i, (c.1.0 ∙ ap (λ rules. record a.1 { rules = rules }) c.1.1.0) i)

offer_views : (a b : InstanceId × OfferedService) → OfOffers a b → ◌≡◌ {A = InstanceId × OfferMade} (b.0, offered_view b.1) (a.0, offered_view a.1)
offer_views a b c =
    ap (λ (e : InstanceId × OfferedService). (e.0, offered_view e.1)) (offer_moved a b c)
    ∙ ap (λ events. (a.0, record (offered_view a.1) { events = plain_entries keys_of_set events })) c.1.1.1

good_offers : (config : Config) (a b : InstanceId × OfferedService) → OfOffers a b → is_good_offer config b ≡ is_good_offer config a
good_offers config a b c = ap (is_good_offer config) (offer_moved a b c) ∙ grind (arith, c.1.1.1)

offer_ports : (a b : InstanceId × OfferedService) → OfOffers a b → ◌≡◌ {A = ℕ × InstanceId} (b.1.rules.endpoint.port, b.0) (a.1.rules.endpoint.port, a.0)
offer_ports a b c = ap (λ (e : InstanceId × OfferedService). (e.1.rules.endpoint.port, e.0)) (offer_moved a b c)

-- a want with its eventgroups in another map
abbrev moved_want : WantedService → BTreeMap ℕ (BTreeSet ℕ) → WantedService
moved_want w groups = record w { groups = groups }

want_moved : (a b : InstanceId × WantedService) → OfWants a b → b ≡ (a.0, moved_want a.1 b.1.groups)
want_moved a b c = λ i. (c.0 i, c.1.0 i)

want_views : (a b : InstanceId × WantedService) → OfWants a b → ◌≡◌ {A = InstanceId × WantMade} (b.0, wanted_view b.1) (a.0, wanted_view a.1)
want_views a b c =
    ap (λ (e : InstanceId × WantedService). (e.0, wanted_view e.1)) (want_moved a b c)
    ∙ ap (λ groups. (a.0, record (wanted_view a.1) { groups = plain_entries keys_of_set groups })) c.1.1

good_wants : (a b : InstanceId × WantedService) → OfWants a b → is_good_want b ≡ is_good_want a
good_wants a b c = ap is_good_want (want_moved a b c) ∙ grind (arith, c.1.1)

-- ---- configurations

-- a configuration with its offers and wants in other maps
abbrev moved : Config → Config → Config
moved config copy = record config { offers = copy.offers; wants = copy.wants }

abbrev with_entries_of : Config → List (InstanceId × OfferMade) → List (InstanceId × WantMade) → ConfigMade
with_entries_of c offers wants = record (config_view c) { offers = offers; wants = wants }

pub same_views : (config copy : Config) → IsCopy config copy → config_view copy ≡ config_view config
same_views config copy c =
    ap config_view c.0
    ∙ λ i. with_entries_of config
    (maps_agree OfOffers (λ e. (e.0, offered_view e.1)) offer_views config.offers.entries copy.offers.entries c.1 i)
    (maps_agree OfWants (λ e. (e.0, wanted_view e.1)) want_views config.wants.entries copy.wants.entries c.2 i)

same_ports : (config copy : Config) → IsCopy config copy → has_own_ports (moved config copy) ≡ has_own_ports config
same_ports config copy c = λ i.
    finite.len (map_of nat_cmp (maps_agree OfOffers (λ e. (e.1.rules.endpoint.port, e.0)) offer_ports config.offers.entries copy.offers.entries c.1 i))
    == lengths_agree OfOffers config.offers.entries copy.offers.entries c.1 i

-- what is asked of a configuration, by what is asked of its offers, its wants and its ports
abbrev good_by : Config → Bool → Bool → Bool → Bool
good_by config offers wants ports =
    is_good_common config.common && not (same_address config.address config.common.group) && is_good_port config.client_port
    && offers && wants && ports

pub same_goodness : (config copy : Config) → IsCopy config copy → is_good copy ≡ is_good config
same_goodness config copy c =
    ap is_good c.0
    ∙ λ i. good_by config
    (all_agree OfOffers (is_good_offer config) (is_good_offer config) (good_offers config) config.offers.entries copy.offers.entries c.1 i)
    (all_agree OfWants is_good_want is_good_want good_wants config.wants.entries copy.wants.entries c.2 i)
    (same_ports config copy c i)
