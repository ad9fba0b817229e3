-- A copy of a good configuration is good.
use Rattle.std.proofs.Common.{◌≡◌, ℕ, suc, Bool, true, ◌&&◌, ◌==◌, nat_le, not, List, [], ◌∷◌, length, map, slice_get, zero, Some, refl, sym, ap, ◌∙◌}
use Rattle.std.specs.BTreeSet.{BTreeSet, contains}
use Rattle.std.specs.FinMap as finite
use Rattle.std.specs.List.{AllByRecursion, AllZip, list_all, list_any}
use Rattle.std.specs.Net.Socket.{v4_ip, v4_port}
use Rattle.std.specs.Ordering.{nat_cmp}
use Rattle.std.specs.declared.net.ipv4_addr.Ipv4Addr.{Ipv4Addr}
use Rattle.someip_tables.specs.Tables.{map_of}
use Rattle.sd_core.specs.declared.keys.InstanceId.{InstanceId}
use Rattle.someip_node_rules.specs.trails.Copies.{IsCopy, IsCopyOfOffer, IsCopyOfWant}
use Rattle.someip_node_rules.specs.declared.config.Config.{Config}
use Rattle.someip_node_rules.specs.declared.config.OfferedService.{OfferedService}
use Rattle.someip_node_rules.specs.declared.config.WantedService.{WantedService}
use Rattle.someip_node_rules.specs.forms.GoodConfigs.{are_good_methods, has_good_eventgroups, has_own_ports, is_good, is_good_common, is_good_eventgroup, is_good_instance, is_good_offer, is_good_port, is_good_want, is_within}
use Rattle.someip_node_rules.specs.rules.Handling.{same_address}
use Rattle.someip_world_setup.specs.declared.setup_node.SetupNode.{SetupNode}
use Rattle.someip_world_rules.specs.Runs.{AreCopies}

-- ---- lists side by side

all_same : {X : Type 0} (R : X → X → Type 0) (p q : X → Bool) → ((a b : X) → R a b → p b ≡ q a) → (xs ys : List X) → AllZip R xs ys → list_all p ys ≡ list_all q xs
all_same R p q f [] [] all = refl
all_same R p q f [] (y ∷ ys) all = absurd all
all_same R p q f (x ∷ xs) [] all = absurd all
all_same R p q f (x ∷ xs) (y ∷ ys) all = λ i. f x y all.0 i && all_same R p q f xs ys all.1 i

map_same : {X Y : Type 0} (R : X → X → Type 0) (f : X → Y) → ((a b : X) → R a b → f b ≡ f a) → (xs ys : List X) → AllZip R xs ys → map f ys ≡ map f xs
map_same R f same [] [] all = refl
map_same R f same [] (y ∷ ys) all = absurd all
map_same R f same (x ∷ xs) [] all = absurd all
map_same R f same (x ∷ xs) (y ∷ ys) all = λ i. same x y all.0 i ∷ map_same R f same xs ys all.1 i

length_same : {X : Type 0} (R : X → X → Type 0) (xs ys : List X) → AllZip R xs ys → length ys ≡ length xs
length_same R [] [] all = refl
length_same R [] (y ∷ ys) all = absurd all
length_same R (x ∷ xs) [] all = absurd all
length_same R (x ∷ xs) (y ∷ ys) all = ap suc (length_same R xs ys all.1)

-- ---- offers and wants

abbrev CopiesOffer : InstanceId × OfferedService → InstanceId × OfferedService → Type 0
CopiesOffer a b = (b.0 ≡ a.0) × IsCopyOfOffer a.1 b.1

abbrev CopiesWant : InstanceId × WantedService → InstanceId × WantedService → Type 0
CopiesWant a b = (b.0 ≡ a.0) × IsCopyOfWant a.1 b.1

-- what is tested of an offer, at an address and beside the client's port, and of its events
abbrev offer_test : Ipv4Addr → ℕ → InstanceId → OfferedService → List (ℕ × BTreeSet ℕ) → Bool
offer_test address port instance offer events =
    is_good_instance instance
    && (offer.rules.service == instance.service) && (offer.rules.instance == instance.instance)
    && nat_le offer.rules.major 0xFE && nat_le offer.minor 0xFFFFFFFE && not (offer.ttl == 0)
    && same_address (v4_ip offer.rules.endpoint) address
    && is_good_port (v4_port offer.rules.endpoint) && not (v4_port offer.rules.endpoint == port)
    && are_good_methods offer.rules.methods && are_good_methods offer.rules.oneways
    && not (list_any (contains nat_cmp offer.rules.methods) offer.rules.oneways.keys)
    && list_all has_good_eventgroups events && is_within 1 1024 offer.subscribers

abbrev want_test : InstanceId → WantedService → List (ℕ × BTreeSet ℕ) → Bool
want_test instance want groups = is_good_instance instance && nat_le want.major 0xFE && not (want.ttl == 0) && list_all is_good_eventgroup groups

same_want : (a b : InstanceId × WantedService) → CopiesWant a b → is_good_want b ≡ is_good_want a
same_want a b is = λ i. want_test (is.0 i) (is.1.0 i) (is.1.1 i)

-- an offer's port, and what is offered there
abbrev port_by : ℕ → InstanceId → ℕ × InstanceId
port_by port instance = (port, instance)

abbrev port_of : InstanceId × OfferedService → ℕ × InstanceId
port_of offer = port_by offer.1.rules.endpoint.port offer.0

port_same : (a b : InstanceId × OfferedService) → CopiesOffer a b → port_of b ≡ port_of a
port_same a b is = λ i. (port_by (is.1.1.0 i).endpoint.port (is.0 i))

-- ---- configurations

module _ (config copy : Config) (is : IsCopy config copy) where
  same_offer : (a b : InstanceId × OfferedService) → CopiesOffer a b → is_good_offer copy b ≡ is_good_offer config a
  same_offer a b both =
      (λ i. offer_test (is.0 i).address (is.0 i).client_port (both.0 i) (both.1.0 i) b.1.rules.events.entries)
      ∙ (λ i. offer_test config.address config.client_port a.0 (record a.1 { rules = both.1.1.0 i }) (both.1.1.1 i))

  own_ports : has_own_ports copy ≡ has_own_ports config
  own_ports =
      λ i. finite.len (map_of nat_cmp (map_same CopiesOffer port_of port_same config.offers.entries copy.offers.entries is.1 i))
      == length_same CopiesOffer config.offers.entries copy.offers.entries is.1 i

  good_same : is_good copy ≡ is_good config
  good_same =
      λ i. is_good_common (is.0 i).common && not (same_address (is.0 i).address (is.0 i).common.group) && is_good_port (is.0 i).client_port
      && all_same CopiesOffer (is_good_offer copy) (is_good_offer config) same_offer config.offers.entries copy.offers.entries is.1 i
      && all_same CopiesWant is_good_want is_good_want same_want config.wants.entries copy.wants.entries is.2 i
      && own_ports i

  pub copy_is_good : is_good config ≡ true → is_good copy ≡ true
  copy_is_good good = good_same ∙ good

-- ---- nodes

-- the copies of good configurations are good, each at its place
pub copies_are_good : (nodes : List SetupNode) (configs : List Config) → AreCopies nodes configs → AllByRecursion (λ node. is_good node.config ≡ true) nodes
    → (place : ℕ) (config : Config) → slice_get configs place ≡ Some config → is_good config ≡ true
copies_are_good [] [] are all place config is = absurd cc
copies_are_good [] (c ∷ cs) are all place config is = absurd are
copies_are_good (n ∷ ns) [] are all place config is = absurd are
copies_are_good (n ∷ ns) (c ∷ cs) are all zero config is =
    let same : c ≡ config = cc in ap is_good (sym same) ∙ copy_is_good n.config c are.0 all.0
copies_are_good (n ∷ ns) (c ∷ cs) are all (suc place) config is = copies_are_good ns cs are.1 all.1 place config is
