-- In a network that was read, each offer is at its node's own address, and is the only one of its instance.
use Rattle.std.proofs.Common.{◌≡◌, ℕ, zero, suc, Bool, true, false, ◌||◌, cond, List, [], ◌∷◌, ◌++◌, map, slice_get, Some, refl, sym, ap, subst, ◌∙◌}
use Rattle.std.specs.List.{AllByRecursion, AllZip, flat_map, list_any}
use Rattle.std.specs.Map.{lookup}
use Rattle.std.specs.BTreeMap.{is_at}
use Rattle.std.specs.Net.Socket.{v4_ip}
use Rattle.std.proofs.lemmas.List.Elements.{recursion_from_All}
use Rattle.someip_tables.proofs.Entries.{own_test, same_by_test}
use Rattle.sd_core.specs.KeyOrder.{exact_instances, instances_total}
use Rattle.sd_core.specs.Keys.{instance_cmp}
use Rattle.sd_core.specs.declared.keys.InstanceId.{InstanceId}
use Rattle.someip_node_rules.specs.trails.Copies.{IsCopy, IsCopyOfOffer}
use Rattle.someip_node_rules.specs.declared.config.Config.{Config}
use Rattle.someip_node_rules.specs.declared.config.OfferedService.{OfferedService}
use Rattle.someip_node_rules.proofs.forms.GoodConfigParts.{good_offers, own_address}
use Rattle.someip_node_rules.specs.forms.GoodConfigs.{is_good, is_good_offer}
use Rattle.someip_node_rules.proofs.lists.MemberLemmas.{all_both, at_member}
use Rattle.someip_world_setup_keys.specs.Clashes.{has_repeat, same_instance}
use Rattle.someip_world_setup.specs.GoodSetups.{IsGoodNetwork, IsGoodNode, Network, instances_of}
use Rattle.someip_world_setup.specs.declared.setup_node.SetupNode.{SetupNode}
use Rattle.someip_world_rules.specs.Runs.{AreCopies}
use Rattle.someip_world_rules.proofs.Fronts.{all_got}
use Rattle.someip_world_safety.specs.OwnOffers.{HaveOwnOffers, OffersAtOwn}

-- an offer, under its instance
abbrev Offer : Type 0
Offer = InstanceId × OfferedService

-- ---- tests of lists

-- neither of two holds
neither : (a b : Bool) → (a || b) ≡ false → (a ≡ false) × (b ≡ false)
neither true b is = absurd cc
neither false b is = (refl, is)

-- what holds of none of two lists holds of none of either
no_two : (p : InstanceId → Bool) (xs ys : List InstanceId) → list_any p (xs ++ ys) ≡ false → (list_any p xs ≡ false) × (list_any p ys ≡ false)
no_two p [] ys none = (refl, none)
no_two p (x ∷ xs) ys none =
    let parts = neither (p x) (list_any p (xs ++ ys)) none in
    let rest = no_two p xs ys parts.1 in
    ((λ i. parts.0 i || rest.0 i), rest.1)

-- where none of two lists stands twice, none of either does
no_repeats : (xs ys : List InstanceId) → has_repeat same_instance (xs ++ ys) ≡ false → (has_repeat same_instance xs ≡ false) × (has_repeat same_instance ys ≡ false)
no_repeats [] ys none = (refl, none)
no_repeats (x ∷ xs) ys none =
    let parts = neither (list_any (same_instance x) (xs ++ ys)) (has_repeat same_instance (xs ++ ys)) none in
    let here = no_two (same_instance x) xs ys parts.0 in
    let rest = no_repeats xs ys parts.1 in
    ((λ i. here.0 i || rest.0 i), rest.1)

-- no node offers an instance twice
none_twice : (nodes : List SetupNode) (p : ℕ) (node : SetupNode) → has_repeat same_instance (flat_map instances_of nodes) ≡ false → slice_get nodes p ≡ Some node
    → has_repeat same_instance (instances_of node) ≡ false
none_twice [] p node none is = absurd cc
none_twice (x ∷ nodes) zero node none is =
    let one : x ≡ node = cc in
    ap (λ y. has_repeat same_instance (instances_of y)) (sym one) ∙ (no_repeats (instances_of x) (flat_map instances_of nodes) none).0
none_twice (x ∷ nodes) (suc p) node none is = none_twice nodes p node (no_repeats (instances_of x) (flat_map instances_of nodes) none).1 is

-- ---- offers of one configuration

-- no offer of several has an instance of which a test holds
none_passes : (p : InstanceId → Bool) (es : List Offer) → list_any p (map (λ e. e.0) es) ≡ false → AllByRecursion (λ e. p e.0 ≡ false) es
none_passes p [] none = tt
none_passes p (e ∷ es) none = let parts = neither (p e.0) (list_any p (map (λ e. e.0) es)) none in (parts.0, none_passes p es parts.1)

-- one instance is not another by test
no_other : (a b : InstanceId) → same_instance a b ≡ false → (c : Bool) → same_instance b a ≡ c → c ≡ false
no_other a b none true is =
    let same : b ≡ a = same_by_test exact_instances b a is in
    let own = own_test instances_total a in
    let both : same_instance a a ≡ false = ap (same_instance a) (sym same) ∙ none in
    let clash = sym own ∙ both in absurd cc
no_other a b none false is = refl

-- an offer is found under its instance
abbrev IsFound : List Offer → Offer → Type 0
IsFound es e = lookup (is_at (instance_cmp e.0)) es ≡ Some e.1

-- what is found is found after one of another instance
found_behind : (first : Offer) (es : List Offer) (e : Offer) → IsFound es e → same_instance first.0 e.0 ≡ false → IsFound (first ∷ es) e
found_behind first es e found none =
    let other : is_at (instance_cmp e.0) first.0 ≡ false = no_other first.0 e.0 none (same_instance e.0 first.0) refl in
    ap (λ b. cond b (Some first.1) (lookup (is_at (instance_cmp e.0)) es)) other ∙ found

-- where no instance stands twice, each offer is found under its own
each_found : (es : List Offer) → has_repeat same_instance (map (λ e. e.0) es) ≡ false → AllByRecursion (IsFound es) es
each_found [] none = tt
each_found (e ∷ es) none =
    let parts = neither (list_any (same_instance e.0) (map (λ e. e.0) es)) (has_repeat same_instance (map (λ e. e.0) es)) none in
    let own : is_at (instance_cmp e.0) e.0 ≡ true = own_test instances_total e.0 in (
      ap (λ b. cond b (Some e.1) (lookup (is_at (instance_cmp e.0)) es)) own,
      all_both (IsFound es) (λ x. same_instance e.0 x.0 ≡ false) (IsFound (e ∷ es)) (λ x found other. found_behind e es x found other) es
          (each_found es parts.1) (none_passes (same_instance e.0) es parts.0),
    )

-- ---- copies

-- an offer is copied
abbrev CopiesOffer : Offer → Offer → Type 0
CopiesOffer a b = (b.0 ≡ a.0) × IsCopyOfOffer a.1 b.1

-- copies are of the same instances
same_instances : (xs ys : List Offer) → AllZip CopiesOffer xs ys → map (λ e. e.0) ys ≡ map (λ e. e.0) xs
same_instances [] [] all = refl
same_instances [] (y ∷ ys) all = absurd all
same_instances (x ∷ xs) [] all = absurd all
same_instances (x ∷ xs) (y ∷ ys) all = λ i. all.0.0 i ∷ same_instances xs ys all.1 i

-- what holds of all holds of their copies
copied_all : (P Q : Offer → Type 0) → ((a b : Offer) → CopiesOffer a b → P a → Q b) → (xs ys : List Offer) → AllZip CopiesOffer xs ys → AllByRecursion P xs → AllByRecursion Q ys
copied_all P Q goes [] [] are all = tt
copied_all P Q goes [] (y ∷ ys) are all = absurd are
copied_all P Q goes (x ∷ xs) [] are all = absurd are
copied_all P Q goes (x ∷ xs) (y ∷ ys) are all = (goes x y are.0 all.0, copied_all P Q goes xs ys are.1 all.1)

-- a copy of a good configuration without an instance twice offers at its own
copy_offers : (config copy : Config) → IsCopy config copy → is_good config ≡ true → has_repeat same_instance (map (λ e. e.0) config.offers.entries) ≡ false → OffersAtOwn copy
copy_offers config copy is good none instance service among =
    let address : config.address ≡ copy.address = sym (ap (λ c. c.address) is.0) in
    let at =
    copied_all (λ e. is_good_offer config e ≡ true) (λ e. v4_ip e.1.rules.endpoint ≡ copy.address)
    (λ a b copies fine. ap (λ r. v4_ip r.endpoint) copies.1.1.0 ∙ own_address config a fine ∙ address) config.offers.entries copy.offers.entries is.1
    (good_offers config good) in
    let found = each_found copy.offers.entries (ap (has_repeat same_instance) (same_instances config.offers.entries copy.offers.entries is.1) ∙ none) in (
      at_member (λ e. v4_ip e.1.rules.endpoint ≡ copy.address) copy.offers.entries (instance, service) at among,
      at_member (IsFound copy.offers.entries) copy.offers.entries (instance, service) found among,
    )

-- the node of a copy
pub copy_at : (nodes : List SetupNode) (configs : List Config) → AreCopies nodes configs → (p : ℕ) (c : Config) → slice_get configs p ≡ Some c
    → (node : SetupNode) × (slice_get nodes p ≡ Some node) × IsCopy node.config c
copy_at [] [] are p c is = absurd cc
copy_at [] (d ∷ configs) are p c is = absurd are
copy_at (node ∷ nodes) [] are p c is = absurd are
copy_at (node ∷ nodes) (d ∷ configs) are zero c is = let one : d ≡ c = cc in (node, refl, subst (IsCopy node.config) one are.0)
copy_at (node ∷ nodes) (d ∷ configs) are (suc p) c is = copy_at nodes configs are.1 p c is

-- in a network that was read, each offer is at its node's own address, and is the only one of its instance
pub own_offers : (network : Network) → IsGoodNetwork network → (configs : List Config) → AreCopies network.nodes configs → HaveOwnOffers configs
own_offers network good configs are place config here =
    let a = copy_at network.nodes configs are place config here in
    let node = all_got (IsGoodNode network.common) network.nodes place a.0 (recursion_from_All (IsGoodNode network.common) network.nodes good.nodes) a.1 in
    copy_offers a.0.config config a.2 node.config (none_twice network.nodes place a.0 good.instances a.1)
