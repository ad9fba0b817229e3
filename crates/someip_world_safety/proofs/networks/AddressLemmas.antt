-- In a network that was read, nodes have addresses of their own, and none has that of the group.
use Rattle.std.proofs.Common.{◌≡◌, ◌≢◌, ℕ, zero, suc, Bool, true, false, ◌||◌, List, [], ◌∷◌, slice_get, Some, refl, sym, ap, ◌∙◌}
use Rattle.std.specs.List.{list_any}
use Rattle.std.proofs.lemmas.List.Elements.{recursion_from_All}
use Rattle.std.specs.declared.net.ipv4_addr.Ipv4Addr.{Ipv4Addr}
use Rattle.someip_tables.proofs.Entries.{own_test}
use Rattle.someip_tables.specs.EndpointOrder.{addresses_total}
use Rattle.someip_node_rules.specs.declared.config.Config.{Config}
use Rattle.someip_node_rules.specs.rules.Handling.{same_address}
use Rattle.someip_world_setup_keys.specs.Clashes.{has_repeat}
use Rattle.someip_world_setup.specs.GoodSetups.{IsGoodNetwork, IsGoodNode, Network, addresses_of}
use Rattle.someip_world_setup.specs.declared.setup_node.SetupNode.{SetupNode}
use Rattle.someip_world_rules.specs.Runs.{AreCopies}
use Rattle.someip_world_rules.proofs.Fronts.{all_got}
use Rattle.someip_world_safety.specs.Addresses.{AreOffGroup, HaveOwnAddresses}

-- neither of two holds
neither : (a b : Bool) → (a || b) ≡ false → (a ≡ false) × (b ≡ false)
neither true b is = absurd cc
neither false b is = (refl, is)

-- an address is none of several that it is not equal to by test
none_same : (x : Ipv4Addr) (xs : List Ipv4Addr) (q : ℕ) (b : Ipv4Addr) → list_any (same_address x) xs ≡ false → slice_get xs q ≡ Some b → x ≢ b
none_same x [] q b none is = absurd cc
none_same x (y ∷ ys) zero b none is = λ same.
    let one : y ≡ b = cc in
    let parts = neither (same_address x y) (list_any (same_address x) ys) none in
    let own = own_test addresses_total x in
    let both : same_address x x ≡ false = ap (same_address x) (same ∙ sym one) ∙ parts.0 in
    let clash = sym own ∙ both in absurd cc
none_same x (y ∷ ys) (suc q) b none is = none_same x ys q b (neither (same_address x y) (list_any (same_address x) ys) none).1 is

-- where none stands twice, equal ones stand at one place
one_place : (xs : List Ipv4Addr) → has_repeat same_address xs ≡ false → (p q : ℕ) (a b : Ipv4Addr) → slice_get xs p ≡ Some a → slice_get xs q ≡ Some b → a ≡ b → p ≡ q
one_place [] none p q a b first second same = absurd cc
one_place (x ∷ xs) none zero zero a b first second same = refl
one_place (x ∷ xs) none zero (suc q) a b first second same =
    let one : x ≡ a = cc in absurd (none_same x xs q b (neither _ (has_repeat same_address xs) none).0 second (one ∙ same))
one_place (x ∷ xs) none (suc p) zero a b first second same =
    let one : x ≡ b = cc in absurd (none_same x xs p a (neither _ (has_repeat same_address xs) none).0 first (one ∙ sym same))
one_place (x ∷ xs) none (suc p) (suc q) a b first second same = ap suc (one_place xs (neither (list_any (same_address x) xs) (has_repeat same_address xs) none).1 p q a b first second same)

-- the node of a copy
copied : (nodes : List SetupNode) (configs : List Config) → AreCopies nodes configs → (p : ℕ) (c : Config) → slice_get configs p ≡ Some c
    → (node : SetupNode) × (slice_get nodes p ≡ Some node) × (c.address ≡ node.config.address) × (c.common ≡ node.config.common)
copied [] [] are p c is = absurd cc
copied [] (d ∷ configs) are p c is = absurd are
copied (node ∷ nodes) [] are p c is = absurd are
copied (node ∷ nodes) (d ∷ configs) are zero c is =
    let one : d ≡ c = cc in (node, refl, ap (λ x. x.address) (sym one) ∙ ap (λ x. x.address) are.0.0, ap (λ x. x.common) (sym one) ∙ ap (λ x. x.common) are.0.0)
copied (node ∷ nodes) (d ∷ configs) are (suc p) c is = copied nodes configs are.1 p c is

-- the address of a node
address_at : (nodes : List SetupNode) (p : ℕ) (node : SetupNode) → slice_get nodes p ≡ Some node → slice_get (addresses_of nodes) p ≡ Some node.config.address
address_at [] p node is = absurd cc
address_at (x ∷ nodes) zero node is = let one : x ≡ node = cc in ap (λ y. Some y.config.address) one
address_at (x ∷ nodes) (suc p) node is = address_at nodes p node is

module _ (network : Network) (good : IsGoodNetwork network) (configs : List Config) (are : AreCopies network.nodes configs) where
  -- the group has no address of a node, and no two nodes have one
  parts : (list_any (same_address network.common.group) (addresses_of network.nodes) ≡ false) × (has_repeat same_address (addresses_of network.nodes) ≡ false)
  parts = neither (list_any (same_address network.common.group) (addresses_of network.nodes)) (has_repeat same_address (addresses_of network.nodes)) good.addresses

  -- nodes have addresses of their own
  pub own_addresses : HaveOwnAddresses configs
  own_addresses p q c d first second same =
      let a = copied network.nodes configs are p c first in
      let b = copied network.nodes configs are q d second in
      one_place (addresses_of network.nodes) parts.1 p q a.0.config.address b.0.config.address (address_at network.nodes p a.0 a.1) (address_at network.nodes q b.0 b.1)
      (sym a.2 ∙ same ∙ b.2)

  -- and none has that of the group
  pub off_group : AreOffGroup configs
  off_group address config place node here =
      let a = copied network.nodes configs are node.0 node.1 node.2 in
      let b = copied network.nodes configs are place config here in
      let shared = (all_got (IsGoodNode network.common) network.nodes place b.0 (recursion_from_All (IsGoodNode network.common) network.nodes good.nodes) b.1).shared in
      let group : config.common.group ≡ network.common.group = ap (λ x. x.group) (b.3 ∙ shared) in
      λ same. none_same network.common.group (addresses_of network.nodes) node.0 a.0.config.address parts.0 (address_at network.nodes node.0 a.0 a.1)
      (sym group ∙ sym same ∙ sym node.3 ∙ a.2)
