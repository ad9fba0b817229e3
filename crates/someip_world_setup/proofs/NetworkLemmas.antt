-- A network that is made of values in range that do not clash is a good one.
use Rattle.std.proofs.Common.{◌≡◌, ℕ, ◌==◌, true, false, not, ◌&&◌, List, [], ◌∷◌, ◌++◌, length, map, bytes_eq, Option, Some, refl, sym, ap, ◌∙◌, subst, arith}
use Rattle.std.specs.List.{list_any, list_all, flat_map, AllByRecursion, All}
use Rattle.std.specs.List.Sorted.{IsPermutation}
use Rattle.std.specs.Option.{IfSome, is_some}
use Rattle.std.specs.Ordering.{nat_cmp}
use Rattle.std.specs.Cmp.{eq_by_cmp_equiv, nat_cmp_total}
use Rattle.std.specs.FinMap.{FinMap, contains_key, from_entries, get-from_entries, len, len-empty, len-insert}
use Rattle.std.specs.FinMap.Entries.{is_some-find}
use Rattle.std.specs.declared.net.ipv4_addr.Ipv4Addr.{Ipv4Addr}
use Rattle.std.proofs.lemmas.Bool.{and_from, or_parts, not_from_false, eq-eqb, ne_eqb}
use Rattle.std.proofs.lemmas.List.{length-map}
use Rattle.std.proofs.lemmas.List.Elements.{All-nil, All-cons}
use Rattle.std.proofs.lemmas.List.Sorted.{IsPermutation-refl, IsPermutation-map, IsPermutation-append}
use Rattle.sd_core.specs.declared.keys.InstanceId.{InstanceId}
use Rattle.sd_core.specs.KeyOrder.{instances_total}
use Rattle.someip_node_rules.specs.declared.config.Common.{Common}
use Rattle.someip_node_rules.specs.declared.config.Config.{Config}
use Rattle.someip_node_rules.specs.declared.config.OfferedService.{OfferedService}
use Rattle.someip_node_rules.specs.declared.config.WantedService.{WantedService}
use Rattle.someip_node_rules.specs.forms.GoodConfigs.{is_within, is_good_common, is_good_port, is_good_offer, is_good_want, has_own_ports, is_good}
use Rattle.someip_node_rules.specs.rules.Handling.{same_address}
use Rattle.someip_world_setup.specs.declared.setup_node.SetupNode.{SetupNode}
use Rattle.someip_world_setup_keys.specs.Keys.{is_name}
use Rattle.someip_world_setup_keys.specs.Clashes.{has_repeat, same_number, same_instance, has_equal_names, has_equal_addresses, has_equal_ports, offered_by, has_equal_offers, has_equal_wants, has_equal_ids_offered, has_equal_ids_wanted, has_equal_ids_of, has_liar_offers, has_liar_wants, has_liar_tables, has_clash}
use Rattle.someip_world_setup.specs.GoodSetups.{IsGoodNode, instances_of, IsGoodNetwork}
use Rattle.someip_world_setup_keys.specs.Values.{OfferValue, NodeValue, common_view}
use Rattle.someip_world_setup_keys.specs.Made.{OfferMade, ConfigMade, plain_entries, offered_view, wanted_view, config_view, keyed_offer, keyed_want, offers_made, wants_made, config_made}
use Rattle.someip_world_setup.specs.NodesMade.{NodeMade, made_view, node_made}
use Rattle.someip_world_setup_keys.proofs.MakingLemmas.{map_after}
use Rattle.someip_world_setup_keys.proofs.OrderLemmas.{all-permutation, repeat-permutation, repeat-append}
use Rattle.someip_world_setup_keys.proofs.RangeLemmas.{NodeRange, SetupRange}
use Rattle.someip_world_setup_keys.proofs.NodeLemmas.{addresses_alike, good_offer_made, good_want_made, offers_seen, wants_seen, good_port, offers_pass, wants_pass, offers-permutation, wants-permutation}

-- ---- an index of what has a port each has as many entries

module _ {A B : Type 0} (f : A → ℕ) (g : A → B) where
  abbrev index : List A → FinMap nat_cmp B
  index es = from_entries {R = nat_cmp} (map (λ e. (f e, g e)) es)

  has-index : (port : ℕ) (es : List A) → contains_key (index es) port ≡ list_any (same_number port) (map f es)
  has-index port es =
      ap is_some (get-from_entries nat_cmp_total (map (λ e. (f e, g e)) es) port)
      ∙ is_some-find nat_cmp port (map (λ e. (f e, g e)) es)
      ∙ ap (list_any (same_number port)) (sym (map_after (λ (e : ℕ × B). e.0) (λ e. (f e, g e)) es))

  len-index : (es : List A) → has_repeat same_number (map f es) ≡ false → len (index es) ≡ length es
  len-index [] h = len-empty nat_cmp B
  len-index (e ∷ es) h =
      let parts = or_parts (list_any (same_number (f e)) (map f es)) (has_repeat same_number (map f es)) h in
      let rest : len (index es) ≡ length es = len-index es parts.1 in
      rw (len-insert nat_cmp_total (index es) (f e) (g e), has-index (f e) es, parts.0) (omega (arith, rest))

abbrev port_made : InstanceId × OfferMade → ℕ
port_made e = e.1.endpoint.port

abbrev port_offered : InstanceId × OfferedService → ℕ
port_offered e = e.1.rules.endpoint.port

-- ---- configurations

module _ (common : Common) (n : NodeValue) (c : Config) (is : config_view c ≡ config_made common n) where
  offers_are : plain_entries offered_view c.offers.entries ≡ offers_made n.address n.offers
  offers_are = ap (λ (m : ConfigMade). m.offers) is

  good_offers : (least most : ℕ) → NodeRange least most n → has_equal_ports n ≡ false → has_repeat same_instance (offered_by n) ≡ false → list_any has_equal_ids_offered n.offers ≡ false → list_all (is_good_offer c) c.offers.entries ≡ true
  good_offers least most h ports offered ids =
      let a = or_parts (list_any (same_number 30490) (n.client_port ∷ map (λ (o : OfferValue). o.port) n.offers)) (has_repeat same_number (n.client_port ∷ map (λ (o : OfferValue). o.port) n.offers)) ports in
      let discovery = or_parts (same_number 30490 n.client_port) (list_any (same_number 30490) (map (λ (o : OfferValue). o.port) n.offers)) a.0 in
      let client = or_parts (list_any (same_number n.client_port) (map (λ (o : OfferValue). o.port) n.offers)) (has_repeat same_number (map (λ (o : OfferValue). o.port) n.offers)) a.1 in
      offers_seen c c.offers.entries
      ∙ ap (λ address. list_all (good_offer_made address c.client_port) (plain_entries offered_view c.offers.entries)) (ap (λ (m : ConfigMade). m.address) is)
      ∙ ap (λ port. list_all (good_offer_made n.address port) (plain_entries offered_view c.offers.entries)) (ap (λ (m : ConfigMade). m.client_port) is)
      ∙ ap (list_all (good_offer_made n.address n.client_port)) offers_are
      ∙ all-permutation (good_offer_made n.address n.client_port) (map (keyed_offer n.address) n.offers) (offers_made n.address n.offers) (offers-permutation n.address n.offers offered)
      (offers_pass n.address n.client_port n.offers h.offers ids discovery.1 client.0)

  good_wants : (least most : ℕ) → NodeRange least most n → has_equal_wants n ≡ false → list_any has_equal_ids_wanted n.wants ≡ false → list_all is_good_want c.wants.entries ≡ true
  good_wants least most h wanted ids =
      wants_seen c.wants.entries
      ∙ ap (list_all good_want_made) (ap (λ (m : ConfigMade). m.wants) is)
      ∙ all-permutation good_want_made (map keyed_want n.wants) (wants_made n.wants) (wants-permutation n.wants wanted) (wants_pass n.wants h.wants ids)

  own_ports : has_equal_ports n ≡ false → has_repeat same_instance (offered_by n) ≡ false → has_own_ports c ≡ true
  own_ports ports offered =
      let a = or_parts (list_any (same_number 30490) (n.client_port ∷ map (λ (o : OfferValue). o.port) n.offers)) (has_repeat same_number (n.client_port ∷ map (λ (o : OfferValue). o.port) n.offers)) ports in
      let client = or_parts (list_any (same_number n.client_port) (map (λ (o : OfferValue). o.port) n.offers)) (has_repeat same_number (map (λ (o : OfferValue). o.port) n.offers)) a.1 in
      let apart : has_repeat same_number (map port_made (map (keyed_offer n.address) n.offers)) ≡ false =
      ap (has_repeat same_number) (sym (map_after port_made (keyed_offer n.address) n.offers)) ∙ client.1 in
      let made : has_repeat same_number (map port_made (offers_made n.address n.offers)) ≡ false =
      repeat-permutation same_number (eq_by_cmp_equiv nat_cmp_total) _ _ (IsPermutation-map port_made _ _ (offers-permutation n.address n.offers offered)) apart in
      let kept : has_repeat same_number (map port_offered c.offers.entries) ≡ false =
      ap (has_repeat same_number) (map_after port_made (λ (e : InstanceId × OfferedService). (e.0, offered_view e.1)) c.offers.entries ∙ ap (map port_made) offers_are) ∙ made in
      eq-eqb _ _ (len-index port_offered (λ e. e.0) c.offers.entries kept)

  pub good_config : (least most : ℕ) → is_good_common common ≡ true → NodeRange least most n → same_address common.group n.address ≡ false → has_equal_ports n ≡ false
      → has_repeat same_instance (offered_by n) ≡ false → has_equal_wants n ≡ false → has_equal_ids_of n ≡ false → is_good c ≡ true
  good_config least most good h apart ports offered wanted ids =
      let a = or_parts (list_any (same_number 30490) (n.client_port ∷ map (λ (o : OfferValue). o.port) n.offers)) (has_repeat same_number (n.client_port ∷ map (λ (o : OfferValue). o.port) n.offers)) ports in
      let discovery = or_parts (same_number 30490 n.client_port) (list_any (same_number 30490) (map (λ (o : OfferValue). o.port) n.offers)) a.0 in
      let i = or_parts (list_any has_equal_ids_offered n.offers) (list_any has_equal_ids_wanted n.wants) ids in
      let shared : c.common ≡ common = ap (λ (m : ConfigMade). m.common) is in
      let there : same_address c.address c.common.group ≡ false =
      ap (λ (a : Ipv4Addr). same_address a c.common.group) (ap (λ (m : ConfigMade). m.address) is) ∙ ap (λ (m : Common). same_address n.address m.group) shared ∙ addresses_alike.symm n.address common.group ∙ apart in
      and_from _ _ (and_from _ _ (and_from _ _ (and_from _ _ (and_from _ _
      (ap is_good_common shared ∙ good)
      (not_from_false _ there))
      (ap is_good_port (ap (λ (m : ConfigMade). m.client_port) is) ∙ good_port n.client_port h.client_port discovery.0))
      (good_offers least most h ports offered i.0))
      (good_wants least most h wanted i.1))
      (own_ports ports offered)

-- ---- liars

no_elements : {A : Type 0} (xs : List A) → not (length xs == 0) ≡ false → xs ≡ []
no_elements [] h = refl
no_elements (x ∷ xs) h =
    let some : (length (x ∷ xs) == 0) ≡ false = ne_eqb (length (x ∷ xs)) 0 (λ is. omega (arith, is)) in
    let never : true ≡ false = sym (ap not some) ∙ h in absurd cc

nothing_mapped : {A B : Type 0} (f : A → B) (xs : List A) → map f xs ≡ [] → xs ≡ []
nothing_mapped f [] h = refl
nothing_mapped f (x ∷ xs) h = cc

-- a liar that has no table of offers or wants is made with nothing that it offers or wants
bare_node : (common : Common) (m : SetupNode) (n : NodeValue) → made_view m ≡ node_made common n → has_liar_tables n ≡ false → m.is_liar ≡ true
    → (m.config.offers.entries ≡ []) × (m.config.wants.entries ≡ [])
bare_node common m n is bare lies =
    let lying : n.liar ≡ true = sym (ap (λ (x : NodeMade). x.is_liar) is) ∙ lies in
    let parts = or_parts (has_liar_offers n) (has_liar_wants n) bare in
    let offers : n.offers ≡ [] = no_elements n.offers (sym (ap (λ b. b && not (length n.offers == 0)) lying) ∙ parts.0) in
    let wants : n.wants ≡ [] = no_elements n.wants (sym (ap (λ b. b && not (length n.wants == 0)) lying) ∙ parts.1) in (
      nothing_mapped (λ (e : InstanceId × OfferedService). (e.0, offered_view e.1)) m.config.offers.entries (ap (λ (x : NodeMade). x.config.offers) is ∙ ap (offers_made n.address) offers),
      nothing_mapped (λ (e : InstanceId × WantedService). (e.0, wanted_view e.1)) m.config.wants.entries (ap (λ (x : NodeMade). x.config.wants) is ∙ ap wants_made wants),
    )

-- ---- nodes

module _ (common : Common) (good : is_good_common common ≡ true) where
  good_node : (m : SetupNode) (n : NodeValue) → made_view m ≡ node_made common n → NodeRange common.initial_min_ms common.initial_max_ms n → same_address common.group n.address ≡ false → has_equal_ports n ≡ false
      → has_repeat same_instance (offered_by n) ≡ false → has_equal_wants n ≡ false → has_equal_ids_of n ≡ false → has_liar_tables n ≡ false → IsGoodNode common m
  good_node m n is h apart ports offered wanted ids bare = record {
    name = ap (λ (x : NodeMade). is_name x.name) is ∙ h.name;
    shared = ap (λ (x : NodeMade). x.config.common) is;
    config = good_config common n m.config (ap (λ (x : NodeMade). x.config) is) common.initial_min_ms common.initial_max_ms good h apart ports offered wanted ids;
    delay = ap (λ (x : NodeMade). is_within x.config.common.initial_min_ms x.config.common.initial_max_ms x.delay) is ∙ h.delay;
    bare = bare_node common m n is bare;
  }

  pub good_nodes : (ms : List SetupNode) (ns : List NodeValue) → map made_view ms ≡ map (node_made common) ns → AllByRecursion (NodeRange common.initial_min_ms common.initial_max_ms) ns
      → list_any (same_address common.group) (map (λ n. n.address) ns) ≡ false → list_any has_equal_ports ns ≡ false → has_repeat same_instance (flat_map offered_by ns) ≡ false
      → list_any has_equal_wants ns ≡ false → list_any has_equal_ids_of ns ≡ false → list_any has_liar_tables ns ≡ false → All (IsGoodNode common) ms
  good_nodes [] ns is h apart ports offered wanted ids bare = All-nil (IsGoodNode common)
  good_nodes (m ∷ ms) [] is h apart ports offered wanted ids bare = cc
  good_nodes (m ∷ ms) (n ∷ ns) is h apart ports offered wanted ids bare =
      let first : made_view m ≡ node_made common n = cc in
      let others : map made_view ms ≡ map (node_made common) ns = cc in
      let a = or_parts (same_address common.group n.address) (list_any (same_address common.group) (map (λ (x : NodeValue). x.address) ns)) apart in
      let b = or_parts (has_equal_ports n) (list_any has_equal_ports ns) ports in
      let o = repeat-append same_instance (offered_by n) (flat_map offered_by ns) offered in
      let w = or_parts (has_equal_wants n) (list_any has_equal_wants ns) wanted in
      let i = or_parts (has_equal_ids_of n) (list_any has_equal_ids_of ns) ids in
      let l = or_parts (has_liar_tables n) (list_any has_liar_tables ns) bare in
      All-cons (IsGoodNode common) _ _ (good_node m n first h.0 a.0 b.0 o.0 w.0 i.0 l.0) (good_nodes ms ns others h.1 a.1 b.1 o.1 w.1 i.1 l.1)

-- ---- the instances of all nodes

abbrev instances_made : NodeMade → List InstanceId
instances_made m = map (λ e. e.0) m.config.offers

instances_seen : (ms : List SetupNode) → flat_map instances_of ms ≡ flat_map instances_made (map made_view ms)
instances_seen [] = refl
instances_seen (m ∷ ms) =
    ap (λ t. t ++ flat_map instances_of ms) (map_after (λ (e : InstanceId × OfferMade). e.0) (λ (e : InstanceId × OfferedService). (e.0, offered_view e.1)) m.config.offers.entries)
    ∙ ap (λ t. instances_made (made_view m) ++ t) (instances_seen ms)

instances-permutation : (common : Common) (ns : List NodeValue) → has_repeat same_instance (flat_map offered_by ns) ≡ false → IsPermutation (flat_map offered_by ns) (flat_map instances_made (map (node_made common) ns))
instances-permutation common [] h = IsPermutation-refl []
instances-permutation common (n ∷ ns) h =
    let parts = repeat-append same_instance (offered_by n) (flat_map offered_by ns) h in
    let here : IsPermutation (map (λ (e : InstanceId × OfferMade). e.0) (map (keyed_offer n.address) n.offers)) (map (λ (e : InstanceId × OfferMade). e.0) (offers_made n.address n.offers)) =
    IsPermutation-map (λ (e : InstanceId × OfferMade). e.0) _ _ (offers-permutation n.address n.offers parts.0) in
    IsPermutation-append (offered_by n) (instances_made (node_made common n)) (flat_map offered_by ns) (flat_map instances_made (map (node_made common) ns))
    (subst (λ t. IsPermutation t (instances_made (node_made common n))) (sym (map_after (λ (e : InstanceId × OfferMade). e.0) (keyed_offer n.address) n.offers)) here)
    (instances-permutation common ns parts.1)

-- ---- the network

-- what both say of their nodes is the same
transferred : {B : Type 0} (common : Common) (f : NodeMade → B) (ms : List SetupNode) (ns : List NodeValue) → map made_view ms ≡ map (node_made common) ns → map (λ m. f (made_view m)) ms ≡ map (λ n. f (node_made common n)) ns
transferred common f ms ns is = map_after f made_view ms ∙ ap (map f) is ∙ sym (map_after f (node_made common) ns)

pub good_network : (common : Common) (ns : List NodeValue) (ms : List SetupNode) → SetupRange (record { common = common_view common; nodes = ns }) → has_clash (record { common = common_view common; nodes = ns }) ≡ false
    → is_good_common common ≡ true → map made_view ms ≡ map (node_made common) ns → IsGoodNetwork (record { common = common; nodes = ms })
good_network common ns ms h clash good is =
    let g = or_parts _ (list_any has_liar_tables ns) clash in
    let f = or_parts _ (list_any has_equal_ids_of ns) g.0 in
    let e = or_parts _ (list_any has_equal_wants ns) f.0 in
    let d = or_parts _ (has_equal_offers ns) e.0 in
    let c = or_parts _ (list_any has_equal_ports ns) d.0 in
    let b = or_parts (has_equal_names ns) (has_equal_addresses common.group ns) c.0 in
    let apart = or_parts (list_any (same_address common.group) (map (λ (n : NodeValue). n.address) ns)) (has_repeat same_address (map (λ (n : NodeValue). n.address) ns)) b.1 in
    let many : length ms ≡ length ns = sym (length-map ms made_view) ∙ ap length is ∙ length-map ns (node_made common) in
    record {
      common = good;
      phases = and_from _ _ (and_from _ _ h.phases.base h.phases.repetitions) h.phases.cyclic;
      count = ap (is_within 1 64) many ∙ h.count;
      nodes = good_nodes common good ms ns is h.nodes apart.0 c.1 d.1 e.1 f.1 g.1;
      names = ap (has_repeat bytes_eq) (transferred common (λ m. m.name) ms ns is) ∙ b.0;
      addresses = ap (λ t. has_repeat same_address (common.group ∷ t)) (transferred common (λ m. m.config.address) ms ns is) ∙ b.1;
      instances = ap (has_repeat same_instance) (instances_seen ms ∙ ap (flat_map instances_made) is)
          ∙ repeat-permutation same_instance (eq_by_cmp_equiv instances_total) _ _ (instances-permutation common ns d.1) d.1;
    }

-- what was found is in its range, if anything that is found is
pub at_some : {A : Type 0} (P : A → Type 0) (o : Option A) (x : A) → o ≡ Some x → IfSome o P → P x
at_some P o x is h = rw is at h
