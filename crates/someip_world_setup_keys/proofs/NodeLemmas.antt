-- What is made of a node whose values are in range and do not clash is a configuration that it may be set up with.
use Rattle.std.proofs.Common.{◌≡◌, ℕ, ◌==◌, Bool, true, false, not, ◌&&◌, ◌||◌, nat_le, List, [], ◌∷◌, ◌++◌, length, map, refl, sym, ap, ◌∙◌}
use Rattle.std.specs.List.{list_any, list_all, AllByRecursion}
use Rattle.std.specs.List.Sorted.{IsPermutation}
use Rattle.std.specs.Ordering.{nat_cmp}
use Rattle.std.specs.Cmp.{IsEquivalence, eq_by_cmp_equiv, nat_cmp_total, unsigned_ties}
use Rattle.std.specs.BTreeMap.{is_at}
use Rattle.std.specs.BTreeSet.{BTreeSet}
use Rattle.std.specs.Net.Socket.{v4_ip, v4_port}
use Rattle.std.specs.declared.net.ipv4_addr.Ipv4Addr.{Ipv4Addr}
use Rattle.std.proofs.lemmas.Bool.{and_from, or_parts, or_from, not_from_false, eq-eqb}
use Rattle.std.specs.Net.Addr.{ipv4_octets}
use Rattle.std.proofs.lemmas.Cmp.{on_total, nat_list_cmp_total}
use Rattle.std.proofs.lemmas.List.Folds.{list_all-map, list_any-append}
use Rattle.std.proofs.lemmas.List.Sorted.{list_any-IsPermutation, length_permutation}
use Rattle.sd_core.specs.declared.keys.InstanceId.{InstanceId}
use Rattle.sd_core.specs.Keys.{instance_cmp}
use Rattle.sd_core.specs.KeyOrder.{instances_total}
use Rattle.someip_node_rules.specs.declared.config.Config.{Config}
use Rattle.someip_node_rules.specs.declared.config.OfferedService.{OfferedService}
use Rattle.someip_node_rules.specs.declared.config.WantedService.{WantedService}
use Rattle.someip_node_rules.specs.forms.GoodConfigs.{is_within, is_good_port, is_good_id, is_good_event, is_good_instance, is_good_offer, is_good_want}
use Rattle.someip_node_rules.specs.rules.Handling.{same_address}
use Rattle.someip_world_setup_keys.specs.Clashes.{has_repeat, same_number, same_instance, offered_id, wanted_id, has_equal_members, has_equal_ids, has_equal_ids_offered, has_equal_ids_wanted}
use Rattle.someip_world_setup_keys.specs.Values.{ListedValue, OfferValue, WantValue}
use Rattle.someip_world_setup_keys.specs.Made.{OfferMade, WantMade, plain_entries, keys_of_set, set_of, keyed_list, lists_of, offered_view, wanted_view, keyed_offer, keyed_want, offers_made, wants_made}
use Rattle.someip_world_setup_keys.proofs.MakingLemmas.{map_after}
use Rattle.someip_world_setup_keys.proofs.OrderLemmas.{all-permutation, set-permutation, map-permutation, repeat-append}
use Rattle.someip_world_setup_keys.proofs.RangeLemmas.{EventRange, OfferRange, GroupRange, WantRange}

-- ---- offers and wants as plain values

abbrev pub good_event_made : ℕ × List ℕ → Bool
good_event_made event = is_good_event event.0 && not (length event.1 == 0) && list_all is_good_id event.1

abbrev pub good_offer_made : Ipv4Addr → ℕ → InstanceId × OfferMade → Bool
good_offer_made address client_port offer =
    is_good_instance offer.0
    && (offer.1.service == offer.0.service) && (offer.1.instance == offer.0.instance)
    && nat_le offer.1.major 0xFE && nat_le offer.1.minor 0xFFFFFFFE && not (offer.1.ttl == 0)
    && same_address (v4_ip offer.1.endpoint) address
    && is_good_port (v4_port offer.1.endpoint) && not (v4_port offer.1.endpoint == client_port)
    && list_all (λ m. nat_le m 0x7FFF) offer.1.methods && list_all (λ m. nat_le m 0x7FFF) offer.1.oneways
    && not (list_any (λ k. list_any (is_at (nat_cmp k)) offer.1.methods) offer.1.oneways)
    && list_all good_event_made offer.1.events && is_within 1 1024 offer.1.subscribers

abbrev pub good_group_made : ℕ × List ℕ → Bool
good_group_made group = is_good_id group.0 && list_all is_good_event group.1

abbrev pub good_want_made : InstanceId × WantMade → Bool
good_want_made want = is_good_instance want.0 && nat_le want.1.major 0xFE && not (want.1.ttl == 0) && list_all good_group_made want.1.groups

offer_seen : (config : Config) (e : InstanceId × OfferedService) → is_good_offer config e ≡ good_offer_made config.address config.client_port (e.0, offered_view e.1)
offer_seen config e = rw (list_all-map good_event_made (λ (x : ℕ × BTreeSet ℕ). (x.0, keys_of_set x.1)) e.1.rules.events.entries) refl

want_seen : (e : InstanceId × WantedService) → is_good_want e ≡ good_want_made (e.0, wanted_view e.1)
want_seen e = rw (list_all-map good_group_made (λ (x : ℕ × BTreeSet ℕ). (x.0, keys_of_set x.1)) e.1.groups.entries) refl

pub offers_seen : (config : Config) (es : List (InstanceId × OfferedService)) → list_all (is_good_offer config) es ≡ list_all (good_offer_made config.address config.client_port) (plain_entries offered_view es)
offers_seen config [] = refl
offers_seen config (e ∷ es) = rw (offer_seen config e, offers_seen config es) refl

pub wants_seen : (es : List (InstanceId × WantedService)) → list_all is_good_want es ≡ list_all good_want_made (plain_entries wanted_view es)
wants_seen [] = refl
wants_seen (e ∷ es) = rw (want_seen e, wants_seen es) refl

-- ---- addresses

pub addresses_alike : IsEquivalence same_address
addresses_alike = eq_by_cmp_equiv (on_total ipv4_octets nat_list_cmp_total)

-- ---- tests on lists

list_any-cong : {A : Type 0} (p q : A → Bool) → ((x : A) → p x ≡ q x) → (xs : List A) → list_any p xs ≡ list_any q xs
list_any-cong p q same [] = refl
list_any-cong p q same (x ∷ xs) = rw (same x, list_any-cong p q same xs) refl

none_of : {A : Type 0} (xs : List A) → list_any (λ x. false) xs ≡ false
none_of [] = refl
none_of (x ∷ xs) = none_of xs

list_any-or : {A : Type 0} (p q : A → Bool) (xs : List A) → list_any p xs ≡ false → list_any q xs ≡ false → list_any (λ x. p x || q x) xs ≡ false
list_any-or p q [] h k = refl
list_any-or p q (x ∷ xs) h k =
    let a = or_parts (p x) (list_any p xs) h in
    let b = or_parts (q x) (list_any q xs) k in
    or_from (p x || q x) (list_any (λ y. p y || q y) xs) (or_from (p x) (q x) a.0 b.0) (list_any-or p q xs a.1 b.1)

same_symm : (a b : ℕ) → same_number a b ≡ same_number b a
same_symm = (eq_by_cmp_equiv nat_cmp_total).symm

-- nothing of the second list stands in the first
none_common : (xs ys : List ℕ) → has_repeat same_number (xs ++ ys) ≡ false → list_any (λ k. list_any (same_number k) xs) ys ≡ false
none_common [] ys h = none_of ys
none_common (x ∷ xs) ys h =
    let parts = or_parts (list_any (same_number x) (xs ++ ys)) (has_repeat same_number (xs ++ ys)) h in
    let here = or_parts (list_any (same_number x) xs) (list_any (same_number x) ys) (sym (list_any-append (same_number x) xs ys) ∙ parts.0) in
    let turned = list_any-cong (λ k. same_number k x) (same_number x) (λ k. same_symm k x) ys in
    list_any-or (λ k. same_number k x) (λ k. list_any (same_number k) xs) ys (turned ∙ here.1) (none_common xs ys parts.1)

-- the same of the sets that are made of the two
none_common_made : (xs ys : List ℕ) → has_repeat same_number (xs ++ ys) ≡ false → list_any (λ k. list_any (is_at (nat_cmp k)) (set_of xs)) (set_of ys) ≡ false
none_common_made xs ys h =
    let parts = repeat-append same_number xs ys h in
    sym (list_any-IsPermutation (λ k. list_any (is_at (nat_cmp k)) (set_of xs)) ys (set_of ys) (set-permutation ys parts.1))
    ∙ list_any-cong (λ k. list_any (is_at (nat_cmp k)) (set_of xs)) (λ k. list_any (same_number k) xs) (λ k. sym (list_any-IsPermutation (same_number k) xs (set_of xs) (set-permutation xs parts.0))) ys
    ∙ none_common xs ys h

-- ---- lists with others

module _ (P : ListedValue → Type 0) (p : ℕ × List ℕ → Bool) (one : (l : ListedValue) → P l → has_equal_members l ≡ false → p (keyed_list l) ≡ true) where
  entries_pass : (ls : List ListedValue) → AllByRecursion P ls → list_any has_equal_members ls ≡ false → list_all p (map keyed_list ls) ≡ true
  entries_pass [] h k = refl
  entries_pass (l ∷ ls) h k =
      let parts = or_parts (has_equal_members l) (list_any has_equal_members ls) k in
      and_from (p (keyed_list l)) (list_all p (map keyed_list ls)) (one l h.0 parts.0) (entries_pass ls h.1 parts.1)

  lists_pass : (ls : List ListedValue) → AllByRecursion P ls → has_equal_ids ls ≡ false → list_all p (lists_of ls) ≡ true
  lists_pass ls h k =
      let parts = or_parts (has_repeat same_number (map (λ (l : ListedValue). l.id) ls)) (list_any has_equal_members ls) k in
      all-permutation p (map keyed_list ls) (lists_of ls)
      (map-permutation nat_cmp nat_cmp_total (map keyed_list ls) (ap (has_repeat same_number) (sym (map_after (λ (e : ℕ × List ℕ). e.0) keyed_list ls)) ∙ parts.0))
      (entries_pass ls h parts.1)

good_event : (l : ListedValue) → EventRange l → has_equal_members l ≡ false → good_event_made (keyed_list l) ≡ true
good_event l h k =
    let order = set-permutation l.members k in
    and_from _ _
    (and_from _ _ h.id (not_from_false _ (ap (λ n. n == 0) (length_permutation l.members (set_of l.members) order) ∙ h.some)))
    (all-permutation is_good_id l.members (set_of l.members) order h.members)

good_group : (l : ListedValue) → GroupRange l → has_equal_members l ≡ false → good_group_made (keyed_list l) ≡ true
good_group l h k = and_from _ _ h.id (all-permutation is_good_event l.members (set_of l.members) (set-permutation l.members k) h.members)

-- ---- ports

differs : (a b : ℕ) → same_number a b ≡ false → (b == a) ≡ false
differs a b h = unsigned_ties b a ∙ same_symm b a ∙ h

pub good_port : (port : ℕ) → (port == 0) ≡ false → same_number 30490 port ≡ false → is_good_port port ≡ true
good_port port some other = and_from _ _ (not_from_false _ some) (not_from_false _ (differs 30490 port other))

-- ---- offers

good_offer : (address : Ipv4Addr) (client_port : ℕ) (o : OfferValue) → OfferRange o → has_equal_ids_offered o ≡ false
    → same_number 30490 o.port ≡ false → same_number client_port o.port ≡ false → good_offer_made address client_port (keyed_offer address o) ≡ true
good_offer address client_port o h k discovery client =
    let parts = or_parts (has_repeat same_number (o.methods ++ o.oneways)) (has_equal_ids o.events) k in
    let each = repeat-append same_number o.methods o.oneways parts.0 in
    and_from _ _ (and_from _ _ (and_from _ _ (and_from _ _ (and_from _ _ (and_from _ _ (and_from _ _ (and_from _ _ (and_from _ _ (and_from _ _ (and_from _ _ (and_from _ _ (and_from _ _
    h.id
    (eq-eqb o.service o.service refl))
    (eq-eqb o.instance o.instance refl))
    h.major)
    h.minor)
    (not_from_false _ h.ttl))
    (addresses_alike.refl address))
    (good_port o.port h.port discovery))
    (not_from_false _ (differs client_port o.port client)))
    (all-permutation (λ m. nat_le m 0x7FFF) o.methods (set_of o.methods) (set-permutation o.methods each.0) h.methods))
    (all-permutation (λ m. nat_le m 0x7FFF) o.oneways (set_of o.oneways) (set-permutation o.oneways each.1) h.oneways))
    (not_from_false _ (none_common_made o.methods o.oneways parts.0)))
    (lists_pass EventRange good_event_made good_event o.events h.events parts.1))
    h.subscribers

good_want : (w : WantValue) → WantRange w → has_equal_ids_wanted w ≡ false → good_want_made (keyed_want w) ≡ true
good_want w h k =
    and_from _ _ (and_from _ _ (and_from _ _ h.id h.major) (not_from_false _ h.ttl)) (lists_pass GroupRange good_group_made good_group w.groups h.groups k)

module _ (address : Ipv4Addr) (client_port : ℕ) where
  pub offers_pass : (os : List OfferValue) → AllByRecursion OfferRange os → list_any has_equal_ids_offered os ≡ false
      → list_any (same_number 30490) (map (λ o. o.port) os) ≡ false → list_any (same_number client_port) (map (λ o. o.port) os) ≡ false
      → list_all (good_offer_made address client_port) (map (keyed_offer address) os) ≡ true
  offers_pass [] h k discovery client = refl
  offers_pass (o ∷ os) h k discovery client =
      let ids = or_parts (has_equal_ids_offered o) (list_any has_equal_ids_offered os) k in
      let a = or_parts (same_number 30490 o.port) (list_any (same_number 30490) (map (λ (o : OfferValue). o.port) os)) discovery in
      let b = or_parts (same_number client_port o.port) (list_any (same_number client_port) (map (λ (o : OfferValue). o.port) os)) client in
      and_from _ _ (good_offer address client_port o h.0 ids.0 a.0 b.0) (offers_pass os h.1 ids.1 a.1 b.1)

pub wants_pass : (ws : List WantValue) → AllByRecursion WantRange ws → list_any has_equal_ids_wanted ws ≡ false → list_all good_want_made (map keyed_want ws) ≡ true
wants_pass [] h k = refl
wants_pass (w ∷ ws) h k =
    let ids = or_parts (has_equal_ids_wanted w) (list_any has_equal_ids_wanted ws) k in
    and_from _ _ (good_want w h.0 ids.0) (wants_pass ws h.1 ids.1)

-- what is made of the offers of a node is what they are, in another order
pub offers-permutation : (address : Ipv4Addr) (os : List OfferValue) → has_repeat same_instance (map offered_id os) ≡ false → IsPermutation (map (keyed_offer address) os) (offers_made address os)
offers-permutation address os h =
    map-permutation instance_cmp instances_total (map (keyed_offer address) os) (ap (has_repeat same_instance) (sym (map_after (λ (e : InstanceId × OfferMade). e.0) (keyed_offer address) os)) ∙ h)

pub wants-permutation : (ws : List WantValue) → has_repeat same_instance (map wanted_id ws) ≡ false → IsPermutation (map keyed_want ws) (wants_made ws)
wants-permutation ws h =
    map-permutation instance_cmp instances_total (map keyed_want ws) (ap (has_repeat same_instance) (sym (map_after (λ (e : InstanceId × WantMade). e.0) keyed_want ws)) ∙ h)
